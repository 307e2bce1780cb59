-- Writing changes back under a lock: one request at a time for each object, the pending cut first, then the dirty run of
-- least offset (Wang et al., Understanding Lustre Filesystem Internals: a client flushes under a lock before it gives the
-- lock back; the order is this project's profile).
use Rattle.std.specs.Prelude.{ℕ, ◌||◌, not, if◌then◌else◌, Bool, List, [], ◌∷◌, ◌++◌, Option, Some, None, is_some, drop}
use Rattle.lu_base.specs.declared.ids.At.{At}
use Rattle.lu_base.specs.declared.ids.Cookie.{Cookie}
use Rattle.lu_base.specs.declared.ids.TargetId.{TargetId}
use Rattle.lu_base.specs.declared.locks.Lock.{Lock}
use Rattle.lu_base.specs.declared.locks.Mode.{Mode}
use Rattle.lu_base.specs.declared.locks.Mode.TheVariants.{PW}
use Rattle.lu_base.specs.declared.locks.Policy.{Policy}
use Rattle.lu_base.specs.declared.locks.Policy.TheVariants.{Range}
use Rattle.lu_base.specs.declared.locks.Resource.{Resource}
use Rattle.lu_msg.specs.declared.answers.Answer.TheVariants as answer
use Rattle.lu_msg.specs.declared.operations.Op.{Op}
use Rattle.lu_msg.specs.declared.operations.Op.TheVariants as op
use Rattle.lu_held.specs.declared.locks.HeldLock.{HeldLock}
use Rattle.lu_held.specs.Locks.{same_resource}
use Rattle.lu_held.specs.Held.{in_order}
use Rattle.lu_spec_entries.specs.declared.changes.Flush.{Flush}
use Rattle.lu_spec_entries.specs.declared.changes.Flush.TheVariants.{Cut, Put}
use Rattle.lu_spec_entries.specs.Carried.{HandleFile, Flushing, Running}
use Rattle.lu_spec_entries.specs.Words.{Entry, Queues, Stands, WritesBack}
use Rattle.lu_spec_client.specs.Bytes.{first_position}
use Rattle.lu_spec_client.specs.Patches.{Patch, next_flush, in_flight}
use Rattle.lu_spec_client.specs.Stripes.{stripes, object}
use Rattle.lu_spec_client.specs.Caches.{patch_at}
use Rattle.lu_spec_client.specs.States.{Store}
use Rattle.lu_spec_client.specs.Advances.{at_stage, tells}

abbrev pub operation : Resource → Cookie → Flush → Op
operation resource cookie (Cut n) = op.Cut resource cookie n
operation resource cookie (Put at bs) = op.Put resource cookie at bs

-- a write-back is queued, for no call, under this lock
abbrev pub writes_back : TargetId → Lock → Flush → List Entry
writes_back target l flush =
    WritesBack l.resource flush ∷ Queues target.0 (record { slot = None; op = operation l.resource l.cookie flush }) ∷ []

-- the next write-back under a lock, where that is a PW lock; it ends with the lock
abbrev pub flush_under : Patch → Mode → Policy → Option Flush
flush_under p PW (Range extent) = next_flush extent p
flush_under p _ _ = None

-- under the first of these locks that has a change of the object
abbrev pub flushes : Resource → Patch → List HeldLock → List Entry
flushes resource p [] = []
flushes resource p (h ∷ held) =
    if same_resource h.lock.resource resource
    then elim (flush_under p h.lock.ask.mode h.lock.ask.policy)
    [ None ↦ flushes resource p held | Some flush ↦ writes_back h.target h.lock flush ]
    else flushes resource p held

abbrev pub is_clean : Patch → Bool
is_clean p = not (is_some p.pending || is_some (first_position p.dirty))

-- ---- the call that writes a file back

-- it goes stripe by stripe: while the object has a change it waits, and queues the next write-back where none is under
-- way, under the least cookie; it pins nothing
abbrev pub flush_from : At → ℕ → Running → HandleFile → List ℕ → Store → List Entry
flush_from at slot r f [] s = tells slot r at answer.Done None
flush_from at slot r f (i ∷ is) s =
    if in_flight (patch_at (object f.fid i) s.patches) then Stands slot (at_stage r (Flushing i)) ∷ []
    else if is_clean (patch_at (object f.fid i) s.patches) then flush_from at slot r f is s
    else flushes (object f.fid i) (patch_at (object f.fid i) s.patches) (in_order s.held) ++ Stands slot (at_stage r (Flushing i)) ∷ []

abbrev pub flushing : At → ℕ → ℕ → Running → Option HandleFile → Store → List Entry
flushing at slot i r None s = []
flushing at slot i r (Some f) s = flush_from at slot r f (drop i (stripes f.layout)) s
