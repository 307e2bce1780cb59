-- The held locks after the slots: marks of unused ones, then one pass by target and cookie, in which a lock writes its
-- changes back or is given up (Lustre Operations Manual: the size of the lock lists, the limit of dirty bytes; Wang et al.,
-- Understanding Lustre Filesystem Internals: blocking callbacks. The order is this project's profile).
use Rattle.std.specs.Prelude.{ℕ, ◌+◌, nat_lt, ◌==◌, ◌&&◌, ◌||◌, if◌then◌else◌, Bool, false, List, [], ◌∷◌, length, filter, drop, reverse}
use Rattle.std.specs.Prelude.{Option, Some, None}
use Rattle.lu_base.specs.declared.ids.Node.TheVariants.{Target}
use Rattle.lu_base.specs.declared.locks.Mode.{Mode}
use Rattle.lu_base.specs.declared.locks.Mode.TheVariants.{PW}
use Rattle.lu_base.specs.declared.locks.Policy.{Policy}
use Rattle.lu_base.specs.declared.locks.Policy.TheVariants.{Range}
use Rattle.lu_base.specs.declared.locks.Resource.{Resource}
use Rattle.lu_base.specs.declared.ids.Who.{Who}
use Rattle.lu_msg.specs.declared.messages.Message.TheVariants as message
use Rattle.lu_held.specs.declared.locks.HeldLock.{HeldLock}
use Rattle.lu_held.specs.Locks.{name_of, is_free}
use Rattle.lu_held.specs.Held.{in_order}
use Rattle.lu_spec_entries.specs.declared.changes.Flush.{Flush}
use Rattle.lu_spec_entries.specs.Words.{Entry, Send, Drop, Marks}
use Rattle.lu_spec_client.specs.Patches.{Patch, in_flight, has_change, dirty_in}
use Rattle.lu_spec_client.specs.Imports.{Import, is_serving, import_of}
use Rattle.lu_spec_client.specs.Caches.{patch_at}
use Rattle.lu_spec_client.specs.States.{Client, Limits, follow}
use Rattle.lu_spec_client.specs.WriteBack.{flush_under, writes_back}

-- ---- unused locks

abbrev pub marks_of : List HeldLock → List Entry
marks_of [] = []
marks_of (h ∷ held) = Marks (name_of h) ∷ marks_of held

-- the least recently used of those that are neither pinned nor marked, where these are more than may be kept
abbrev pub trims : Limits → Client → List Entry
trims limits k = marks_of (reverse (drop limits.unused (filter is_free k.store.held)))

-- ---- write-back

abbrev pub dirty_total : List (Resource × Patch) → ℕ
dirty_total [] = 0
dirty_total (e ∷ patches) = length e.1.dirty + dirty_total patches

abbrev pub is_called : HeldLock → Bool
is_called h = h.marked && h.pins == 0

-- under a PW lock that is called back each change is written back, and where too much is dirty each dirty byte
abbrev pub must_write : Bool → HeldLock → Mode → Policy → Patch → Bool
must_write over h PW (Range extent) p = (is_called h && has_change extent p) || (over && nat_lt 0 (dirty_in extent p))
must_write over h _ _ p = false

abbrev pub writes_next : HeldLock → Option Flush → List Entry
writes_next h None = []
writes_next h (Some flush) = writes_back h.target h.lock flush

-- one request at a time for each object
abbrev pub writes_under : HeldLock → Patch → List Entry
writes_under h p = if in_flight p then [] else writes_next h (flush_under p h.lock.ask.mode h.lock.ask.policy)

-- ---- giving up

-- a lock that is called back and not pinned goes, where its target serves
abbrev pub gives_up : Who → HeldLock → Import → List Entry
gives_up who h i =
    if is_called h && is_serving i.standing
    then Drop h.target.0 h.lock ∷ Send (Target h.target.0) (message.Cancel who i.boot h.lock.cookie) ∷ []
    else []

-- ---- the pass

abbrev pub visits_with : Bool → HeldLock → Patch → Client → List Entry
visits_with over h p k = if must_write over h h.lock.ask.mode h.lock.ask.policy p then writes_under h p
    else gives_up k.who h (import_of h.target.0 k.imports)

abbrev pub visits : Bool → HeldLock → Client → List Entry
visits over h k = visits_with over h (patch_at h.lock.resource k.store.patches) k

abbrev pub visits_all : Bool → List HeldLock → Client → List Entry
visits_all over [] k = []
visits_all over (h ∷ held) k = follow (visits over h k) (visits_all over held) k

-- whether too much is dirty is looked at before it; bytes in flight still count
abbrev pub locks_go : Limits → Client → List Entry
locks_go limits k = visits_all (nat_lt limits.dirty (dirty_total k.store.patches)) (in_order k.store.held) k
