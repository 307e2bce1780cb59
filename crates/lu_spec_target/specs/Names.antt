-- Requests at the metadata target: those that wait are gone through from the oldest, and again from the oldest after each
-- that acted, until none acts (this project's profile). What changes names waits until no lock guards what it writes, and
-- calls these locks back; what reads them waits for what changes names and stands before it.
use Rattle.std.specs.Prelude.{ℕ, zero, suc, ◌+◌, ◌&&◌, ◌||◌, not, if◌then◌else◌, Bool, true, false, List, [], ◌∷◌, ◌++◌, filter, length}
use Rattle.std.specs.Prelude.{Some}
use Rattle.std.specs.List.{list_any}
use Rattle.lu_base.specs.declared.ids.At.{At}
use Rattle.lu_base.specs.declared.ids.Txn.{Txn as TxnOf}
use Rattle.lu_base.specs.declared.ids.Who.{Who}
use Rattle.lu_base.specs.declared.locks.Lock.{Lock}
use Rattle.lu_base.specs.declared.locks.Mode.TheVariants.{PR}
use Rattle.lu_base.specs.declared.locks.Policy.TheVariants.{Bits}
use Rattle.lu_held.specs.Locks.{same_resource}
use Rattle.lu_lock.specs.Overlap.{policies_meet}
use Rattle.lu_spec_machine.specs.Footprint.{Operation, answer, grants, touches, writes, changes}
use Rattle.lu_msg.specs.declared.messages.Request.{Request as RequestOf}
use Rattle.lu_msg.specs.declared.operations.Op.{Op}
use Rattle.lu_msg.specs.declared.operations.Op.TheVariants as op
use Rattle.lu_part.specs.declared.parts.Part.{Part}
use Rattle.lu_part.specs.declared.parts.Want.{Want}
use Rattle.lu_part.specs.Guards.{guard}
use Rattle.lu_spec_entries.specs.Carried.{Deed}
use Rattle.lu_spec_entries.specs.Words.{Entry, Act, Txn, Grant}
use Rattle.lu_spec_target.specs.States.{Target, follow}
use Rattle.lu_spec_target.specs.Replies.{seen_in, none, next_number, reply_to, deed_of, replies, blocks}

abbrev pub is_read : Op → Bool
is_read (op.Lookup path) = true
is_read (op.Stat path) = true
is_read (op.List path) = true
is_read (op.Layout path) = true
is_read _ = false

-- the operation that a request asks for, under a number
abbrev pub asked : RequestOf → TxnOf → Operation
asked r number = record { number = number; who = r.who; op = r.op }

abbrev pub does_change : Target → RequestOf → Bool
does_change v r = changes v.setting.osts v.contents.tree (asked r none)

-- ---- what is in the way

abbrev pub written_by : Target → RequestOf → List Part
written_by v r = writes v.setting.osts v.contents.tree (asked r (next_number v))

abbrev pub guards_part : Lock → Part → Bool
guards_part l p = same_resource l.resource (guard p).0 && policies_meet l.ask.policy (guard p).1

-- the granted locks that guard one of these parts, whoever has them
abbrev pub in_way : List Lock → List Part → List Lock
in_way granted parts = filter (λ l. list_any (guards_part l) parts) granted

abbrev pub is_free : List Lock → Bool
is_free [] = true
is_free (l ∷ locks) = false

-- stood: what changes names stands before it. What is refused, or changes nothing, acts at once
abbrev pub is_ready : Target → Bool → RequestOf → Bool
is_ready v stood r = if is_read r.op then not stood else not (does_change v r) || is_free (in_way v.granted (written_by v r))

-- ---- an execution

-- the locks of an act, in the order of the path
abbrev pub locks_from : ℕ → Who → List Want → List Lock
locks_from cookie who [] = []
locks_from cookie who (want ∷ wants) =
    record {
      cookie = record { 0 = cookie + 1 };
      resource = record { fid = want.fid; stripe = 0 };
      ask = record { who = who; mode = PR; policy = Bits want.bits };
    } ∷ locks_from (cookie + 1) who wants

abbrev pub locks_for : Target → RequestOf → List Lock
locks_for v r = locks_from v.cookie r.who (grants v.setting.osts v.contents.tree (asked r none))

-- what comes of executing a request in a turn, as a transaction of that number or as none, with these locks
abbrev pub names_deed : Target → At → RequestOf → TxnOf → List Lock → Deed
names_deed v at r number locks =
    let osts = v.setting.osts in
    let tree = v.contents.tree in
    let seen = seen_in (touches osts tree (asked r number)) v.log in
    deed_of r (writes osts tree (asked r number)) (reply_to v r number seen at locks (answer osts tree (asked r number)))

abbrev pub grant_lines : Deed → List Lock → List Entry
grant_lines d [] = []
grant_lines d (l ∷ locks) = Grant l (Some d) ∷ grant_lines d locks

abbrev pub row_acts : Deed → List Entry
row_acts d = Act d ∷ grant_lines d d.reply.locks ++ replies d ∷ []

abbrev pub row_transacts : Deed → List Entry
row_transacts d = Txn d ∷ replies d ∷ []

-- what would change the tree is a transaction of the next number, anything else an act
abbrev pub row_executes : Target → At → RequestOf → Bool → List Entry
row_executes v at r true = row_transacts (names_deed v at r (next_number v) [])
row_executes v at r false = row_acts (names_deed v at r none (locks_for v r))

-- ---- the pass

abbrev pub row_waits : Target → RequestOf → List Entry
row_waits v r = if is_read r.op then [] else blocks v (in_way v.granted (written_by v r))

abbrev pub row_pass : (Target → List Entry) → Target → At → Bool → List RequestOf → List Entry
row_pass again v at stood [] = []
row_pass again v at stood (r ∷ queue) =
    if is_ready v stood r
    then follow v (row_executes v at r (does_change v r)) again
    else follow v (row_waits v r) (λ w. row_pass again w at (stood || not (is_read r.op)) queue)

abbrev pub row_sweep : ℕ → At → Target → List Entry
row_sweep zero at v = []
row_sweep (suc more) at v = row_pass (row_sweep more at) v at false v.queue

-- each pass but the last takes one request out of the queue
abbrev pub names_go : At → Target → List Entry
names_go at v = row_sweep (length v.queue + 1) at v
