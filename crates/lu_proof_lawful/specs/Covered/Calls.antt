-- A client's calls, slot by slot, in the covered runs; its life, and whether it has died.
use Rattle.std.specs.Prelude.{ℕ, Bool, false, not, ◌==◌, ◌||◌, if◌then◌else◌, is_some, List, [], ◌∷◌, pos, Option, Some, None}
use Rattle.std.specs.List.{list_any}
use Rattle.lu_base.specs.declared.ids.At.{At}
use Rattle.lu_msg.specs.declared.calls.Call.{Call}
use Rattle.lu_msg.specs.declared.calls.Call.TheVariants as call
use Rattle.lu_msg.specs.declared.operations.Op.{Op}
use Rattle.lu_msg.specs.declared.operations.Op.TheVariants as op
use Rattle.lu_msg.specs.declared.answers.Answer.{Answer}
use Rattle.lu_msg.specs.declared.answers.Answer.TheVariants as answer
use Rattle.lu_held.specs.declared.locks.Use.{Use}
use Rattle.lu_spec_entries.specs.Carried.{HandleFile, Answered, Asking, Unasked, Stage, Plain, Enqueued, Sizes, Running}
use Rattle.lu_spec_entries.specs.Words.{Entry, Begin, Told, Life, Line, is_client}
use Rattle.lu_spec_client.specs.Advances.{enqueue_of}
use Rattle.lu_spec_client.specs.Slots.{opens}
pub use Rattle.lu_spec_client.specs.Calls.{asks, asks_for, reads_call, call_after, call_at, calls_at, call_on, calls_from, calls_after}
pub use Rattle.lu_spec_client.specs.Calls.{reads_life, life_after, first_life, life_at, reads_death, death_after, is_dead}

-- a call that begins, with the file of its handle
abbrev pub begun : At → Call → Option HandleFile → Stage → Running
begun at call file stage = record { at = at; call = call; file = file; asking = Unasked; stage = stage; pins = [] }

abbrev pub calls_turn : List (Option Running) → List Entry → List (Option Running)
calls_turn calls [] = calls
calls_turn calls (e ∷ es) = calls_turn (calls_after calls e) es

-- ---- what a call asks

-- the operation that a call on names becomes, with the file of its handle: each asks the metadata target. A `create` without
-- numbers has the defaults
abbrev pub operation_of : Option HandleFile → Call → Option Op
operation_of file (call.Lookup path) = Some (op.Lookup path)
operation_of file (call.Stat path) = Some (op.Stat path)
operation_of file (call.List path) = Some (op.List path)
operation_of file (call.Layout path) = Some (op.Layout path)
operation_of file (call.Mkdir path) = Some (op.Mkdir path)
operation_of file (call.Create path None) = Some (op.Create path 1048576 (pos 1))
operation_of file (call.Create path (Some stripes)) = Some (op.Create path stripes.0 stripes.1)
operation_of file (call.Link old new) = Some (op.Link old new)
operation_of file (call.Unlink path) = Some (op.Unlink path)
operation_of file (call.Rmdir path) = Some (op.Rmdir path)
operation_of file (call.Rename old new) = Some (op.Rename old new)
operation_of file (call.Chmod path mode) = Some (op.Chmod path mode)
operation_of file (call.Open h path) = Some (op.Open path)
operation_of (Some f) (call.Close h) = Some (op.Close f.number f.fid)
operation_of _ _ = None

abbrev pub becomes : Running → Option Op
becomes r = operation_of r.file r.call

-- what is asked, and of which target
pub record Errand : Type 0 where
  pub target : ℕ
  pub op : Op

abbrev pub names_errand : Option Op → Option Errand
names_errand None = None
names_errand (Some o) = Some (record { target = 0; op = o })

-- how long the first of these objects is
abbrev pub size_errand : List Use → Option Errand
size_errand [] = None
size_errand (wanted ∷ left) = Some (record { target = wanted.target.0; op = op.Size wanted.resource })

-- the lock on it
abbrev pub lock_errand : List Use → Option Errand
lock_errand [] = None
lock_errand (wanted ∷ left) = Some (record { target = wanted.target.0; op = enqueue_of wanted })

abbrev pub errand_at : Stage → Running → Option Errand
errand_at Plain r = names_errand (becomes r)
errand_at (Sizes w) r = size_errand w.left
errand_at (Enqueued w) r = lock_errand w.left
errand_at _ r = None

-- what a call asks where it stands, if anything
abbrev pub errand : Running → Option Errand
errand r = errand_at r.stage r

-- what its user is told of the answer: of an open the file alone
abbrev pub told_as : Call → Answer → Answer
told_as (call.Open h path) (answer.OpenFile fid number layout) = answer.Made fid
told_as c a = a

-- ---- handles (POSIX.1, open files)

-- what an open of that handle that is told ok binds it to: the file of the reply to it
abbrev pub opened_by : Answer → Option HandleFile
opened_by (answer.OpenFile fid number layout) = Some (record { fid = fid; number = number; layout = layout })
opened_by _ = None

abbrev pub opened : Asking → Option HandleFile
opened (Answered target reply) = opened_by reply.answer
opened _ = None

abbrev pub binds : Option HandleFile → Option HandleFile → Option HandleFile
binds None old = old
binds (Some file) old = Some file

abbrev pub told_file : ℕ → Option Running → Option HandleFile → Option HandleFile
told_file h None old = old
told_file h (Some r) old = elim r.call [ call.Open other path ↦ if other == h then binds (opened r.asking) old else old | _ ↦ old ]

abbrev pub begun_file : ℕ → Call → Option HandleFile → Option HandleFile
begun_file h (call.Close other) old = if other == h then None else old
begun_file h _ old = old

-- the file that a handle of the client is bound to: by its life's last `open` that was told ok, until a `close` of it begins
abbrev pub file_at : ℕ → ℕ → List Line → Option HandleFile
file_at c h [] = None
file_at c h (l ∷ past) =
    elim l.entry [
      | Begin slot running ↦ if is_client c l.at.node then begun_file h running.call (file_at c h past) else file_at c h past
      | Told slot at given work ↦ if is_client c l.at.node then told_file h (call_at c slot past) (file_at c h past) else file_at c h past
      | Life who ↦ if is_client c l.at.node then None else file_at c h past
      | _ ↦ file_at c h past
    ]

-- the handle is being opened by a call on one of the four slots
abbrev pub is_opening : ℕ → ℕ → List Line → Bool
is_opening c h past = list_any (opens h) (calls_at c past)

-- a call on a handle that isn't bound, or an open of one that is bound or being opened
abbrev pub is_bad : ℕ → List Line → Call → Bool
is_bad c past (call.Open h path) = is_some (file_at c h past) || is_opening c h past
is_bad c past (call.Close h) = not (is_some (file_at c h past))
is_bad c past (call.Read h offset count) = not (is_some (file_at c h past))
is_bad c past (call.Write h offset bytes) = not (is_some (file_at c h past))
is_bad c past (call.Cut h size) = not (is_some (file_at c h past))
is_bad c past (call.Flush h) = not (is_some (file_at c h past))
is_bad c past (call.Glimpse h) = not (is_some (file_at c h past))
is_bad c past _ = false

-- the file of the handle that a call names
abbrev pub file_for : ℕ → List Line → Call → Option HandleFile
file_for c past (call.Close h) = file_at c h past
file_for c past (call.Read h offset count) = file_at c h past
file_for c past (call.Write h offset bytes) = file_at c h past
file_for c past (call.Cut h size) = file_at c h past
file_for c past (call.Flush h) = file_at c h past
file_for c past (call.Glimpse h) = file_at c h past
file_for c past _ = None
