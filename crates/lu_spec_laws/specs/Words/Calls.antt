-- The calls of a client: the call that stands in a slot, the handles, and the operation that a call becomes (this project's
-- profile; POSIX.1, open file descriptions).
use Rattle.std.specs.Prelude.{ℕ, Bool, false, not, ◌==◌, ◌&&◌, ◌||◌, is_some, if◌then◌else◌, Option, Some, None, [], ◌∷◌, pos}
use Rattle.std.specs.Option.{option_map}
use Rattle.lu_base.specs.declared.ids.At.{At}
use Rattle.lu_base.specs.declared.ids.Fid.{Fid}
use Rattle.lu_base.specs.declared.ids.Txn.{Txn as TxnOf}
use Rattle.lu_base.specs.declared.ids.Who.{Who}
use Rattle.lu_msg.specs.declared.answers.Answer.{Answer}
use Rattle.lu_msg.specs.declared.answers.Answer.TheVariants as told
use Rattle.lu_msg.specs.declared.calls.Call.{Call}
use Rattle.lu_msg.specs.declared.calls.Call.TheVariants as call
use Rattle.lu_msg.specs.declared.operations.Op.{Op}
use Rattle.lu_msg.specs.declared.operations.Op.TheVariants as op
use Rattle.lu_trace.specs.declared.entries.Entry.TheVariants.{Begin, Told, Heard, Txn}
use Rattle.lu_trace.specs.declared.entries.Line.{Line}
use Rattle.lu_spec_machine.specs.Tree.{same_life}
use Rattle.lu_spec_laws.specs.Words.Pasts.{Past, is_client, is_target, same_turn, or_else, newest}
use Rattle.lu_spec_laws.specs.Words.Lives.{who_is, is_by}

-- ---- slots

-- the call that was begun in the slot and isn't told
abbrev pub call_in : ℕ → ℕ → Past → Option Call
call_in c slot [] = None
call_in c slot (l ∷ past) =
    elim l.entry [
      | Begin other call ↦ if is_client c l.at.node && other == slot then Some call else call_in c slot past
      | Told other at answer ↦ if is_client c l.at.node && other == slot then None else call_in c slot past
      | _ ↦ call_in c slot past
    ]

-- ---- handles

-- what a handle stands for: the file, and the transaction that opened it, where the turn that was named has one
pub record Binding : Type 0 where
  pub fid : Fid
  pub number : Option TxnOf

-- the request number that was heard in the turn at the metadata target: of several the first
abbrev pub heard_in : Past → At → Option ℕ
heard_in [] at = None
heard_in (l ∷ past) at =
    elim l.entry [
      | Heard target xid ↦ or_else (heard_in past at) (if same_turn l.at at && target.0 == 0 then Some xid.0 else None)
      | _ ↦ heard_in past at
    ]

abbrev pub numbers_it : At → Who → ℕ → Past → Line → Option TxnOf
numbers_it at who x past l =
    elim l.entry [
      | Txn number other xid seen answer ↦ if is_target 0 l.at.node && same_turn l.at at && same_life other who && xid.0 == x
          then Some number else None
      | _ ↦ None
    ]

-- the transaction of that turn, life and request number, at the metadata target
abbrev pub number_in : Past → At → Who → ℕ → Option TxnOf
number_in past at who x = newest (numbers_it at who x) past

abbrev pub number_heard : Past → At → Who → Option ℕ → Option TxnOf
number_heard past turn who None = None
number_heard past turn who (Some x) = number_in past turn who x

-- an `open` that is told `ok` binds, any other answer leaves what was
abbrev pub bound : Answer → Option TxnOf → Option Binding → Option Binding
bound (told.Made fid) number old = Some (record { fid = fid; number = number })
bound _ number old = old

-- whether a call opens this handle
abbrev pub opens_it : ℕ → Call → Bool
opens_it h (call.Open other path) = other == h
opens_it h _ = false

abbrev pub told_binding : ℕ → Option Call → Answer → Option TxnOf → Option Binding → Option Binding
told_binding h None answer number old = old
told_binding h (Some call) answer number old = if opens_it h call then bound answer number old else old

abbrev pub begun_binding : ℕ → Call → Option Binding → Option Binding
begun_binding h (call.Close other) old = if other == h then None else old
begun_binding h _ old = old

-- what a handle of a life is bound to: by its last `open` that was told `ok`, until a `close` of it begins
abbrev pub binding : Who → ℕ → Past → Option Binding
binding who h [] = None
binding who h (l ∷ past) =
    elim l.entry [
      | Begin slot call ↦ if is_by who past l.at.node then begun_binding h call (binding who h past) else binding who h past
      | Told slot turn answer ↦ if is_by who past l.at.node then told_binding h (call_in who.client slot past) answer
          (number_heard past turn who (heard_in past l.at)) (binding who h past) else binding who h past
      | _ ↦ binding who h past
    ]

-- of the life that a client has after the past
abbrev pub bound_to : ℕ → Past → ℕ → Option Binding
bound_to c past h = binding (who_is c past) h past

abbrev pub opens : ℕ → Option Call → Bool
opens h None = false
opens h (Some call) = opens_it h call

-- the handle is being opened: an `open` of it stands in one of the four slots
abbrev pub is_opening : ℕ → ℕ → Past → Bool
is_opening c h past = opens h (call_in c 0 past) || opens h (call_in c 1 past) || opens h (call_in c 2 past) || opens h (call_in c 3 past)

-- the handle that a call names
abbrev pub handle_of : Call → Option ℕ
handle_of (call.Open h path) = Some h
handle_of (call.Close h) = Some h
handle_of (call.Read h offset count) = Some h
handle_of (call.Write h offset bytes) = Some h
handle_of (call.Cut h size) = Some h
handle_of (call.Flush h) = Some h
handle_of (call.Glimpse h) = Some h
handle_of _ = None

abbrev pub bound_by : ℕ → Past → Option ℕ → Option Binding
bound_by c past None = None
bound_by c past (Some h) = bound_to c past h

-- a call on a handle that isn't bound, or an `open` of one that is bound or being opened
abbrev pub is_bad : ℕ → Past → Call → Bool
is_bad c past (call.Open h path) = is_some (bound_to c past h) || is_opening c h past
is_bad c past (call.Close h) = not (is_some (bound_to c past h))
is_bad c past (call.Read h offset count) = not (is_some (bound_to c past h))
is_bad c past (call.Write h offset bytes) = not (is_some (bound_to c past h))
is_bad c past (call.Cut h size) = not (is_some (bound_to c past h))
is_bad c past (call.Flush h) = not (is_some (bound_to c past h))
is_bad c past (call.Glimpse h) = not (is_some (bound_to c past h))
is_bad c past _ = false

-- ---- a call with what its handle stood for

-- a call that was begun: in which turn, whether on a bad handle, and what its handle was bound to there
pub record Begun : Type 0 where
  pub at : At
  pub call : Call
  pub bad : Bool
  pub bound : Option Binding

abbrev pub begun : ℕ → Past → At → Call → Begun
begun c past at call = record { at = at; call = call; bad = is_bad c past call; bound = bound_by c past (handle_of call) }

-- the call that was begun in the slot and isn't told
abbrev pub open_call : ℕ → ℕ → Past → Option Begun
open_call c slot [] = None
open_call c slot (l ∷ past) =
    elim l.entry [
      | Begin other call ↦ if is_client c l.at.node && other == slot then Some (begun c past l.at call) else open_call c slot past
      | Told other at answer ↦ if is_client c l.at.node && other == slot then None else open_call c slot past
      | _ ↦ open_call c slot past
    ]

-- ---- operations

abbrev pub close_of : Fid → Option TxnOf → Option Op
close_of fid None = None
close_of fid (Some number) = Some (op.Close number fid)

abbrev pub closes : Option Binding → Option Op
closes None = None
closes (Some b) = close_of b.fid b.number

-- what a call is for the metadata target: a `create` without numbers has the defaults (Lustre Operations Manual, striping),
-- and a `close` is of what its handle is bound to; calls on bytes, `flush` and `glimpse` are none
abbrev pub operation_on : Call → Option Binding → Option Op
operation_on (call.Lookup path) bound = Some (op.Lookup path)
operation_on (call.Stat path) bound = Some (op.Stat path)
operation_on (call.List path) bound = Some (op.List path)
operation_on (call.Layout path) bound = Some (op.Layout path)
operation_on (call.Mkdir path) bound = Some (op.Mkdir path)
operation_on (call.Create path None) bound = Some (op.Create path 1048576 (pos 1))
operation_on (call.Create path (Some stripes)) bound = Some (op.Create path stripes.0 stripes.1)
operation_on (call.Link old new) bound = Some (op.Link old new)
operation_on (call.Unlink path) bound = Some (op.Unlink path)
operation_on (call.Rmdir path) bound = Some (op.Rmdir path)
operation_on (call.Rename old new) bound = Some (op.Rename old new)
operation_on (call.Chmod path mode) bound = Some (op.Chmod path mode)
operation_on (call.Open h path) bound = Some (op.Open path)
operation_on (call.Close h) bound = closes bound
operation_on _ bound = None

abbrev pub operation : Begun → Option Op
operation begun = operation_on begun.call begun.bound

-- the file of a call on a handle
abbrev pub file_of : Begun → Option Fid
file_of begun = option_map (λ b. b.fid) begun.bound
