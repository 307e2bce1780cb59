-- The history of a trace: the metadata target's standing transactions; the calls that lives which aren't gone were told
-- in the turn in which they acted; and of lives that are gone what reached the objects. The plain machine over it is a
-- fold over the lines. What acted at the metadata target without a transaction changes nothing of it and is left out.
use Rattle.std.specs.Prelude.{◌≡◌, ℕ, zero, suc, Bool, true, false, not, ◌==◌, ◌&&◌, if◌then◌else◌, Option, Some, None, [], ◌∷◌}
use Rattle.std.specs.Option.{option_map}
use Rattle.lu_base.specs.declared.ids.At.{At}
use Rattle.lu_base.specs.declared.ids.Fid.{Fid}
use Rattle.lu_base.specs.declared.ids.Node.{Node}
use Rattle.lu_base.specs.declared.ids.Node.TheVariants.{Client, Target}
use Rattle.lu_base.specs.declared.ids.Txn.{Txn as TxnOf}
use Rattle.lu_base.specs.declared.ids.Who.{Who}
use Rattle.lu_msg.specs.declared.answers.Answer.{Answer}
use Rattle.lu_msg.specs.declared.answers.Answer.TheVariants as told
use Rattle.lu_msg.specs.declared.answers.Errno.TheVariants.{EBADF, EIO}
use Rattle.lu_msg.specs.declared.calls.Call.{Call}
use Rattle.lu_msg.specs.declared.calls.Call.TheVariants as call
use Rattle.lu_msg.specs.declared.operations.Op.{Op}
use Rattle.lu_trace.specs.declared.entries.Entry.{Entry}
use Rattle.lu_trace.specs.declared.entries.Entry.TheVariants.{Act, Txn, Told}
use Rattle.lu_trace.specs.declared.entries.Line.{Line}
use Rattle.lu_spec_machine.specs.declared.acts.Act.{Act as ActOf}
use Rattle.lu_spec_machine.specs.declared.acts.Deed.{Deed}
use Rattle.lu_spec_machine.specs.declared.acts.Deed.TheVariants.{Names, Data, Piece}
use Rattle.lu_spec_machine.specs.Machine as machine
use Rattle.lu_spec_machine.specs.Machine.{Machine, start, next}
use Rattle.lu_spec_machine.specs.Tree.{same_life}
use Rattle.lu_spec_laws.specs.Words.Pasts.{Past, is_target, same_turn}
use Rattle.lu_spec_laws.specs.Words.Lives.{who_is}
use Rattle.lu_spec_laws.specs.Words.Requests.{asked}
use Rattle.lu_spec_laws.specs.Words.Calls.{Begun, open_call, operation, file_of}

-- ---- what a call asks of the machine

abbrev pub data_deed : Call → Option Fid → Option Deed
data_deed c None = None
data_deed c (Some fid) = Some (Data fid c)

-- a call on bytes and a `flush` name the file of their handle; a `glimpse` asks nothing; any other is an operation on
-- names
abbrev pub deed_on : Begun → Call → Option Deed
deed_on begun (call.Read h offset count) = data_deed begun.call (file_of begun)
deed_on begun (call.Write h offset bytes) = data_deed begun.call (file_of begun)
deed_on begun (call.Cut h size) = data_deed begun.call (file_of begun)
deed_on begun (call.Flush h) = data_deed begun.call (file_of begun)
deed_on begun (call.Glimpse h) = None
deed_on begun _ = option_map Names (operation begun)

abbrev pub deed_of : Option Begun → Option Deed
deed_of None = None
deed_of (Some begun) = deed_on begun begun.call

abbrev pub act_of : Who → TxnOf → Option Deed → Option ActOf
act_of who number None = None
act_of who number (Some deed) = Some (record { who = who; number = number; deed = deed })

-- no transaction
abbrev pub none : TxnOf
none = record { 0 = 0 }

-- an operation on names, and a piece of an object
abbrev pub names_act : Who → TxnOf → Option Op → Option ActOf
names_act who number asked = act_of who number (option_map Names asked)

abbrev pub piece_act : Who → TxnOf → Option Op → Option ActOf
piece_act who number asked = act_of who number (option_map Piece asked)

-- the call that stands in a slot
abbrev pub call_act : Past → ℕ → ℕ → Option ActOf
call_act past c slot = act_of (who_is c past) none (deed_of (open_call c slot past))

-- ---- what is told: EBADF, EIO and what is told to a `glimpse` are no part of the history

abbrev pub is_answer : Answer → Bool
is_answer (told.Refused EBADF) = false
is_answer (told.Refused EIO) = false
is_answer _ = true

abbrev pub is_counted : Call → Bool
is_counted (call.Glimpse h) = false
is_counted _ = true

-- ---- the items, with the lives that are gone (`out`) and the transactions that are lost, by target and number

-- a call that a life which isn't gone is told in the turn in which it acted
abbrev pub told_item : (Who → Bool) → Past → At → Node → ℕ → At → Answer → Option ActOf
told_item out past at (Client c) slot turn answer =
    if same_turn turn at && is_answer answer && not (out (who_is c past)) then call_act past c slot else None
told_item out past at (Target t) slot turn answer = None

-- at the metadata target each transaction counts, at another one those of lives that are gone
abbrev pub standing_item : Bool → ℕ → TxnOf → Who → Option Op → Option ActOf
standing_item gone zero number who asked = names_act who number asked
standing_item gone (suc t) number who asked = if gone then piece_act who number asked else None

abbrev pub txn_item : (Who → Bool) → (ℕ → ℕ → Bool) → Past → Node → TxnOf → Who → ℕ → Option ActOf
txn_item out lost past (Client c) number who x = None
txn_item out lost past (Target t) number who x =
    if lost t number.0 then None else standing_item (out who) t number who (asked past t who x)

abbrev pub item_at : (Who → Bool) → (ℕ → ℕ → Bool) → Past → At → Entry → Option ActOf
item_at out lost past at (Txn number who xid seen answer) = txn_item out lost past at.node number who xid.0
item_at out lost past at (Told slot turn answer) = told_item out past at at.node slot turn answer
item_at out lost past at _ = None

-- ---- the machine

abbrev pub after_item : ℕ → Machine → Option ActOf → Machine
after_item osts m None = m
after_item osts m (Some item) = next osts m item

-- its answer to an act that follows
abbrev pub answer_to : ℕ → Machine → Option ActOf → Option Answer
answer_to osts m None = None
answer_to osts m (Some act) = Some (machine.answer osts m act)

-- to an operation on names of a life, under a number
abbrev pub request_answer : ℕ → Machine → Who → TxnOf → Option Op → Option Answer
request_answer osts m who number asked = answer_to osts m (names_act who number asked)

-- a line of the metadata target, of that turn, life and request number
abbrev pub acts_as : At → Who → ℕ → At → Who → ℕ → Bool
acts_as turn who x at other xid = is_target 0 at.node && same_turn at turn && same_life other who && xid == x

-- the answer of the machine before the line, where it executes the request: by an `act`, or by a `txn` that isn't lost
abbrev pub answer_step : ℕ → (ℕ → ℕ → Bool) → At → Who → ℕ → Machine → Option Op → Line → Option Answer → Option Answer
answer_step osts lost turn who x m asked l old =
    elim l.entry [
      | Act other xid answer ↦ if acts_as turn who x l.at other xid.0 then request_answer osts m who none asked else old
      | Txn number other xid seen answer ↦
          if acts_as turn who x l.at other xid.0 && not (lost 0 number.0)
          then request_answer osts m who number asked
          else old
      | _ ↦ old
    ]

module _ (out : Who → Bool) (lost : ℕ → ℕ → Bool) (osts : ℕ) where
  -- the machine after the items of a past
  abbrev pub machine_of : Past → Machine
  machine_of [] = start
  machine_of (l ∷ past) = after_item osts (machine_of past) (item_at out lost past l.at l.entry)

  -- its answer where the metadata target executed that life's request in that turn
  abbrev pub answer_there : Past → At → Who → ℕ → Option Answer
  answer_there [] turn who x = None
  answer_there (l ∷ past) turn who x =
      answer_step osts lost turn who x (machine_of past) (asked past 0 who x) l (answer_there past turn who x)

-- leaving it out is right: under no number an operation on names changes nothing of the machine
abbrev pub ActsLeave : Type 0
ActsLeave =
    (osts : ℕ) (m : Machine) (who : Who) (o : Op)
    → next osts m (record { who = who; number = none; deed = Names o }) ≡ m
