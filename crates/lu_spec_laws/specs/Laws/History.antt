-- Law of history: one order of acts, that of the lines, explains all that clients see (POSIX.1, for what names and
-- bytes mean; that one order does is this project's profile).
--
-- At a `told` of a life that isn't gone, of a call in the history: the answer is the plain machine's after the items
-- before the line where the call acted. At a `txn` of the metadata target that stands at the end: the machine doesn't
-- refuse its operation. At a `txn` of an object: it is of a stripe of the layout that the life heard; each byte of a
-- `put` was put at that position by a `write` of this life that was told before the request was first sent, or is the 0
-- at the end that such a `cut` gave the stripe; and a `cut` is to the end that such a `cut` gave it.
--
-- `out` are the lives that are gone in the whole trace, `lost` (of a target and a number) the transactions that are
-- lost at its end.
use Rattle.std.specs.Prelude.{◌≡◌, ℕ, zero, suc, ◌<◌, Bool, true, false, Option, Some, None, List, ◌∷◌, length}
use Rattle.std.specs.List.{list_any}
use Rattle.lu_base.specs.declared.ids.At.{At}
use Rattle.lu_base.specs.declared.ids.Node.{Node}
use Rattle.lu_base.specs.declared.ids.Node.TheVariants.{Client, Target}
use Rattle.lu_base.specs.declared.ids.Txn.{Txn as TxnOf}
use Rattle.lu_base.specs.declared.ids.Who.{Who}
use Rattle.lu_base.specs.declared.locks.Resource.{Resource}
use Rattle.lu_layout.specs.Raid0.{Raid0}
use Rattle.lu_msg.specs.declared.answers.Answer.{Answer}
use Rattle.lu_msg.specs.declared.answers.Answer.TheVariants as told
use Rattle.lu_msg.specs.declared.calls.Call.{Call}
use Rattle.lu_msg.specs.declared.operations.Op.{Op}
use Rattle.lu_msg.specs.declared.operations.Op.TheVariants as op
use Rattle.lu_trace.specs.declared.entries.Entry.{Entry}
use Rattle.lu_trace.specs.declared.entries.Entry.TheVariants.{Txn, Told}
use Rattle.lu_trace.specs.declared.entries.Line.{Line}
use Rattle.lu_spec_laws.specs.Words.Pasts.{Past, same_turn}
use Rattle.lu_spec_laws.specs.Words.Lives.{who_is, is_gone}
use Rattle.lu_spec_laws.specs.Words.Lost.{is_lost}
use Rattle.lu_spec_laws.specs.Words.Requests.{asked}
use Rattle.lu_spec_laws.specs.Words.Calls.{Begun, open_call, heard_in}
use Rattle.lu_spec_laws.specs.Words.Histories.{call_act, is_answer, is_counted, answer_to, request_answer, machine_of, answer_there}
use Rattle.lu_spec_laws.specs.Words.Pieces.{layout_heard, done_before, cuts_to, have_origin}

-- ---- pieces

-- what a transaction of an object carries, with what its life had done to the file before the request was first sent
abbrev pub Carried : Raid0 → List Call → Op → Type 0
Carried layout calls (op.Put resource cookie at bytes) = have_origin layout resource.stripe calls at bytes ≡ true
Carried layout calls (op.Cut resource cookie size) = list_any (cuts_to layout resource.stripe size) calls ≡ true
Carried layout calls _ = Unit {0}

pub record CarriesAt (layout : Raid0) (calls : List Call) (resource : Resource) (o : Op) : Type 0 where
  pub stripe : resource.stripe < length layout.targets
  pub carried : Carried layout calls o

-- where the life heard no layout none of its calls counts
abbrev pub CarriesBy : Option Raid0 → Option (List Call) → Resource → Op → Type 0
CarriesBy (Some layout) (Some calls) resource o = CarriesAt layout calls resource o
CarriesBy _ _ resource o = ⊥

-- the object that a piece changes: a `put` of no bytes changes none
abbrev pub changed : Op → Option Resource
changed (op.Put resource cookie offset (b ∷ bs)) = Some resource
changed (op.Cut resource cookie size) = Some resource
changed _ = None

abbrev pub PieceOn : Past → ℕ → Who → ℕ → Op → Option Resource → Type 0
PieceOn past t who x o None = Unit {0}
PieceOn past t who x o (Some resource) =
    CarriesBy (layout_heard who resource.fid past) (done_before t who x resource.fid past) resource o

abbrev pub PieceAt : Past → ℕ → Who → ℕ → Option Op → Type 0
PieceAt past t who x None = Unit {0}
PieceAt past t who x (Some o) = PieceOn past t who x o (changed o)

-- ---- transactions of the metadata target

-- the machine answers so, and doesn't refuse
abbrev pub is_accepted : Option Answer → Bool
is_accepted None = false
is_accepted (Some (told.Refused errno)) = false
is_accepted (Some _) = true

module _ (out : Who → Bool) (lost : ℕ → ℕ → Bool) (osts : ℕ) where
  -- ---- what is told

  -- the machine's answer to the request that was heard in this turn, where it was executed
  abbrev pub heard_answer : Past → At → Who → Option ℕ → Option Answer
  heard_answer past turn who None = None
  heard_answer past turn who (Some x) = answer_there out lost osts past turn who x

  -- the machine's answer where the call acted: here, where this turn is named
  abbrev pub right_answer : Past → At → ℕ → ℕ → At → Bool → Option Answer
  right_answer past at c slot turn true = answer_to osts (machine_of out lost osts past) (call_act past c slot)
  right_answer past at c slot turn false = heard_answer past turn (who_is c past) (heard_in past at)

  -- that a call stands in the slot is asked by the law of messages
  abbrev pub ToldOn : Past → At → ℕ → ℕ → Option Begun → At → Answer → Type 0
  ToldOn past at c slot None turn answer = Unit {0}
  ToldOn past at c slot (Some begun) turn answer =
      is_counted begun.call ≡ true → right_answer past at c slot turn (same_turn turn at) ≡ Some answer

  abbrev pub ToldAt : Past → At → Node → ℕ → At → Answer → Type 0
  ToldAt past at (Client c) slot turn answer =
      out (who_is c past) ≡ false → is_answer answer ≡ true → ToldOn past at c slot (open_call c slot past) turn answer
  ToldAt past at (Target t) slot turn answer = Unit {0}

  -- ---- transactions

  abbrev pub TxnAt : Past → ℕ → TxnOf → Who → ℕ → Type 0
  TxnAt past zero number who x =
      lost 0 number.0 ≡ false
      → is_accepted (request_answer osts (machine_of out lost osts past) who number (asked past 0 who x)) ≡ true
  TxnAt past (suc t) number who x = PieceAt past (suc t) who x (asked past (suc t) who x)

  abbrev pub ExecutedAt : Past → Node → TxnOf → Who → ℕ → Type 0
  ExecutedAt past (Target t) number who x = TxnAt past t number who x
  ExecutedAt past (Client c) number who x = Unit {0}

  -- ---- the law

  abbrev pub HistoryAt : Past → At → Entry → Type 0
  HistoryAt past at (Told slot turn answer) = ToldAt past at at.node slot turn answer
  HistoryAt past at (Txn number who xid seen answer) = ExecutedAt past at.node number who xid.0
  HistoryAt past at _ = Unit {0}

  abbrev pub HistoryOf : Past → Line → List Line → Type 0
  HistoryOf past l later = HistoryAt past l.at l.entry

abbrev pub History : ℕ → Past → Past → Line → List Line → Type 0
History osts whole = HistoryOf (is_gone whole) (is_lost whole) osts
