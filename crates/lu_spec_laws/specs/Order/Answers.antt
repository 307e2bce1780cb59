-- At the metadata target an act or a transaction has the answer of the plain machine over the contents there, and it is
-- a transaction exactly where it changes them (POSIX.1, for the answers; the rest is this project's profile).
use Rattle.std.specs.Prelude.{◌≡◌, ℕ, zero, suc, Bool, true, false, Option, Some, None, List}
use Rattle.lu_base.specs.declared.ids.Node.{Node}
use Rattle.lu_base.specs.declared.ids.Node.TheVariants.{Client, Target}
use Rattle.lu_base.specs.declared.ids.Txn.{Txn as TxnOf}
use Rattle.lu_base.specs.declared.ids.Who.{Who}
use Rattle.lu_msg.specs.declared.answers.Answer.{Answer}
use Rattle.lu_msg.specs.declared.operations.Op.{Op}
use Rattle.lu_trace.specs.declared.entries.Entry.{Entry}
use Rattle.lu_trace.specs.declared.entries.Entry.TheVariants.{Act, Txn}
use Rattle.lu_trace.specs.declared.entries.Line.{Line}
use Rattle.lu_spec_machine.specs.Footprint.{Operation, answer, changes}
use Rattle.lu_spec_laws.specs.Words.Pasts.{Past}
use Rattle.lu_spec_laws.specs.Words.Requests.{asked}
use Rattle.lu_spec_laws.specs.Words.Standing.{contents}

-- the number of what makes no transaction
abbrev pub none : TxnOf
none = record { 0 = 0 }

pub record AnswerAt (osts : ℕ) (past : Past) (operation : Operation) (told : Answer) (change : Bool) : Type 0 where
  pub same : told ≡ answer osts (contents osts past) operation
  pub kind : changes osts (contents osts past) operation ≡ change

abbrev pub AnswerOf : ℕ → Past → TxnOf → Who → Answer → Bool → Option Op → Type 0
AnswerOf osts past number who told change None = ⊥
AnswerOf osts past number who told change (Some o) =
    AnswerAt osts past (record { number = number; who = who; op = o }) told change

abbrev pub AnswerBy : ℕ → Past → Node → TxnOf → Who → ℕ → Answer → Bool → Type 0
AnswerBy osts past (Target zero) number who x told change =
    AnswerOf osts past number who told change (asked past 0 who x)
AnswerBy osts past (Target (suc t)) number who x told change = Unit {0}
AnswerBy osts past (Client c) number who x told change = Unit {0}

abbrev pub AnswersAt : ℕ → Past → Node → Entry → Type 0
AnswersAt osts past node (Act who xid told) = AnswerBy osts past node none who xid.0 told false
AnswersAt osts past node (Txn number who xid seen told) = AnswerBy osts past node number who xid.0 told true
AnswersAt osts past node _ = Unit {0}

abbrev pub Answers : ℕ → Past → Line → List Line → Type 0
Answers osts past l later = AnswersAt osts past l.at.node l.entry
