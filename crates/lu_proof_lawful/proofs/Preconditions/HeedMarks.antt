-- What a client still has to mark of the answer that it heard last: a write-back or a cut that was answered, and the bytes of a page. The
-- marks come in the turn that heard it, one after another. Before them the locks are shown that came with it, and what it told of names.
use Rattle.std.proofs.Common.{◌≡◌, ℕ, List, [], ◌∷◌, ◌++◌}
use Rattle.std.specs.Prelude.{if◌then◌else◌}
use Rattle.lu_msg.specs.declared.answers.Answer.{Answer}
use Rattle.lu_msg.specs.declared.answers.Answer.TheVariants as answer
use Rattle.lu_msg.specs.declared.messages.Reply.{Reply as ReplyTo}
use Rattle.lu_msg.specs.declared.operations.Op.{Op}
use Rattle.lu_msg.specs.declared.operations.Op.TheVariants as op
use Rattle.lu_held.specs.declared.locks.HeldLock.{HeldLock}
use Rattle.lu_held.specs.Locks.{named}
use Rattle.lu_spec_entries.specs.declared.changes.Flush.TheVariants.{Cut, Put}
use Rattle.lu_spec_entries.specs.Carried.{Flight}
use Rattle.lu_spec_entries.specs.Words.{Entry, Heard, Hold, Learns, Acks, Fills, Zeroes, Grown, Shows, Line, is_client}
use Rattle.lu_spec_client.specs.Caches.{brought, held_at}
use Rattle.lu_spec_client.specs.Messages.{size_with, holds, learns, held_as, page_heard}

-- by the operation that was answered, and the locks that are held
abbrev pub heeds_marks : ℕ → Op → Answer → List HeldLock → List Entry
heeds_marks t (op.Get resource cookie page) (answer.Content bs) held =
    page_heard resource cookie page bs (held_as (named (record { 0 = t }) cookie) held)
heeds_marks t (op.Put resource cookie at bs) answer.Done held = Acks resource ∷ Fills resource at bs ∷ Grown resource (Put at bs) ∷ []
heeds_marks t (op.Cut resource cookie n) answer.Done held = Acks resource ∷ Zeroes resource n ∷ Grown resource (Cut n) ∷ []
heeds_marks t o a held = []

abbrev pub marks_left : List Entry → List Entry
marks_left [] = []
marks_left (e ∷ es) = es

-- the first of them comes next: reads Heard, and the marks
abbrev pub marks_of : ℕ → List Line → List Entry
marks_of c [] = []
marks_of c (l ∷ past) =
    elim l.entry [
      | Heard t f r ↦ if is_client c l.at.node then heeds_marks t f.op r.answer (held_at c past) else marks_of c past
      | Acks resource ↦ if is_client c l.at.node then marks_left (marks_of c past) else marks_of c past
      | Fills resource offset bytes ↦ if is_client c l.at.node then marks_left (marks_of c past) else marks_of c past
      | Zeroes resource size ↦ if is_client c l.at.node then marks_left (marks_of c past) else marks_of c past
      | Grown resource change ↦ if is_client c l.at.node then marks_left (marks_of c past) else marks_of c past
      | Shows resource cookie last ↦ if is_client c l.at.node then marks_left (marks_of c past) else marks_of c past
      | _ ↦ marks_of c past
    ]

-- it is the next of them
abbrev pub MarkNext : List Line → ℕ → Entry → Type 0
MarkNext past c e = (more : List Entry) × (marks_of c past ≡ e ∷ more)

-- ---- all lines that a heard answer makes but those of calls

-- the locks that came with it, what it told of names, and what is to be marked of it
abbrev pub owes : ℕ → Flight → ReplyTo → List HeldLock → List Entry
owes t f r held = (holds t (size_with r.answer) r.seen (brought f.op r) ++ learns t f.op r.answer r.locks)
    ++ heeds_marks t f.op r.answer held

-- what is left of them
abbrev pub owed_of : ℕ → List Line → List Entry
owed_of c [] = []
owed_of c (l ∷ past) =
    elim l.entry [
      | Heard t f r ↦ if is_client c l.at.node then owes t f r (held_at c past) else owed_of c past
      | Hold t lock marked size seen ↦ if is_client c l.at.node then marks_left (owed_of c past) else owed_of c past
      | Learns t o a locks ↦ if is_client c l.at.node then marks_left (owed_of c past) else owed_of c past
      | Acks resource ↦ if is_client c l.at.node then marks_left (owed_of c past) else owed_of c past
      | Fills resource offset bytes ↦ if is_client c l.at.node then marks_left (owed_of c past) else owed_of c past
      | Zeroes resource size ↦ if is_client c l.at.node then marks_left (owed_of c past) else owed_of c past
      | Grown resource change ↦ if is_client c l.at.node then marks_left (owed_of c past) else owed_of c past
      | Shows resource cookie last ↦ if is_client c l.at.node then marks_left (owed_of c past) else owed_of c past
      | _ ↦ owed_of c past
    ]
