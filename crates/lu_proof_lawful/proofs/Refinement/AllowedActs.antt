-- What a target answers without a transaction is allowed in the story: how long an object is, a page, that the asker has to take a lock, or
-- that
-- no lock covers what it asked for.
use Rattle.std.proofs.Common.{◌≡◌, ℕ, List, [], Some, inl, inr, sym, subst}
use Rattle.lu_base.specs.declared.ids.Node.TheVariants.{Target}
use Rattle.lu_base.specs.declared.ids.Stamp.{Stamp}
use Rattle.lu_base.specs.declared.locks.Lock.{Lock as TableLock}
use Rattle.lu_base.specs.declared.locks.Resource.{Resource}
use Rattle.lu_spec_machine.specs.Places.{RisingFrom}
use Rattle.lu_msg.specs.declared.answers.Answer.{Answer as TableAnswer}
use Rattle.lu_msg.specs.declared.answers.Answer.TheVariants as told
use Rattle.lu_msg.specs.declared.messages.Reply.{Reply as ReplyTo}
use Rattle.lu_msg.specs.declared.messages.Request.{Request as RequestOf}
use Rattle.lu_spec_entries.specs.Carried.{Deed}
use Rattle.lu_spec_entries.specs.Words.{Line}
use Rattle.lu_spec_target.specs.Stored.{object_in}
use Rattle.lu_proof_lawful.specs.Covered.Deeds.{told_on}
use Rattle.lu_proof_lawful.specs.Covered.Heads.{Head}
use Rattle.lu_proof_lawful.specs.Covered.TargetStates.{none, server_of}
use Rattle.lu_base.specs.declared.ids.At.{At}
use Rattle.lu_proof_lawful.proofs.Preconditions.Guards.{In, HasRange}
use Rattle.lu_proof_lawful.proofs.Preconditions.StoryGuards.{SizedOk, AnswersOk}
use Rattle.lu_proof_lawful.proofs.Preconditions.Lists.{turn}
use Rattle.lu_proof_lawful.proofs.Invariants.Groups.{HoldsAt}
use Rattle.lu_proof_bytes.specs.Object.Words as words
use Rattle.lu_proof_bytes.specs.Object.Words.{Request, Entry}
use Rattle.lu_proof_bytes.specs.Object.Folds as says
use Rattle.lu_proof_bytes.specs.Object.Guards as guards
use Rattle.lu_proof_lawful.specs.Projection.Lives.{number_of}
use Rattle.lu_proof_lawful.specs.Projection.Requests.{op_of, answer_by, answer_of}
use Rattle.lu_proof_lawful.proofs.Refinement.TiedObject.{ObjectBy}
use Rattle.lu_proof_lawful.proofs.Refinement.TiedTarget.{TargetBy}
use Rattle.lu_proof_lawful.proofs.Refinement.TargetDeeds.{asked_by}
use Rattle.lu_proof_lawful.proofs.Refinement.AllowedBase.{fresh_there}
use Rattle.lu_proof_lawful.proofs.Refinement.AllowedBytes.{page_allowed}

-- an answer that says nothing of the bytes
abbrev pub SaysNone : TableAnswer → Type 0
SaysNone told.Uncovered = Unit {0}
SaysNone told.Lock = Unit {0}
SaysNone (told.Size size) = Unit {0}
SaysNone _ = ⊥

none_said : (h : List Entry) (q : Request) (c : ℕ) (p : ReplyTo) (o : words.Op) (a : TableAnswer) → SaysNone a
    → guards.ActsOk h q (answer_by c p o a)
none_said h q c p (words.Enqueue write first last) told.Uncovered s = tt
none_said h q c p (words.Get k at n) told.Uncovered s = tt
none_said h q c p (words.Flush k change) told.Uncovered s = tt
none_said h q c p words.Size told.Uncovered s = tt
none_said h q c p (words.Enqueue write first last) told.Lock s = tt
none_said h q c p (words.Get k at n) told.Lock s = tt
none_said h q c p (words.Flush k change) told.Lock s = tt
none_said h q c p words.Size told.Lock s = tt
none_said h q c p (words.Enqueue write first last) (told.Size size) s = tt
none_said h q c p (words.Get k at n) (told.Size size) s = tt
none_said h q c p (words.Flush k change) (told.Size size) s = tt
none_said h q c p words.Size (told.Size size) s = tt
none_said h q c p o _ s = absurd s

module _ (head : Head) (r : Resource) (past : List Line) (h : List Entry) (stamp : Stamp) (t : ℕ) (all : HoldsAt head past)
    (tied : TargetBy head r past h) (object : ObjectBy head r past h)
    (ranges : (l : TableLock) → In l (server_of head.osts past).granted → HasRange l.ask.policy) where
  none_allowed : (d : Deed) (at : At) (q : RequestOf) (a : TableAnswer) → In q (server_of head.osts past).waiting → SaysNone a → d
      ≡ told_on (server_of head.osts past) at q none [] a
      → (o : words.Op) → op_of r h d.op ≡ Some o → guards.Fresh h (asked_by d o)
      × guards.ActsOk h (asked_by d o) (answer_of (asked_by d o) d.reply)
  none_allowed d at q a i s is o e =
      subst (λ (x : Deed). op_of r h x.op ≡ Some o → guards.Fresh h (asked_by x o)
      × guards.ActsOk h (asked_by x o) (answer_of (asked_by x o) x.reply)) (sym is)
      (λ f. (
        fresh_there head r past h all tied object q i o f,
        none_said h (asked_by (told_on (server_of head.osts past) at q none [] a) o) (number_of q.who)
            (told_on (server_of head.osts past) at q none [] a).reply o a s,
      ))
      e

  pub sized_allowed : (d : Deed) → SizedOk head.osts past (turn stamp (Target t)) d → (o : words.Op) → op_of r h d.op ≡ Some o
      → guards.Fresh h (asked_by d o) × guards.ActsOk h (asked_by d o) (answer_of (asked_by d o) d.reply)
  sized_allowed d ok = none_allowed d (turn stamp (Target t)) ok.request _ ok.waits tt ok.is

  pub answers_allowed : (d : Deed) → AnswersOk head.osts past (turn stamp (Target t)) t d
      → RisingFrom 0 (object_in (server_of head.osts past).objects r) → says.committed h ≡ (server_of head.osts past).committed.0
      → (o : words.Op) → op_of r h d.op ≡ Some o → guards.Fresh h (asked_by d o)
      × guards.ActsOk h (asked_by d o) (answer_of (asked_by d o) d.reply)
  answers_allowed d (inl ok) rise committed = page_allowed head r past h stamp t all tied object ranges d ok rise committed
  answers_allowed d (inr (inl ok)) rise committed = none_allowed d (turn stamp (Target t)) ok.request told.Uncovered ok.waits tt ok.is
  answers_allowed d (inr (inr (inl ok))) rise committed = none_allowed d (turn stamp (Target t)) ok.request told.Lock ok.waits tt ok.is
  answers_allowed d (inr (inr (inr (inl ok)))) rise committed =
      none_allowed d (turn stamp (Target t)) ok.request told.Lock ok.waits tt ok.is
  answers_allowed d (inr (inr (inr (inr ok)))) rise committed = none_allowed d _ ok.request (told.Size ok.size) ok.waits tt ok.is
