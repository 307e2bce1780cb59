-- A reading that acts and is granted no lock is refused; so each answer that comes without locks is told at once.
use Rattle.std.proofs.Common.{◌≡◌, ℕ, ◌<◌, true, List, [], ◌∷◌, Some, ◌⊎◌, inl, inr, ⊎_elim, refl, sym, subst}
use Rattle.lu_base.specs.declared.ids.At.{At}
use Rattle.lu_base.specs.declared.ids.Node.{Node}
use Rattle.lu_base.specs.declared.ids.Node.TheVariants.{Client, Target}
use Rattle.lu_part.specs.declared.parts.Want.{Want}
use Rattle.lu_base.specs.declared.ids.Who.{Who}
use Rattle.lu_base.specs.declared.locks.Lock.{Lock}
use Rattle.lu_msg.specs.declared.answers.Answer.{Answer}
use Rattle.lu_msg.specs.declared.answers.Answer.TheVariants as told
use Rattle.lu_msg.specs.declared.operations.Op.TheVariants as op
use Rattle.lu_spec_machine.specs.Fits.{answer_fits}
use Rattle.lu_spec_machine.specs.Footprint.{grants}
use Rattle.lu_spec_target.specs.Names.{locks_from}
use Rattle.lu_spec_machine.specs.Laws.{IsReading}
use Rattle.lu_spec_machine.proofs.Fits.{answers_fit}
use Rattle.lu_spec_machine.proofs.Transactions.{readings_change_nothing}
use Rattle.lu_spec_entries.specs.Carried.{Deed}
use Rattle.lu_spec_entries.specs.Words.{Entry, Act, Txn as Made, Grant, Wait, Answers, Line, line}
use Rattle.lu_spec_entries.specs.Concerns.{only}
use Rattle.lu_proof_lawful.specs.Covered.TargetStates.{none, server_of, next_number}
use Rattle.lu_proof_lawful.specs.Covered.Deeds.{asked}
use Rattle.lu_proof_lawful.specs.Covered.Heads.{Head}
use Rattle.lu_proof_lawful.proofs.Preconditions.StoryGuards.{ActsOk, TxnsOk, RangeOk}
use Rattle.lu_proof_lawful.proofs.Preconditions.ClientLines.{IsNames}
use Rattle.lu_proof_lawful.proofs.Preconditions.Grown.{Allowed, Grown}
use Rattle.lu_proof_lawful.proofs.Preconditions.Lists.{self}
use Rattle.lu_proof_lawful.proofs.Invariants.Groups.{turn}
use Rattle.lu_proof_lawful.proofs.Invariants.TargetGroups.{Acted}
use Rattle.lu_proof_lawful.proofs.Invariants.GrantLines.{grant_either}
use Rattle.lu_proof_lawful.proofs.Invariants.OnNames.{names_on, IsRefusal, IsPlain, is_plain}
use Rattle.lu_proof_lawful.proofs.Invariants.Readings.{reading_refused}
use Rattle.lu_proof_lawful.proofs.Invariants.Sides.{acted_some, ActedKind, acted_kind}
use Rattle.lu_proof_lawful.proofs.Invariants.ObjectAnswers.{IsObjectAnswer, OfObject, object_reads, sized_object, range_object, wait_object}
use Rattle.lu_proof_lawful.proofs.Invariants.ObjectAnswers.{answers_object, write_object, acted_object}
use Rattle.lu_proof_lawful.proofs.Invariants.Asked.{acted_other}

-- what is known of an answer
abbrev pub IsAnswered : Deed → Type 0
IsAnswered d = (answer_fits d.op d.reply.answer ≡ true) × (IsReading d.op → (d.op ≡ op.Lookup [] → ⊥) → d.reply.locks ≡ []
    → IsRefusal d.reply.answer)

-- no locks come of no wants alone
no_wants : (cookie : ℕ) (who : Who) (wants : List Want) → locks_from cookie who wants ≡ [] → wants ≡ []
no_wants cookie who [] e = refl
no_wants cookie who (want ∷ wants) e = absurd (cc)

object_answered : (d : Deed) → OfObject d → IsAnswered d
object_answered d k = (k.fits, λ reads may e. absurd (object_reads d.op k.of_op reads))

act_answered : (osts : ℕ) (past : List Line) (at : At) (t : ℕ) (d : Deed) → ActsOk osts past at t d → IsAnswered d
act_answered osts past at t d (inr a) = object_answered d (sized_object osts past at d a.1)
act_answered osts past at t d (inl a) =
    let ok = a.1 in
    let v = server_of osts past in
    let r = ok.request in
    subst IsAnswered (sym ok.is) (
      answers_fit osts v.tree (asked r none),
      λ reads may e. reading_refused osts v.tree none r.who r.op reads may
          (no_wants v.cookie r.who (grants osts v.tree (asked r none)) e),
    )

-- a reading makes no transaction
txn_answered : (osts : ℕ) (past : List Line) (at : At) (t : ℕ) (d : Deed) → TxnsOk osts past at t d → IsAnswered d
txn_answered osts past at t d (inr a) = object_answered d (write_object osts past at d a.1)
txn_answered osts past at t d (inl a) =
    let ok = a.1 in
    let v = server_of osts past in
    let r = ok.request in
    subst IsAnswered (sym ok.is) (
      answers_fit osts v.tree (asked r (next_number v)),
      λ reads may e. let moves = ok.moves in let still =
          readings_change_nothing osts v.tree (asked r none) reads in absurd (cc),
    )

pub acted_answered : (head : Head) (past : List Line) (d : Deed) → Grown head past → Acted past d → IsAnswered d
acted_answered head [] d g a = absurd a
acted_answered head (l ∷ past) d g a = by l.at.node l.entry g.0 a (acted_answered head past d g.1)
  where
    by : (node : Node) (e : Entry) → Allowed head past (turn l.at.stamp node) e → Acted (line (turn l.at.stamp node) e ∷ past) d
        → (Acted past d → IsAnswered d) → IsAnswered d
    by (Client c) (Act x) k a h = absurd k.ok
    by (Client c) (Made x) k a h = absurd k.ok
    by (Target t) (Act x) k a h = ⊎_elim
        (λ (p : x ≡ d). subst IsAnswered p (act_answered head.osts (only t past) (turn l.at.stamp (Target t)) t x (k.of t (self t))))
        (λ (p : Acted past d). h p)
        a
    by (Target t) (Made x) k a h = ⊎_elim
        (λ (p : x ≡ d). subst IsAnswered p (txn_answered head.osts (only t past) (turn l.at.stamp (Target t)) t x (k.of t (self t))))
        (λ (p : Acted past d). h p)
        a
    by (Client c) (Grant lock asked) k a h = absurd k.ok
    by (Target t) (Grant lock asked) k a h = ⊎_elim
        (λ (p : asked ≡ Some d). ⊎_elim h (λ (r : (0 < t) × RangeOk head.osts (only t past) (turn l.at.stamp (Target t)) lock d).
        object_answered d (range_object head.osts (only t past) (turn l.at.stamp (Target t)) lock d r.1))
        (grant_either head past l.at.stamp t lock asked d k p))
        (λ (p : Acted past d). h p)
        a
    by (Client c) (Wait lock x) k a h = absurd k.ok
    by (Client c) (Answers x) k a h = absurd k.ok
    by (Target t) (Wait lock x) k a h = ⊎_elim
        (λ (p : x ≡ d). subst IsAnswered p (object_answered x (wait_object head.osts (only t past) (turn l.at.stamp (Target t)) lock x
        (k.of t (self t)).1)))
        (λ (p : Acted past d). h p)
        a
    by (Target t) (Answers x) k a h = ⊎_elim
        (λ (p : x ≡ d). subst IsAnswered p (object_answered x (answers_object head.osts (only t past) (turn l.at.stamp (Target t)) t x
        (k.of t (self t)).1)))
        (λ (p : Acted past d). h p)
        a
    by _ _ k a h = h a

object_plain : (a : Answer) → IsObjectAnswer a → IsPlain a
object_plain told.Done k = tt
object_plain (told.Granted cookie extent size) k = tt
object_plain (told.Waiting cookie) k = tt
object_plain (told.Content bytes) k = tt
object_plain (told.Size size) k = tt
object_plain told.Lock k = tt
object_plain told.Uncovered k = tt
object_plain a k = absurd k

-- it is on names, or of an object
kind_of : (head : Head) (past : List Line) (d : Deed) → Grown head past → Acted past d → IsNames d.op ⊎ OfObject d
kind_of head past d g a = let n = acted_some head past d g a in by n.0 n.1 (acted_kind head past n.0 d g n.1)
  where
    by : (t : ℕ) → Acted (only t past) d → ActedKind t d → IsNames d.op ⊎ OfObject d
    by t b (inl k) = inl k.1
    by t b (inr k) = inr (acted_object head past t d k.0 g b)

pub acted_refused : (head : Head) (past : List Line) (d : Deed) → Grown head past → Acted past d → IsReading d.op → d.reply.locks ≡ []
    → IsRefusal d.reply.answer
acted_refused head past d g a reads e = (acted_answered head past d g a).1 reads (acted_other head past d g a) e

-- what is told of an object is told at once too
pub acted_plain : (head : Head) (past : List Line) (d : Deed) → Grown head past → Acted past d → d.reply.locks ≡ [] → IsPlain d.reply.answer
acted_plain head past d g a e = by (kind_of head past d g a)
  where
    by : IsNames d.op ⊎ OfObject d → IsPlain d.reply.answer
    by (inl k) = is_plain d.op d.reply.answer (names_on d.op k) (acted_answered head past d g a).0
        (λ reads. acted_refused head past d g a reads e)
    by (inr k) = object_plain d.reply.answer k.answer
