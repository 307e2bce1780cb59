-- What an object storage target does is for an operation on an object, and is answered in a form that fits that, without locks beside the
-- answer.
use Rattle.std.proofs.Common.{◌≡◌, ℕ, ◌<◌, true, List, [], ◌∷◌, Some, None, inl, inr, refl, sym, subst, ap, ◌∙◌, arith}
use Rattle.std.specs.Prelude.{nat_eq}
use Rattle.std.proofs.lemmas.Bool.{cond_both, eqb-true}
use Rattle.lu_base.specs.declared.ids.At.{At}
use Rattle.lu_base.specs.declared.ids.Node.{Node}
use Rattle.lu_base.specs.declared.ids.Node.TheVariants.{Client, Target}
use Rattle.lu_base.specs.declared.ids.Who.{Who}
use Rattle.lu_base.specs.declared.locks.Lock.{Lock}
use Rattle.lu_msg.specs.declared.answers.Answer.{Answer}
use Rattle.lu_msg.specs.declared.answers.Answer.TheVariants as told
use Rattle.lu_msg.specs.declared.operations.Op.{Op}
use Rattle.lu_msg.specs.declared.operations.Op.TheVariants as op
use Rattle.lu_spec_machine.specs.Fits.{answer_fits}
use Rattle.lu_spec_machine.specs.Laws.{IsReading}
use Rattle.lu_spec_entries.specs.Carried.{Deed}
use Rattle.lu_spec_entries.specs.Words.{Entry, Act, Txn as Made, Grant, Wait, Answers, Line, line}
use Rattle.lu_spec_entries.specs.Concerns.{concerns, only}
use Rattle.lu_proof_lawful.specs.Covered.Heads.{Head}
use Rattle.lu_proof_lawful.specs.Covered.TargetStates.{Server, server_of}
use Rattle.lu_proof_lawful.proofs.Preconditions.StoryGuards.{ActsOk, GrantsOk, RangeOk, WaitOk, SizedOk, IsUncovered, AnswersOk}
use Rattle.lu_proof_lawful.proofs.Preconditions.StoryGuards.{WritesUnder, WriteOk, TxnsOk}
use Rattle.lu_proof_lawful.proofs.Preconditions.ClientLines.{IsOnObject, some_is}
use Rattle.lu_proof_lawful.proofs.Preconditions.Grown.{Allowed, Grown}
use Rattle.lu_proof_lawful.proofs.Invariants.Groups.{turn}
use Rattle.lu_proof_lawful.proofs.Invariants.TargetGroups.{Acted}

-- the forms of these answers
abbrev pub IsObjectAnswer : Answer → Type 0
IsObjectAnswer told.Done = Unit {0}
IsObjectAnswer (told.Granted cookie extent size) = Unit {0}
IsObjectAnswer (told.Waiting cookie) = Unit {0}
IsObjectAnswer (told.Content bytes) = Unit {0}
IsObjectAnswer (told.Size size) = Unit {0}
IsObjectAnswer told.Lock = Unit {0}
IsObjectAnswer told.Uncovered = Unit {0}
IsObjectAnswer _ = ⊥

pub record OfObject (d : Deed) : Type 0 where
  pub of_op : IsOnObject d.op
  pub bare : d.reply.locks ≡ []
  pub fits : answer_fits d.op d.reply.answer ≡ true
  pub answer : IsObjectAnswer d.reply.answer

-- what is done on an object reads no names
pub object_reads : (o : Op) → IsOnObject o → IsReading o → ⊥
object_reads (op.Enqueue resource mode extent) on reads = reads
object_reads (op.Get resource cookie page) on reads = reads
object_reads (op.Put resource cookie offset bytes) on reads = reads
object_reads (op.Cut resource cookie size) on reads = reads
object_reads (op.Size resource) on reads = reads
object_reads o on reads = on

-- ---- each of them

of_object : (d : Deed) (o : Op) (a : Answer) → d.op ≡ o → d.reply.answer ≡ a → d.reply.locks ≡ [] → IsOnObject o → answer_fits o a ≡ true
    → IsObjectAnswer a → OfObject d
of_object d o a of_op answer bare on fits form =
    record {
      of_op = subst IsOnObject (sym of_op) on;
      bare = bare;
      fits = ap (λ (p : Op). answer_fits p d.reply.answer) of_op ∙ ap (λ (b : Answer). answer_fits o b) answer ∙ fits;
      answer = subst IsObjectAnswer (sym answer) form;
    }

pub sized_object : (osts : ℕ) (past : List Line) (at : At) (d : Deed) → SizedOk osts past at d → OfObject d
sized_object osts past at d ok = of_object d (op.Size ok.resource) _ (ap (λ (e : Deed). e.op) ok.is ∙ ok.of_op)
    (ap (λ (e : Deed). e.reply.answer) ok.is) (ap (λ (e : Deed). e.reply.locks) ok.is) tt refl tt

pub range_object : (osts : ℕ) (past : List Line) (at : At) (lock : Lock) (d : Deed) → RangeOk osts past at lock d → OfObject d
range_object osts past at lock d ok = of_object d (op.Enqueue ok.resource ok.mode ok.extent) _ (ap (λ (e : Deed). e.op) ok.is ∙ ok.of_op)
    (ap (λ (e : Deed). e.reply.answer) ok.is) (ap (λ (e : Deed). e.reply.locks) ok.is) tt refl tt

pub wait_object : (osts : ℕ) (past : List Line) (at : At) (lock : Lock) (d : Deed) → WaitOk osts past at lock d → OfObject d
wait_object osts past at lock d ok = of_object d (op.Enqueue ok.resource ok.mode ok.extent) (told.Waiting lock.cookie)
    (ap (λ (e : Deed). e.op) ok.is ∙ ok.of_op) (ap (λ (e : Deed). e.reply.answer) ok.is) (ap (λ (e : Deed). e.reply.locks) ok.is) tt refl tt

-- a page, a put or a cut without a lock for it
uncovered_fits : (v : Server) (who : Who) (o : Op) → IsUncovered v who o → IsOnObject o × (answer_fits o told.Uncovered ≡ true)
uncovered_fits v who (op.Get resource cookie page) u = (tt, refl)
uncovered_fits v who (op.Put resource cookie offset bytes) u = (tt, refl)
uncovered_fits v who (op.Cut resource cookie size) u = (tt, refl)
uncovered_fits v who o u = absurd u

written_fits : (v : Server) (who : Who) (o : Op) (holder : Lock) → WritesUnder v who o holder → IsOnObject o
    × (answer_fits o told.Done ≡ true)
written_fits v who (op.Put resource cookie offset bytes) holder u = (tt, refl)
written_fits v who (op.Cut resource cookie size) holder u = (tt, refl)
written_fits v who o holder u = absurd u

pub answers_object : (osts : ℕ) (past : List Line) (at : At) (t : ℕ) (d : Deed) → AnswersOk osts past at t d → OfObject d
answers_object osts past at t d (inl ok) = of_object d (op.Get ok.resource ok.cookie ok.page) _ (ap (λ (e : Deed). e.op) ok.is ∙ ok.of_op)
    (ap (λ (e : Deed). e.reply.answer) ok.is) (ap (λ (e : Deed). e.reply.locks) ok.is) tt refl tt
answers_object osts past at t d (inr (inl ok)) =
    let k = uncovered_fits (server_of osts past) ok.request.who ok.request.op ok.uncovered in
    of_object d ok.request.op told.Uncovered (ap (λ (e : Deed). e.op) ok.is) (ap (λ (e : Deed). e.reply.answer) ok.is)
    (ap (λ (e : Deed). e.reply.locks) ok.is) k.0 k.1 tt
answers_object osts past at t d (inr (inr (inl ok))) = of_object d (op.Size ok.resource) told.Lock
    (ap (λ (e : Deed). e.op) ok.is ∙ ok.of_op) (ap (λ (e : Deed). e.reply.answer) ok.is) (ap (λ (e : Deed). e.reply.locks) ok.is) tt refl tt
answers_object osts past at t d (inr (inr (inr (inl ok)))) = of_object d (op.Size ok.resource) told.Lock
    (ap (λ (e : Deed). e.op) ok.is ∙ ok.of_op) (ap (λ (e : Deed). e.reply.answer) ok.is) (ap (λ (e : Deed). e.reply.locks) ok.is) tt refl tt
answers_object osts past at t d (inr (inr (inr (inr ok)))) = of_object d (op.Size ok.resource) _ (ap (λ (e : Deed). e.op) ok.is ∙ ok.of_op)
    (ap (λ (e : Deed). e.reply.answer) ok.is) (ap (λ (e : Deed). e.reply.locks) ok.is) tt refl tt

pub write_object : (osts : ℕ) (past : List Line) (at : At) (d : Deed) → WriteOk osts past at d → OfObject d
write_object osts past at d ok =
    let k = written_fits (server_of osts past) ok.request.who ok.request.op ok.holder ok.under in
    of_object d ok.request.op told.Done (ap (λ (e : Deed). e.op) ok.is) (ap (λ (e : Deed). e.reply.answer) ok.is)
    (ap (λ (e : Deed). e.reply.locks) ok.is) k.0 k.1 tt

-- ---- by target

module _ (osts : ℕ) (past : List Line) (at : At) (t : ℕ) (high : 0 < t) where
  acts_object : (d : Deed) → ActsOk osts past at t d → OfObject d
  acts_object d (inl ok) = absurd (let zero = ok.0 in omega (arith, high, zero))
  acts_object d (inr ok) = sized_object osts past at d ok.1

  txns_object : (d : Deed) → TxnsOk osts past at t d → OfObject d
  txns_object d (inl ok) = absurd (let zero = ok.0 in omega (arith, high, zero))
  txns_object d (inr ok) = write_object osts past at d ok.1

  grants_object : (lock : Lock) (d : Deed) → GrantsOk osts past at t lock d → OfObject d
  grants_object lock d (inl ok) = absurd (let zero = ok.0 in omega (arith, high, zero))
  grants_object lock d (inr ok) = range_object osts past at lock d ok.1

pub acted_object : (head : Head) (past : List Line) (t : ℕ) (d : Deed) → 0 < t → Grown head past → Acted (only t past) d → OfObject d
acted_object head [] t d high g a = absurd a
acted_object head (l ∷ past) t d high g a =
    cond_both (concerns t l.at.node l.entry) (l ∷ only t past) (only t past) (λ (p : List Line). Acted p d → OfObject d)
    (λ o b. by l.at.node l.entry g.0 o b (acted_object head past t d high g.1))
    (λ o b. acted_object head past t d high g.1 b)
    a
  where
    here : (u : ℕ) → nat_eq t u ≡ true → 0 < u
    here u o = subst (λ (v : ℕ). 0 < v) (eqb-true t u o) high

    by : (node : Node) (e : Entry) → Allowed head past (turn l.at.stamp node) e → concerns t node e ≡ true
        → Acted (line (turn l.at.stamp node) e ∷ only t past) d → (Acted (only t past) d → OfObject d) → OfObject d
    by (Client c) (Act x) k o b h = absurd k.ok
    by (Client c) (Made x) k o b h = absurd k.ok
    by (Client c) (Grant lock asked) k o b h = absurd k.ok
    by (Client c) (Wait lock x) k o b h = absurd k.ok
    by (Client c) (Answers x) k o b h = absurd k.ok
    by (Target u) (Act x) k o (inl p) h = subst OfObject p (acts_object head.osts (only t past) (turn l.at.stamp (Target u)) u (here u o) x
        (k.of t o))
    by (Target u) (Act x) k o (inr b) h = h b
    by (Target u) (Made x) k o (inl p) h = subst OfObject p (txns_object head.osts (only t past) (turn l.at.stamp (Target u)) u (here u o) x
        (k.of t o))
    by (Target u) (Made x) k o (inr b) h = h b
    by (Target u) (Grant lock (Some x)) k o (inl p) h = subst OfObject (some_is x d p)
        (grants_object head.osts (only t past) (turn l.at.stamp (Target u)) u (here u o) lock x (k.of t o))
    by (Target u) (Grant lock None) k o (inl p) h = absurd (cc)
    by (Target u) (Grant lock asked) k o (inr b) h = h b
    by (Target u) (Wait lock x) k o (inl p) h = subst OfObject p
        (wait_object head.osts (only t past) (turn l.at.stamp (Target u)) lock x (k.of t o).1)
    by (Target u) (Wait lock x) k o (inr b) h = h b
    by (Target u) (Answers x) k o (inl p) h = subst OfObject p (answers_object head.osts (only t past) (turn l.at.stamp (Target u)) u x
        (k.of t o).1)
    by (Target u) (Answers x) k o (inr b) h = h b
    by _ _ k o b h = h b
