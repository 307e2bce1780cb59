-- A close of a target's window in the story of an object: who leaves, which answers stand on, and which locks are granted.
use Rattle.std.proofs.Common.{◌≡◌, ◌∙◌, ℕ, ◌<◌, Bool, true, false, List, [], ◌∷◌, Some, None, ◌⊎◌, inl, inr, ⊎_elim, refl, sym, subst, ap}
use Rattle.std.proofs.Common.{arith}
use Rattle.std.specs.Prelude.{nat_eq, ◌||◌}
use Rattle.std.proofs.lemmas.Bool.{cond_both, or_parts, eqb-true}
use Rattle.std.proofs.lemmas.Bool.Decides.{nat_tests}
use Rattle.lu_base.specs.declared.ids.At.{At}
use Rattle.lu_base.specs.declared.ids.Node.{Node}
use Rattle.lu_base.specs.declared.ids.Node.TheVariants.{Client, Target}
use Rattle.lu_base.specs.declared.ids.Stamp.{Stamp}
use Rattle.lu_base.specs.declared.ids.Txn.{Txn as TxnOf}
use Rattle.lu_base.specs.declared.ids.Who.{Who}
use Rattle.lu_base.specs.declared.locks.Lock.{Lock as TableLock}
use Rattle.lu_base.specs.declared.locks.Resource.{Resource}
use Rattle.lu_msg.specs.declared.answers.Answer.{Answer as TableAnswer}
use Rattle.lu_msg.specs.declared.answers.Answer.TheVariants as told
use Rattle.lu_msg.specs.declared.messages.Reply.{Reply as ReplyTo}
use Rattle.lu_spec_entries.specs.Carried.{Deed, Gone, Outcome}
use Rattle.lu_spec_entries.specs.Words as word
use Rattle.lu_spec_entries.specs.Words.{Line, line, same_life}
use Rattle.lu_spec_entries.specs.Concerns.{concerns, only}
use Rattle.lu_spec_target.specs.Lives.{is_life, lives_of as lives_in}
use Rattle.lu_spec_target.specs.Phase.{first_of}
use Rattle.lu_proof_lawful.specs.Covered.TargetStates.{server_of, evicted_of, closed_of}
use Rattle.lu_proof_lawful.specs.Covered.TargetCloses.{disk_of, outcome_of, is_lost, loses, closing_of}
use Rattle.lu_proof_lawful.specs.Covered.Heads.{Head}
use Rattle.lu_proof_lawful.proofs.Preconditions.Acts.{acts_sized, sized_acted, sized_answer, write_made, write_answer, range_acted}
use Rattle.lu_proof_lawful.proofs.Preconditions.Acts.{range_answer, wait_acted, wait_answer}
use Rattle.lu_proof_lawful.proofs.Preconditions.ClientLines.{some_is}
use Rattle.lu_proof_lawful.proofs.Preconditions.Guards.{In}
use Rattle.lu_proof_lawful.proofs.Preconditions.StoryGuards.{CloseOk, ActsOk, TxnsOk, GrantsOk, WaitOk, AnswersOk}
use Rattle.lu_proof_lawful.proofs.Preconditions.Grown.{Allowed, Grown, ShowsNext}
use Rattle.lu_proof_lawful.proofs.Preconditions.LifeLists.{any_lives}
use Rattle.lu_proof_lawful.proofs.Preconditions.Lists.{turn}
use Rattle.lu_proof_lawful.proofs.Invariants.Groups.{HoldsAt}
use Rattle.lu_proof_lawful.proofs.Invariants.TargetGroups.{Acted, Counts, IsMade, Stands}
use Rattle.lu_proof_lawful.proofs.Invariants.ObjectDeeds.{IsWrite, write_op}
use Rattle.lu_proof_bytes.specs.Object.Words as words
use Rattle.lu_proof_bytes.specs.Object.Words.{Lock, Answer, Done, Entry, Close}
use Rattle.lu_proof_bytes.specs.Object.Folds.{HeldBy, Answered}
use Rattle.lu_proof_bytes.specs.Object.Folds as says
use Rattle.lu_proof_lawful.specs.Projection.Lives.{number_of}
use Rattle.lu_proof_lawful.specs.Projection.Locks.{lock_of}
use Rattle.lu_proof_lawful.specs.Projection.Closes.{lost_by, kept_of, gone_of, closes}
use Rattle.lu_proof_lawful.specs.Projection.Requests.{op_of, among, answer_of, answer_by}
use Rattle.lu_proof_lawful.proofs.Refinement.TiedAsked.{IsOn}
use Rattle.lu_proof_lawful.proofs.Refinement.TiedTarget.{CommittedAs, CommitsNext, AnsweredBy, TargetBy}
use Rattle.lu_proof_lawful.proofs.Refinement.TargetSame.{GivesSame, given_same, gives_same, names_same}
use Rattle.lu_proof_lawful.proofs.Refinement.TargetDeeds.{asked_by}
use Rattle.lu_proof_lawful.proofs.Refinement.TargetActs.{write_right}
use Rattle.lu_proof_lawful.proofs.Refinement.TargetLeaves.{number_same}

-- ---- what makes a transaction at an object storage target is a write-back that is done, and nothing else is answered so

abbrev pub IsDoneOrNot : Deed → Type 0
IsDoneOrNot d = (IsMade d × IsWrite d.op × (d.reply.answer ≡ told.Done)) ⊎ ((d.reply.txn.0 ≡ 0) × (d.reply.answer ≡ told.Done → ⊥))

done_not : (d : Deed) (a : TableAnswer) → d.reply.txn.0 ≡ 0 → d.reply.answer ≡ a → (a ≡ told.Done → ⊥) → IsDoneOrNot d
done_not d a zero is other = inr (zero, λ e. other (sym is ∙ e))

content_not : (bytes : List ℕ) → told.Content bytes ≡ told.Done → ⊥
content_not bytes e = absurd (cc)

size_not : (size : ℕ) → told.Size size ≡ told.Done → ⊥
size_not size e = absurd (cc)

txn_zero : (d : Deed) → d.reply.txn ≡ record { 0 = 0 } → d.reply.txn.0 ≡ 0
txn_zero d e = ap (λ (n : TxnOf). n.0) e

module _ (osts : ℕ) (past : List Line) (at : At) (t : ℕ) (high : 0 < t) where
  act_done : (d : Deed) → ActsOk osts past at t d → IsDoneOrNot d
  act_done d ok = let k = acts_sized osts past at t d high ok in done_not d _ (txn_zero d (sized_acted osts past at d k).number)
      (sized_answer osts past at d k) (λ e. absurd (cc))

  answers_done : (d : Deed) → AnswersOk osts past at t d → IsDoneOrNot d
  answers_done d (inl ok) = done_not d _ (ap (λ (e : Deed). e.reply.txn.0) ok.is) (ap (λ (e : Deed). e.reply.answer) ok.is) (content_not _)
  answers_done d (inr (inl ok)) = done_not d told.Uncovered (ap (λ (e : Deed). e.reply.txn.0) ok.is)
      (ap (λ (e : Deed). e.reply.answer) ok.is) (λ e. absurd (cc))
  answers_done d (inr (inr (inl ok))) = done_not d told.Lock (ap (λ (e : Deed). e.reply.txn.0) ok.is)
      (ap (λ (e : Deed). e.reply.answer) ok.is) (λ e. absurd (cc))
  answers_done d (inr (inr (inr (inl ok)))) = done_not d told.Lock (ap (λ (e : Deed). e.reply.txn.0) ok.is)
      (ap (λ (e : Deed). e.reply.answer) ok.is) (λ e. absurd (cc))
  answers_done d (inr (inr (inr (inr ok)))) = done_not d _ (ap (λ (e : Deed). e.reply.txn.0) ok.is)
      (ap (λ (e : Deed). e.reply.answer) ok.is) (size_not _)

  txn_done : (d : Deed) → TxnsOk osts past at t d → IsDoneOrNot d
  txn_done d (inl ok) = absurd (let zero = ok.0 in omega (arith, zero, high))
  txn_done d (inr ok) =
      let number = ap (λ (n : TxnOf). n.0) (write_made osts past at d ok.1).number in
      inl (omega (arith, number), write_op osts past at d ok.1, write_answer osts past at d ok.1)

  grant_done : (lock : TableLock) (d : Deed) → GrantsOk osts past at t lock d → IsDoneOrNot d
  grant_done lock d (inl ok) = absurd (let zero = ok.0 in omega (arith, zero, high))
  grant_done lock d (inr ok) = done_not d _ (txn_zero d (range_acted osts past at lock d ok.1).number)
      (range_answer osts past at lock d ok.1) (λ e. absurd (cc))

  wait_done : (lock : TableLock) (d : Deed) → WaitOk osts past at lock d → IsDoneOrNot d
  wait_done lock d ok = done_not d _ (txn_zero d (wait_acted osts past at lock d ok).number) (wait_answer osts past at lock d ok)
      (λ e. absurd (cc))

pub acted_done : (head : Head) (past : List Line) (t : ℕ) (d : Deed) → 0 < t → Grown head past → Acted (only t past) d → IsDoneOrNot d
acted_done head [] t d high g a = absurd a
acted_done head (l ∷ past) t d high g a =
    cond_both (concerns t l.at.node l.entry) (l ∷ only t past) (only t past) (λ (p : List Line). Acted p d → IsDoneOrNot d)
    (λ o b. by l.at.node l.entry g.0 o b (acted_done head past t d high g.1))
    (λ o b. acted_done head past t d high g.1 b)
    a
  where
    here : (u : ℕ) → nat_eq t u ≡ true → 0 < u
    here u o = let same = eqb-true t u o in omega (arith, same, high)

    by : (node : Node) (e : word.Entry) → Allowed head past (turn l.at.stamp node) e → concerns t node e ≡ true
        → Acted (line (turn l.at.stamp node) e ∷ only t past) d → (Acted (only t past) d → IsDoneOrNot d) → IsDoneOrNot d
    by (Client c) (word.Act x) k o b old = absurd k.ok
    by (Client c) (word.Txn x) k o b old = absurd k.ok
    by (Client c) (word.Grant lock asked) k o b old = absurd k.ok
    by (Client c) (word.Wait lock x) k o b old = absurd k.ok
    by (Client c) (word.Answers x) k o b old = absurd k.ok
    by (Target u) (word.Act x) k o b old = ⊎_elim
        (λ (e : x ≡ d). subst IsDoneOrNot e (act_done head.osts (only t past) (turn l.at.stamp (Target u)) u (here u o) x (k.of t o)))
        old b
    by (Target u) (word.Txn x) k o b old = ⊎_elim
        (λ (e : x ≡ d). subst IsDoneOrNot e (txn_done head.osts (only t past) (turn l.at.stamp (Target u)) u (here u o) x (k.of t o)))
        old b
    by (Target u) (word.Grant lock None) k o b old = ⊎_elim (λ (e : None ≡ Some d). absurd (cc)) old b
    by (Target u) (word.Grant lock (Some x)) k o b old = ⊎_elim
        (λ (e : Some x ≡ Some d). subst IsDoneOrNot (some_is x d e)
        (grant_done head.osts (only t past) (turn l.at.stamp (Target u)) u (here u o) lock x (k.of t o)))
        old b
    by (Target u) (word.Wait lock x) k o b old = ⊎_elim
        (λ (e : x ≡ d). subst IsDoneOrNot e (wait_done head.osts (only t past) (turn l.at.stamp (Target u)) u (here u o) lock x
        (k.of t o).1))
        old b
    by (Target u) (word.Answers x) k o b old = ⊎_elim
        (λ (e : x ≡ d). subst IsDoneOrNot e (answers_done head.osts (only t past) (turn l.at.stamp (Target u)) u (here u o) x (k.of t o).1))
        old b
    by _ _ k o b old = old b

-- ---- answers of the story

-- a write-back that is done was answered so
answer_done : (c : ℕ) (p : ReplyTo) (o : words.Op) (a : TableAnswer) (n : ℕ) → answer_by c p o a ≡ Done n → (a ≡ told.Done) × (p.txn.0 ≡ n)
answer_done c p (words.Enqueue write first last) (told.Granted cookie extent size) n e = absurd (cc)
answer_done c p (words.Enqueue write first last) (told.Waiting cookie) n e = absurd (cc)
answer_done c p (words.Get k at m) (told.Content bytes) n e = absurd (cc)
answer_done c p (words.Flush k change) told.Done n e = (refl, cc)
answer_done c p words.Size (told.Size size) n e = absurd (cc)
answer_done c p words.Size told.Lock n e = absurd (cc)
answer_done c p o a n e = absurd (cc)

-- ---- who leaves, and what is lost

pub gone_is : (gone : List Gone) (w : Who) → among (gone_of gone) (number_of w) ≡ is_life w (lives_in gone)
gone_is [] w = refl
gone_is (g ∷ gone) w =
    ap (λ (b : Bool). b || among (gone_of gone) (number_of w)) (turned (number_of g.who) (number_of w) ∙ number_same w g.who)
    ∙ ap (λ (b : Bool). same_life w g.who || b) (gone_is gone w)
  where
    turned : (a b : ℕ) → nat_eq a b ≡ nat_eq b a
    turned a b = grind (arith, nat_tests)

-- what is restored of the object is just what those hold of it who stay
pub record ClosesAs (r : Resource) (h : List Entry) (o : Outcome) : Type 0 where
  pub held : (m : Lock) → HeldBy h m → (among (gone_of o.gone) m.life || says.evicted m.life h) ≡ false → (l : TableLock) × In l o.locks
      × (l.resource ≡ r) × (lock_of l ≡ m)
  pub back : (l : TableLock) → In l o.locks → l.resource ≡ r → HeldBy h (lock_of l)
      × ((among (gone_of o.gone) (number_of l.ask.who) || says.evicted (number_of l.ask.who) h) ≡ false)

module _ (head : Head) (r : Resource) (past : List Line) (h : List Entry) (tied : TargetBy head r past h) (all : HoldsAt head past)
    (stamp : Stamp) (t : ℕ) (o : Outcome)
    (ok : CloseOk head past (turn stamp (Target t)) o) (next : ShowsNext head past (turn stamp (Target t)) (word.Close o)) where
  abbrev at_close : At
  at_close = turn stamp (Target t)

  abbrev closed_past : List Line
  closed_past = line at_close (word.Close o) ∷ past

  abbrev closed_told : List Entry
  closed_told = closes h o ∷ h

  pub close_exact : says.committed h ≡ (server_of head.osts past).committed.0
  close_exact = ⊎_elim (λ e. e) (λ p. absurd (none (closing_of head.clients past) refl p.1)) tied.committed
    where
      none : (es : List word.Entry) → closing_of head.clients past ≡ es → CommitsNext es → ⊥
      none [] q c = c
      none (e ∷ es) q c = absurd (let a : word.Close o ≡ e = (next e es q).0 in let b : word.Close o ≡ word.Commit c.0 c.1 = a ∙ c.2 in cc)

  pub lost_is : (n : ℕ) → lost_by (says.committed h) o.boot (kept_of o.kept) n ≡ loses (server_of head.osts past).committed.0 o n
  lost_is n = ap (λ (c : ℕ). lost_by c o.boot (kept_of o.kept) n) close_exact

  removed_is : (w : Who) → is_life w o.disk.removed ≡ (is_life w (lives_in o.gone) || is_life w (evicted_of past))
  removed_is w =
      subst (λ (x : Outcome). is_life w x.disk.removed ≡ (is_life w (lives_in x.gone) || is_life w (evicted_of past))) (sym ok.is)
      (any_lives (same_life w) (lives_in (outcome_of head.osts head.clients at_close past).gone)
      (disk_of head.osts head.clients past).removed
      ∙ ap (λ (ws : List Who). is_life w (lives_in (outcome_of head.osts head.clients at_close past).gone) || is_life w ws) ok.of_removed)

  pub close_evicts : (w : Who) → says.evicted (number_of w) closed_told ≡ is_life w (evicted_of closed_past)
  close_evicts w = ap (λ (b : Bool). b || says.evicted (number_of w) h) (gone_is o.gone w)
      ∙ ap (λ (b : Bool). is_life w (lives_in o.gone) || b) (tied.evicted w) ∙ sym (removed_is w)

  boot_above : closed_of past < o.boot
  boot_above =
      let same : o.boot ≡ (server_of head.osts past).boot = ap (λ (x : Outcome). x.boot) ok.is in
      let under = all.phase.under in
      let off = ok.recovers in
      grind (arith, nat_tests, same, under, off)

  close_gives : GivesSame past closed_past
  close_gives = record { gave = λ d l g. g; back = λ d l g. g }

  -- what counted and isn't lost now stands
  stands_on : (d : Deed) → Acted past d → IsMade d → Counts head.osts past d → loses (server_of head.osts past).committed.0 o d.reply.txn.0
      ≡ false → Stands head.osts closed_past d
  stands_on d a made c kept = ap (λ (b : Bool). b || loses (server_of head.osts past).committed.0 o d.reply.txn.0) (was c) ∙ kept
    where
      was : Counts head.osts past d → is_lost head.osts past d.reply.txn.0 ≡ false
      was (inl e) = let n = (all.done.numbers d a made).0 in all.history.later d.reply.txn.0 (let f = ap first_of e in omega (arith, n, f))
      was (inr s) = s.1

  close_answered : ((d : Deed) → Acted past d → IsDoneOrNot d) → (w x : ℕ) (a : Answer) → Answered closed_told w x a
      → AnsweredBy head r closed_past closed_told w x a
  close_answered kind w x a i =
      let was = tied.answered w x a i.0 in
      let is = answer_done w was.deed.reply was.op was.deed.reply.answer i.1.0 (was.answer ∙ i.1.1) in
      ⊎_elim
      (λ (p : IsMade was.deed × IsWrite was.deed.op × (was.deed.reply.answer ≡ told.Done)).
      record {
        deed = was.deed;
        acted = was.acted;
        counts = inr (
          p.0,
          stands_on was.deed was.acted p.0 was.counts
              (ap (λ (n : ℕ). loses (server_of head.osts past).committed.0 o n) is.1 ∙ sym (lost_is i.1.0) ∙ i.1.2),
        );
        on = was.on;
        op = was.op;
        is = was.is;
        who = was.who;
        xid = was.xid;
        answer = was.answer;
      })
      (λ (p : (was.deed.reply.txn.0 ≡ 0) × (was.deed.reply.answer ≡ told.Done → ⊥)). absurd (p.1 is.0))
      (kind was.deed was.acted)

  close_answers : ((d : Deed) → Acted past d → IsDoneOrNot d) → (d : Deed) (p : words.Op) → Acted past d → Counts head.osts closed_past d
      → IsOn r d.op → op_of r h d.op ≡ Some p
      → Answered closed_told (number_of d.reply.who) d.reply.xid.0 (answer_of (asked_by d p) d.reply)
  close_answers kind d p a (inl e) on is = absurd (let high = (all.done.boots d a).1 in let above = boot_above
      in omega (arith, high, above, e))
  close_answers kind d p a (inr s) on is = ⊎_elim
      (λ (k : IsMade d × IsWrite d.op × (d.reply.answer ≡ told.Done)). (
        tied.answers d p a (inr (
          s.0,
          (or_parts (is_lost head.osts past d.reply.txn.0)
              (loses (server_of head.osts past).committed.0 o d.reply.txn.0) s.1).0,
        )) on is,
        (
          d.reply.txn.0,
          sym (write_right r h (number_of d.reply.who) d.reply d.op p k.1 is k.2),
          lost_is d.reply.txn.0
              ∙ (or_parts (is_lost head.osts past d.reply.txn.0) (loses (server_of head.osts past).committed.0 o d.reply.txn.0) s.1).1,
        ),
      ))
      (λ (k : (d.reply.txn.0 ≡ 0) × (d.reply.answer ≡ told.Done → ⊥)). absurd
      (let zero = k.0 in let made = s.0 in omega (arith, zero, made)))
      (kind d a)

  -- with the locks that are held by who stays, which are just the restored ones
  pub tied_close : HoldsAt head closed_past → ((d : Deed) → Acted past d → IsDoneOrNot d)
      → ClosesAs r h o → CommittedAs head closed_past (says.committed closed_told) → TargetBy head r closed_past closed_told
  tied_close now kind locks committed =
      record {
        closed = refl;
        evicted = close_evicts;
        committed = committed;
        top = tied.top;
        given = given_same head r past closed_past h closed_told tied close_gives (λ c. refl);
        gives = gives_same head r past closed_past h closed_told tied close_gives (λ c. refl);
        granted = λ m i.
            let l = locks.held m i.0 i.1 in
            let g = now.locks.granted l.0 l.1 in
            (g.0, l.0, g.1, l.2, l.3, inl l.1);
        grants = λ l i on. locks.back l i on;
        waiting = λ m i. absurd i;
        queued = λ l i on. absurd i;
        names = names_same head r past closed_past h closed_told tied (λ d a. a) (λ c m e. e);
        answered = close_answered kind;
        answers = λ d p a c on is. close_answers kind d p a c on is;
      }
