-- The law of acts holds of the printed past of every grown one, for all lives that will be out and all numbers
-- that will be lost, as far as none of a deed that is told is.
use Rattle.std.proofs.Common.{◌≡◌, ℕ, suc, ◌≤◌, Bool, List, [], ◌∷◌, ◌⊎◌, inl, inr, ⊎_elim, refl, sym, subst, ap, ◌∙◌, arith}
use Rattle.std.specs.Prelude.{nat_eq, not, ◌&&◌, true, false}
use Rattle.lu_trace.specs.declared.entries.Entry.TheVariants as trace
use Rattle.std.proofs.lemmas.Bool.{and_parts, cond_both, eqb-true, or_left, or_right, or_cases, not-true}
use Rattle.lu_base.specs.declared.ids.At.{At}
use Rattle.lu_base.specs.declared.ids.Node.{Node}
use Rattle.lu_base.specs.declared.ids.Node.TheVariants.{Client, Target}
use Rattle.lu_base.specs.declared.ids.Stamp.{Stamp}
use Rattle.lu_base.specs.declared.ids.Txn.{Txn as TxnOf}
use Rattle.lu_base.specs.declared.ids.Who.{Who}
use Rattle.lu_spec_machine.specs.Tree.{same_life}
use Rattle.lu_spec_entries.specs.Carried.{Deed}
use Rattle.lu_spec_entries.specs.Words.{Entry, Act, Txn as Made, Grant, Wait, Answers as Responds, Line, line}
use Rattle.lu_spec_entries.specs.Concerns.{concerns, only}
use Rattle.lu_spec_entries.specs.Printed.{printed}
use Rattle.lu_proof_lawful.specs.Covered.Heads.{Head}
use Rattle.lu_spec_laws.specs.Words.Pasts as pasts
use Rattle.lu_spec_laws.specs.Laws.Acts.{acts_there, acted, made, standing_count}
use Rattle.lu_spec_laws.proofs.Tests.{target_is as of_target}
use Rattle.lu_proof_lawful.specs.Fits.{ReplyStands}
use Rattle.lu_proof_lawful.proofs.Preconditions.Grown.{Allowed, Grown}
use Rattle.lu_proof_lawful.proofs.Preconditions.ClientLines.{some_is}
use Rattle.lu_proof_lawful.proofs.Preconditions.Lists.{self, life_is}
use Rattle.lu_proof_lawful.proofs.Invariants.Groups.{turn}
use Rattle.lu_proof_lawful.proofs.Invariants.TargetGroups.{Acted, IsMade, Stands as StandsSoFar}
use Rattle.lu_proof_lawful.proofs.Invariants.Lines.{DoneBy, acted_line, acted_more}
use Rattle.lu_proof_lawful.proofs.Invariants.Sides.{IsReported}
use Rattle.lu_proof_lawful.proofs.Laws.Story.{target_is}
use Rattle.lu_proof_lawful.proofs.Laws.Deeds.{act_for, txn_for}
use Rattle.lu_proof_lawful.proofs.Laws.Turns.{same_turn_is}
use Rattle.lu_proof_lawful.proofs.Laws.Lost.{stood_before}
use Rattle.lu_proof_lawful.proofs.Laws.Once.{NoneFor, DoesNow, act_now, txn_now, granted_first, wait_high, responds_high, done_now}

-- ---- each request acts once in the whole trace

pub act_zero : (head : Head) (past : List Line) (stamp : Stamp) (node : Node) (d : Deed) → Allowed head past (turn stamp node) (Act d)
    → d.reply.txn.0 ≡ 0
act_zero head past stamp (Client c) d k = absurd k.ok
act_zero head past stamp (Target t) d k = ap (λ (n : TxnOf). n.0) (act_for head past stamp t d k).number

made_now : (head : Head) (past : List Line) (stamp : Stamp) (node : Node) (d : Deed) → Allowed head past (turn stamp node) (Made d)
    → IsMade d
made_now head past stamp (Client c) d k = absurd k.ok
made_now head past stamp (Target t) d k = let n = ap (λ (v : TxnOf). v.0) (txn_for head past stamp t d k).number in omega (arith, n)

-- what a target did in one turn for one request is one thing
pub one_turn : (head : Head) (past : List Line) (t : ℕ) (d e : Deed) → Grown head past → d.reply.at.node ≡ Target t → Acted past d
    → Acted past e → d.reply.at ≡ e.reply.at → d.reply.who ≡ e.reply.who → d.reply.xid.0 ≡ e.reply.xid.0 → d ≡ e
one_turn head [] t d e g here a b at who xid = absurd a
one_turn head (l ∷ past) t d e g here a b at who xid = either (λ p q. one_turn head past t d e g.1 here p q at who xid)
  where
    one : (x : Entry) → DoneBy x d → DoneBy x e → d ≡ e
    one (Act x) p q = sym p ∙ q
    one (Made x) p q = sym p ∙ q
    one (Grant lock asked) p q = some_is d e (sym p ∙ q)
    one (Wait lock x) p q = sym p ∙ q
    one (Responds x) p q = sym p ∙ q
    one _ p q = absurd p

    -- one was done now, the other before
    was : (x y : Deed) → x.reply.at.node ≡ Target t → DoneBy l.entry x → x.reply.at ≡ y.reply.at → x.reply.who ≡ y.reply.who → x.reply.xid.0
        ≡ y.reply.xid.0 → Acted past y → (Acted past x → x ≡ y) → x ≡ y
    was x y node p when life n old ih = ⊎_elim ih
        (⊎_elim
        (λ (now : DoesNow head past l.at x). absurd (now.now y old (sym when ∙ now.turn) (sym life) (sym n)))
        (λ (r : IsReported x). absurd (let other : Client r.client ≡ Target t = sym r.node ∙ node in cc)))
        (done_now head past l.at.stamp l.at.node l.entry x g.0 g.1 p)

    either : (Acted past d → Acted past e → d ≡ e) → d ≡ e
    either ih = ⊎_elim
        (λ (p : DoneBy l.entry d). ⊎_elim
        (λ (q : DoneBy l.entry e). one l.entry p q)
        (λ (q : Acted past e). was d e here p at who xid q (λ x. ih x q))
        (acted_line l.at l.entry past e b))
        (λ (p : Acted past d). ⊎_elim
        (λ (q : DoneBy l.entry e). sym (was e d (sym (ap (λ (v : At). v.node) at) ∙ here) q (sym at) (sym who) (sym xid) p
        (λ x. sym (ih p x))))
        (λ (q : Acted past e). ih p q)
        (acted_line l.at l.entry past e b))
        (acted_line l.at l.entry past d a)

-- what a target did, did it in a longer past
pub acted_on : (t : ℕ) (l : Line) (past : List Line) (d : Deed) → Acted (only t past) d → Acted (only t (l ∷ past)) d
acted_on t l past d a = cond_both (concerns t l.at.node l.entry) (l ∷ only t past) (only t past) (λ (p : List Line). Acted p d)
    (λ o. acted_more l.at l.entry (only t past) d a) (λ o. a)

module _ (lost : ℕ → ℕ → Bool) (t : ℕ) (who : Who) (x : ℕ) where
  -- no transaction of the request stands at the end
  abbrev pub NoneLeft : List Line → Type 0
  NoneLeft past = (d : Deed) → Acted (only t past) d → IsMade d → lost t d.reply.txn.0 ≡ false → d.reply.who ≡ who → d.reply.xid.0 ≡ x → ⊥

  abbrev counts : Node → Deed → Bool
  counts node d = pasts.is_target t node && same_life d.reply.who who && nat_eq d.reply.xid.0 x && not (lost t d.reply.txn.0)

  counted : (node : Node) (d : Deed) → counts node d ≡ true → (node ≡ Target t) × (d.reply.who ≡ who) × (d.reply.xid.0 ≡ x)
      × (lost t d.reply.txn.0 ≡ false)
  counted node d e =
      let a = and_parts (pasts.is_target t node && same_life d.reply.who who && nat_eq d.reply.xid.0 x) _ e in
      let b = and_parts (pasts.is_target t node && same_life d.reply.who who) _ a.0 in
      let c = and_parts (pasts.is_target t node) _ b.0 in
      (of_target t node c.0, life_is d.reply.who who c.1, eqb-true d.reply.xid.0 x b.1, not-true (lost t d.reply.txn.0) a.1)

  -- a transaction that counts is in the target's story
  now : (past : List Line) (at : At) (d : Deed) → at.node ≡ Target t → Acted (only t (line at (Made d) ∷ past)) d
  now past at d here = cond_both (concerns t at.node (Made d)) (line at (Made d) ∷ only t past) (only t past) (λ (p : List Line). Acted p d)
      (λ o. inl refl)
      (λ o. absurd (let is = ap (λ (n : Node). concerns t n (Made d)) here ∙ self t in cc))

  pub none_counts : (head : Head) (past : List Line) → Grown head past → NoneLeft past → standing_count lost t who x (printed past) ≡ 0
  none_counts head [] g n = refl
  none_counts head (l ∷ past) g n = by l.at.node l.entry g.0 (none_counts head past g.1 (λ d a. n d (acted_on t l past d a))) n
    where
      by : (node : Node) (e : Entry) → Allowed head past (turn l.at.stamp node) e → standing_count lost t who x (printed past) ≡ 0
          → NoneLeft (line (turn l.at.stamp node) e ∷ past) → standing_count lost t who x (printed (line (turn l.at.stamp node) e ∷ past))
          ≡ 0
      by node (Made d) k h n = cond_both (counts node d) (suc (standing_count lost t who x (printed past)))
          (standing_count lost t who x (printed past)) (λ (v : ℕ). v ≡ 0)
          (λ e. let c = counted node d e in absurd (n d (now past (turn l.at.stamp node) d c.0) (made_now head past l.at.stamp node d k) c.3
          c.1 c.2))
          (λ e. h)
      by node e k h n = h

  -- at most one transaction counts
  pub at_most : (head : Head) (past : List Line) → Grown head past
      → ((d : Deed) → Acted (only t past) d → IsMade d → lost t d.reply.txn.0 ≡ false → StandsSoFar head.osts (only t past) d)
      → standing_count lost t who x (printed past) ≤ 1
  at_most head [] g stands = omega arith
  at_most head (l ∷ past) g stands = by l.at.node l.entry g.0 (at_most head past g.1 earlier) stands
    where
      earlier : (d : Deed) → Acted (only t past) d → IsMade d → lost t d.reply.txn.0 ≡ false → StandsSoFar head.osts (only t past) d
      earlier d a made stays = stood_before head.osts t l past d.reply.txn.0 (stands d (acted_on t l past d a) made stays)

      by : (node : Node) (e : Entry) → Allowed head past (turn l.at.stamp node) e → standing_count lost t who x (printed past) ≤ 1
          → ((d : Deed) → Acted (only t (line (turn l.at.stamp node) e ∷ past)) d → IsMade d → lost t d.reply.txn.0 ≡ false
          → StandsSoFar head.osts (only t (line (turn l.at.stamp node) e ∷ past)) d)
          → standing_count lost t who x (printed (line (turn l.at.stamp node) e ∷ past)) ≤ 1
      by node (Made d) ok h stands =
          let does = txn_now head past l.at.stamp node d ok g.1 in
          cond_both (counts node d) (suc (standing_count lost t who x (printed past))) (standing_count lost t who x (printed past))
          (λ (v : ℕ). v ≤ 1)
          (λ e.
          let c = counted node d e in
          let new : NoneFor head past t d.reply.who d.reply.xid.0 =
          subst (λ (v : ℕ). NoneFor head past v d.reply.who d.reply.xid.0) (target_is does.target t (sym does.here ∙ c.0)) does.new in
          let none : NoneLeft past = λ e a made stays p q. new e a (inr (made, earlier e a made stays)) (p ∙ sym c.1) (q ∙ sym c.2) in
          let z = none_counts head past g.1 none in
          omega (arith, z))
          (λ e. h)
      by node e ok h stands = h

-- ---- an act of the printed past is one of the full one

-- of that life and number in that turn, without a transaction
abbrev pub ActIn : List Line → At → Who → ℕ → Type 0
ActIn past named who x = (d : Deed) × Acted past d × (d.reply.txn.0 ≡ 0) × (d.reply.at ≡ named) × (d.reply.who ≡ who) × (d.reply.xid.0 ≡ x)

pub act_in : (head : Head) (past : List Line) (named : At) (who : Who) (x : ℕ) → Grown head past → acted (printed past) named who x ≡ true
    → ActIn past named who x
act_in head [] named who x g a = absurd (cc)
act_in head (l ∷ past) named who x g a = by l.at.node l.entry g.0 (act_in head past named who x g.1) a
  where
    more : (node : Node) (e : Entry) → ActIn past named who x → ActIn (line (turn l.at.stamp node) e ∷ past) named who x
    more node e i = (i.0, acted_more (turn l.at.stamp node) e past i.0 i.1, i.2, i.3, i.4, i.5)

    by : (node : Node) (e : Entry) → Allowed head past (turn l.at.stamp node) e
        → (acted (printed past) named who x ≡ true → ActIn past named who x)
        → acted (printed (line (turn l.at.stamp node) e ∷ past)) named who x ≡ true
        → ActIn (line (turn l.at.stamp node) e ∷ past) named who x
    by node (Act d) k h a = ⊎_elim
        (λ (p : (pasts.is_target 0 node && pasts.same_turn (turn l.at.stamp node) named && same_life d.reply.who who
        && nat_eq d.reply.xid.0 x) ≡ true).
        let q = and_parts (pasts.is_target 0 node && pasts.same_turn (turn l.at.stamp node) named && same_life d.reply.who who) _ p in
        let r = and_parts (pasts.is_target 0 node && pasts.same_turn (turn l.at.stamp node) named) _ q.0 in
        let s = and_parts (pasts.is_target 0 node) (pasts.same_turn (turn l.at.stamp node) named) r.0 in (
          d,
          inl refl,
          act_zero head past l.at.stamp node d k,
          (act_now head past l.at.stamp node d k g.1).turn
              ∙ same_turn_is (turn l.at.stamp node) named s.1,
          life_is d.reply.who who r.1,
          eqb-true d.reply.xid.0 x q.1,
        ))
        (λ (p : acted (printed past) named who x ≡ true). more node (Act d) (h p))
        (or_cases (acts_there named who x (printed past) (record
        { at = turn l.at.stamp node; entry = trace.Act d.reply.who d.reply.xid d.reply.answer })) (acted (printed past) named who x) a)
    by node e k h a = more node e (h a)

-- what was done stands in the printed past
abbrev pub Stands : (ℕ → ℕ → Bool) → List Line → Deed → Type 0
Stands lost past d = (acted (printed past) d.reply.at d.reply.who d.reply.xid.0 ≡ true)
    ⊎ (made lost (printed past) d.reply.at d.reply.who d.reply.xid.0 ≡ true)

pub own_line : (at turn : At) (who : Who) (x : ℕ) → at ≡ turn → at.node ≡ Target 0
    → (pasts.is_target 0 at.node && pasts.same_turn at turn && same_life who who && nat_eq x x) ≡ true
own_line at turn who x same node =
    subst (λ (v : At). (pasts.is_target 0 at.node && pasts.same_turn at v && same_life who who && nat_eq x x) ≡ true) same
    (subst (λ (n : Node). (pasts.is_target 0 n && pasts.same_turn (record { stamp = at.stamp; node = n })
    (record { stamp = at.stamp; node = n }) && same_life who who && nat_eq x x) ≡ true) (sym node)
    (rw (self at.stamp.0, self who.client, self who.life, self x) refl))

pub acted_in : (head : Head) (lost : ℕ → ℕ → Bool) (past : List Line) → Grown head past → (d : Deed) → d.reply.at.node ≡ Target 0
    → Acted past d → ReplyStands (lost 0) d.reply → Stands lost past d
acted_in head lost [] g d first a s = absurd a
acted_in head lost (l ∷ past) g d first a s = by l.entry g.0 (λ i. acted_in head lost past g.1 d first i s) a
  where
    here : (e : Deed) → e.reply.at ≡ l.at → e ≡ d → l.at.node ≡ Target 0
    here e now p = ap (λ (v : At). v.node) (sym now) ∙ ap (λ (v : Deed). v.reply.at.node) p ∙ first

    by : (e : Entry) → Allowed head past l.at e → (Acted past d → Stands lost past d) → Acted (line l.at e ∷ past) d
        → Stands lost (line l.at e ∷ past) d
    by (Act e) ok h a = ⊎_elim
        (λ (p : e ≡ d). subst (λ (v : Deed). Stands lost (line l.at (Act e) ∷ past) v) p
        (let k = act_now head past l.at.stamp l.at.node e ok g.1
        in inl (or_left _ (acted (printed past) e.reply.at e.reply.who e.reply.xid.0)
        (own_line l.at e.reply.at e.reply.who e.reply.xid.0 (sym k.turn) (here e k.turn p)))))
        (λ (p : Acted past d). ⊎_elim
        (λ (i : acted (printed past) d.reply.at d.reply.who d.reply.xid.0 ≡ true). inl
        (or_right _ (acted (printed past) d.reply.at d.reply.who d.reply.xid.0) i))
        (λ (i : made lost (printed past) d.reply.at d.reply.who d.reply.xid.0 ≡ true). inr i)
        (h p))
        a
    by (Made e) ok h a = ⊎_elim
        (λ (p : e ≡ d). let k = txn_now head past l.at.stamp l.at.node e ok g.1 in
        let stands : lost 0 e.reply.txn.0 ≡ false = ap (λ (v : Deed). lost 0 v.reply.txn.0) p ∙ s.0 in
        subst (λ (v : Deed). Stands lost (line l.at (Made e) ∷ past) v) p
        (inr (or_left _ (made lost (printed past) e.reply.at e.reply.who e.reply.xid.0)
        (and_both (own_line l.at e.reply.at e.reply.who e.reply.xid.0 (sym k.turn) (here e k.turn p)) stands))))
        (λ (p : Acted past d). ⊎_elim
        (λ (i : acted (printed past) d.reply.at d.reply.who d.reply.xid.0 ≡ true). inl i)
        (λ (i : made lost (printed past) d.reply.at d.reply.who d.reply.xid.0 ≡ true). inr
        (or_right _ (made lost (printed past) d.reply.at d.reply.who d.reply.xid.0) i))
        (h p))
        a
      where
        and_both : {a b : Bool} → a ≡ true → b ≡ false → (a && not b) ≡ true
        and_both {a = true} {b = true} p q = absurd (cc)
        and_both {a = true} {b = false} p q = refl
        and_both {a = false} {b} p q = absurd (cc)
    by (Grant lock asked) ok h (inl q) = h (granted_first head past l.at.stamp l.at.node lock asked d ok q g.1 first)
    by (Grant lock asked) ok h (inr i) = h i
    by (Wait lock e) ok h (inl p) = absurd (wait_high head past l.at.stamp l.at.node lock e ok g.1
        (ap (λ (v : Deed). v.reply.at.node) p ∙ first))
    by (Wait lock e) ok h (inr i) = h i
    by (Responds e) ok h (inl p) = absurd (responds_high head past l.at.stamp l.at.node e ok g.1
        (ap (λ (v : Deed). v.reply.at.node) p ∙ first))
    by (Responds e) ok h (inr i) = h i
    by _ ok h a = h a
