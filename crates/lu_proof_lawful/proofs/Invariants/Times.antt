-- When things happen: turns rise, and what acts for a request in flight, or what a holder says for it, comes after the begin of its call.
use Rattle.std.proofs.Common.{◌≡◌, ℕ, ◌+◌, Bool, true, false, List, [], ◌∷◌, ◌++◌, Option, Some, None, ◌⊎◌, inl, inr, ⊎_elim, refl, sym}
use Rattle.std.proofs.Common.{subst, ap, ◌∙◌, arith}
use Rattle.std.specs.Prelude.{nat_eq, not, ◌&&◌, if◌then◌else◌}
use Rattle.std.proofs.lemmas.Bool.{and_parts, cond_both, eqb-true}
use Rattle.lu_base.specs.declared.ids.At.{At}
use Rattle.lu_base.specs.declared.ids.Node.{Node}
use Rattle.lu_base.specs.declared.ids.Node.TheVariants.{Client, Target}
use Rattle.lu_base.specs.declared.ids.Stamp.{Stamp}
use Rattle.lu_base.specs.declared.ids.Who.{Who}
use Rattle.lu_base.specs.declared.ids.Xid.{Xid}
use Rattle.lu_msg.specs.declared.messages.Message.{Message}
use Rattle.lu_msg.specs.declared.messages.Message.TheVariants as message
use Rattle.lu_msg.specs.declared.messages.SizeReport.{SizeReport}
use Rattle.lu_spec_entries.specs.Carried.{Deed, Flight, Running}
use Rattle.lu_spec_entries.specs.Words.{Entry, Send, Tick, Flies, Heard, Life, Line, line, turn_before}
use Rattle.lu_spec_entries.specs.Concerns.{concerns, only}
use Rattle.lu_spec_target.specs.Glimpses.{by_holder}
use Rattle.lu_proof_lawful.specs.Covered.Calls.{call_at, life_at}
use Rattle.lu_proof_lawful.specs.Covered.Imports.{without_flight, flights_at}
use Rattle.lu_proof_lawful.specs.Covered.ClientStates.{last_of, life_of}
use Rattle.lu_proof_lawful.specs.Covered.Heads.{Head}
use Rattle.lu_proof_lawful.proofs.Preconditions.Guards.{In, Was, Steps, Closes, Owes, EntryOk}
use Rattle.lu_proof_lawful.proofs.Preconditions.Lists.{self, in_append, in_filter, turn_trans}
use Rattle.lu_proof_lawful.proofs.Preconditions.Only.{was_more, was_back}
use Rattle.lu_proof_lawful.proofs.Preconditions.Parts.{life_is_of}
use Rattle.lu_proof_lawful.proofs.Invariants.Groups.{turn, HoldsAt, CallOf, Asks, Upto, Reached, Reaches, Since, Informs}
use Rattle.lu_proof_lawful.proofs.Invariants.TargetGroups.{Acted}
use Rattle.lu_proof_lawful.proofs.Invariants.Lines.{AtEach, DoneBy, acted_line, DoneIn, done_here, reported_said}
use Rattle.lu_proof_lawful.proofs.Preconditions.Calls.{Began, Touched, Stood, call_cases}
use Rattle.lu_proof_lawful.proofs.Preconditions.Endings.{later_ends}

-- ---- turns

pub upto_trans : (a b c : At) → Upto a b → Upto b c → Upto a c
upto_trans a b c (inl p) q = subst (λ (v : At). Upto v c) (sym p) q
upto_trans a b c (inr p) (inl q) = inr (subst (λ (v : At). turn_before a v ≡ true) q p)
upto_trans a b c (inr p) (inr q) = inr (turn_trans a b c p q)

pub reached_on : (past : List Line) (at a : At) → Steps past at → Reached past a → Upto a at
reached_on [] at a s r = absurd r
reached_on (l ∷ past) at a s r = upto_trans a l.at at r s

-- ---- what a holder says

-- it says it in its own turn
said_now : (past : List Line) (stamp : Stamp) (node to : Node) (m : SizeReport)
    → EntryOk past (turn stamp node) node (Send to (message.Size m)) → ((c : ℕ) → (life_at c past).client ≡ c) → by_holder m
    ≡ turn stamp node
said_now past stamp (Client c) (Target t) m ok own = is m.stamp stamp m.who.client c ok.of_turn
    (ap (λ (w : Who). w.client) ok.of_life ∙ own c)
  where
    is : (a b : Stamp) (d e : ℕ) → a ≡ b → d ≡ e → ◌≡◌ {A = At} (record { stamp = a; node = Client d })
        (record { stamp = b; node = Client e })
    is a b d e p q = rw (p, q) refl
said_now past stamp (Client c) (Client d) m ok own = absurd ok
said_now past stamp (Target t) (Client c) m ok own = absurd ok
said_now past stamp (Target t) (Target u) m ok own = absurd ok

-- a client's life is its own
pub own_life : (head : Head) (past : List Line) → ((t : ℕ) → HoldsAt head (only t past)) → (c : ℕ) → (life_at c past).client ≡ c
own_life head past at c = ap (λ (w : Who). w.client) (life_is_of c 0 past) ∙ (at 0).phase.client c

pub keeps_reaches : (head : Head) (past : List Line) (stamp : Stamp) (node : Node) (e : Entry) → Steps past (turn stamp node)
    → EntryOk past (turn stamp node) node e → AtEach head past (turn stamp node) node e → Owes past (turn stamp node) e
    → ((t : ℕ) → HoldsAt head (only t past)) → Reaches past → Reaches (line (turn stamp node) e ∷ past)
keeps_reaches head past stamp node e s ok of owes at h =
    record {
      acted = λ d a. ⊎_elim
          (λ (p : DoneBy e d). let k = done_here head past stamp node e ok of owes d p in acts d k.0 k.1 k.2)
          (λ (p : Acted past d). reached_on past (turn stamp node) d.reply.at s (h.acted d p))
          (acted_line (turn stamp node) e past d a);
      said = λ from to m w. says from to m e ok w;
      begun = λ c slot r k. ⊎_elim
          (λ (p : call_at c slot past ≡ Some r). reached_on past (turn stamp node) r.at s (h.begun c slot r p))
          (λ (p : Began past (turn stamp node) e c slot r ⊎ (Touched past node e c slot r ⊎ Stood past (turn stamp node) c slot r)). ⊎_elim
          (λ (q : Began past (turn stamp node) e c slot r). inl q.at)
          (⊎_elim
          (λ (q : Touched past node e c slot r). subst (λ (v : At). Upto v (turn stamp node)) q.at
          (reached_on past (turn stamp node) q.before.at s (h.begun c slot q.before q.call)))
          (λ (q : Stood past (turn stamp node) c slot r). subst (λ (v : At). Upto v (turn stamp node)) q.at
          (reached_on past (turn stamp node) q.before.at s (h.begun c slot q.before q.call))))
          p)
          (call_cases past stamp node e ok c slot r k);
    }
  where
    acts : (d : Deed) (t : ℕ) → node ≡ Target t → DoneIn head past stamp t d → Upto d.reply.at (turn stamp node)
    acts d t here (inl q) = inl (q ∙ ap (turn stamp) (sym here))
    acts d t here (inr k) =
        let r = reported_said head.osts (only t past) (turn stamp (Target t)) t d k in
        subst (λ (v : At). Upto v (turn stamp node)) (sym r.1) (reached_on past (turn stamp node) (by_holder k.report) s
        (h.said (Client r.0.0) (Target t) k.report (was_back t past (Client r.0.0) (Target t) (message.Size k.report) r.0.1)))

    says : (from to : Node) (m : SizeReport) (x : Entry) → EntryOk past (turn stamp node) node x
        → Was (line (turn stamp node) x ∷ past) from to (message.Size m) → Upto (by_holder m) (turn stamp node)
    says from to m (Send into p) ok (inl q) = inl (said_now past stamp node into m
        (subst (λ (v : Message). EntryOk past (turn stamp node) node (Send into v)) q.2 ok) (own_life head past at))
    says from to m (Send into p) ok (inr w) = reached_on past (turn stamp node) (by_holder m) s (h.said from to m w)
    says from to m x ok w = reached_on past (turn stamp node) (by_holder m) s (h.said from to m w)

-- ---- what acts for a call

-- what is in flight is of the life before, and was so before or has the next number
abbrev Flew : (past new : List Line) (c t : ℕ) → Flight → Type 0
Flew past new c t f = (life_at c new ≡ life_at c past) × (In f (flights_at c t past) ⊎ (f.xid ≡ last_of (life_at c past) (only t past) + 1))

fly_before : (head : Head) (past : List Line) (stamp : Stamp) (node : Node) (e : Entry) → EntryOk past (turn stamp node) node e
    → AtEach head past (turn stamp node) node e
    → (c t : ℕ) (f : Flight) → In f (flights_at c t (line (turn stamp node) e ∷ past)) → Flew past (line (turn stamp node) e ∷ past) c t f
fly_before head past stamp (Client d) (Flies v g) ok of c t f =
    let k = of v (self v) in
    cond_both (nat_eq c d && nat_eq t v) (flights_at c t past ++ g ∷ []) (flights_at c t past)
    (λ (fs : List Flight). In f fs → Flew past (line (turn stamp (Client d)) (Flies v g) ∷ past) c t f)
    (λ o i.
    let p = and_parts (nat_eq c d) (nat_eq t v) o in
    let x : g.xid ≡ last_of (life_of d (only v past)) (only v past) + 1 = ap (λ (w : Flight). w.xid) k.is in
    let y : last_of (life_at c past) (only t past) ≡ last_of (life_of d (only v past)) (only v past) =
    ap (λ w. last_of w (only t past)) (life_is_of c t past) ∙ ap (λ w. last_of (life_of w (only t past)) (only t past)) (eqb-true c d p.0)
    ∙ ap (λ w. last_of (life_of d (only w past)) (only w past)) (eqb-true t v p.1) in
    ⊎_elim
    (λ (j : In f (flights_at c t past)). (refl, inl j))
    (λ (j : In f (g ∷ [])). ⊎_elim (λ (q : g ≡ f). let z : g.xid ≡ f.xid = ap (λ (w : Flight). w.xid) q in (refl, inr (omega arith)))
    (λ (w : ⊥). absurd w) j)
    (in_append f (flights_at c t past) (g ∷ []) i))
    (λ o i. (refl, inl i))
fly_before head past stamp (Client d) (Heard v g r) ok of c t f =
    cond_both (nat_eq c d && nat_eq t v) (without_flight g.xid (flights_at c t past)) (flights_at c t past)
    (λ (fs : List Flight). In f fs → Flew past (line (turn stamp (Client d)) (Heard v g r) ∷ past) c t f)
    (λ o i. (refl, inl (in_filter (λ (w : Flight). not (nat_eq w.xid g.xid)) f (flights_at c t past) i).0))
    (λ o i. (refl, inl i))
fly_before head past stamp (Client d) (Life who) ok of c t f = by (nat_eq c d)
  where
    by : (b : Bool) → In f (if b && true then [] else flights_at c t past) → ((if b then who else life_at c past) ≡ life_at c past)
        × (In f (flights_at c t past) ⊎ (f.xid ≡ last_of (life_at c past) (only t past) + 1))
    by true i = absurd i
    by false i = (refl, inl i)
fly_before head past stamp (Target u) Tick ok of c t f = λ i. (refl, inl i)
fly_before head past stamp node e ok of c t f = λ i. (refl, inl i)

-- nothing has acted for the next number
none_acted : (head : Head) (past : List Line) (who : Who) (x : ℕ) → HoldsAt head past → (d : Deed) → Acted past d → d.reply.who ≡ who
    → d.reply.xid.0 ≡ x → x ≡ last_of who past + 1 → ⊥
none_acted head past who x h d a w y n =
    let f = h.done.flew d a in
    let low = (h.numbers.tagged d.reply.who f.0 f.1).low in
    let u : last_of d.reply.who past ≡ last_of who past = ap (λ v. last_of v past) w in
    let v = f.2 in
    omega arith

-- a call that has just begun has nothing in flight
none_flies : (past : List Line) (c t slot : ℕ) (f : Flight) → CallOf past c t f.slot f.op → f.slot ≡ Some slot → call_at c slot past ≡ None
    → ⊥
none_flies past c t slot f k s n =
    let q = subst (λ (v : Option ℕ). CallOf past c t v f.op) s k in
    let w = q.1 in
    absurd (cc)

-- a holder has said nothing for the next number
none_said : (head : Head) (past : List Line) (who : Who) (x : ℕ) → HoldsAt head past → (from : Node) (t : ℕ) (m : SizeReport)
    → Was past from (Target t) (message.Size m) → m.for_who ≡ who → m.xid.0 ≡ x → x ≡ last_of who past + 1 → ⊥
none_said head past who x h from t m w y z n =
    let f = h.done.sent from (Target t) (message.Size m) w in
    let low = (h.numbers.tagged m.for_who f.0 f.1).low in
    let u : last_of m.for_who past ≡ last_of who past = ap (λ v. last_of v past) y in
    let v = f.2 in
    omega arith

-- in what concerns a target a message came with this line, or was sent before
only_was : (t : ℕ) (l : Line) (past : List Line) (from to : Node) (m : Message) → Was (only t (l ∷ past)) from to m
    → Was (l ∷ only t past) from to m
only_was t l past from to m = cond_both (concerns t l.at.node l.entry) (l ∷ only t past) (only t past)
    (λ (p : List Line). Was p from to m → Was (l ∷ only t past) from to m) (λ q w. w) (λ q w. was_more l (only t past) from to m w)

pub was_only_more : (t : ℕ) (l : Line) (past : List Line) (from to : Node) (m : Message) → Was (only t past) from to m
    → Was (only t (l ∷ past)) from to m
was_only_more t l past from to m w = cond_both (concerns t l.at.node l.entry) (l ∷ only t past) (only t past)
    (λ (p : List Line). Was p from to m) (λ q. was_more l (only t past) from to m w) (λ q. w)

-- what was done in what concerns a target was done with this line, which concerns it, or before
acted_here_or : (t : ℕ) (l : Line) (past : List Line) (d : Deed) → Acted (only t (l ∷ past)) d
    → (DoneBy l.entry d × (concerns t l.at.node l.entry ≡ true)) ⊎ Acted (only t past) d
acted_here_or t l past d =
    cond_both (concerns t l.at.node l.entry) (l ∷ only t past) (only t past)
    (λ (p : List Line). Acted p d → (DoneBy l.entry d × (concerns t l.at.node l.entry ≡ true)) ⊎ Acted (only t past) d)
    (λ q a. ⊎_elim (λ (b : DoneBy l.entry d). inl (b, q)) (λ (b : Acted (only t past) d). inr b)
    (acted_line l.at l.entry (only t past) d a))
    (λ q a. inr a)

module _ (head : Head) (past : List Line) (stamp : Stamp) (node : Node) (e : Entry) (closes : Closes past (turn stamp node))
    (ok : EntryOk past (turn stamp node) node e) (of : AtEach head past (turn stamp node) node e)
    (owes : Owes past (turn stamp node) e) where
  abbrev later : List Line
  later = line (turn stamp node) e ∷ past

  -- what happened before for a request in flight did so after the begin of its call
  since_old : Asks past → (c t slot : ℕ) (f : Flight) (r : Running) (a : At) → In f (flights_at c t later) → f.slot ≡ Some slot
      → call_at c slot later ≡ Some r
      → ((q : Running) → In f (flights_at c t past) → call_at c slot past ≡ Some q → Upto q.at a)
      → (f.xid ≡ last_of (life_at c past) (only t past) + 1 → ⊥) → Upto r.at a
  since_old asks c t slot f r a i s k old new =
      let flew = fly_before head past stamp node e ok of c t f i in
      ⊎_elim
      (λ (j : In f (flights_at c t past)). ⊎_elim
      (λ (p : call_at c slot past ≡ Some r). old r j p)
      (λ (p : Began past (turn stamp node) e c slot r ⊎ (Touched past node e c slot r ⊎ Stood past (turn stamp node) c slot r)). ⊎_elim
      (λ (q : Began past (turn stamp node) e c slot r). absurd (none_flies past c t slot f
      (asks.fly_calls c t f (later_ends past (turn stamp node) c closes q.later) j) s q.none))
      (⊎_elim
      (λ (q : Touched past node e c slot r). subst (λ (v : At). Upto v a) q.at (old q.before j q.call))
      (λ (q : Stood past (turn stamp node) c slot r). subst (λ (v : At). Upto v a) q.at (old q.before j q.call)))
      p)
      (call_cases past stamp node e ok c slot r k))
      (λ (n : f.xid ≡ last_of (life_at c past) (only t past) + 1). absurd (new n))
      flew.1

  -- what a holder says now it says after each begin so far
  pub keeps_informs : ((t : ℕ) → HoldsAt head (only t past)) → Asks past → Reaches later → Informs past → Informs later
  keeps_informs at asks reaches h c t slot f r from m i s k w who x =
      by e ok (only_was t (line (turn stamp node) e) past from (Target t) (message.Size m) w)
    where
      mine : m.for_who ≡ life_at c past
      mine = who ∙ (fly_before head past stamp node e ok of c t f i).0

      old : Was (only t past) from (Target t) (message.Size m) → Upto r.at (by_holder m)
      old v =
          since_old asks c t slot f r (by_holder m) i s k (λ q j n. h c t slot f q from m j s n v mine x)
          (none_said head (only t past) (life_at c past) f.xid (at t) from t m v mine x)

      by : (y : Entry) → EntryOk past (turn stamp node) node y → Was (line (turn stamp node) y ∷ only t past) from (Target t)
          (message.Size m) → Upto r.at (by_holder m)
      by (Send into p) ok (inl q) = subst (λ (v : At). Upto r.at v)
          (sym (said_now past stamp node into m (subst (λ (v : Message). EntryOk past (turn stamp node) node (Send into v)) q.2 ok)
          (own_life head past at))) (reaches.begun c slot r k)
      by (Send into p) ok (inr v) = old v
      by y ok v = old v

  -- what acts now acts after each begin so far
  pub keeps_since : ((t : ℕ) → HoldsAt head (only t past)) → Asks past → Reaches later → Informs later → Since past → Since later
  keeps_since at asks reaches informs h c t slot f r d i s k a w x =
      ⊎_elim
      (λ (p : DoneBy e d × (concerns t node e ≡ true)). let q = done_here head past stamp node e ok of owes d p.0 in here q.0 q.1 q.2 p.1)
      (λ (p : Acted (only t past) d).
      since_old asks c t slot f r d.reply.at i s k (λ q j n. h c t slot f q d j s n p mine x)
      (none_acted head (only t past) (life_at c past) f.xid (at t) d p mine x))
      (acted_here_or t (line (turn stamp node) e) past d a)
    where
      mine : d.reply.who ≡ life_at c past
      mine = w ∙ (fly_before head past stamp node e ok of c t f i).0

      here : (u : ℕ) → node ≡ Target u → DoneIn head past stamp u d → concerns t node e ≡ true → Upto r.at d.reply.at
      here u q (inl z) g = subst (λ (v : At). Upto r.at v) (sym (z ∙ ap (turn stamp) (sym q))) (reaches.begun c slot r k)
      here u q (inr z) g =
          let same : t ≡ u = eqb-true t u (subst (λ (v : Node). concerns t v e ≡ true) q g) in
          let said = reported_said head.osts (only u past) (turn stamp (Target u)) u d z in
          let was : Was (only t past) (Client said.0.0) (Target t) (message.Size z.report) =
          subst (λ v. Was (only v past) (Client said.0.0) (Target v) (message.Size z.report)) (sym same) said.0.1 in
          subst (λ (v : At). Upto r.at v) (sym said.1)
          (informs c t slot f r (Client said.0.0) z.report i s k
          (was_only_more t (line (turn stamp node) e) past (Client said.0.0) (Target t) (message.Size z.report) was)
          (sym said.2 ∙ w) (ap (λ (v : Xid). v.0) (sym said.3) ∙ x))
