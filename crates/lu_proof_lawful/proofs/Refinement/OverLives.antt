-- When the story of an object has a client's life fall silent: since it took the notice of its end. That is in the turn which ends it,
-- until the
-- next life begins, and no life to come has taken one.
use Rattle.std.proofs.Common.{◌≡◌, ℕ, ◌<◌, ◌≤◌, Bool, true, false, List, [], ◌∷◌, ◌⊎◌, inl, inr, ⊎_elim, refl, sym, subst, ap, ◌∙◌, arith}
use Rattle.std.specs.Prelude.{nat_eq, ◌&&◌, ◌||◌, ◌+◌, not, if◌then◌else◌}
use Rattle.std.proofs.lemmas.Bool.{cond_both, cond-false, eqb-true, and_parts, and_from, or_cases, or_from, or_left, or_right}
use Rattle.lu_base.specs.declared.ids.At.{At}
use Rattle.lu_base.specs.declared.ids.Node.{Node}
use Rattle.lu_base.specs.declared.ids.Node.TheVariants.{Client, Target}
use Rattle.lu_base.specs.declared.ids.Who.{Who}
use Rattle.lu_msg.specs.declared.messages.Message.{Message}
use Rattle.lu_msg.specs.declared.messages.Message.TheVariants as message
use Rattle.lu_spec_entries.specs.Words.{Entry, Take, Life, Line, line, is_client, same_life}
use Rattle.lu_spec_entries.specs.Concerns.{only}
use Rattle.lu_spec_entries.specs.Sent.{Sent}
use Rattle.lu_spec_client.specs.Calls.{life_at}
use Rattle.lu_spec_client.specs.Recovery.{next_life}
use Rattle.lu_proof_lawful.specs.Covered.ClientStates.{life_of}
use Rattle.lu_proof_lawful.specs.Covered.Heads.{Head}
use Rattle.lu_proof_lawful.proofs.Preconditions.Guards.{Was, Took, Noticed, Ending, EntryOk}
use Rattle.lu_proof_lawful.proofs.Preconditions.Only.{sent_was, was_only}
use Rattle.lu_proof_lawful.proofs.Preconditions.Parts.{life_is_of}
use Rattle.lu_proof_lawful.proofs.Preconditions.Grown.{Allowed, Grown}
use Rattle.lu_proof_lawful.proofs.Preconditions.Lists.{self, turn, life_is, life_self}
use Rattle.lu_proof_lawful.proofs.Preconditions.Endings.{ending_more}
use Rattle.lu_proof_lawful.proofs.Invariants.Groups.{HoldsAt}
use Rattle.lu_proof_lawful.proofs.Invariants.TargetGroups.{Evicted}
use Rattle.lu_proof_lawful.proofs.Invariants.All.{holds}
use Rattle.lu_proof_lawful.proofs.Invariants.Lines.{life_only}
use Rattle.lu_proof_bytes.specs.Object.Words as words
use Rattle.lu_proof_bytes.specs.Object.Folds as says
use Rattle.lu_proof_lawful.specs.Projection.Lives.{number_of, ends_life, is_over, is_live}

-- ---- a client's life

-- is the same over all that concerns one target, and over the whole past
pub life_now : (c : ℕ) (past : List Line) → life_at c past ≡ life_of c past
life_now c past = life_is_of c 0 past ∙ life_only c 0 past

-- it rises
pub life_more : (head : Head) (l : Line) (past : List Line) → Grown head (l ∷ past) → (d : ℕ)
    → (life_of d past).life ≤ (life_of d (l ∷ past)).life
life_more head l past g d = by l.at.node l.entry g.0.ok
  where
    by : (node : Node) (e : Entry) → EntryOk past l.at node e → (life_of d past).life ≤
        (life_of d (line (turn l.at.stamp node) e ∷ past)).life
    by (Client c) (Life who) ok =
        cond_both (nat_eq d c) who (life_of d past) (λ (w : Who). (life_of d past).life ≤ w.life)
        (λ q.
        let n : who.life ≡ (life_of c past).life + 1 = ap (λ (w : Who). w.life) ok.next ∙ ap (λ (w : Who). w.life + 1) (life_now c past) in
        let s : (life_of d past).life ≡ (life_of c past).life = ap (λ v. (life_of v past).life) (eqb-true d c q) in
        omega arith)
        (λ q. omega arith)
    by (Target u) (Life who) ok = omega arith
    by node e ok = omega arith

pub client_now : (head : Head) (past : List Line) → Grown head past → (c : ℕ) → (life_of c past).client ≡ c
client_now head past g c = ap (λ (w : Who). w.client) (sym (life_only c 0 past)) ∙ ((holds head past g).at 0).phase.client c

-- ---- no life to come is told that it is over

not_told : (head : Head) (past : List Line) → Grown head past → (who : Who) → (life_of who.client past).life < who.life
    → (n : ℕ) (from to : Node) (m : Message) → Sent past n from to m → ends_life who from m ≡ false
not_told head past g who lt n (Target u) to (message.Evicted w boot) sent = by (same_life w who) refl
  where
    at : HoldsAt head (only u past)
    at = (holds head past g).at u

    was : Was (only u past) (Target u) to (message.Evicted w boot)
    was = was_only u past (Target u) to (message.Evicted w boot) (self u) (sent_was past n (Target u) to (message.Evicted w boot) sent)

    -- who had a slot isn't newer than the client's life
    low : (v : Who) → v.life ≤ (life_of v.client (only u past)).life → v.client ≡ who.client → who.life ≤ v.life → ⊥
    low v le client more = let same : (life_of v.client (only u past)).life ≡ (life_of who.client past).life =
        ap (λ (x : Who). x.life) (life_only v.client u past) ∙ ap (λ c. (life_of c past).life) client
        in absurd (omega (arith, le, same, more, lt))

    none : w ≡ who → ⊥
    none e = ⊎_elim
        (λ (x : Evicted (only u past) w). low w (at.lives.low w (inr x)) (ap (λ (v : Who). v.client) e)
        (let s : w.life ≡ who.life = ap (λ (v : Who). v.life) e in omega arith))
        (λ x. low x.life (at.lives.low x.life x.had) (x.client ∙ ap (λ (v : Who). v.client) e)
        (let s : w.life ≡ who.life = ap (λ (v : Who). v.life) e in let k = x.newer in omega arith))
        (at.lives.over (Target u) to w boot was)

    by : (b : Bool) → same_life w who ≡ b → b ≡ false
    by true e = absurd (none (life_is w who e))
    by false e = refl
not_told head past g who lt n from to m sent = refl

pub unborn_over : (head : Head) (past : List Line) → Grown head past → (c : ℕ) (who : Who) → (life_of who.client past).life < who.life
    → is_over c who past ≡ false
unborn_over head [] g c who lt = refl
unborn_over head (l ∷ past) g c who lt = by l.entry g.0.ok (unborn_over head past g.1 c who below)
  where
    below : (life_of who.client past).life < who.life
    below = let le = life_more head l past g who.client in omega (arith, le, lt)

    by : (e : Entry) → EntryOk past l.at l.at.node e → is_over c who past ≡ false → is_over c who (line l.at e ∷ past) ≡ false
    by (Take n from m) ok ih =
        or_from (is_client c l.at.node && ends_life who from m) (is_over c who past)
        (and_false (is_client c l.at.node) (ends_life who from m) (not_told head past g.1 who below n from l.at.node m ok.sent)) ih
      where
        and_false : (a b : Bool) → b ≡ false → (a && b) ≡ false
        and_false true b e = e
        and_false false b e = refl
    by e ok ih = ih

-- ---- the turn that ends a life

pub noticed_over : (past : List Line) (at : At) (c : ℕ) (who : Who) → at.node ≡ Client c → Noticed past at who → is_over c who past ≡ true
noticed_over past at c who here n = took past n.took
  where
    took : (p : List Line) → Took p at (Target n.target) (message.Evicted who n.boot) → is_over c who p ≡ true
    took [] t = absurd t
    took (l ∷ p) t = by l.entry t (took p)
      where
        now : (from : Node) (m : Message) → l.at ≡ at → from ≡ Target n.target → m ≡ message.Evicted who n.boot
            → (is_client c l.at.node && ends_life who from m) ≡ true
        now from m same f e =
            subst (λ (x : Message). (is_client c l.at.node && ends_life who from x) ≡ true) (sym e)
            (subst (λ (x : Node). (is_client c l.at.node && ends_life who x (message.Evicted who n.boot)) ≡ true) (sym f)
            (subst (λ (x : Node). (is_client c x && same_life who who) ≡ true) (sym (ap (λ (a : At). a.node) same ∙ here))
            (and_from (nat_eq c c) (same_life who who) (self c) (life_self who))))

        by : (e : Entry) → Took (line l.at e ∷ p) at (Target n.target) (message.Evicted who n.boot)
            → (Took p at (Target n.target) (message.Evicted who n.boot) → is_over c who p ≡ true) → is_over c who (line l.at e ∷ p) ≡ true
        by (Take k from m) t ih = ⊎_elim
            (λ (q : (l.at ≡ at) × (from ≡ Target n.target) × (m ≡ message.Evicted who n.boot)). or_left
            (is_client c l.at.node && ends_life who from m) (is_over c who p) (now from m q.0 q.1 q.2))
            (λ (q : Took p at (Target n.target) (message.Evicted who n.boot)). or_right (is_client c l.at.node && ends_life who from m)
            (is_over c who p) (ih q))
            t
        by e t ih = ih t

pub ending_over : (past : List Line) (c : ℕ) → Ending past c → is_over c (life_at c past) past ≡ true
ending_over [] c k = absurd k
ending_over (l ∷ past) c k = noticed_over (l ∷ past) l.at c (life_at c (l ∷ past)) k.0 k.1

pub over_ending : (head : Head) (past : List Line) → Grown head past → (c : ℕ) → is_over c (life_at c past) past ≡ true → Ending past c
over_ending head [] g c t = absurd (cc)
over_ending head (l ∷ past) g c t = by l.at.node l.entry g.0 (over_ending head past g.1 c)
    (subst (λ (w : Who). is_over c w (l ∷ past) ≡ true) (life_now c (l ∷ past)) t)
  where
    -- a line that leaves the life
    more : (node : Node) (e : Entry) → Allowed head past (turn l.at.stamp node) e → life_of c past
        ≡ life_of c (line (turn l.at.stamp node) e ∷ past) → (is_over c (life_at c past) past ≡ true → Ending past c)
        → is_over c (life_of c past) past ≡ true
        → Ending (line (turn l.at.stamp node) e ∷ past) c
    more node e ok same ih t =
        ending_more past l.at.stamp node e c ok.closes (life_now c past ∙ same ∙ sym (life_now c (line (turn l.at.stamp node) e ∷ past)))
        (ih (subst (λ (w : Who). is_over c w past ≡ true) (sym (life_now c past)) t))

    takes : (node : Node) (n : ℕ) (from : Node) (m : Message) → (is_client c node && ends_life (life_of c past) from m) ≡ true
        → Ending (line (turn l.at.stamp node) (Take n from m) ∷ past) c
    takes (Target u) n from m t = absurd (cc)
    takes (Client d) n (Target u) (message.Evicted w boot) t =
        let p = and_parts (nat_eq c d) (same_life w (life_of c past)) t in
        let now : life_at c (line (turn l.at.stamp (Client d)) (Take n (Target u) (message.Evicted w boot)) ∷ past) ≡ life_of c past =
        life_now c (line (turn l.at.stamp (Client d)) (Take n (Target u) (message.Evicted w boot)) ∷ past) in (
          ap Client (sym (eqb-true c d p.0)),
          record {
            target = u;
            boot = boot;
            took = inl (
              refl,
              refl,
              ap (λ (v : Who). message.Evicted v boot) (life_is w (life_of c past) p.1 ∙ sym now),
            );
          },
        )
    takes (Client d) n from m t = absurd (let p = and_parts (nat_eq c d) false t in let no = p.1 in cc)

    by : (node : Node) (e : Entry) → Allowed head past (turn l.at.stamp node) e → (is_over c (life_at c past) past ≡ true → Ending past c)
        → is_over c (life_of c (line (turn l.at.stamp node) e ∷ past)) (line (turn l.at.stamp node) e ∷ past) ≡ true
        → Ending (line (turn l.at.stamp node) e ∷ past) c
    by node (Take n from m) ok ih t = ⊎_elim (λ q. takes node n from m q) (λ q. more node (Take n from m) ok refl ih q)
        (or_cases (is_client c node && ends_life (life_of c past) from m) (is_over c (life_of c past) past) t)
    by (Client d) (Life who) ok ih t = own (nat_eq c d) refl t
      where
        own : (b : Bool) → nat_eq c d ≡ b → is_over c (if b then who else life_of c past) past ≡ true
            → Ending (line (turn l.at.stamp (Client d)) (Life who) ∷ past) c
        own true q t =
            let next : who ≡ next_life (life_at d past) = ok.ok.next in
            let client : who.client ≡ d = ap (λ (w : Who). w.client) (next ∙ ap next_life (life_now d past)) ∙ client_now head past g.1 d in
            let n : who.life ≡ (life_of d past).life + 1 = ap (λ (w : Who). w.life) (next ∙ ap next_life (life_now d past)) in
            let s : (life_of who.client past).life ≡ (life_of d past).life = ap (λ v. (life_of v past).life) client in
            let no = unborn_over head past g.1 c who (omega arith) in
            absurd (cc)
        own false q t = more (Client d) (Life who) ok (sym (cond-false (nat_eq c d) who (life_of c past) q)) ih t
    by (Target u) (Life who) ok ih t = more (Target u) (Life who) ok refl ih t
    by node e ok ih t = more node e ok refl ih t

-- ---- who is live

pub live_is : (c : ℕ) (past : List Line) (h : List words.Entry) → says.evicted (number_of (life_at c past)) h ≡ false
    → is_over c (life_at c past) past ≡ false → is_live c past h ≡ true
live_is c past h e o = rw (e, o) refl

pub live_parts : (c : ℕ) (past : List Line) (h : List words.Entry) → is_live c past h ≡ true
    → (says.evicted (number_of (life_at c past)) h ≡ false) × (is_over c (life_at c past) past ≡ false)
live_parts c past h l = by (says.evicted (number_of (life_at c past)) h) (is_over c (life_at c past) past) l
  where
    by : (a b : Bool) → not (a || b) ≡ true → (a ≡ false) × (b ≡ false)
    by true b e = absurd (cc)
    by false true e = absurd (cc)
    by false false e = (refl, refl)

-- it isn't in the turn that ends its life
pub live_lasts : (c : ℕ) (past : List Line) (h : List words.Entry) → is_live c past h ≡ true → Ending past c → ⊥
live_lasts c past h l k = let no = (live_parts c past h l).1 in let yes = ending_over past c k in absurd (cc)

-- and who isn't, and wasn't evicted, is live
pub lasts_live : (head : Head) (c : ℕ) (past : List Line) (h : List words.Entry) → Grown head past
    → says.evicted (number_of (life_at c past)) h ≡ false → (Ending past c → ⊥) → is_live c past h ≡ true
lasts_live head c past h g e none = live_is c past h e (by (is_over c (life_at c past) past) refl)
  where
    by : (b : Bool) → is_over c (life_at c past) past ≡ b → b ≡ false
    by true t = absurd (none (over_ending head past g c t))
    by false t = refl
