-- Who is told that a target serves it: a boot that its client knows, and while the client recovers there in that boot, its
-- present life alone.
use Rattle.std.proofs.Common.{◌≡◌, ℕ, ◌<◌, ◌≤◌, Bool, true, false, List, [], ◌∷◌, inl, ⊎_elim, refl, sym, subst, ◌∙◌, arith}
use Rattle.std.specs.Prelude.{nat_eq, if◌then◌else◌}
use Rattle.std.proofs.lemmas.Bool.{cond_both, eqb-true}
use Rattle.lu_base.specs.declared.ids.Node.{Node}
use Rattle.lu_base.specs.declared.ids.Node.TheVariants.{Client, Target}
use Rattle.lu_base.specs.declared.ids.Txn.{Txn}
use Rattle.lu_base.specs.declared.ids.Who.{Who}
use Rattle.lu_msg.specs.declared.messages.Message.{Message}
use Rattle.lu_msg.specs.declared.messages.Message.TheVariants as message
use Rattle.lu_spec_entries.specs.Words.{Entry, Send, Life, Knows, Serves, Line, line}
use Rattle.lu_proof_lawful.specs.Covered.ClientStates.{life_of, known_of, standing_of}
use Rattle.lu_proof_lawful.specs.Covered.TargetStates.{closed_of}
use Rattle.lu_proof_lawful.specs.Covered.Heads.{Head}
use Rattle.lu_proof_lawful.specs.Covered.Imports.{Standing, Joining, Recovering, Serving, interrupted}
use Rattle.lu_proof_lawful.proofs.Preconditions.Guards.{Was}
use Rattle.lu_proof_lawful.proofs.Preconditions.StoryGuards.{ReadyOk, SendOf, EntryOf}
use Rattle.lu_proof_lawful.proofs.Preconditions.Grown.{GrownOf}
use Rattle.lu_proof_lawful.proofs.Invariants.Groups.{turn, HoldsAt}
use Rattle.lu_proof_lawful.proofs.Invariants.TargetGroups.{Evicted, HasSlot}
use Rattle.lu_proof_lawful.proofs.Invariants.All.{holds_at}

module _ (head : Head) (c : ℕ) (from : Node) (who : Who) (boot : ℕ) (committed : Txn) where
  abbrev Told : List Line → Type 0
  Told p = Was p from (Client c) (message.Ready who boot committed)

  -- as it was sent
  sent_so : (p : List Line) (node to : Node) (m : Message) → SendOf head p node to m → (node ≡ from) × (to ≡ Client c)
      × (m ≡ message.Ready who boot committed) → ReadyOk head p c who boot committed
  sent_so p node to m ok e = by node (subst (λ (v : Node). SendOf head p node v (message.Ready who boot committed)) e.1
      (subst (λ (v : Message). SendOf head p node to v) e.2 ok))
    where
      by : (n : Node) → SendOf head p n (Client c) (message.Ready who boot committed) → ReadyOk head p c who boot committed
      by (Target t) k = k
      by (Client d) k = absurd k

  -- the boot is one that the client knows, since its life has a slot
  known_now : (p : List Line) → HoldsAt head p → ReadyOk head p c who boot committed → boot ≤ known_of c p
  known_now p h ok =
      let mine : closed_of p ≤ known_of c p = subst (λ (v : ℕ). closed_of p ≤ known_of v p) (sym ok.to) (h.lives.knows who ok.has).1 in
      let closed = ok.serves.closed in
      let of_boot = ok.of_boot in
      omega (arith, mine, closed, of_boot)

  pub ready_known : (p : List Line) → GrownOf head p → Told p → boot ≤ known_of c p
  ready_known [] g w = absurd w
  ready_known (l ∷ p) g w = by l.at.node l.entry g.0 w (ready_known p g.3)
    where
      by : (node : Node) (e : Entry) → EntryOf head p (turn l.at.stamp node) node e → Told (line (turn l.at.stamp node) e ∷ p)
          → (Told p → boot ≤ known_of c p) → boot ≤ known_of c (line (turn l.at.stamp node) e ∷ p)
      by node (Send to m) ok w ih = ⊎_elim (λ (e : (node ≡ from) × (to ≡ Client c) × (m ≡ message.Ready who boot committed)). known_now p
          (holds_at head p g.3) (sent_so p node to m ok e)) (λ (q : Told p). ih q) w
      by (Client d) (Knows t b) ok w ih =
          let old = ih w in
          cond_both (nat_eq c d) b (known_of c p) (λ (v : ℕ). boot ≤ v)
          (λ q. let newer = subst (λ (v : ℕ). known_of v p < b) (sym (eqb-true c d q)) ok.newer in omega (arith, old, newer))
          (λ q. old)
      by (Target u) (Knows t b) ok w ih = absurd ok
      by node e ok w ih = ih w

  -- no other life of the client has a slot when it is sent
  own_now : (p : List Line) → HoldsAt head p → standing_of c p ≡ Recovering → ReadyOk head p c who boot committed → who ≡ life_of c p
  own_now p h s ok =
      let client : (life_of c p).client ≡ who.client = h.phase.client c ∙ ok.to in
      let lt = subst (λ (v : ℕ). v < head.clients) (sym ok.to) (h.lives.knows who ok.has).0 in
      let low = subst (λ (v : ℕ). who.life ≤ (life_of v p).life) (sym ok.to) (h.lives.low who (inl ok.has)) in
      ⊎_elim
      (λ (has : HasSlot head.clients p (life_of c p)). h.lives.one who (life_of c p) ok.has has (sym client))
      (λ (out : Evicted p (life_of c p)). let less = h.lives.apart who (life_of c p) ok.has out (sym client)
      in absurd (omega (arith, low, less)))
      (h.lives.served c lt (λ j. let both : Recovering ≡ Joining = sym s ∙ j in absurd (cc)))

  pub ready_own : (p : List Line) → GrownOf head p → standing_of c p ≡ Recovering → known_of c p ≤ boot → Told p → who ≡ life_of c p
  ready_own [] g s le w = absurd w
  ready_own (l ∷ p) g s le w = by l.at.node l.entry g.0 s le w (ready_own p g.3)
    where
      S : Standing
      S = standing_of c p

      by : (node : Node) (e : Entry) → EntryOf head p (turn l.at.stamp node) node e → standing_of c (line (turn l.at.stamp node) e ∷ p)
          ≡ Recovering → known_of c (line (turn l.at.stamp node) e ∷ p) ≤ boot
          → Told (line (turn l.at.stamp node) e ∷ p)
          → (S ≡ Recovering → known_of c p ≤ boot → Told p → who ≡ life_of c p) → who ≡ life_of c (line (turn l.at.stamp node) e ∷ p)
      by node (Send to m) ok s le w ih = ⊎_elim (λ (e : (node ≡ from) × (to ≡ Client c) × (m ≡ message.Ready who boot committed)). own_now p
          (holds_at head p g.3) s (sent_so p node to m ok e)) (λ (q : Told p). ih s le q) w
      by (Client d) (Knows t b) ok s le w ih = of (nat_eq c d) refl s le
        where
          of : (v : Bool) → nat_eq c d ≡ v → (if v then interrupted S else S) ≡ Recovering → (if v then b else known_of c p) ≤ boot → who
              ≡ life_of c p
          of true q r k =
              let newer = subst (λ (v : ℕ). known_of v p < b) (sym (eqb-true c d q)) ok.newer in
              let known = ready_known p g.3 w in
              absurd (omega (arith, newer, known, k))
          of false q r k = ih r k w
      by (Client d) (Serves t b) ok s le w ih = ih (cond_both (nat_eq c d) Serving S (λ (v : Standing). v ≡ Recovering → S ≡ Recovering)
          (λ q r. absurd (cc)) (λ q r. r) s) le w
      by (Client d) (Life x) ok s le w ih = of (nat_eq c d) s
        where
          of : (v : Bool) → (if v then Joining else S) ≡ Recovering → who ≡ (if v then x else life_of c p)
          of true r = absurd (cc)
          of false r = ih r le w
      by (Target u) (Knows t b) ok s le w ih = absurd ok
      by (Target u) (Serves t b) ok s le w ih = absurd ok
      by (Target u) (Life x) ok s le w ih = absurd ok
      by node e ok s le w ih = ih s le w
