-- Boots rise, and a close serves the present one: what served last isn't above it, nor is what a client knows; a client is served in no
-- boot above the one that served last. A client's lives rise, and stay its own.
use Rattle.std.proofs.Common.{◌≡◌, ℕ, ◌≤◌, Bool, true, false, List, [], ◌∷◌, ◌+◌, refl, sym, subst, ap, ◌∙◌, arith}
use Rattle.std.specs.Prelude.{nat_eq, if◌then◌else◌}
use Rattle.std.proofs.lemmas.Bool.{cond_both, eqb-true}
use Rattle.lu_base.specs.declared.ids.Node.{Node}
use Rattle.lu_base.specs.declared.ids.Node.TheVariants.{Client, Target}
use Rattle.lu_base.specs.declared.ids.Stamp.{Stamp}
use Rattle.lu_base.specs.declared.ids.Who.{Who}
use Rattle.lu_msg.specs.declared.messages.Message.TheVariants as message
use Rattle.lu_spec_entries.specs.Carried.{Outcome}
use Rattle.lu_spec_entries.specs.Words.{Entry, Knows, Serves, Life, Txn as Made, Boot, Close, Line, line}
use Rattle.lu_proof_lawful.specs.Covered.Imports.{Standing, Joining, Recovering, Serving, interrupted}
use Rattle.lu_proof_lawful.specs.Covered.TargetStates.{server_of, closed_of}
use Rattle.lu_proof_lawful.specs.Covered.ClientStates.{life_of, known_of, standing_of}
use Rattle.lu_proof_lawful.specs.Covered.Heads.{Head}
use Rattle.lu_proof_lawful.proofs.Preconditions.StoryGuards.{BootKnownOk, ServesOk, LifeOf, EntryOf}
use Rattle.lu_proof_lawful.proofs.Invariants.Groups.{turn, HoldsAt}
use Rattle.lu_proof_lawful.proofs.Invariants.TargetGroups.{Phase, Done, Boots}
use Rattle.lu_proof_lawful.proofs.Invariants.ObjectDeeds.{makes}

pub phase_start : (osts : ℕ) → Phase osts []
phase_start osts =
    record {
      closed = omega arith;
      under = omega arith;
      low = omega arith;
      count = omega arith;
      least = λ c. omega arith;
      known = λ c. omega arith;
      served = λ c s. omega arith;
      client = λ c. refl;
      positive = λ c. omega arith;
    }

-- the life rises by one
pub life_rises : (past : List Line) (stamp : Stamp) (c : ℕ) (who : Who) → LifeOf past c who → (d : ℕ)
    → (life_of d past).life ≤ (life_of d (line (turn stamp (Client c)) (Life who) ∷ past)).life
life_rises past stamp c who ok d =
    cond_both (nat_eq d c) who (life_of d past) (λ (w : Who). (life_of d past).life ≤ w.life)
    (λ q. let n : who.life ≡ (life_of c past).life + 1 = ap (λ (w : Who). w.life) ok.next in let s : (life_of d past).life
    ≡ (life_of c past).life = ap (λ v. (life_of v past).life) (eqb-true d c q) in omega arith)
    (λ q. omega arith)

-- a client that is told a newer boot isn't served there
interrupted_serves : (s : Standing) → interrupted s ≡ Serving → ⊥
interrupted_serves Joining e = absurd (cc)
interrupted_serves Recovering e = absurd (cc)
interrupted_serves Serving e = absurd (cc)

phase_knows : (osts : ℕ) (past : List Line) (stamp : Stamp) (c t boot : ℕ) → BootKnownOk past c t boot → Boots osts past → Phase osts past
    → Phase osts (line (turn stamp (Client c)) (Knows t boot) ∷ past)
phase_knows osts past stamp c t boot ok b h =
    record {
      closed = h.closed;
      under = h.under;
      low = h.low;
      count = h.count;
      least = λ d. cond_both (nat_eq d c) boot (known_of d past) (λ (n : ℕ). 1 ≤ n) (λ q. let lt = ok.newer in omega arith)
          (λ q. h.least d);
      known = λ d. cond_both (nat_eq d c) boot (known_of d past) (λ (n : ℕ). n ≤ (server_of osts past).boot)
          (λ q. (b (Target t) (Client c) (message.Up boot) ok.was).1) (λ q. h.known d);
      served = λ d. by d (nat_eq d c);
      client = h.client;
      positive = h.positive;
    }
  where
    by : (d : ℕ) (b : Bool) → (if b then interrupted (standing_of d past) else standing_of d past) ≡ Serving
        → (if b then boot else known_of d past) ≤ closed_of past
    by d true s = absurd (interrupted_serves (standing_of d past) s)
    by d false s = h.served d s

-- what a target told as it served is at most the boot that served last
phase_serves : (osts clients : ℕ) (past : List Line) (stamp : Stamp) (c t boot : ℕ) → ServesOk past c t boot → Done osts clients past
    → Phase osts past → Phase osts (line (turn stamp (Client c)) (Serves t boot) ∷ past)
phase_serves osts clients past stamp c t boot ok k h =
    record {
      closed = h.closed;
      under = h.under;
      low = h.low;
      count = h.count;
      least = h.least;
      known = h.known;
      served = λ d. cond_both (nat_eq d c) Serving (standing_of d past) (λ (s : Standing). s ≡ Serving → known_of d past ≤ closed_of past)
          (λ q s.
          let told = (k.sent (Target t) (Client c) (message.Ready (life_of c past) boot ok.committed) ok.was).0 in
          let same : known_of d past ≡ known_of c past = ap (λ v. known_of v past) (eqb-true d c q) in
          let is = ok.of_boot in
          omega arith)
          (λ q s. h.served d s);
      client = h.client;
      positive = h.positive;
    }

phase_life : (osts : ℕ) (past : List Line) (stamp : Stamp) (c : ℕ) (who : Who) → LifeOf past c who → Phase osts past
    → Phase osts (line (turn stamp (Client c)) (Life who) ∷ past)
phase_life osts past stamp c who ok h =
    record {
      closed = h.closed;
      under = h.under;
      low = h.low;
      count = h.count;
      least = h.least;
      known = h.known;
      served = λ d. cond_both (nat_eq d c) Joining (standing_of d past) (λ (s : Standing). s ≡ Serving → known_of d past ≤ closed_of past)
          (λ q s. absurd (cc)) (λ q s. h.served d s);
      client = λ d. cond_both (nat_eq d c) who (life_of d past) (λ (w : Who). w.client ≡ d)
          (λ q. ap (λ (w : Who). w.client) ok.next ∙ h.client c ∙ sym (eqb-true d c q))
          (λ q. h.client d);
      positive = λ d. let le = h.positive d in let rises = life_rises past stamp c who ok d in omega arith;
    }

pub keeps_phase : (head : Head) (past : List Line) (stamp : Stamp) (node : Node) (e : Entry) → EntryOf head past (turn stamp node) node e
    → HoldsAt head past → Phase head.osts (line (turn stamp node) e ∷ past)
keeps_phase head past stamp (Client c) (Knows t boot) ok h = phase_knows head.osts past stamp c t boot ok h.boots h.phase
keeps_phase head past stamp (Client c) (Serves t boot) ok h = phase_serves head.osts head.clients past stamp c t boot ok h.done h.phase
keeps_phase head past stamp (Client c) (Life who) ok h = phase_life head.osts past stamp c who ok h.phase
keeps_phase head past stamp (Target t) (Boot boot disk) ok h =
    let p = h.phase in
    let n = ok.next in
    record {
      closed = p.closed;
      under = let le = p.under in omega arith;
      low = omega arith;
      count = omega arith;
      least = p.least;
      known = λ d. let le = p.known d in omega arith;
      served = p.served;
      client = p.client;
      positive = p.positive;
    }
keeps_phase head past stamp (Target t) (Made d) ok h =
    let p = h.phase in
    record {
      closed = p.closed;
      under = p.under;
      low = p.low;
      count = let n = (makes head.osts past (turn stamp (Target t)) t d ok).room in omega arith;
      least = p.least;
      known = p.known;
      served = p.served;
      client = p.client;
      positive = p.positive;
    }
-- the present boot serves from then on
keeps_phase head past stamp (Target t) (Close o) ok h =
    let p = h.phase in
    subst (λ (o : Outcome). Phase head.osts (line (turn stamp (Target t)) (Close o) ∷ past)) (sym ok.is)
    (record {
      closed = p.low;
      under = omega arith;
      low = p.low;
      count = p.count;
      least = p.least;
      known = p.known;
      served = λ c s. p.known c;
      client = p.client;
      positive = p.positive;
    })
keeps_phase head past stamp node e ok h = h.phase
