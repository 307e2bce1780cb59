-- What clients keep of an object goes with its story: before the first line, and with each line.
use Rattle.std.proofs.Common.{◌≡◌, ℕ, Bool, true, false, List, [], ◌∷◌, inr, refl, sym, subst}
use Rattle.std.specs.Prelude.{nat_eq}
use Rattle.std.proofs.lemmas.Bool.{eqb-true, and_parts}
use Rattle.lu_base.specs.declared.ids.Node.{Node}
use Rattle.lu_base.specs.declared.ids.Node.TheVariants.{Client, Target}
use Rattle.lu_base.specs.declared.ids.Stamp.{Stamp}
use Rattle.lu_base.specs.declared.locks.Resource.{Resource}
use Rattle.lu_held.specs.Locks.{same_resource}
use Rattle.lu_spec_entries.specs.Words as word
use Rattle.lu_spec_entries.specs.Words.{Line, line}
use Rattle.lu_proof_lawful.specs.Covered.Heads.{Head}
use Rattle.lu_proof_lawful.proofs.Preconditions.Lists.{turn}
use Rattle.lu_proof_objects.proofs.Tables.{object_is}
use Rattle.lu_proof_lawful.specs.Projection.Lives.{is_live}
use Rattle.lu_proof_lawful.specs.Projection.Stories.{story}
use Rattle.lu_proof_lawful.proofs.Refinement.Tied.{Here, Grows}
use Rattle.lu_proof_lawful.proofs.Refinement.TiedStore.{StoreTied, StoreBy, WroteTold, JustWrote, life_number}
use Rattle.lu_proof_lawful.proofs.Refinement.AskedSteps.{live_before}
use Rattle.lu_proof_lawful.proofs.Refinement.ChangesFound.{changes_over}
use Rattle.lu_proof_lawful.proofs.Refinement.StoreLines.{unborn_line, other_by}
use Rattle.lu_proof_lawful.proofs.Refinement.StoreOwn.{grown_by, OwnBy, calm_by, marks_by, changes_by, changes_step, takes_by, life_by}
use Rattle.lu_proof_lawful.proofs.Refinement.StoreOwn.{learns_by}
use Rattle.lu_proof_lawful.proofs.Refinement.StoreHolds.{shows_by, hold_by, drop_by}
use Rattle.lu_proof_lawful.proofs.Refinement.StoreHeard.{heard_by}

pub store_start : (head : Head) (t : ℕ) (r : Resource) → StoreTied head t r []
store_start head t r =
    record {
      of = λ c live. record {
        patch = record { pending = refl; dirty = λ p. refl; flying = λ p. refl };
        known = λ p low. refl;
        ends = λ l i v last. absurd i;
        shown = λ l i v. absurd i;
        unshown = λ k none. refl;
        coming = λ lock marked size seen i. absurd i;
      };
      told = λ c live. tt;
      unborn = λ who later. record { pending = refl; dirty = λ p. refl; flying = λ p. refl; known = λ p. refl; holds = λ l i v. i };
    }

module _ (head : Head) (t : ℕ) (r : Resource) (stamp : Stamp) (past : List Line) where
  -- the line's own client
  own_by : (c : ℕ) (e : word.Entry) → OwnBy head t r stamp c past e
  own_by c (word.Heard u f p) here g live = heard_by head t r stamp c past u f p here g live
  own_by c (word.Hold u m marked size seen) here g live = hold_by head t r stamp c past u m marked size seen here g live
  own_by c (word.Learns u o a locks) here g live = learns_by head t r stamp c past u o a locks here g live
  own_by c (word.Drop u m) here g live = drop_by head t r stamp c past u m here g live
  own_by c (word.Changes q change) here g live = changes_by head t r stamp c past q change here g live
  own_by c (word.WritesBack q change) here g live = takes_by head t r stamp c past q change here g live
  own_by c (word.Acks q) here g live = marks_by head t r stamp c past (word.Acks q) here.stood.ok.ok refl (λ k. refl) (inr tt) here g live
  own_by c (word.Fills q at bytes) here g live = marks_by head t r stamp c past (word.Fills q at bytes) here.stood.ok.ok refl (λ k. refl)
      (inr tt) here g live
  own_by c (word.Zeroes q size) here g live = marks_by head t r stamp c past (word.Zeroes q size) here.stood.ok.ok refl (λ k. refl) (inr tt)
      here g live
  own_by c (word.Grown q change) here g live = marks_by head t r stamp c past (word.Grown q change) here.stood.ok.ok refl (λ k. refl)
      (inr tt) here g live
  own_by c (word.Shows q cookie last) here g live = shows_by head t r stamp c past q cookie last here g live
  own_by c (word.Life who) here g live = life_by head t r stamp c past who here g live
  own_by c e here g live = calm_by head t r stamp c past e tt here g live

  -- any client
  by_node : (node : Node) (e : word.Entry) → Here head t r (line (turn stamp node) e) past
      → Grows (story t r past) (story t r (line (turn stamp node) e ∷ past)) → (c : ℕ)
      → is_live c (line (turn stamp node) e ∷ past) (story t r (line (turn stamp node) e ∷ past)) ≡ true
      → StoreBy t r (line (turn stamp node) e ∷ past) (story t r (line (turn stamp node) e ∷ past)) c
  by_node (Target u) e here g c live = other_by head t r (line (turn stamp (Target u)) e) past here g c refl live
  by_node (Client d) e here g c live = by (nat_eq c d) refl
    where
      by : (b : Bool) → nat_eq c d ≡ b → StoreBy t r (line (turn stamp (Client d)) e ∷ past)
          (story t r (line (turn stamp (Client d)) e ∷ past)) c
      by false o = other_by head t r (line (turn stamp (Client d)) e) past here g c o live
      by true o =
          subst (λ (x : ℕ). Here head t r (line (turn stamp (Client x)) e) past
          → Grows (story t r past) (story t r (line (turn stamp (Client x)) e ∷ past))
          → is_live c (line (turn stamp (Client x)) e ∷ past) (story t r (line (turn stamp (Client x)) e ∷ past)) ≡ true
          → StoreBy t r (line (turn stamp (Client x)) e ∷ past) (story t r (line (turn stamp (Client x)) e ∷ past)) c)
          (eqb-true c d o) (own_by c e) here g live

  -- a change that it made was told
  wrote : (node : Node) (e : word.Entry) → Here head t r (line (turn stamp node) e) past
      → Grows (story t r past) (story t r (line (turn stamp node) e ∷ past)) → (c : ℕ)
      → is_live c (line (turn stamp node) e ∷ past) (story t r (line (turn stamp node) e ∷ past)) ≡ true
      → JustWrote c r (line (turn stamp node) e ∷ past) (life_number c (line (turn stamp node) e ∷ past))
      (story t r (line (turn stamp node) e ∷ past))
  wrote (Target u) (word.Changes q change) here g c live = λ own. absurd (cc)
  wrote (Client d) (word.Changes q change) here g c live = λ own. let both = and_parts (nat_eq c d) (same_resource q r) own
      in mine (eqb-true c d both.0) (object_is q r both.1)
    where
      told : Here head t r (line (turn stamp (Client c)) (word.Changes r change)) past
          → Grows (story t r past) (story t r (grown_by head t r stamp c past (word.Changes r change)))
          → is_live c (grown_by head t r stamp c past (word.Changes r change))
          (story t r (grown_by head t r stamp c past (word.Changes r change))) ≡ true
          → WroteTold (life_number c past) change (story t r (grown_by head t r stamp c past (word.Changes r change)))
      told here g live =
          let before = live_before c (line (turn stamp (Client c)) (word.Changes r change)) past (story t r past)
          (story t r (grown_by head t r stamp c past (word.Changes r change))) refl g live in
          let f = changes_over head t r stamp c past change here before in
          record {
            lock = f.0.lock.cookie.0;
            before = story t r past;
            over = f.1.over;
            told =
                changes_step head t r stamp c past change f.0.lock.cookie.0 before f.1.over;
          }

      mine : c ≡ d → q ≡ r → WroteTold (life_number c past) change (story t r (line (turn stamp (Client d)) (word.Changes q change) ∷ past))
      mine same on =
          subst (λ (x : ℕ). Here head t r (line (turn stamp (Client x)) (word.Changes q change)) past
          → Grows (story t r past) (story t r (line (turn stamp (Client x)) (word.Changes q change) ∷ past))
          → is_live c (line (turn stamp (Client x)) (word.Changes q change) ∷ past)
          (story t r (line (turn stamp (Client x)) (word.Changes q change) ∷ past)) ≡ true
          → WroteTold (life_number c past) change (story t r (line (turn stamp (Client x)) (word.Changes q change) ∷ past))) same
          (subst (λ (s : Resource). Here head t r (line (turn stamp (Client c)) (word.Changes s change)) past
          → Grows (story t r past) (story t r (line (turn stamp (Client c)) (word.Changes s change) ∷ past))
          → is_live c (line (turn stamp (Client c)) (word.Changes s change) ∷ past)
          (story t r (line (turn stamp (Client c)) (word.Changes s change) ∷ past)) ≡ true
          → WroteTold (life_number c past) change (story t r (line (turn stamp (Client c)) (word.Changes s change) ∷ past))) (sym on)
          told)
          here g live
  wrote node e here g c live = tt

  by_line : (node : Node) (e : word.Entry) → Here head t r (line (turn stamp node) e) past
      → Grows (story t r past) (story t r (line (turn stamp node) e ∷ past)) → StoreTied head t r (line (turn stamp node) e ∷ past)
  by_line node e here g =
      record {
        of = λ c live. by_node node e here g c live;
        told = λ c live. wrote node e here g c live;
        unborn =
            λ who later. unborn_line head t r (line (turn stamp node) e) past here g who later;
      }

pub store_line : (head : Head) (t : ℕ) (r : Resource) (l : Line) (past : List Line) → Here head t r l past
    → Grows (story t r past) (story t r (l ∷ past)) → StoreTied head t r (l ∷ past)
store_line head t r l past here g = by_line head t r l.at.stamp past l.at.node l.entry here g
