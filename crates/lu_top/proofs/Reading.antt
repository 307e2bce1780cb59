-- What was read is the scenario or the trace that the source has, and a scenario keeps the limits.
use Rattle.std.proofs.Common.{◌≡◌, ◌⊎◌, ℕ, List, ◌++◌, inl, inr, Option, Some, None, Result, Ok, Err, sym, ap, subst, ◌∙◌, append-nil}
use Rattle.lu_base.specs.Faults.{ReadWhole}
use Rattle.lu_scene.specs.declared.faults.Fault.{Fault}
use Rattle.lu_scene.specs.declared.faults.SceneFault.{SceneFault}
use Rattle.lu_scene.specs.declared.faults.SceneFault.TheVariants as faults
use Rattle.lu_scene.specs.declared.scene.Scene.{Scene}
use Rattle.lu_core.specs.Limits.{KeepsLimits}
use Rattle.lu_proof_limits.proofs.Read as read
use Rattle.lu_proof_limits.proofs.Storms as storms
use Rattle.lu_top.specs.declared.forms.Performance.{Performance}
use Rattle.lu_top.specs.declared.forms.Performance.TheVariants.{Play, Storm}
use Rattle.lu_top.specs.declared.scenes.Refusal.{Refusal}
use Rattle.lu_top.specs.declared.scenes.Refusal.TheVariants as refusal
use Rattle.lu_top.specs.Asked.{IsSceneBy}

-- ---- the bytes

-- what was read to the end are the bytes that were there
pub read_is : (old new : Option (List ℕ)) (bytes text : List ℕ) → ReadWhole old new bytes → old ≡ Some text → bytes ≡ text
read_is None new bytes text read is = absurd (cc is)
read_is (Some xs) None bytes text read is = absurd read.came
read_is (Some xs) (Some ys) bytes text read is =
    sym (append-nil bytes) ∙ ap (λ (rest : List ℕ). bytes ++ rest) (sym read.at_end) ∙ sym read.came ∙ cc

-- ---- results: the one that was answered is the one that must be

module _ {T E : Type 0} where
  abbrev pub fine : T → Result T E
  fine t = Ok t

  abbrev pub wrong : E → Result T E
  wrong e = Err e

  same_value : (a b : T) → fine a ≡ fine b → a ≡ b
  same_value a b e = cc

  pub apart : (t : T) (e : E) → fine t ≡ wrong e → ⊥
  apart t e is = cc

  -- what was answered is the one that must be
  pub that_one : (r : Result T E) (here there : T) (e : E) → r ≡ Ok here → (r ≡ Ok there) ⊎ (r ≡ Err e) → there ≡ here
  that_one r here there e is (inl same) = same_value there here (sym same ∙ is)
  that_one r here there e is (inr none) = absurd (apart here e (sym is ∙ none))

  -- what must be one value or one error isn't another error
  pub not_wrong : (r : Result T E) (there : T) (e f : E) → (e ≡ f → ⊥) → r ≡ Err f → (r ≡ Ok there) ⊎ (r ≡ Err e) → ⊥
  not_wrong r there e f other is (inl same) = apart there f (sym same ∙ is)
  not_wrong r there e f other is (inr none) = other (same_error e f (sym none ∙ is))
    where
      same_error : (e f : E) → wrong e ≡ wrong f → e ≡ f
      same_error e f is = cc

-- a scenario isn't refused
other_fault : (line : ℕ) (fault : Fault) → faults.Memory ≡ faults.Bad line fault → ⊥
other_fault line fault is = cc

pub not_refused : (r : Result Scene SceneFault) (line : ℕ) (fault : Fault) (scene : Scene) → r ≡ Err (faults.Bad line fault)
    → (r ≡ Ok scene) ⊎ (r ≡ Err faults.Memory) → ⊥
not_refused r line fault scene is there = not_wrong r scene faults.Memory (faults.Bad line fault) (other_fault line fault) is there

other_refusal : (line : ℕ) (fault : Fault) → refusal.Memory ≡ refusal.Bad line fault → ⊥
other_refusal line fault is = cc

pub not_bad : (r : Result Scene Refusal) (line : ℕ) (fault : Fault) (scene : Scene) → r ≡ Err (refusal.Bad line fault)
    → (r ≡ Ok scene) ⊎ (r ≡ Err refusal.Memory) → ⊥
not_bad r line fault scene is there = not_wrong r scene refusal.Memory (refusal.Bad line fault) (other_refusal line fault) is there

-- ---- limits

-- the scenario of a performance keeps them
pub limits_of : (performance : Performance) (old new : Option (List ℕ)) (scene : Scene) → IsSceneBy performance old new scene
    → KeepsLimits scene
limits_of Play old new scene is = read.keeps_limits is.0 scene is.3
limits_of (Storm seed) old new scene is = subst KeepsLimits (sym is.1) (storms.keeps_limits seed)
