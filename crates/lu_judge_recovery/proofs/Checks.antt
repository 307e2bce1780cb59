-- A list looked through, item by item, up to the first that fails.
use Rattle.std.proofs.Common.{◌≡◌, ℕ, ◌+◌, ◌<◌, ◌≤◌, Bool, true, false, List, length, take, arith, refl, sym, ◌∙◌}
use Rattle.std.specs.Prelude.{slice_index_or, IsTrue, ◌↔◌}
use Rattle.lu_spec_machine.specs.Footprint.{Every}
use Rattle.lu_judge_recovery.proofs.Every.{every_more, every_at, every_all}

-- one that fails
pub fails_at : {A : Type 0} (P : A → Type 0) (xs : List A) (i : ℕ) (d : A) (b : Bool) → i < length xs
    → (IsTrue b ↔ P (slice_index_or xs i d)) → b ≡ false → IsTrue false ↔ Every P xs
fails_at P xs i d b below decides not = (λ f. absurd (cc), λ all. absurd (cc (sym not ∙ decides.1 (every_at P xs i d below all))))

-- one that holds
pub holds_at : {A : Type 0} (P : A → Type 0) (xs : List A) (i : ℕ) (d : A) (b : Bool) → i < length xs
    → (IsTrue b ↔ P (slice_index_or xs i d)) → b ≡ true → Every P (take i xs)
    → Every P (take (i + 1) xs)
holds_at P xs i d b below decides is before = every_more P xs i d below before (decides.0 is)

-- none failed
pub holds_all : {A : Type 0} (P : A → Type 0) (xs : List A) (i : ℕ) → length xs ≤ i → Every P (take i xs) → IsTrue true ↔ Every P xs
holds_all P xs i all before = (λ yes. every_all P xs i all before, λ each. refl)
