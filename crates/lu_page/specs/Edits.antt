-- What becomes of each item that stands somewhere: another item, or none.
use Rattle.std.specs.Prelude.{ℕ, if◌then◌else◌, List, [], ◌∷◌, Option, Some, None}
use Rattle.lu_base.specs.declared.locks.Extent.{Extent}
use Rattle.lu_spec_machine.specs.Places.{Places, is_in}

-- an item at a place, or none, in front
abbrev pub with_item : {A : Type 0} → ℕ → Option A → Places A → Places A
with_item p None m = m
with_item p (Some x) m = (p, x) ∷ m

abbrev pub edited : {A : Type 0} → (ℕ → A → Option A) → Places A → Places A
edited f [] = []
edited f (e ∷ m) = with_item e.0 (f e.0 e.1) (edited f m)

-- what becomes of a slot, with or without an item
abbrev pub edit_slot : {A : Type 0} → (ℕ → A → Option A) → ℕ → Option A → Option A
edit_slot f p None = None
edit_slot f p (Some x) = f p x

-- the same in a range alone
abbrev pub in_range : {A : Type 0} → Extent → (ℕ → A → Option A) → ℕ → A → Option A
in_range extent f p x = if is_in extent p then f p x else Some x
