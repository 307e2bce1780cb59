-- How large what is kept may be: no file is longer than 2^40, so no size, no cut and no changed byte lies past it.
use Rattle.std.specs.Prelude.{ℕ, ◌≤◌, ◌^◌, List, [], ◌∷◌, IfSome}
use Rattle.lu_spec_machine.specs.Places.{end_of}
use Rattle.lu_spec_client.specs.Patches.{Patch}
use Rattle.lu_spec_client.specs.Caches.{Note}

-- The changes of an object: the pending cut, if any, and the end of the dirty bytes.
pub record IsBounded (p : Patch) : Type 0 where
  pub pending : IfSome p.pending (λ (n : ℕ). n ≤ 2 ^ 40)
  pub dirty : end_of p.dirty ≤ 2 ^ 40

-- each size that is kept for a lock
abbrev pub AreShort : List Note → Type 0
AreShort [] = Unit {0}
AreShort (note ∷ sizes) = (note.number ≤ 2 ^ 40) × AreShort sizes
