-- How the dirty bytes of all objects are counted. This is the code's own, and no part of what a caller sees.
use Rattle.std.specs.Prelude.{◌≡◌, ℕ, ◌^◌, ◌<◌, List, [], ◌∷◌, length}
use Rattle.lu_base.specs.declared.locks.Resource.{Resource}
use Rattle.lu_spec_client.specs.Patches.{Patch}
use Rattle.lu_spec_client.specs.Locks.{dirty_total}

-- each object has fewer dirty bytes than a u64 counts
abbrev pub AreFew : List (Resource × Patch) → Type 0
AreFew [] = Unit {0}
AreFew (e ∷ objects) = (length e.1.dirty < 2 ^ 64) × AreFew objects

-- so many bytes of all objects are dirty
pub record IsTotal (total : ℕ) (objects : List (Resource × Patch)) : Type 0 where
  pub few : AreFew objects
  pub all : total ≡ dirty_total objects
