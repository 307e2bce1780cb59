-- The story of one object goes with the past that it is of: five groups of ties, after each line. What they rest on at the newest line is
-- all
-- that stands there, and that the story so far is allowed.
use Rattle.std.proofs.Common.{◌≡◌, ℕ, ◌<◌, List, ◌∷◌, ◌⊎◌}
use Rattle.lu_base.specs.declared.locks.Resource.{Resource}
use Rattle.lu_spec_entries.specs.Words.{Line}
use Rattle.lu_proof_lawful.specs.Covered.Heads.{Head, IsHead}
use Rattle.lu_proof_bytes.specs.Object.Words.{Entry}
use Rattle.lu_proof_bytes.specs.Object.Guards.{Allowed, AllAllowed}
use Rattle.lu_proof_bytes.proofs.Object.World.{World}
use Rattle.lu_proof_lawful.specs.Projection.Stories.{story}
use Rattle.lu_proof_lawful.proofs.Refinement.Stood.{Stood}
use Rattle.lu_proof_lawful.proofs.Refinement.Place.{place}
pub use Rattle.lu_proof_lawful.proofs.Refinement.TiedTarget.{TargetTied}
pub use Rattle.lu_proof_lawful.proofs.Refinement.TiedObject.{ObjectTied}
pub use Rattle.lu_proof_lawful.proofs.Refinement.TiedAsked.{AskedTied}
pub use Rattle.lu_proof_lawful.proofs.Refinement.TiedStore.{StoreTied}
pub use Rattle.lu_proof_lawful.proofs.Refinement.TiedWord.{WordTied}

pub record Tied (head : Head) (t : ℕ) (r : Resource) (past : List Line) : Type 0 where
  pub target : TargetTied head t r past
  pub object : ObjectTied head t r past
  pub asked : AskedTied head t r past
  pub store : StoreTied head t r past
  pub word : WordTied head t r past

-- what stands at the newest line, the object being one of that target, and what stood before it
pub record Here (head : Head) (t : ℕ) (r : Resource) (l : Line) (past : List Line) : Type 0 where
  pub ranges : IsHead head
  pub some : 0 < t
  pub place : t ≡ place head.osts r
  pub stood : Stood head l past
  pub all : AllAllowed (story t r past)
  pub world : World (story t r past)
  pub tied : Tied head t r past

-- a line leaves the story, or adds an allowed entry
abbrev pub Grows : List Entry → List Entry → Type 0
Grows h k = (k ≡ h) ⊎ ((e : Entry) × (k ≡ e ∷ h) × Allowed h e)
