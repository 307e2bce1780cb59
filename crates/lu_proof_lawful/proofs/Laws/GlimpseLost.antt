-- The history of an object's story in which what closes so far have lost is left out is the story's own: each close leaves it out already.
use Rattle.std.proofs.Common.{◌≡◌, ℕ, Bool, List, subst, ◌∙◌}
use Rattle.lu_base.specs.declared.locks.Resource.{Resource}
use Rattle.lu_spec_entries.specs.Words.{Line}
use Rattle.lu_spec_entries.specs.Concerns.{only}
use Rattle.lu_spec_entries.specs.Printed.{printed}
use Rattle.lu_proof_lawful.specs.Covered.Heads.{Head}
use Rattle.lu_spec_laws.specs.Words.Lost.{is_lost}
use Rattle.lu_proof_lawful.proofs.Preconditions.Grown.{Grown}
use Rattle.lu_proof_bytes.specs.Object.Folds.{nothing_lost}
use Rattle.lu_proof_bytes.specs.Object.History.{history}
use Rattle.lu_proof_lawful.specs.Projection.Stories.{story}
use Rattle.lu_proof_lawful.proofs.Refinement.HistoryLost.{history_same}
use Rattle.lu_proof_lawful.proofs.Refinement.KeptLines.{MadeAt}
use Rattle.lu_proof_lawful.specs.Fits.{WasMade}
use Rattle.lu_proof_lawful.proofs.Laws.Commits.{listed}
use Rattle.lu_proof_lawful.proofs.Laws.LostNumbers.{lost_is}

pub lost_so_far : (head : Head) (past : List Line) → Grown head past → (outs : ℕ → Bool) (t : ℕ) (r : Resource)
    → history outs (is_lost (printed past) t) (story t r past) ≡ history outs nothing_lost (story t r past)
lost_so_far head past g outs t r = history_same head t r past g outs (is_lost (printed past) t) nothing_lost
    (λ n m stands. lost_is head t past g n (made n m) ∙ stands)
  where
    made : (n : ℕ) → MadeAt (only t past) n → WasMade t past n
    made n m = subst (WasMade t past) m.3 (listed head t past m.0 g m.1 m.2).made
