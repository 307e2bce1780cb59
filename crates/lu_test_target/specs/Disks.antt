-- A disk that a test begins with.
use Rattle.std.specs.Prelude.{◌≡◌, List, [], ◌∷◌}
use Rattle.lu_msg.specs.declared.commits.Batch.{Batch}

-- one batch, without transactions
pub record IsOne (batches : List Batch) : Type 0 where
  pub batch : Batch
  pub one : batches ≡ batch ∷ []
  pub none : batch.transactions ≡ []
