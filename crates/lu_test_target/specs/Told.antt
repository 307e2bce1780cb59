-- Batches of one transaction each, as a test has them.
use Rattle.std.specs.Prelude.{◌≡◌, ℕ, ◌<◌, List}
use Rattle.lu_service.specs.declared.services.Kind.TheVariants.{Mdt}
use Rattle.lu_msg.specs.declared.commits.Batch.{Batch}
use Rattle.lu_spec_target.specs.Stored.{last_number}
use Rattle.lu_target_refines.specs.Journals.{AreRising, AllRising, last_in}
use Rattle.lu_target_redo.specs.Shown.{AreRepeatable, AllRepeatable}

-- the batch has a transaction of this number, of what a service of names performs
pub record IsNext (number : ℕ) (batch : Batch) : Type 0 where
  pub repeatable : AreRepeatable Mdt batch.transactions
  pub rising : (n : ℕ) → n < number → AreRising n batch.transactions
  pub last : (n : ℕ) → last_number batch.transactions n ≡ number

-- their numbers rise, from above the root's on, and all are below this one
pub record AreNext (number : ℕ) (batches : List Batch) : Type 0 where
  pub repeatable : AllRepeatable Mdt batches
  pub rising : AllRising 1 batches
  pub below : last_in 1 batches < number
