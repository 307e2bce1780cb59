-- When a disk's call may answer that it failed, and what a disk in memory shows (this project's profile).
use Rattle.std.specs.Prelude.{◌≡◌, ◌≢◌, ℕ, ◌≤◌, Err, List}
use Rattle.std.specs.declared.result.Result.{Result}
use Rattle.lu_base.specs.Faults.{Rose}
use Rattle.lu_msg.specs.declared.commits.Batch.{Batch}
use Rattle.lu_disk.specs.declared.disks.DiskError.{DiskError}
use Rattle.lu_disk.specs.declared.disks.DiskError.TheVariants.{Failed}

-- the count never falls, rose where the disk failed, and is as before after each other answer
pub record HasCause {T : Type 0} (before now : ℕ) (result : Result T DiskError) : Type 0 where
  pub later : before ≤ now
  pub failed : result ≡ Err Failed → Rose before now
  pub steady : result ≢ Err Failed → now ≡ before

-- the batches in the order of their commits, the numbers of the calls that fail, and the calls and faults so far
pub record MemoryBatches : Type 0 where
  pub batches : List Batch
  pub failing : List ℕ
  pub calls : ℕ
  pub faults : ℕ
