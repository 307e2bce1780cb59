-- What goes to a store's disk, and why a call wasn't done.
use Rattle.std.specs.Prelude.{◌≡◌, ◌≢◌, ℕ, ◌≤◌, ◌-◌, ◌^◌, ◌⊎◌, min, max, List, [], ◌∷◌, Option, Some, None, Err}
use Rattle.std.specs.List.{fold}
use Rattle.std.specs.declared.result.Result.{Result}
use Rattle.lu_base.specs.Faults.{Rose}
use Rattle.lu_disk.specs.declared.disks.DiskError.{DiskError}
use Rattle.lu_disk.specs.declared.disks.DiskError.TheVariants as error
use Rattle.lu_msg.specs.declared.commits.Batch.{Batch}
use Rattle.lu_txn.specs.declared.logs.Logged.{Logged}
use Rattle.lu_txn.specs.Logs.{number}
use Rattle.lu_target_store.specs.declared.faults.StoreFault.{StoreFault}
use Rattle.lu_target_store.specs.declared.faults.StoreFault.TheVariants as fault

-- how many of so many transactions are the first `count`
abbrev pub counted : Option ℕ → ℕ → ℕ
counted None all = all
counted (Some count) all = min all count

-- the number of the last one of these transactions, or the one before them
abbrev pub last_in : ℕ → List Logged → ℕ
last_in n [] = n
last_in n (l ∷ transactions) = last_in (number l) transactions

-- what a disk's error is to the store
abbrev pub IsFaultOf : DiskError → StoreFault → Type 0
IsFaultOf error.Failed f = f ≡ fault.Disk
IsFaultOf error.Memory f = f ≡ fault.Memory

-- the disk failed, or memory was wanted
abbrev pub IsOfDisk : StoreFault → Type 0
IsOfDisk f = (f ≡ fault.Disk) ⊎ (f ≡ fault.Memory)

-- how many boots there are
abbrev pub most_boots : ℕ
most_boots = 2 ^ 32 - 1

-- the last boot among these batches
abbrev pub last_boot : List Batch → ℕ
last_boot batches = fold (λ boot (batch : Batch). max batch.boot boot) 0 batches

-- the disk's count never falls, rose where the disk failed, and is as before after each other answer
pub record HasCause {T : Type 0} (before now : ℕ) (result : Result T StoreFault) : Type 0 where
  pub later : before ≤ now
  pub failed : result ≡ Err fault.Disk → Rose before now
  pub steady : result ≢ Err fault.Disk → now ≡ before

-- a call that gave this fault
abbrev pub failure : StoreFault → Result (Unit {0}) StoreFault
failure f = Err f
