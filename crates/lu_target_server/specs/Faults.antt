-- Why a turn wasn't made.
use Rattle.std.specs.Prelude.{◌≡◌}
use Rattle.lu_target_locks.specs.declared.faults.LockFault.{LockFault}
use Rattle.lu_target_locks.specs.declared.faults.LockFault.TheVariants as lock_fault
use Rattle.lu_target_server.specs.declared.faults.TurnFault.{TurnFault}
use Rattle.lu_target_server.specs.declared.faults.TurnFault.TheVariants as fault

-- what a lock server's fault is to the turn
abbrev pub IsLockFault : LockFault → TurnFault → Type 0
IsLockFault lock_fault.CookiesSpent f = f ≡ fault.NumbersSpent
IsLockFault lock_fault.TicksSpent f = f ≡ fault.NumbersSpent
IsLockFault lock_fault.Memory f = f ≡ fault.Memory
