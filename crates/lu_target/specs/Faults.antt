-- What a turn that wasn't made is to the target's caller.
use Rattle.std.specs.Prelude.{◌≡◌}
use Rattle.lu_trace.specs.declared.traces.Step.{Step}
use Rattle.lu_target_server.specs.declared.booting.BeginFault.{BeginFault}
use Rattle.lu_target_server.specs.declared.booting.BeginFault.TheVariants as begin
use Rattle.lu_target_server.specs.declared.faults.TurnFault.{TurnFault}
use Rattle.lu_target_server.specs.declared.faults.TurnFault.TheVariants as fault
use Rattle.lu_target.specs.declared.faults.StepFault.{StepFault}
use Rattle.lu_target.specs.declared.faults.StepFault.TheVariants as step_fault
use Rattle.lu_target.specs.declared.faults.BootFault.{BootFault}
use Rattle.lu_target.specs.declared.faults.BootFault.TheVariants as boot_fault

-- in a turn that gave this step
abbrev pub step_fault_of : TurnFault → Step → StepFault
step_fault_of fault.Disk step = step_fault.Disk step
step_fault_of fault.NumbersSpent step = step_fault.NumbersSpent
step_fault_of fault.Memory step = step_fault.Memory

abbrev pub IsBootFault : BeginFault → Step → BootFault → Type 0
IsBootFault begin.BootsSpent step f = f ≡ boot_fault.BootsSpent
IsBootFault (begin.Turn fault.Disk) step f = f ≡ boot_fault.Disk step
IsBootFault (begin.Turn fault.NumbersSpent) step f = ⊥
IsBootFault (begin.Turn fault.Memory) step f = f ≡ boot_fault.Memory
