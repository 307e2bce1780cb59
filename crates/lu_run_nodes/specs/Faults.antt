-- What the fault of a target or a client is to the nodes.
use Rattle.lu_target.specs.declared.faults.StepFault.{StepFault}
use Rattle.lu_target.specs.declared.faults.StepFault.TheVariants as step
use Rattle.lu_target.specs.declared.faults.BootFault.{BootFault}
use Rattle.lu_target.specs.declared.faults.BootFault.TheVariants as boot
use Rattle.lu_run_nodes.specs.declared.faults.TurnFault.{TurnFault}
use Rattle.lu_run_nodes.specs.declared.faults.TurnFault.TheVariants.{Disk, Unforeseen, Memory}

abbrev pub step_fault : StepFault → TurnFault
step_fault (step.Disk s) = Disk s
step_fault step.NumbersSpent = Unforeseen
step_fault step.Memory = Memory

abbrev pub boot_fault : BootFault → TurnFault
boot_fault (boot.Disk s) = Disk s
boot_fault boot.BootsSpent = Unforeseen
boot_fault boot.Memory = Memory
