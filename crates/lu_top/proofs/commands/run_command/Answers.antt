use Rattle.std.proofs.Common.{map, string_bytes}
use Rattle.lu_top.proofs.commands.run_command.Goals as goal

pub returns-in-Ok-clause-back : goal.returns-in-Ok-clause-back
returns-in-Ok-clause-back g c = λ ran. (map string_bytes c.as_slice.result.now, c.run.ensures.back ran)

pub returns-in-Ok-clause-disk_fault_written : goal.returns-in-Ok-clause-disk_fault_written
returns-in-Ok-clause-disk_fault_written g c = λ t failed. (
  map string_bytes c.as_slice.result.now,
  c.run.ensures.disk_fault_written t failed,
)
