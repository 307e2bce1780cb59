-- The exit codes.
use Rattle.std.specs.Prelude.{ℕ}
use Rattle.lu_top.specs.declared.status.Status.{Status}
use Rattle.lu_top.specs.declared.status.Status.TheVariants.{Done, Unlawful, Usage, Scene, Trace, TooLong, ReadFault, WriteFault, DiskFault}
use Rattle.lu_top.specs.declared.status.Status.TheVariants.{Memory, Unforeseen}

-- the exit code of each status
abbrev pub code_of : Status → ℕ
code_of Done = 0
code_of (Unlawful law line) = 1
code_of Usage = 2
code_of (Scene line fault) = 3
code_of (Trace line) = 3
code_of TooLong = 3
code_of ReadFault = 4
code_of WriteFault = 5
code_of (DiskFault target) = 6
code_of Memory = 7
code_of Unforeseen = 8
