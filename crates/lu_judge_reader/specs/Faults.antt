-- Why a text isn't that of a trace, in words.
use Rattle.std.specs.Prelude.{ℕ, List, ◌++◌, codes, decimal}
use Rattle.lu_judge_reader.specs.declared.faults.ReadFault.{ReadFault}
use Rattle.lu_judge_reader.specs.declared.faults.ReadFault.TheVariants as faults

-- the first bad line, or that memory ran out
abbrev pub read_fault_text : ReadFault → List ℕ
read_fault_text (faults.Line line) = codes "trace " ++ decimal line
read_fault_text faults.Memory = codes "out of memory"
