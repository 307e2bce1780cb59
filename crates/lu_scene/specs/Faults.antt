-- Faults in words.
use Rattle.std.specs.Prelude.{ℕ, List, ◌∷◌, ◌++◌, codes, decimal}
use Rattle.lu_scene.specs.declared.faults.Fault.{Fault}
use Rattle.lu_scene.specs.declared.faults.Fault.TheVariants as faults
use Rattle.lu_scene.specs.declared.faults.SceneFault.{SceneFault}
use Rattle.lu_scene.specs.declared.faults.SceneFault.TheVariants as outcomes

-- the name of a fault
abbrev pub fault_text : Fault → List ℕ
fault_text faults.Line = codes "Line"
fault_text faults.UnknownLine = codes "UnknownLine"
fault_text faults.UnknownCall = codes "UnknownCall"
fault_text faults.Header = codes "Header"
fault_text faults.Fields = codes "Fields"
fault_text faults.Number = codes "Number"
fault_text faults.Node = codes "Node"
fault_text faults.Path = codes "Path"
fault_text faults.Data = codes "Data"

-- a text that is no scenario: its first bad line, and what is wrong with it
abbrev pub bad_line_text : ℕ → Fault → List ℕ
bad_line_text line fault = codes "scene " ++ decimal line ++ 32 ∷ fault_text fault

-- why a text was not read as a scenario
abbrev pub scene_fault_text : SceneFault → List ℕ
scene_fault_text (outcomes.Bad line fault) = bad_line_text line fault
scene_fault_text outcomes.Memory = codes "out of memory"
