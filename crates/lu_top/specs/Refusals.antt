-- The lines that say why nothing is performed or judged, or why a run went no further.
use Rattle.std.specs.Prelude.{ℕ, List, [], ◌∷◌, ◌++◌, codes}
use Rattle.lu_scene.specs.declared.faults.Fault.{Fault}
use Rattle.lu_base.specs.declared.faults.ReadError.TheVariants as errors
use Rattle.lu_base.specs.Errors.{read_error_text}
use Rattle.lu_scene.specs.Faults.{bad_line_text}
use Rattle.lu_judge_reader.specs.declared.faults.ReadFault.TheVariants as unread
use Rattle.lu_judge_reader.specs.Faults.{read_fault_text as unread_text}

-- the line that names the forms of a command line
abbrev pub usage_text : List ℕ
usage_text = codes "usage: play, threads, storm N or judge\n"

-- the lines that say why a source was not read
abbrev pub read_fault_text : List ℕ
read_fault_text = read_error_text errors.ReadFault ++ 10 ∷ []

abbrev pub too_long_text : List ℕ
too_long_text = read_error_text errors.TooLong ++ 10 ∷ []

-- the line that says that a text is no scenario: its first bad line, and what is wrong with it
abbrev pub bad_text : ℕ → Fault → List ℕ
bad_text line fault = bad_line_text line fault ++ 10 ∷ []

-- the line that says that a text is none of a trace: its first bad line
abbrev pub bad_trace_text : ℕ → List ℕ
bad_trace_text line = unread_text (unread.Line line) ++ 10 ∷ []

-- the line that says that a node met what no run is known to bring
abbrev pub unforeseen_text : List ℕ
unforeseen_text = codes "unforeseen\n"
