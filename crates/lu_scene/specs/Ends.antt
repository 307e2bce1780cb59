-- What a reader of a text answers, beside what is read by the definitions: the same, unless memory ran out.
use Rattle.std.specs.Prelude.{◌≡◌, ℕ, Result, Ok, Err}
use Rattle.lu_scene.specs.declared.faults.LineError.{LineError}
use Rattle.lu_scene.specs.declared.faults.LineError.TheVariants as errors
use Rattle.lu_scene.specs.declared.faults.SceneFault.{SceneFault}
use Rattle.lu_scene.specs.declared.faults.SceneFault.TheVariants as outcomes

-- why a line was not read, at the line of a number
abbrev pub on_line : ℕ → LineError → SceneFault
on_line number errors.Memory = outcomes.Memory
on_line number (errors.Bad fault) = outcomes.Bad number fault

abbrev pub Stops : {X : Type 0} → SceneFault → Result X SceneFault → Type 0
Stops outcomes.Memory read = Unit {0}
Stops (outcomes.Bad number fault) read = read ≡ Err (outcomes.Bad number fault)

abbrev pub Ends : {X : Type 0} → Result X SceneFault → Result X SceneFault → Type 0
Ends (Ok x) read = read ≡ Ok x
Ends (Err e) read = Stops e read
