-- What a reader answers, beside what is read by the definitions: the same, unless memory ran out.
use Rattle.std.specs.Prelude.{◌≡◌, Result, Ok, Err}
use Rattle.lu_scene.specs.declared.faults.Fault.{Fault}
use Rattle.lu_scene.specs.declared.faults.LineError.{LineError}
use Rattle.lu_scene.specs.declared.faults.LineError.TheVariants as errors

abbrev pub Fails : {Y : Type 0} → LineError → Result Y Fault → Type 0
Fails errors.Memory read = Unit {0}
Fails (errors.Bad fault) read = read ≡ Err fault

abbrev pub Gives : {X : Type 0} → Result X LineError → Result X Fault → Type 0
Gives (Ok x) read = read ≡ Ok x
Gives (Err e) read = Fails e read

-- the same of a call that changes a value
abbrev pub Follows : {X : Type 0} → Result (Unit {0}) LineError → X → Result X Fault → Type 0
Follows (Ok done) after read = read ≡ Ok after
Follows (Err e) after read = Fails e read
