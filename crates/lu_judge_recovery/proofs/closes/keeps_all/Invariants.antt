use Rattle.std.proofs.Common.{◌≡◌, ◌≤◌, ◌-◌, true, List, length, take}
use Rattle.lu_base.specs.declared.ids.At.{At}
use Rattle.lu_trace.specs.declared.entries.Line.{Line}
use Rattle.lu_spec_machine.specs.Footprint.{Every}
use Rattle.lu_spec_laws.specs.Words.Closes.{will_keep}
use Rattle.lu_judge_recovery.specs.Rest.{ShowsRest}
use Rattle.lu_judge_recovery.proofs.closes.keeps_all.Given as goal

abbrev pub invariant-loop-place : goal.invariant-loop-place
invariant-loop-place l = record {
  within : l.place ≤ length l.numbers;
  keeps : (at : At) (later : List Line) → ShowsRest l.rest at later → Every (λ n. will_keep at later n ≡ true) (take l.place l.numbers);
}

abbrev pub decreases-loop-place : goal.decreases-loop-place
decreases-loop-place l = length l.numbers - l.place
