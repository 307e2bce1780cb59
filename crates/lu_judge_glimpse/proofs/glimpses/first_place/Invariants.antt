use Rattle.std.proofs.Common.{◌≡◌, ◌-◌, length}
use Rattle.lu_judge_glimpse.specs.Shown.{Shown}
use Rattle.lu_judge_glimpse.proofs.glimpses.first_place.Given as goal

abbrev pub invariant-loop-pass : goal.invariant-loop-pass
invariant-loop-pass l = record {
  shown : Shown l.pass;
  lines : l.pass.lines ≡ l.initial.pass.lines;
  osts : l.pass.history.osts ≡ l.initial.pass.history.osts;
}

abbrev pub decreases-loop-pass : goal.decreases-loop-pass
decreases-loop-pass l = length l.pass.lines.now - l.pass.place
