use Rattle.std.proofs.Common.{refl}
use Rattle.lu_judge_recovery.proofs.Calling.{release_shows}
use Rattle.lu_judge_recovery.proofs.callbacks.TargetCalls.step.Goals as goal

pub returns-in-Release : goal.returns-in-Release
returns-in-Release c = record {
  shows = λ past shown.
      rw c.in-Release.is
      (release_shows c.args.self.now (record c.args.self.now { holders = c.release.new.self }) c.args.turn.target c.args.turn.stamp
      c.in-Release.cookie past c.release.ensures.held refl shown);
}
