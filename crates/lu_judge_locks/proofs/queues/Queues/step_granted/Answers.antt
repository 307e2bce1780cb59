-- A lock comes, some are ended, or nothing changes.
use Rattle.std.proofs.Common.{refl, rules, ◌==◌}
use Rattle.std.proofs.lemmas.Result.{on_ok_weaker}
use Rattle.lu_judge_locks.proofs.Lasting.{adds_shown, ends_shown, quiet_shown}
use Rattle.lu_judge_locks.proofs.Stepped.{released, crashed}
use Rattle.lu_judge_locks.proofs.queues.Queues.step_granted.Goals as goal

pub returns-in-Grant-clause-granted : goal.returns-in-Grant-clause-granted
returns-in-Grant-clause-granted c =
    rw c.in-Grant.is (on_ok_weaker c.add.result (λ adds. λ all shown. adds_shown c.args.self.now.granted c.add.new.self c.args.target _ all
    _ adds shown (λ t. refl)) c.add.ensures.added)

pub returns-in-Restore-clause-granted : goal.returns-in-Restore-clause-granted
returns-in-Restore-clause-granted c =
    rw c.in-Restore.is (on_ok_weaker c.add-in-Restore.result (λ adds. λ all shown. adds_shown c.args.self.now.granted
    c.add-in-Restore.new.self c.args.target _ all _ adds shown (λ t. refl)) c.add-in-Restore.ensures.added)

pub returns-in-Release-clause-granted : goal.returns-in-Release-clause-granted
returns-in-Release-clause-granted c =
    rw c.in-Release.is
    (on_ok_weaker c.end_cookie.result
    (λ ends. λ all shown. ends_shown c.args.self.now.granted c.end_cookie.new.self c.args.place _ all _ ends shown
    (λ t. released (c.args.target == t) c.in-Release.cookie.0 (all t)))
    c.end_cookie.ensures.ends)

pub returns-in-Crash-clause-granted : goal.returns-in-Crash-clause-granted
returns-in-Crash-clause-granted c =
    rw c.in-Crash.is
    (on_ok_weaker c.end_target.result (λ ends. λ all shown. ends_shown c.args.self.now.granted c.end_target.new.self c.args.place _ all _
    ends shown (λ t. crashed (c.args.target == t) (all t))) c.end_target.ensures.ends)

pub returns-in_default : goal.returns-in_default
returns-in_default c = record {
  granted = λ all shown. quiet_shown c.args.self.now.granted c.args.place all _ shown (λ t. search rules);
  waiting = refl;
}
