-- A lock comes, some wait no longer, or nothing changes.
use Rattle.std.proofs.Common.{refl, rules, ◌==◌}
use Rattle.std.proofs.lemmas.Result.{on_ok_weaker}
use Rattle.lu_judge_locks.proofs.Passing.{came_shown, gone_shown, quiet_waiting}
use Rattle.lu_judge_locks.proofs.Stepped.{evicted, crashed}
use Rattle.lu_judge_locks.proofs.queues.Queues.step_waiting.Goals as goal

pub returns-in-Wait-clause-waiting : goal.returns-in-Wait-clause-waiting
returns-in-Wait-clause-waiting c =
    rw c.in-Wait.is (on_ok_weaker c.wait.result (λ came. λ all shown. came_shown c.args.self.now.waiting c.wait.new.self c.args.target _ all
    _ came shown (λ t. refl)) c.wait.ensures.came)

pub returns-in-Grant-clause-waiting : goal.returns-in-Grant-clause-waiting
returns-in-Grant-clause-waiting c =
    rw c.in-Grant.is (on_ok_weaker c.grant.result (λ granted. λ all shown. granted c.args.place all _ shown (λ t. refl))
    c.grant.ensures.granted)

pub returns-in-Evict-clause-waiting : goal.returns-in-Evict-clause-waiting
returns-in-Evict-clause-waiting c =
    rw c.in-Evict.is
    (on_ok_weaker c.evict.result
    (λ gone. λ all shown. gone_shown c.args.self.now.waiting c.evict.new.self c.args.place _ all _ gone shown
    (λ t. evicted (c.args.target == t) c.in-Evict.who (all t)))
    c.evict.ensures.gone)

pub returns-in-Crash-clause-waiting : goal.returns-in-Crash-clause-waiting
returns-in-Crash-clause-waiting c =
    rw c.in-Crash.is
    (on_ok_weaker c.crash.result (λ gone. λ all shown. gone_shown c.args.self.now.waiting c.crash.new.self c.args.place _ all _ gone shown
    (λ t. crashed (c.args.target == t) (all t))) c.crash.ensures.gone)

pub returns-in_default : goal.returns-in_default
returns-in_default c = record {
  waiting = λ all shown. quiet_waiting c.args.self.now.waiting c.args.place all _ shown (λ t. search rules);
  granted = refl;
}
