-- The first one is passed, and a list is swept.
use Rattle.std.proofs.Common.{◌+◌, refl}
use Rattle.std.proofs.lemmas.Result.{on_ok_weaker}
use Rattle.lu_judge_locks.proofs.Passing.{swept_waiting}
use Rattle.lu_judge_locks.proofs.waiting.Waiting.grant.Goals as goal

pub returns : goal.returns
returns c = record {
  granted =
      on_ok_weaker c.sweep.result
      (λ swept. λ place all more shown is. swept_waiting c.pass.new.self _ c.args.target c.args.resource swept (λ t cookie. refl)
      (λ t cookie. refl) (place + 1) more (c.in_ok-pass.ensures.granted place all more shown is))
      c.sweep.ensures.swept;
}
