use Rattle.std.proofs.Common.{ℕ, ◌<◌, subst}
use Rattle.lu_client.proofs.Reminding.{ticks_next, ticks_inside}
use Rattle.lu_client.proofs.client.Client.remind_all.Goals as goal

pub loop-target-preserved : goal.loop-target-preserved
loop-target-preserved c =
    ticks_next c.loop-target.target c.args.self.now c.loop-target.self c.remind.new.self c.args.turn.now c.loop-target.turn
    c.remind.new.turn
    (ticks_inside c.loop-target.target c.args.self.now c.loop-target.self c.args.turn.now c.loop-target.turn c.loop-target.invariant
    (subst (λ (n : ℕ). c.loop-target.target < n) c.targets-target-end.ensures.targets c.loop-target-test.true))
    c.loop-target.invariant c.in_ok-remind.ensures.makes
