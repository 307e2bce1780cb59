use Rattle.std.proofs.Common.{ℕ, ◌<◌, subst}
use Rattle.lu_client.proofs.Fronts.{all_next}
use Rattle.lu_client.proofs.client.Client.send_all.Goals as goal

pub loop-target-preserved : goal.loop-target-preserved
loop-target-preserved c =
    all_next c.loop-target.target c.args.self.now c.loop-target.self c.send_to.new.self c.args.turn.now c.loop-target.turn
    c.send_to.new.turn
    (subst (λ (n : ℕ). c.loop-target.target < n) c.targets-target-end.ensures.targets c.loop-target-test.true)
    c.loop-target.invariant c.in_ok-send_to.ensures.makes c.in_ok-send_to.ensures.counted
