use Rattle.std.proofs.Common.{ℕ, ◌<◌, subst}
use Rattle.lu_client.proofs.Evicting.{joined}
use Rattle.lu_client.proofs.client.Client.join_all.Goals as goal

pub loop-target-preserved : goal.loop-target-preserved
loop-target-preserved c =
    joined c.loop-target.target c.args.self.now c.args.turn.now c.loop-target.turn c.join_at.new.turn
    (subst (λ (n : ℕ). c.loop-target.target < n) c.targets-target-end.ensures.targets c.loop-target-test.true) c.loop-target.invariant
    c.in_ok-join_at.ensures.makes
