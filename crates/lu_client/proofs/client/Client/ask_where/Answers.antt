use Rattle.std.proofs.Common.{ℕ, ◌<◌, subst}
use Rattle.lu_client.proofs.Reminding.{wheres_next}
use Rattle.lu_client.proofs.client.Client.ask_where.Goals as goal

pub loop-slot-preserved : goal.loop-slot-preserved
loop-slot-preserved c =
    wheres_next c.args.target.0 c.loop-slot.slot c.args.self.now c.args.turn.now c.loop-slot.turn c.ask_where_of.new.turn
    (subst (λ (n : ℕ). c.loop-slot.slot < n) c.slots-slot-end.ensures.slots c.loop-slot-test.true)
    c.loop-slot.invariant c.in_ok-ask_where_of.ensures.makes
