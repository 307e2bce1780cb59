use Rattle.std.proofs.Common.{sym, ◌∙◌}
use Rattle.lu_spec_client.specs.Starts.{with_stripes}
use Rattle.lu_client.proofs.Turning.{busy_left, busy_step}
use Rattle.lu_client.proofs.client.Client.call.Goals as goal

pub returns-then-has_call-clause-step : goal.returns-then-has_call-clause-step
returns-then-has_call-clause-step c =
    busy_step c.args.stamp c.args.slot (with_stripes c.args.call) c.args.self.now c.spend.result c.make_busy_turn-busy.result
    (sym c.has_call.ensures.has ∙ c.if-has_call.true) c.spend.ensures.same c.make_busy_turn-busy.ensures.step

pub returns-then-has_call-clause-after : goal.returns-then-has_call-clause-after
returns-then-has_call-clause-after c =
    busy_left c.args.stamp c.args.slot (with_stripes c.args.call) c.args.self.now c.spend.result c.spend.new.self
    (sym c.has_call.ensures.has ∙ c.if-has_call.true) c.spend.ensures.kept
