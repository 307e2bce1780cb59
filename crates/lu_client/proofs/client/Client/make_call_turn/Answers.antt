use Rattle.std.proofs.Common.{sym, subst, ◌∙◌}
use Rattle.lu_msg.specs.declared.calls.Call.{Call}
use Rattle.lu_call.specs.Ranges.{IsCall}
use Rattle.lu_spec_client.specs.Rows.{Begins, row}
use Rattle.lu_spec_client.specs.Slots.{begins}
use Rattle.lu_trace.specs.Turns.{Making}
use Rattle.lu_client.specs.Clients.{Makes, turn_of}
use Rattle.lu_client.proofs.Turning.{begins_asks, begun_turn, counted_then, first_making, given, left, numbers_still, still_call}
use Rattle.lu_client.proofs.client.Client.make_call_turn.Goals as goal

pub begin_call-requires-clause-range : goal.begin_call-requires-clause-range
begin_call-requires-clause-range c =
    subst (λ (call : Call). IsCall call) (sym c.with_stripes-call.ensures.call) (still_call c.args.call c.requires.range)

pub rest-requires : goal.rest-requires
rest-requires c = record {
  numbers = numbers_still (begins_asks c.turn-turn.result.at c.args.slot c.with_stripes-call.result
      c.in_ok-begin_call.ensures.makes) c.requires.numbers;
}

pub returns : goal.returns
returns c =
    let call = c.with_stripes-call.result in
    let begun : Makes (begins (turn_of c.args.stamp c.args.self.now) c.args.slot call) c.args.self.now c.begin_call.new.self
    (first_making c.args.stamp c.args.self.now) c.begin_call.new.turn =
    subst (λ (m : Making). Makes (begins m.at c.args.slot call) c.args.self.now c.begin_call.new.self m c.begin_call.new.turn)
    c.turn-turn.ensures.empty c.in_ok-begin_call.ensures.makes in
    let makes = subst (λ (v : Call). Makes (row c.args.self.now.limits (turn_of c.args.stamp c.args.self.now) (Begins c.args.slot v))
    c.args.self.now c.rest.new.self (first_making c.args.stamp c.args.self.now) c.rest.new.turn) c.with_stripes-call.ensures.call
    (begun_turn c.args.stamp c.args.slot call c.requires.free begun c.in_ok-rest.ensures.makes) in
    record {
      step = c.into_step.ensures.step ∙ given c.args.stamp c.rest.new.turn makes;
      after = left makes;
      counted = counted_then c.rest.new.self.client.imports (begins_asks c.turn-turn.result.at c.args.slot call
          c.in_ok-begin_call.ensures.makes) c.in_ok-rest.ensures.counted;
    }
