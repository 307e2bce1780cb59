use Rattle.std.proofs.Common.{ℕ, ◌<◌, ◌≤◌, length, sym, subst, ◌∙◌}
use Rattle.lu_client.proofs.Evicting.{ended, ended_all, ended_slots}
use Rattle.lu_client.proofs.client.Client.end_calls.Goals as goal

pub end_call-requires : goal.end_call-requires
end_call-requires c = record { slot = subst (λ (n : ℕ). c.loop-slot.slot < n) c.call_slots-slot-end.ensures.four c.loop-slot-test.true }

pub loop-slot-preserved : goal.loop-slot-preserved
loop-slot-preserved c =
    let inside : c.loop-slot.slot < length c.loop-slot.self.client.calls =
    subst (λ (n : ℕ). c.loop-slot.slot < n) (c.call_slots-slot-end.ensures.slots ∙ sym c.loop-slot.invariant.count)
    c.loop-slot-test.true in
    record {
      left = ended c.loop-slot.slot c.args.self.now c.loop-slot.self c.end_call.new.self c.args.turn.now c.loop-slot.turn
          c.end_call.new.turn inside c.loop-slot.invariant.left c.in_ok-end_call.ensures.makes;
      count = ended_slots c.loop-slot.turn.at c.loop-slot.slot c.loop-slot.self c.end_call.new.self c.loop-slot.turn c.end_call.new.turn
          c.in_ok-end_call.ensures.makes ∙ c.loop-slot.invariant.count;
    }

pub returns : goal.returns
returns c =
    let past : length c.loop-slot.self.client.calls ≤ c.loop-slot.slot =
    subst (λ (n : ℕ). n ≤ c.loop-slot.slot) (c.call_slots-slot-end.ensures.slots ∙ sym c.loop-slot.invariant.count)
    c.loop-slot-test.false in
    record {
      makes = ended_all c.loop-slot.slot c.args.self.now c.loop-slot.self c.args.turn.now c.loop-slot.turn past
          c.loop-slot.invariant.left;
    }
