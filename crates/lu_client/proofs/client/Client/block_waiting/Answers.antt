use Rattle.std.proofs.Common.{◌≡◌, Some, sym, ap, ◌∙◌}
use Rattle.lu_spec_client.specs.Messages.{blocked_waiting, lock_blocked, on_slot, waiter}
use Rattle.lu_client.proofs.Granting.{found_waits}
use Rattle.lu_client.proofs.Making.{makes_as}
use Rattle.lu_client.proofs.client.Client.block_waiting.Goals as goal

pub block_call-requires : goal.block_call-requires
block_call-requires c = record {
  slot = (found_waits c.args.name c.args.self.now.client.calls c.in-Some.slot
      (sym c.waiter.ensures.waiter ∙ c.in-Some.is)).0;
}

pub returns-in-Some : goal.returns-in-Some
returns-in-Some c =
    let waits : waiter c.args.name 0 c.args.self.now.client.calls ≡ Some c.in-Some.slot = sym c.waiter.ensures.waiter ∙ c.in-Some.is in
    record {
      makes = makes_as {row = λ k. on_slot lock_blocked (Some c.in-Some.slot) k}
          (ap (blocked_waiting c.args.name c.args.self.now.client) (sym waits)) (c.block_call.ensures.makes c.args.turn.now);
    }
