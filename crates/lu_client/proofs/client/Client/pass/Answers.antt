use Rattle.lu_client.proofs.Passing.{passed}
use Rattle.lu_client.proofs.Unasked.{asks_then}
use Rattle.lu_client.proofs.client.Client.pass.Goals as goal

pub loop-slot-preserved : goal.loop-slot-preserved
loop-slot-preserved c = (
  passed c.loop-slot.slot c.args.self.now c.loop-slot.self c.go_on_slot.new.self c.args.turn.now c.loop-slot.turn c.go_on_slot.new.turn
      c.loop-slot-test.true c.loop-slot.invariant.0 c.in_ok-go_on_slot.ensures.makes,
  asks_then c.loop-slot.invariant.1 c.in_ok-go_on_slot.ensures.asks,
)
