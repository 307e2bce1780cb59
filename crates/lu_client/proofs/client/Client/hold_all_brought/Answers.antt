use Rattle.lu_client.proofs.Replying.{holds_next, holds_end}
use Rattle.lu_client.proofs.client.Client.hold_all_brought.Goals as goal

pub loop-lock-preserved : goal.loop-lock-preserved
loop-lock-preserved c =
    holds_next c.args.target.0 c.args.size c.args.locks.now c.loop-lock.lock-index _ c.args.self.now c.loop-lock.self c.hold_brought.new.self
    c.args.turn.now c.loop-lock.turn c.hold_brought.new.turn c.loop-lock-test.true c.loop-lock.invariant
    c.in_ok-hold_brought.ensures.held

pub returns : goal.returns
returns c =
    record {
      held = holds_end c.args.target.0 c.args.size c.args.locks.now c.loop-lock.lock-index c.args.self.now c.loop-lock.self c.args.turn.now
          c.loop-lock.turn c.loop-lock-test.false c.loop-lock.invariant;
    }
