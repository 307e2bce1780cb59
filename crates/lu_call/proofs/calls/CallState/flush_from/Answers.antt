-- Where all stripes are done it is told.
use Rattle.std.proofs.Common.{None}
use Rattle.lu_call.proofs.Going.{goes_as}
use Rattle.lu_call.proofs.calls.CallState.flush_from.Goals as goal

pub returns-in-None : goal.returns-in-None
returns-in-None c = record {
  goes = λ slot. goes_as (c.in-None.ensures.first c.args.at slot c.args.self.now) (c.tell.ensures.told slot None);
}
