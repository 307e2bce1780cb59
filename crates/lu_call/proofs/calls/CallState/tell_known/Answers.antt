use Rattle.std.proofs.Common.{None}
use Rattle.lu_call.proofs.Beginning.{tells_pinned}
use Rattle.lu_call.proofs.calls.CallState.tell_known.Goals as goal

pub returns : goal.returns
returns c = record {
  goes = λ slot row told. tells_pinned c.args.at slot row c.args.known c.args.self.now c.pin_all.new.self told
      c.in_ok-pin_all.ensures.pinned c.in_ok-pin_all.ensures.store (c.tell.ensures.told slot None);
}
