use Rattle.std.proofs.Common.{◌==◌, ◌<◌, Bor, length, sym, arith}
use Rattle.lu_msg.specs.declared.messages.Request.{Request}
use Rattle.lu_judge_acts.proofs.Notices.{any_passed, any_found, any_ended}
use Rattle.lu_judge_acts.proofs.flights.has_number.Goals as goal

pub returns-then-is_of_number : goal.returns-then-is_of_number
returns-then-is_of_number c =
    let below : c.loop-place.place < length c.args.flight.now = omega arith in
    record {
      number =
          any_found (λ (r : Request). r.xid.0 == c.args.xid.0) (λ (r : Bor Request). r.now) c.args.flight.now c.loop-place.place
          c.index-flight-place.result below (sym c.index-flight-place.is)
          c.is_of_number.result c.is_of_number.ensures.number c.if-is_of_number.true c.loop-place.invariant.none;
    }

pub loop-place-preserved : goal.loop-place-preserved
loop-place-preserved c =
    let below : c.loop-place.place < length c.args.flight.now = omega arith in
    record {
      within = omega arith;
      none =
          any_passed (λ (r : Request). r.xid.0 == c.args.xid.0) (λ (r : Bor Request). r.now) c.args.flight.now c.loop-place.place
          c.index-flight-place.result below (sym c.index-flight-place.is)
          c.is_of_number.result c.is_of_number.ensures.number c.if-is_of_number.false c.loop-place.invariant.none;
    }

pub returns : goal.returns
returns c = record {
  number = any_ended (λ (r : Request). r.xid.0 == c.args.xid.0) (λ (r : Bor Request). r.now) c.args.flight.now
      c.loop-place.place (omega arith) c.loop-place.invariant.none;
}
