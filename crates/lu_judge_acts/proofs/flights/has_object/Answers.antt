use Rattle.std.proofs.Common.{◌<◌, Bor, length, sym, arith}
use Rattle.lu_msg.specs.declared.messages.Request.{Request}
use Rattle.lu_spec_laws.specs.Words.Requests.{same_object}
use Rattle.lu_judge_acts.proofs.Notices.{any_passed, any_found, any_ended}
use Rattle.lu_judge_acts.proofs.flights.has_object.Goals as goal

pub returns-then-same_object : goal.returns-then-same_object
returns-then-same_object c =
    let below : c.loop-place.place < length c.args.flight.now = omega arith in
    record {
      object =
          any_found (same_object c.args.request.now) (λ (r : Bor Request). r.now) c.args.flight.now c.loop-place.place
          c.index-flight-place.result below (sym c.index-flight-place.is)
          c.same_object.result c.same_object.ensures.same c.if-same_object.true c.loop-place.invariant.none;
    }

pub loop-place-preserved : goal.loop-place-preserved
loop-place-preserved c =
    let below : c.loop-place.place < length c.args.flight.now = omega arith in
    record {
      within = omega arith;
      none =
          any_passed (same_object c.args.request.now) (λ (r : Bor Request). r.now) c.args.flight.now c.loop-place.place
          c.index-flight-place.result below (sym c.index-flight-place.is)
          c.same_object.result c.same_object.ensures.same c.if-same_object.false c.loop-place.invariant.none;
    }

pub returns : goal.returns
returns c = record {
  object = any_ended (same_object c.args.request.now) (λ (r : Bor Request). r.now) c.args.flight.now c.loop-place.place
      (omega arith) c.loop-place.invariant.none;
}
