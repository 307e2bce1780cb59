use Rattle.std.proofs.Common.{◌==◌, ◌<◌, Bor, length, sym, arith}
use Rattle.lu_msg.specs.declared.messages.Request.{Request}
use Rattle.lu_judge_acts.proofs.Notices.{any_passed, any_found, any_ended}
use Rattle.lu_judge_acts.proofs.flights.has_tag.Goals as goal

pub returns-then-is_of_tag : goal.returns-then-is_of_tag
returns-then-is_of_tag c =
    let below : c.loop-place.place < length c.args.flight.now = omega arith in
    record {
      tag =
          any_found (λ (r : Request). r.tag == c.args.tag) (λ (r : Bor Request). r.now) c.args.flight.now c.loop-place.place
          c.index-flight-place.result below (sym c.index-flight-place.is)
          c.is_of_tag.result c.is_of_tag.ensures.tag c.if-is_of_tag.true c.loop-place.invariant.none;
    }

pub loop-place-preserved : goal.loop-place-preserved
loop-place-preserved c =
    let below : c.loop-place.place < length c.args.flight.now = omega arith in
    record {
      within = omega arith;
      none =
          any_passed (λ (r : Request). r.tag == c.args.tag) (λ (r : Bor Request). r.now) c.args.flight.now c.loop-place.place
          c.index-flight-place.result below (sym c.index-flight-place.is)
          c.is_of_tag.result c.is_of_tag.ensures.tag c.if-is_of_tag.false c.loop-place.invariant.none;
    }

pub returns : goal.returns
returns c = record {
  tag = any_ended (λ (r : Request). r.tag == c.args.tag) (λ (r : Bor Request). r.now) c.args.flight.now
      c.loop-place.place (omega arith) c.loop-place.invariant.none;
}
