use Rattle.std.proofs.Common.{◌≡◌, ◌<◌, length, sym, ap, ◌∙◌, arith}
use Rattle.lu_spec_laws.specs.Laws.Acts.{is_notice}
use Rattle.lu_judge_pass.specs.Tables.{sending_of}
use Rattle.lu_judge_acts.proofs.Notices.{any_passed, any_found, any_ended}
use Rattle.lu_judge_acts.proofs.acts.Acts.has_notice.Goals as goal

pub returns-then-is_notice : goal.returns-then-is_notice
returns-then-is_notice c =
    let below : c.loop-place.place < length c.args.sendings.now = omega arith in
    record {
      notice = λ past shown.
          any_found (λ s. is_notice past c.args.who s.from s.message) sending_of c.args.sendings.now c.loop-place.place
          c.index-sendings-place.result below (sym c.index-sendings-place.is)
          c.is_notice.result (c.is_notice.ensures.notice past shown) c.if-is_notice.true (c.loop-place.invariant.none past shown);
    }

pub loop-place-preserved : goal.loop-place-preserved
loop-place-preserved c =
    let below : c.loop-place.place < length c.args.sendings.now = omega arith in
    record {
      within = omega arith;
      none = λ past shown.
          any_passed (λ s. is_notice past c.args.who s.from s.message) sending_of c.args.sendings.now c.loop-place.place
          c.index-sendings-place.result below (sym c.index-sendings-place.is)
          c.is_notice.result (c.is_notice.ensures.notice past shown) c.if-is_notice.false (c.loop-place.invariant.none past shown);
    }

pub returns : goal.returns
returns c = record {
  notice = λ past shown.
      any_ended (λ s. is_notice past c.args.who s.from s.message) sending_of c.args.sendings.now c.loop-place.place (omega arith)
      (c.loop-place.invariant.none past shown);
}
