use Rattle.std.proofs.Common.{◌<◌, ◌∷◌, length, sym, subst, arith}
use Rattle.lu_trace.specs.declared.entries.Line.{Line}
use Rattle.lu_spec_laws.specs.Words.Pasts.{Past}
use Rattle.lu_judge_pass.specs.Firsts.{before}
use Rattle.lu_judge_pass.specs.Ledgers.{ShowsGone}
use Rattle.lu_judge_pass.proofs.Wholes.{before_more}
use Rattle.lu_judge_pass.proofs.evictions.gone_in.Goals as goal

pub loop-place-preserved : goal.loop-place-preserved
loop-place-preserved c = record {
  within = omega arith;
  shows =
      let below : c.loop-place.place < length c.args.lines.now = omega arith in
      let past = before c.args.lines.now c.loop-place.place in
      subst (λ (past : Past). ShowsGone c.step.new.self past)
      (sym (before_more c.args.lines.now c.loop-place.place c.index-lines-place.result below))
      (subst (λ (l : Line). ShowsGone c.step.new.self (l ∷ past)) c.index-lines-place.is
      (c.in_ok-step.ensures.shows past c.loop-place.invariant.shows));
}
