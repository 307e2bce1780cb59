use Rattle.std.proofs.Common.{◌≡◌, ℕ, ◌<◌, ◌≤◌, List, ◌∷◌, length, sym, ap, subst, arith}
use Rattle.std.specs.Prelude.{reverse}
use Rattle.std.proofs.lemmas.List.{take_all}
use Rattle.lu_trace.specs.declared.entries.Line.{Line}
use Rattle.lu_spec_laws.specs.Words.Pasts.{Past}
use Rattle.lu_judge_pass.specs.Firsts.{before}
use Rattle.lu_judge_pass.proofs.Wholes.{before_more}
use Rattle.lu_judge_acts.specs.Tables.{ShowsStanding}
use Rattle.lu_judge_acts.proofs.standing.standing_in.Goals as goal

pub loop-place-preserved : goal.loop-place-preserved
loop-place-preserved c = record {
  within = omega arith;
  shows = λ whole lost.
      let below : c.loop-place.place < length c.args.lines.now = omega arith in
      let past = before c.args.lines.now c.loop-place.place in
      subst (λ (past : Past). ShowsStanding c.step.new.self whole past)
      (sym (before_more c.args.lines.now c.loop-place.place c.index-lines-place.result below))
      (subst (λ (l : Line). ShowsStanding c.step.new.self whole (l ∷ past)) c.index-lines-place.is
      (c.in_ok-step.ensures.shows whole past lost (c.loop-place.invariant.shows whole lost)));
}

pub loop-place-init : goal.loop-place-init
loop-place-init c = record { within = omega arith; shows = λ whole lost. c.new-standing.ensures.shows whole }

all_lines : (lines : List Line) (place : ℕ) → length lines ≤ place → before lines place ≡ reverse lines
all_lines lines place past = ap reverse (take_all place lines past)

pub returns : goal.returns
returns c = record {
  shows = λ whole lost.
      subst (λ (past : Past). ShowsStanding c.loop-place.standing whole past) (all_lines c.args.lines.now c.loop-place.place (omega arith))
      (c.loop-place.invariant.shows whole lost);
}
