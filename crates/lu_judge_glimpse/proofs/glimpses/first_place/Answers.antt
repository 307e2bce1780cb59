use Rattle.std.proofs.Common.{◌≡◌, ℕ, ◌≤◌, true, false, length, arith, sym, subst, ap, ◌∙◌}
use Rattle.std.specs.Prelude.{Option, Some, None, IfSome}
use Rattle.lu_judge_pass.specs.Firsts.{IsFirst}
use Rattle.lu_judge_glimpse.specs.Shown.{law_of}
use Rattle.lu_judge_glimpse.proofs.Passed.{all_hold, same_first, same_holds}
use Rattle.lu_judge_glimpse.proofs.glimpses.first_place.Goals as goal

pub returns-in-Some : goal.returns-in-Some
returns-in-Some c =
    let q = c.end_turn.new.self in
    let lines = c.in_ok-place.ensures.lines ∙ c.in_ok-look.ensures.lines ∙ c.in_ok-step.ensures.lines ∙ c.loop-pass.invariant.lines in
    let osts = c.in_ok-place.ensures.osts ∙ c.in_ok-look.ensures.osts ∙ c.in_ok-step.ensures.osts ∙ c.loop-pass.invariant.osts in
    same_first q.lines.now c.args.pass.lines.now q.history.osts c.args.pass.history.osts (Some c.in-Some.place) (ap (λ r. r.now) lines) osts
    (subst (λ (o : Option ℕ). IfSome o (λ i. IsFirst (law_of c.end_turn.new.self) c.end_turn.new.self.lines.now (Some i))) c.in-Some.is
    c.in_ok-place.ensures.some)

pub loop-pass-preserved : goal.loop-pass-preserved
loop-pass-preserved c =
    let looked = c.in_ok-look.ensures.looked in
    let on = sym c.ends.ensures.ends ∙ c.if-ends.false in
    record {
      shown = record {
        kept = looked.kept;
        seen = looked.seen;
        done = λ ended. absurd (cc (ended, on));
      };
      lines = c.in_ok-look.ensures.lines ∙ c.in_ok-step.ensures.lines ∙ c.loop-pass.invariant.lines;
      osts = c.in_ok-look.ensures.osts ∙ c.in_ok-step.ensures.osts ∙ c.loop-pass.invariant.osts;
    }

pub returns : goal.returns
returns c =
    let p = c.loop-pass.pass in
    let over : length c.loop-pass.pass.lines.now ≤ c.loop-pass.pass.place = omega arith in
    same_holds p.lines.now c.args.pass.lines.now p.history.osts c.args.pass.history.osts (ap (λ r. r.now) c.loop-pass.invariant.lines)
    c.loop-pass.invariant.osts
    (all_hold p c.loop-pass.invariant.shown over)
