use Rattle.std.proofs.Common.{◌≡◌, ◌+◌, ◌<◌, ℕ, List, length, take, arith, sym, subst, ◌∙◌}
use Rattle.std.specs.Prelude.{Option}
use Rattle.std.proofs.lemmas.List.{take_more, take_all}
use Rattle.lu_spec_laws.specs.Words.Glimpses.{machine_cut}
use Rattle.lu_judge_glimpse.specs.declared.wanted.Wanted.{Wanted}
use Rattle.lu_judge_glimpse.specs.Wanted.{meets, IsLeast}
use Rattle.lu_judge_glimpse.proofs.Loops.{least_step}
use Rattle.lu_judge_glimpse.proofs.wanted.first_unmet.Goals as goal
use Rattle.lu_judge_glimpse.proofs.wanted.first_unmet.Goals.{then-not-is_met, else-not-is_met}

pub loop-one-preserved : goal.loop-one-preserved
loop-one-preserved c = λ past shown.
    let ws = c.args.wanted.now in
    let i = c.loop-one.one-index in
    let below : c.loop-one.one-index < length c.args.wanted.now = omega arith in
    let steps = least_step (meets (machine_cut c.args.history.now.osts past)) ws (take i ws) (take (i + 1) ws) _ c.is_met.result
    c.loop-one.first (take_more ws i _ below) (c.is_met.ensures.met past shown) (c.loop-one.invariant past shown) in
    elim c.if-not-is_met.branch [
      | then-not-is_met w ↦ subst (λ (o : Option ℕ). IsLeast (meets (machine_cut c.args.history.now.osts past))
          (take (c.loop-one.one-index + 1) c.args.wanted.now) o) (sym (w.first-is ∙ w.lesser-first.ensures)) (steps.1 w.if-not-is_met.true)
      | else-not-is_met w ↦ subst (λ (o : Option ℕ). IsLeast (meets (machine_cut c.args.history.now.osts past))
          (take (c.loop-one.one-index + 1) c.args.wanted.now) o) (sym w.first-is) (steps.0 w.if-not-is_met.false)
    ]

pub returns : goal.returns
returns c = record {
  first = λ past shown.
      subst (λ (ws : List Wanted). IsLeast (meets (machine_cut c.args.history.now.osts past)) ws c.loop-one.first)
      (take_all c.loop-one.one-index c.args.wanted.now (omega arith)) (c.loop-one.invariant past shown);
}
