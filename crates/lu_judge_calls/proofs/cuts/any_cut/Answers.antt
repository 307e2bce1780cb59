-- The cut that was found is one of them.
use Rattle.std.proofs.Common.{◌-◌, sym, ap, ◌∙◌, arith}
use Rattle.lu_spec_laws.proofs.Tests.{both}
use Rattle.lu_judge_calls.specs.declared.kept.Kept.{Kept}
use Rattle.lu_judge_calls.specs.Marks.{mark_of, has_mark, cuts_within}
use Rattle.lu_judge_calls.proofs.Searches.{found, below_is}
use Rattle.lu_judge_calls.proofs.cuts.any_cut.Goals as goal

pub returns-then-cuts_to : goal.returns-then-cuts_to
returns-then-cuts_to c =
    let test = has_mark c.args.limit (cuts_within c.args.layout.now c.args.stripe c.args.below) in
    sym (found test c.args.cuts.now (c.loop-left.left - 1) c.index-cuts-left.result
    (let within = c.loop-left.invariant.within in let some = c.loop-left-test.true in omega arith)
    (ap (λ (k : Kept). test (mark_of k)) (sym c.index-cuts-left.is)
    ∙ both (below_is _ _ c.if-kept-limit.true) (sym c.cuts_to.ensures ∙ c.if-cuts_to.true)))
