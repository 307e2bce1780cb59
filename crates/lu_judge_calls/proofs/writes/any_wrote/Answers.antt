-- The write that was found is one of them.
use Rattle.std.proofs.Common.{◌-◌, sym, ap, ◌∙◌, arith}
use Rattle.lu_spec_laws.specs.Words.Pieces.{wrote}
use Rattle.lu_spec_laws.proofs.Tests.{both}
use Rattle.lu_judge_calls.specs.declared.kept.Kept.{Kept}
use Rattle.lu_judge_calls.specs.Marks.{mark_of, has_mark}
use Rattle.lu_judge_calls.proofs.Searches.{found, below_is}
use Rattle.lu_judge_calls.proofs.writes.any_wrote.Goals as goal

pub returns-then-wrote : goal.returns-then-wrote
returns-then-wrote c =
    let test = has_mark c.args.limit (wrote c.args.position c.args.byte) in
    sym (found test c.args.writes.now (c.loop-left.left - 1) c.index-writes-left.result
    (let within = c.loop-left.invariant.within in let some = c.loop-left-test.true in omega arith)
    (ap (λ (k : Kept). test (mark_of k)) (sym c.index-writes-left.is)
    ∙ both (below_is _ _ c.if-kept-limit.true) (sym c.wrote.ensures ∙ c.if-wrote.true)))
