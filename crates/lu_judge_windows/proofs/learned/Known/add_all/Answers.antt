use Rattle.std.proofs.Common.{refl, arith}
use Rattle.lu_judge_windows.specs.Learned.{is_of}
use Rattle.lu_judge_windows.proofs.LearnedLines.{known_more}
use Rattle.lu_judge_windows.proofs.learned.Known.add_all.Goals as goal

pub loop-number-preserved : goal.loop-number-preserved
loop-number-preserved c = λ t w n.
    known_more (is_of c.args.target c.args.who t w) n _ c.loop-number.number-index c.as_slice-number-items.result.now _ _ _ (omega arith)
    (c.in_ok-add.ensures.added t w n) (c.loop-number.invariant t w n) refl
