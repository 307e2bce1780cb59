use Rattle.std.proofs.Common.{refl, true, false, sym, ◌∙◌}
use Rattle.lu_judge_windows.proofs.FateLines.{keeps}
use Rattle.lu_judge_windows.proofs.windows.Windows.keep.Goals as goal

pub returns-then-not-stays : goal.returns-then-not-stays
returns-then-not-stays c = record {
  kept = λ past ns shown fate. keeps _ _ c.args.done.now.number _ false
      (sym (c.stays.ensures.stays past ns shown fate) ∙ c.if-not-stays.true) refl;
}

pub returns : goal.returns
returns c = record {
  kept = λ past ns shown fate. keeps _ _ c.args.done.now.number _ true
      (sym (c.stays.ensures.stays past ns shown fate) ∙ c.if-not-stays.false) c.in_ok-push.ensures.added;
}
