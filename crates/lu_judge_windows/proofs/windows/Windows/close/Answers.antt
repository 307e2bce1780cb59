use Rattle.std.proofs.Common.{refl, sym, ◌∙◌}
use Rattle.lu_judge_windows.proofs.LossLines.{failed_close, close_shown}
use Rattle.lu_judge_windows.proofs.windows.Windows.close.Goals as goal

pub returns-then-has_failed : goal.returns-then-has_failed
returns-then-has_failed c = record {
  losses = λ past ledger shown. failed_close c.args.stamp.0 c.args.target past c.args.self.now.losses shown.losses
      (sym c.has_failed.ensures.failed ∙ c.if-has_failed.true);
  others = refl;
}

pub returns : goal.returns
returns c = record {
  losses = λ past ledger shown.
      close_shown c.args.stamp.0 c.args.target past c.args.self.now.losses c.lose.new.self c.in_ok-numbers.numbers shown.losses
      (sym c.has_failed.ensures.failed ∙ c.if-has_failed.false)
      (c.in_ok-numbers.ensures.lost past ledger shown) c.in_ok-lose.ensures.failed c.in_ok-lose.ensures.lost;
  others = refl;
}
