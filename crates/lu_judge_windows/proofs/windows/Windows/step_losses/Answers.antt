use Rattle.std.proofs.Common.{◌∷◌, refl, sym, subst}
use Rattle.lu_trace.specs.declared.entries.Line.{Line}
use Rattle.lu_judge_windows.specs.Losses.{ShowsLosses}
use Rattle.lu_judge_windows.proofs.LossLines.{fail_shown, close_line, client_fails, client_closes}
use Rattle.lu_judge_windows.proofs.windows.Windows.step_losses.Goals as goal

pub returns-in_ok-close-in-Target : goal.returns-in_ok-close-in-Target
returns-in_ok-close-in-Target c = record {
  losses = λ past ledger shown.
      subst (λ (l : Line). ShowsLosses c.close.new.self.losses (l ∷ past))
      (sym (close_line c.args.line.now c.in-Target.target c.in-Target.is c.in-Close.is))
      (c.in_ok-close-in-Target.ensures.losses past ledger shown);
  others = c.in_ok-close-in-Target.ensures.others;
}

pub returns-in-Client : goal.returns-in-Client
returns-in-Client c = record {
  losses = λ past ledger shown. rw c.in-Close.is (client_closes c.args.self.now.losses past c.args.line.now.at c.in-Client.field-0
      c.in-Client.is shown.losses);
  others = refl;
}

pub returns-in_ok-fail-in-Target-node : goal.returns-in_ok-fail-in-Target-node
returns-in_ok-fail-in-Target-node c = record {
  losses = λ past ledger shown.
      rw c.in-Fail.is
      (fail_shown c.args.line.now.at c.in-Target-node.target c.in-Target-node.is past c.args.self.now.losses c.fail.new.self shown.losses
      c.in_ok-fail-in-Target-node.ensures.lost c.in_ok-fail-in-Target-node.ensures.failed);
  others = refl;
}

pub returns-in-Client-node : goal.returns-in-Client-node
returns-in-Client-node c = record {
  losses = λ past ledger shown. rw c.in-Fail.is (client_fails c.args.self.now.losses past c.args.line.now.at c.in-Client-node.field-0
      c.in-Client-node.is shown.losses);
  others = refl;
}
