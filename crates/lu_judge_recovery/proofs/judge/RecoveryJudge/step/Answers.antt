use Rattle.std.proofs.Common.{reverse}
use Rattle.std.proofs.lemmas.Result.{on_ok_weaker}
use Rattle.lu_spec_laws.specs.Words.Clients.{clients}
use Rattle.lu_judge_names.proofs.FormedLines.{formed_at}
use Rattle.lu_judge_recovery.proofs.AtLines.{rises}
use Rattle.lu_judge_recovery.proofs.judge.RecoveryJudge.step.Goals as goal

pub returns-clause-shows : goal.returns-clause-shows
returns-clause-shows c =
    on_ok_weaker c.step-8.result
    (λ steps past later shown placed law.
    let formed = formed_at (reverse c.args.self.now.lines.now) past c.args.line.now later placed.whole shown.formed in
    record {
      greatest = shown.greatest;
      failing = shown.failing;
      formed = shown.formed;
      known = steps past placed.ordered placed.messages.order formed.0
          (rises (clients (reverse c.args.self.now.lines.now)) c.args.self.now.known.osts past c.args.line.now later c.args.line.now.entry
          law) shown.known;
      marks = c.in_ok-step-4.ensures.shows past shown.marks;
      made = c.in_ok-step-5.ensures.shows past shown.made;
      noted = c.in_ok-step-6.ensures.shows past shown.noted;
      settled = c.in_ok-step-3.ensures.shows past shown.known.windows shown.settled;
      callbacks = c.in_ok-step-7.ensures.shows past shown.callbacks;
      returns = c.in_ok-step-2.ensures.shows past shown.known.ledger shown.known.windows shown.returns;
      closings = c.in_ok-step.ensures.shows past shown.known.ledger shown.known.windows shown.closings;
    })
    c.step-8.ensures.shows
