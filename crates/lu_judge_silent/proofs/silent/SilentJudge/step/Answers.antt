use Rattle.std.proofs.lemmas.Result.{on_ok_weaker}
use Rattle.lu_judge_silent.proofs.Begins.{shorter}
use Rattle.lu_judge_silent.proofs.silent.SilentJudge.step.Goals as goal

pub returns-clause-shows : goal.returns-clause-shows
returns-clause-shows c =
    on_ok_weaker c.step-3.result
    (λ steps past later shown placed law. record {
      short = shown.short;
      ledger = steps past placed.ordered placed.messages.order shown.ledger;
      held = c.in_ok-step-2.ensures.shows past shown.ledger shown.held;
      known = c.in_ok-step.ensures.shows past (shorter _ c.args.self.now.lines.now later c.args.line.now past placed.whole shown.short)
          shown.ledger shown.known;
    })
    c.step-3.ensures.shows
