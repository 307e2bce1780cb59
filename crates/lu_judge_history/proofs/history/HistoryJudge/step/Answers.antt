-- The tables show one line more.
use Rattle.std.proofs.lemmas.Result.{on_ok_weaker}
use Rattle.lu_judge_history.specs.Shown.{whole_of}
use Rattle.lu_judge_history.proofs.Given.{number_of}
use Rattle.lu_judge_history.proofs.history.HistoryJudge.step.Goals as goal

pub returns-clause-shows : goal.returns-clause-shows
returns-clause-shows c =
    on_ok_weaker c.step-4.result
    (λ led past later shown given law. record {
      gone = shown.gone;
      lost = shown.lost;
      limits = (given.limits, shown.limits);
      ledger = led past given.placed.ordered given.placed.messages.order shown.ledger;
      calls = c.in_ok-step-3.ensures.shows past given.placed.ordered given.placed.messages.order shown.ledger shown.calls;
      played = c.in_ok-step.ensures.shows c.args.self.now.osts (whole_of c.args.self.now) past shown.gone shown.lost shown.limits
          shown.ledger shown.calls shown.played;
      carried = c.in_ok-step-2.ensures.shows past given.placed.ordered given.placed.messages.order
          (number_of past c.args.line.now given.placed.messages.passes) shown.limits shown.ledger shown.calls shown.carried;
    })
    c.step-4.ensures.shows
