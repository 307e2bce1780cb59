use Rattle.std.proofs.lemmas.Result.{on_ok_weaker}
use Rattle.lu_spec_laws.specs.Words.Lives.{is_gone}
use Rattle.lu_spec_laws.specs.Words.Lost.{is_lost}
use Rattle.lu_judge_acts.specs.Shown.{whole_of}
use Rattle.lu_judge_acts.proofs.Flown.{all_fly}
use Rattle.lu_judge_acts.proofs.acts.ActsJudge.step.Goals as goal

pub returns-clause-shows : goal.returns-clause-shows
returns-clause-shows c =
    let whole = whole_of c.args.self.now in
    on_ok_weaker c.step-5.result
    (λ ledger. λ past later shown given law. record {
      gone = shown.gone;
      lost = shown.lost;
      standing = shown.standing;
      ledger = ledger past given.ordered given.messages.order shown.ledger;
      calls = c.in_ok-step.ensures.shows past given.ordered given.messages.order shown.ledger shown.calls;
      executed = c.in_ok-step-2.ensures.shows whole past shown.lost shown.executed;
      elsewhere = c.in_ok-step-3.ensures.shows past given.ordered given.messages.order shown.ledger shown.elsewhere;
      flights = c.in_ok-step-4.ensures.shows past shown.ledger shown.flights;
      flying = all_fly (is_gone whole) (is_lost whole) whole past c.args.line.now.at c.args.line.now.entry later law shown.flying;
    })
    c.step-5.ensures.shows
