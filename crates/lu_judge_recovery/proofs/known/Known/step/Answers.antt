use Rattle.std.proofs.Common.{refl}
use Rattle.std.proofs.lemmas.Result.{on_ok_weaker}
use Rattle.lu_judge_recovery.proofs.known.Known.step.Goals as goal

pub returns-clause-shows : goal.returns-clause-shows
returns-clause-shows c =
    on_ok_weaker c.step-4.result
    (λ steps past ordered follows line rises shown.
    let windows = c.in_ok-step-2.ensures.shows past ordered follows shown.ledger shown.windows in
    record {
      ledger = steps past ordered follows shown.ledger;
      windows = windows;
      contents = c.in_ok-step-3.ensures.shows c.args.self.now.osts past shown.ledger windows shown.contents;
      written = c.in_ok-step.ensures.shows c.args.self.now.osts past shown.ledger shown.contents shown.formed rises shown.written;
      formed = (line, shown.formed);
    })
    c.step-4.ensures.shows
