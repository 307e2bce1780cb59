-- Each line makes of the tables what the history has.
use Rattle.std.proofs.Common.{◌∷◌, refl, sym, subst, ◌∙◌}
use Rattle.std.proofs.lemmas.Result.{on_ok_weaker}
use Rattle.lu_trace.specs.declared.entries.Entry.{Entry}
use Rattle.lu_judge_history.specs.Carried.{ShowsCarried}
use Rattle.lu_judge_history.proofs.Steps.{sent_shown, tell_undone}
use Rattle.lu_judge_history.proofs.carried.Carried.step.Goals as goal

pub returns-in-Send : goal.returns-in-Send
returns-in-Send c = record {
  shows = on_ok_weaker c.step.result
      (λ sent past ordered follows has limited ledger calls shown.
      sent_shown c.args.self.now _ past c.args.line.now c.in-Send.number c.in-Send.to c.in-Send.message c.in-Send.is has shown refl refl
      refl (sent past shown.sent))
      c.step.ensures.shows;
}

pub returns-in-Client : goal.returns-in-Client
returns-in-Client c = record {
  shows = on_ok_weaker c.hear.result
      (λ hears past ordered follows has limited ledger calls shown.
      subst (λ (e : Entry). ShowsCarried c.hear.new.self (record { at = c.args.line.now.at; entry = e } ∷ past)) (sym c.in-Heard.is)
      (hears past ordered follows ledger shown))
      c.hear.ensures.shows;
}

pub returns-then-is_done : goal.returns-then-is_done
returns-then-is_done c = record {
  shows = on_ok_weaker c.tell.result
      (λ tells past ordered follows has limited ledger calls shown.
      subst (λ (e : Entry). ShowsCarried c.tell.new.self (record { at = c.args.line.now.at; entry = e } ∷ past)) (sym c.in-Told.is)
      (tells past limited ledger calls shown))
      c.tell.ensures.shows;
}

pub returns-else-is_done : goal.returns-else-is_done
returns-else-is_done c = record {
  shows = λ past ordered follows has limited ledger calls shown.
      subst (λ (e : Entry). ShowsCarried c.args.self.now (record { at = c.args.line.now.at; entry = e } ∷ past)) (sym c.in-Told.is)
      (tell_undone c.args.self.now past shown c.args.line.now.at c.in-Told.slot c.in-Told.at c.in-Told.answer
      (sym c.is_done.ensures ∙ c.if-is_done.false));
}
