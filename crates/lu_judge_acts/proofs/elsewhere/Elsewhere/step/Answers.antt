use Rattle.std.proofs.Common.{◌∷◌, sym, subst}
use Rattle.std.proofs.lemmas.Result.{on_ok_weaker}
use Rattle.lu_trace.specs.declared.entries.Entry.{Entry}
use Rattle.lu_judge_acts.specs.Tables.{ShowsTold}
use Rattle.lu_judge_acts.proofs.elsewhere.Elsewhere.step.Goals as goal

pub returns-in-Client : goal.returns-in-Client
returns-in-Client c = record {
  shows =
      on_ok_weaker c.tell.result
      (λ shows. λ past ordered follows ledger shown.
      subst (λ (e : Entry). ShowsTold c.tell.new.self (record { at = c.args.line.now.at; entry = e } ∷ past)) (sym c.in-Told.is)
      (shows past ordered follows ledger shown c.in-Told.slot c.in-Told.answer))
      c.tell.ensures.shows;
}
