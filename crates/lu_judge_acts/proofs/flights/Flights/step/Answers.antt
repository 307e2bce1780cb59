use Rattle.std.proofs.Common.{◌∷◌, sym, subst}
use Rattle.std.proofs.lemmas.Result.{on_ok_weaker}
use Rattle.lu_trace.specs.declared.entries.Entry.{Entry}
use Rattle.lu_judge_acts.specs.Tables.{ShowsFlights}
use Rattle.lu_judge_acts.proofs.flights.Flights.step.Goals as goal

pub returns-in-Send : goal.returns-in-Send
returns-in-Send c = record {
  shows =
      on_ok_weaker c.post.result
      (λ shows. λ past ledger shown. subst (λ (e : Entry). ShowsFlights c.post.new.self
      (record { at = c.args.line.now.at; entry = e } ∷ past)) (sym c.in-Send.is) (shows past shown c.args.line.now.at c.in-Send.number))
      c.post.ensures.shows;
}
