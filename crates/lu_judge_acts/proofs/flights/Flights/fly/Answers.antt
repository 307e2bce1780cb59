use Rattle.std.proofs.Common.{sym, ap, ◌∙◌}
use Rattle.std.specs.Prelude.{not}
use Rattle.lu_judge_acts.specs.Tables.{flight_in}
use Rattle.lu_judge_acts.proofs.Flown.{fly_none, fly_one}
use Rattle.lu_judge_acts.proofs.flights.Flights.fly.Goals as goal

pub returns-then-not-adds : goal.returns-then-not-adds
returns-then-not-adds c = record {
  flies = λ flies.
      fly_none c.args.target c.args.request.now (flight_in c.args.self.now c.args.target c.args.request.now.who) _ (not c.adds.result)
      (sym c.adds.ensures.adds ∙ c.if-not-adds.true) (ap not c.if-not-adds.true) flies;
}

pub returns-else-not-adds : goal.returns-else-not-adds
returns-else-not-adds c = record {
  flies = λ flies.
      fly_one c.args.target c.args.request.now (flight_in c.args.self.now c.args.target c.args.request.now.who) _ c.fits.result
      (sym c.adds.ensures.adds ∙ c.if-not-adds.false) flies c.fits.ensures.fits;
}
