use Rattle.lu_judge_acts.proofs.Flown.{fits_none}
use Rattle.std.proofs.Common.{refl}
use Rattle.lu_judge_acts.proofs.flights.Flights.fits.Goals as goal

pub returns-in-None : goal.returns-in-None
returns-in-None c = record {
  fits = rw (← c.get.ensures.value, c.in-None.is) (λ so. fits_none c.args.target c.args.request.now, λ law. refl);
}

pub returns-in-Some : goal.returns-in-Some
returns-in-Some c = record { fits = rw (← c.get.ensures.value, c.in-Some.is, ← c.as_slice.ensures.value) c.fits_in.ensures.fits }
