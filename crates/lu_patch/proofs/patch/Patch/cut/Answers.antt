use Rattle.std.proofs.Common.{◌≡◌, rules, subst, sym}
use Rattle.lu_patch.specs.Flights.{IsKept}
use Rattle.lu_patch.proofs.Kept.{kept_below, kept_sound}
use Rattle.lu_patch.proofs.patch.Patch.cut.Goals as goal

pub invariant_of-self : goal.invariant_of-self
invariant_of-self c = subst (IsKept c.self.inside.flight) (sym c.keep_below.ensures.below)
    (kept_below c.self.inside.flight c.args.n c.self.inside.dirty c.self.invariant)

pub returns-clause-sound : goal.returns-clause-sound
returns-clause-sound c = kept_sound c.self.inside.pending c.self.inside.flight c.keep_below.new.self (invariant_of-self c)
