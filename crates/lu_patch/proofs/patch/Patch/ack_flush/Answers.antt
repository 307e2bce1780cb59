use Rattle.std.proofs.Common.{subst, sym, None}
use Rattle.lu_patch.specs.Flights.{IsKept}
use Rattle.lu_patch.proofs.Kept.{kept_landed, kept_sound}
use Rattle.lu_patch.proofs.patch.Patch.ack_flush.Goals as goal

pub invariant_of-self-in-Some-Bytes : goal.invariant_of-self-in-Some-Bytes
invariant_of-self-in-Some-Bytes c =
    subst (λ f. IsKept f c.land.new.self) (sym c.take.ensures.after)
    (subst (IsKept None) (sym c.land.ensures.landed) (kept_landed c.self.inside.dirty c.self.invariant.map))

pub returns-in-Some-Bytes-clause-sound : goal.returns-in-Some-Bytes-clause-sound
returns-in-Some-Bytes-clause-sound c = kept_sound c.self.inside.pending c.take.new.self c.land.new.self (invariant_of-self-in-Some-Bytes c)
