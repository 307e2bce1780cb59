use Rattle.std.proofs.Common.{◌≡◌, ◌≤◌, ◌-◌, ◌++◌, length, take}
use Rattle.lu_judge_glimpse.specs.Sightings.{since_in}
use Rattle.lu_judge_glimpse.specs.Wanted.{wanted_of}
use Rattle.lu_judge_glimpse.proofs.wanted.want.Given as goal

abbrev pub invariant-loop-stripe : goal.invariant-loop-stripe
invariant-loop-stripe l = record {
  within : l.stripe ≤ length l.sizes;
  wanted : l.wanted.items ≡ l.initial.wanted.items ++ wanted_of (λ stripe size. since_in l.sightings l.file stripe size l.begun) l.place
      l.file 0 (take l.stripe l.sizes);
}

abbrev pub decreases-loop-stripe : goal.decreases-loop-stripe
decreases-loop-stripe l = length l.sizes - l.stripe
