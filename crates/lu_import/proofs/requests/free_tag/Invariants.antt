-- All lower tags are taken.
use Rattle.std.proofs.Common.{◌≡◌, ℕ, ◌-◌, ◌<◌, true, length}
use Rattle.lu_import.specs.InFlights.{has_tag}
use Rattle.lu_import.proofs.requests.free_tag.Given as goal

abbrev pub invariant-loop-tag : goal.invariant-loop-tag
invariant-loop-tag l = (lower : ℕ) → lower < l.tag → has_tag lower l.requests ≡ true

abbrev pub decreases-loop-tag : goal.decreases-loop-tag
decreases-loop-tag l = length l.requests - l.tag
