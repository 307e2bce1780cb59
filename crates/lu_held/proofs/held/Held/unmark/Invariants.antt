-- What is left to take away is the same as at first; marks get fewer.
use Rattle.std.proofs.Common.{◌≡◌, length}
use Rattle.lu_held.specs.Held.{unmarked}
use Rattle.lu_held.proofs.Unmarks.{left}
use Rattle.lu_held.proofs.held.Held.unmark.Given as goal

abbrev pub invariant-loop-name : goal.invariant-loop-name
invariant-loop-name l = (unmarked l.target l.self.locks ≡ unmarked l.target l.fn.self.locks) × (l.self.unused ≡ l.fn.self.unused)

abbrev pub decreases-loop-name : goal.decreases-loop-name
decreases-loop-name l = length (left l.target l.self.locks)
