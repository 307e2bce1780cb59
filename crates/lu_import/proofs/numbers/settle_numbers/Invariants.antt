-- What is left are those above the number, and some that aren't.
use Rattle.std.proofs.Common.{◌≡◌, ℕ, nat_lt, filter, length}
use Rattle.lu_import.proofs.numbers.settle_numbers.Given as goal

abbrev pub invariant-loop-seen : goal.invariant-loop-seen
invariant-loop-seen l = filter (nat_lt l.number) l.seen.keys ≡ filter (nat_lt l.number) l.initial.seen.keys

abbrev pub decreases-loop-seen : goal.decreases-loop-seen
decreases-loop-seen l = length l.seen.keys
