-- The numbers that are left are still to be added, and those that were new so far can be taken out again.
use Rattle.std.proofs.Common.{◌≡◌, drop}
use Rattle.lu_import.specs.Kept.{with_numbers}
use Rattle.lu_import.specs.Adding.{undone}
use Rattle.lu_import.proofs.numbers.add_numbers.Given as goal

abbrev pub invariant-loop-number : goal.invariant-loop-number
invariant-loop-number l = record {
  added : with_numbers (drop l.number-index l.numbers) l.seen.keys ≡ with_numbers l.numbers l.initial.seen.keys;
  undone : undone l.added.items l.seen.keys ≡ l.initial.seen.keys;
}
