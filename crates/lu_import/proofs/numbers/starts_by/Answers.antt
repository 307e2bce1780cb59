-- The numbers of a set rise.
use Rattle.std.proofs.lemmas.Map.Keys.{IsStrictlyIncreasing-from_sorted}
use Rattle.lu_import.proofs.numbers.starts_by.Goals as goal

pub returns-in-Some-clause-rising : goal.returns-in-Some-clause-rising
returns-in-Some-clause-rising c = IsStrictlyIncreasing-from_sorted c.args.seen.now.keys c.iter.ensures.ordered
