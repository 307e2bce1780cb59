-- The transactions of a map rise.
use Rattle.lu_import.proofs.Replays.{rises}
use Rattle.lu_import.proofs.kept.starts_by.Goals as goal

pub returns-in-Some-clause-rising : goal.returns-in-Some-clause-rising
returns-in-Some-clause-rising c = rises c.args.replays.now.entries c.iter.ensures.ordered
