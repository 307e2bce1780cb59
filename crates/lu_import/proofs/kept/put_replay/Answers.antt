-- The replay is in its place.
use Rattle.std.proofs.Common.{◌∙◌, ap}
use Rattle.lu_import.specs.Adding.{replays_of}
use Rattle.lu_import.proofs.Replays.{insert_is}
use Rattle.lu_import.proofs.kept.put_replay.Goals as goal

pub returns-clause-put : goal.returns-clause-put
returns-clause-put c = ap replays_of c.in_ok-insert.ensures.entries ∙ insert_is c.args.txn c.args.answered c.args.replays.now.entries
