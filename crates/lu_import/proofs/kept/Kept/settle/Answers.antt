-- What is left rises, above the committed number.
use Rattle.lu_import.specs.Kept.{Replay}
use Rattle.lu_import.specs.Adding.{replays_of}
use Rattle.lu_import.proofs.SeenNumbers.{left_above}
use Rattle.lu_import.proofs.kept.Kept.settle.Goals as goal

pub returns-clause-sound : goal.returns-clause-sound
returns-clause-sound c = record {
  seen = c.settle_numbers.ensures.rising;
  unsettled = left_above (λ n. n) c.max.result c.self.inside.seen.keys c.settle_numbers.new.seen.keys c.settle_numbers.ensures.settled;
  replays = c.settle_replays.ensures.rising;
  uncommitted =
      left_above (λ (r : Replay). r.txn.0) c.max.result (replays_of c.self.inside.replays.entries)
      (replays_of c.settle_replays.new.replays.entries) c.settle_replays.ensures.settled;
}
