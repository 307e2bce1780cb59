use Rattle.lu_judge_glimpse.proofs.Put.{put_number}
use Rattle.lu_judge_glimpse.proofs.begins.Begins.step.Goals as goal

pub returns-in_ok-insert-in-Client : goal.returns-in_ok-insert-in-Client
returns-in_ok-insert-in-Client c = record {
  shows = λ past there shown client slot.
      rw (c.in-Begin.is, c.in-Client.is) (put_number _ _ _ _ _ _ (c.in_ok-insert-in-Client.ensures.updates.0 (client, slot)) there
      (shown client slot));
}
