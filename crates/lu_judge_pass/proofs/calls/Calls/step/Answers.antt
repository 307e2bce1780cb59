use Rattle.lu_judge_pass.proofs.Shown.{put, taken}
use Rattle.lu_judge_pass.proofs.calls.Calls.step.Goals as goal

pub returns-in_ok-insert-in-Client : goal.returns-in_ok-insert-in-Client
returns-in_ok-insert-in-Client c = record {
  shows = λ past shown client slot.
      rw (c.in-Begin.is, c.in-Client.is) (put (λ call. call.now) _ _ _ _ _ (c.in_ok-insert-in-Client.ensures.updates.0 (client, slot))
      (shown client slot));
}

pub returns-in-Client-node : goal.returns-in-Client-node
returns-in-Client-node c = record {
  shows = λ past shown client slot.
      rw (c.in-Told.is, c.in-Client-node.is) (taken (λ call. call.now) _ _ _ _ (c.remove.ensures.updates.0 (client, slot))
      (shown client slot));
}
