use Rattle.lu_judge_recovery.proofs.closing.Restored.put.Goals as goal

pub returns : goal.returns
returns c = record { put = λ who cookie. c.in_ok-insert.ensures.updates.0 ((who.client, who.life), cookie) }
