use Rattle.lu_judge_windows.proofs.losses.Losses.fail.Goals as goal

pub returns-clause-failed : goal.returns-clause-failed
returns-clause-failed c = λ t s. c.in_ok-insert.ensures.updates.0 (t, s)
