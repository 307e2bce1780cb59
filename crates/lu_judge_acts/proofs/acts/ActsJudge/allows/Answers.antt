use Rattle.lu_judge_acts.proofs.acts.ActsJudge.allows.Goals as goal

pub returns : goal.returns
returns c = record { decided = λ past shown given. c.passes.ensures.passes past shown given.ordered given.messages.order given.later }
