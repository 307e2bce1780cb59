use Rattle.lu_judge_calls.specs.Tables.{begun_of}
use Rattle.lu_judge_glimpse.proofs.Formed.{kept_call, call_formed}
use Rattle.lu_judge_glimpse.proofs.items.told_at.Goals as goal

pub returns-in-Some-clause-kept : goal.returns-in-Some-clause-kept
returns-in-Some-clause-kept c = λ past shown formed.
    c.told_call.ensures.kept
    (kept_call begun_of c.call.result c.in-Some.begun _ (c.call.ensures.call past shown) c.in-Some.is
    (call_formed past c.in-Client.client c.args.slot formed))
