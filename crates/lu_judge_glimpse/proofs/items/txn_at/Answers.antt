use Rattle.lu_judge_glimpse.proofs.Formed.{kept_op, request_formed}
use Rattle.lu_judge_glimpse.proofs.items.txn_at.Goals as goal

pub returns-in-Some-clause-kept : goal.returns-in-Some-clause-kept
returns-in-Some-clause-kept c = λ past shown formed.
    kept_op (λ o. o.now) _ c.in-Some.op _ _ c.asked.ensures.asked (shown.requests c.in-Target.target c.args.who c.args.xid.0) c.in-Some.is
    (request_formed past c.in-Target.target c.args.who c.args.xid.0 formed)
