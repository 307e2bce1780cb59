-- One cookie more.
use Rattle.lu_lockspace.proofs.Ended.{gone_more}
use Rattle.lu_lockspace.proofs.ending.forget.Goals as goal

pub loop-cookie-preserved : goal.loop-cookie-preserved
loop-cookie-preserved c =
    gone_more c.args.cookies.now c.loop-cookie.cookie-index _ c.args.places.now.entries c.loop-cookie.places.entries
    c.remove.new.self.entries c.loop-cookie-test.true c.loop-cookie.invariant (λ q. c.remove.ensures.updates.0 q)
