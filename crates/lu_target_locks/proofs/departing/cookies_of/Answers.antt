-- One life more.
use Rattle.std.proofs.Common.{rules, ◌≡◌, ◌++◌, ◌+◌, take, sym, subst}
use Rattle.lu_target_locks.specs.Leaving.{AreTheirs}
use Rattle.lu_target_locks.proofs.OneMore.{theirs_more}
use Rattle.lu_target_locks.proofs.departing.cookies_of.Goals as goal

pub loop-who-preserved : goal.loop-who-preserved
loop-who-preserved c =
    let e : c.extend_from_slice.new.self.items ≡ c.loop-who.cookies.items ++ c.in_ok-of.field-0 = search rules in
    subst (λ cs. AreTheirs c.args.space.now (take (c.loop-who.who-index + 1) c.args.gone.now) cs) (sym e)
    (theirs_more c.args.space.now c.args.gone.now c.loop-who.who-index _ c.loop-who.cookies.items c.in_ok-of.field-0 c.loop-who-test.true
    c.in_ok-of.ensures.cookies c.loop-who.invariant)
