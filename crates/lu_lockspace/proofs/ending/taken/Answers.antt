-- One resource more; and none is left at the end.
use Rattle.std.proofs.Common.{rules, ◌≡◌, ◌+◌, ◌++◌, drop, sym, subst}
use Rattle.lu_lockspace.specs.Ending.{taken_on_all}
use Rattle.lu_lockspace.proofs.Ended.{taken_more}
use Rattle.lu_lockspace.proofs.ending.taken.Goals as goal

pub loop-resource-preserved : goal.loop-resource-preserved
loop-resource-preserved c =
    let some = c.in_ok-taken_on.field-0.items in
    let i = c.loop-resource.resource-index in
    let e : c.extend_from_slice.new.self.items ≡ c.loop-resource.cookies.items ++ some = search rules in
    subst (λ cs. cs ++ taken_on_all c.args.lives.now (drop (i + 1) c.args.resources.now) c.args.queues.now
    ≡ taken_on_all c.args.lives.now c.args.resources.now c.args.queues.now) (sym e)
    (taken_more c.args.lives.now c.args.resources.now c.args.queues.now i _ c.loop-resource.cookies.items some c.loop-resource-test.true
    c.in_ok-taken_on.ensures c.loop-resource.invariant)
