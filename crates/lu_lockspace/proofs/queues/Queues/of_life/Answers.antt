-- One resource more.
use Rattle.std.proofs.Common.{rules, ◌≡◌, ◌+◌, ◌++◌, drop, sym, subst}
use Rattle.lu_lockspace.specs.Guarded.{of_life_on_all}
use Rattle.lu_lockspace.proofs.Guarded.{life_more}
use Rattle.lu_lockspace.proofs.queues.Queues.of_life.Goals as goal

pub loop-resource-preserved : goal.loop-resource-preserved
loop-resource-preserved c =
    let some = c.in_ok-of_life_on.field-0.items in
    let i = c.loop-resource.resource-index in
    let e : c.extend_from_slice.new.self.items ≡ c.loop-resource.cookies.items ++ some = search rules in
    subst (λ cs. cs ++ of_life_on_all c.args.who (drop (i + 1) c.args.resources.now) c.args.self.now
    ≡ of_life_on_all c.args.who c.args.resources.now c.args.self.now) (sym e)
    (life_more c.args.who c.args.resources.now c.args.self.now i _ c.loop-resource.cookies.items some c.loop-resource-test.true
    c.in_ok-of_life_on.ensures c.loop-resource.invariant)
