-- One resource more; and none is left at the end.
use Rattle.std.proofs.Common.{rules, ◌≡◌, ◌+◌, ◌++◌, drop, sym, subst}
use Rattle.lu_lockspace.specs.Guarded.{guarded_on_all}
use Rattle.lu_lockspace.proofs.Guarded.{on_more}
use Rattle.lu_lockspace.proofs.queues.Queues.guarded_on_all.Goals as goal

pub loop-resource-preserved : goal.loop-resource-preserved
loop-resource-preserved c =
    let some = c.in_ok-guarded_on.field-0.items in
    let i = c.loop-resource.resource-index in
    let e : c.extend_from_slice.new.self.items ≡ c.loop-resource.cookies.items ++ some = search rules in
    subst (λ cs. cs ++ guarded_on_all (drop (i + 1) c.args.resources.now) c.args.parts.now c.args.self.now
    ≡ guarded_on_all c.args.resources.now c.args.parts.now c.args.self.now) (sym e)
    (on_more c.args.resources.now c.args.parts.now c.args.self.now i _ c.loop-resource.cookies.items some c.loop-resource-test.true
    c.in_ok-guarded_on.ensures c.loop-resource.invariant)
