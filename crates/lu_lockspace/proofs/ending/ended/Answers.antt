-- One resource more; and none is left at the end.
use Rattle.std.proofs.Common.{rules, ◌≡◌, ◌+◌, ◌∙◌, ◌++◌, take, sym, subst, arith}
use Rattle.std.specs.Map.{keys_of}
use Rattle.std.proofs.lemmas.List.{take_all}
use Rattle.lu_lockspace.specs.Ending.{AllEnded}
use Rattle.lu_lockspace.proofs.Ended.{ended_more, keys_more}
use Rattle.lu_lockspace.proofs.ending.ended.Goals as goal

pub loop-resource-preserved : goal.loop-resource-preserved
loop-resource-preserved c =
    let i = c.loop-resource.resource-index in
    let ended = c.loop-resource.ended.items in
    let grants = c.loop-resource.grants.items in
    let e : c.extend_from_slice.new.self.items ≡ grants ++ c.in_ok-queue.first = search rules in (
      subst (λ es. keys_of es ≡ take (i + 1) c.args.resources.now) (sym c.in_ok-push_back.ensures.items)
          (keys_more ended c.args.resources.now i _ c.in_ok-queue.queue c.loop-resource-test.true c.loop-resource.invariant.0),
      subst (λ gs. AllEnded c.args.lives.now c.args.queues.now c.push_back.new.self.items gs) (sym e)
          (subst (λ es. AllEnded c.args.lives.now c.args.queues.now es (grants ++ c.in_ok-queue.first))
          (sym c.in_ok-push_back.ensures.items)
          (ended_more c.args.lives.now c.args.queues.now ended grants c.in_ok-queue.first _ c.in_ok-queue.queue c.loop-resource.invariant.1
          c.in_ok-queue.ensures.granted c.in_ok-queue.ensures.lawful)),
    )

pub returns-clause-resources : goal.returns-clause-resources
returns-clause-resources c = c.loop-resource.invariant.0 ∙ take_all _ _ (omega (arith, c.loop-resource-test.false))

pub returns-clause-ended : goal.returns-clause-ended
returns-clause-ended c = subst (AllEnded c.args.lives.now c.args.queues.now c.loop-resource.ended.items) (sym c.from.ensures)
    c.loop-resource.invariant.1
