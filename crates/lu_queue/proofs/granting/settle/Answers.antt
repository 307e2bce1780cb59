-- Nothing is left to look at: what was granted so far is all.
use Rattle.std.proofs.Common.{◌≡◌, [], refl, subst, take, arith}
use Rattle.std.proofs.lemmas.List.{append-nil, take_all}
use Rattle.lu_queue.specs.Queues.{AllWait, AreGranted}
use Rattle.lu_queue.proofs.granting.settle.Goals as goal

pub returns : goal.returns
returns c =
    let waiting = c.loop-place.waiting.items in
    let all : take c.loop-place.place waiting ≡ waiting = take_all _ _ (omega arith) in
    let stuck : AllWait c.loop-place.granted.items waiting = subst (AllWait c.loop-place.granted.items) all c.loop-place.invariant.1 in
    subst (λ grants. AreGranted (record { granted = c.args.granted.now.items; waiting = c.args.waiting.now.items }) grants
    (record { granted = c.loop-place.granted.items; waiting = waiting }))
    (append-nil c.loop-place.grants)
    (c.loop-place.invariant.0 [] (record { granted = c.loop-place.granted.items; waiting = waiting }) (refl, stuck))
