-- After the grants each waiting lock has to wait again.
use Rattle.std.proofs.Common.{◌≡◌, ◌∙◌, sym, subst}
use Rattle.lu_queue.specs.Queues.{QueueState, IsOnce, IsQueue}
use Rattle.lu_queue.proofs.Lists.{once_right}
use Rattle.lu_queue.proofs.Coherence.{queue_granted}
use Rattle.lu_queue.proofs.queue.settled.Goals as goal

pub settle-requires : goal.settle-requires
settle-requires c = c.requires.ordered

pub from_slice-requires : goal.from_slice-requires
from_slice-requires c =
    let before : QueueState = record { granted = c.args.granted.items; waiting = c.args.waiting.items } in
    let after : QueueState = record { granted = c.settle.new.granted.items; waiting = c.settle.new.waiting.items } in
    let lawful : IsQueue after = queue_granted c.in_ok-grants.grants before after c.requires c.in_ok-grants.ensures in
    subst IsOnce (sym c.deref.ensures.value) (once_right after.granted after.waiting lawful.coherent.once)

pub invariant_of-result : goal.invariant_of-result
invariant_of-result c =
    let before : QueueState = record { granted = c.args.granted.items; waiting = c.args.waiting.items } in
    let after : QueueState = record { granted = c.settle.new.granted.items; waiting = c.settle.new.waiting.items } in
    let kept : QueueState = record { granted = c.in_ok-granted.granted; waiting = c.in_ok-waiting.waiting } in
    let lawful : IsQueue after = queue_granted c.in_ok-grants.grants before after c.requires c.in_ok-grants.ensures in
    let e = c.in_ok-granted.ensures in
    let f = c.in_ok-waiting.ensures ∙ c.deref.ensures.value in
    let same : kept ≡ after = λ i. record { granted = e i; waiting = f i } in
    subst IsQueue (sym same) lawful

pub returns-clause-lawful : goal.returns-clause-lawful
returns-clause-lawful c =
    let before : QueueState = record { granted = c.args.granted.items; waiting = c.args.waiting.items } in
    let after : QueueState = record { granted = c.settle.new.granted.items; waiting = c.settle.new.waiting.items } in
    let kept : QueueState = record { granted = c.in_ok-granted.granted; waiting = c.in_ok-waiting.waiting } in
    let lawful : IsQueue after = queue_granted c.in_ok-grants.grants before after c.requires c.in_ok-grants.ensures in
    let e = c.in_ok-granted.ensures in
    let f = c.in_ok-waiting.ensures ∙ c.deref.ensures.value in
    let same : kept ≡ after = λ i. record { granted = e i; waiting = f i } in
    subst IsQueue (sym same) lawful
