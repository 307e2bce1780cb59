use Rattle.lu_trace.proofs.Joins.{append-next_item}
use Rattle.lu_trace.proofs.texts.lists.put_items.Goals as goal

pub loop-item-preserved : goal.loop-item-preserved
loop-item-preserved g c =
    append-next_item g.W.Writes.text 44 _ _ _ _ _ _ _ _ c.loop-item-test.true c.loop-item.invariant c.in_ok-push.ensures.added
    c.in_ok-put-2.ensures.put c.item-item.is
