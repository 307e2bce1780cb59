use Rattle.std.proofs.Common.{◌++◌, ap, ◌∙◌}
use Rattle.lu_trace.proofs.Joins.{append-next}
use Rattle.lu_trace.proofs.texts.lists.put_joined.Goals as goal

pub loop-name-preserved : goal.loop-name-preserved
loop-name-preserved c =
    append-next _ _ _ _ _ _ _ _ _ c.loop-name-test.true c.loop-name.invariant c.in_ok-push.ensures.added
    (c.in_ok-extend-2.ensures.added ∙ ap (λ w. c.push.new.self ++ w) c.as_slice-in-loop-name.ensures.same) c.name-item.is
