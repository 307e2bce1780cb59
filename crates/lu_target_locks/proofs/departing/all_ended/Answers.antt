-- One cookie more.
use Rattle.std.proofs.Common.{[], ◌∙◌, ap, ◌++◌}
use Rattle.std.specs.List.{cons_option}
use Rattle.lu_target_locks.specs.declared.departing.EndedLock.{EndedLock}
use Rattle.lu_target_locks.proofs.OneMore.{ended_more}
use Rattle.lu_target_locks.proofs.departing.all_ended.Goals as goal

pub loop-cookie-preserved : goal.loop-cookie-preserved
loop-cookie-preserved c =
    c.in_ok-add_ended.ensures.added
    ∙ ap (λ o. c.loop-cookie.all.items ++ cons_option {X = EndedLock} o []) c.in_ok-ended.ensures.ended
    ∙ ended_more c.args.space.now c.args.calls.now c.args.gone.now c.args.cookies.now c.loop-cookie.cookie-index _ c.loop-cookie.all.items
    c.loop-cookie-test.true c.loop-cookie.invariant
