-- Those ahead and those behind.
use Rattle.std.proofs.Common.{◌≡◌, ◌∙◌, ◌+◌, ◌++◌, ap, refl, take, drop}
use Rattle.lu_judge_locks.specs.Orders.{asks_in}
use Rattle.lu_judge_locks.proofs.Stepped.{asks_of_both}
use Rattle.lu_judge_locks.proofs.orders.asks_of_others.Goals as goal

pub returns : goal.returns
returns c =
    let ahead = take c.count_ahead-count.result c.args.locks.now in
    let behind = drop (c.count_ahead-count.result + 1) c.args.locks.now in
    let both : c.in_ok-all.all.items ++ c.in_ok-behind.behind.items ≡ asks_in ahead ++ asks_in behind =
    rw (c.in_ok-all.ensures, c.in_ok-behind.ensures) refl in
    c.in_ok-extend_from_slice.ensures.items ∙ ap (λ rest. c.in_ok-all.all.items ++ rest) c.deref.ensures.value ∙ both
    ∙ asks_of_both ahead behind _ c.count_ahead-count.ensures.others
