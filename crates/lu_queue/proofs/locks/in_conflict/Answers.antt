-- Sorted cookies, none of which is there twice, rise.
use Rattle.std.proofs.Common.{Bool, map, filter, sym, subst, IsPermutation}
use Rattle.std.specs.Ordering.{nat_cmp}
use Rattle.std.proofs.lemmas.Map.Keys.{ge_from_not_lt}
use Rattle.lu_lock.specs.Conflict.{conflict}
use Rattle.lu_queue.specs.declared.locks.Grant.{Grant}
use Rattle.lu_queue.specs.Queues.{IsRising}
use Rattle.lu_queue.proofs.Lists.{rising_once, not_falling}
use Rattle.lu_queue.proofs.locks.in_conflict.Goals as goal

pub returns-clause-rising : goal.returns-clause-rising
returns-clause-rising c =
    let cookies = c.sort_unstable.new.self.items in
    let test : Grant → Bool = λ lock. conflict c.args.ask.now lock.ask in
    let moved : IsPermutation (map (λ lock. lock.cookie) (filter test c.args.locks.now)) cookies =
    subst (λ all. IsPermutation all cookies) c.in_ok-cookies.ensures c.sort_unstable.ensures.permutation in
    subst IsRising (sym c.from.ensures) (rising_once test c.args.locks.now cookies c.requires moved
    (not_falling (λ x y. nat_cmp x.0 y.0) (λ a b below. ge_from_not_lt b.0 a.0 below) cookies c.sort_unstable.ensures.sorted))
