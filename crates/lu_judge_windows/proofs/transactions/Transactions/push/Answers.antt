use Rattle.std.proofs.Common.{rules, List, [], ◌∷◌, ◌++◌, ap, ◌∙◌}
use Rattle.std.specs.Prelude.{◌==◌, map}
use Rattle.std.specs.HashMap.{get_by}
use Rattle.lu_judge_windows.specs.declared.transactions.Done.{Done}
use Rattle.lu_judge_windows.specs.Transactions.{transaction_of}
use Rattle.lu_judge_windows.proofs.Listed.{written, begun, map_push}
use Rattle.lu_judge_windows.proofs.transactions.Transactions.push.Goals as goal

pub returns-in_ok-push-in-Some-clause-pushed : goal.returns-in_ok-push-in-Some-clause-pushed
returns-in_ok-push-in-Some-clause-pushed c =
    written (λ all. map transaction_of all.items) c.args.target (transaction_of c.args.done) c.push.new.self
    (λ k. get_by (λ j. k == j) c.args.self.now.in_order) (λ k. get_by (λ j. k == j) (c.get_mut.follows.lender c.push.new.self))
    (((c.get_mut.follows.holds c.push.new.self).3 (search rules)).0) c.in-Some.all.now c.in-Some.ensures.value
    (ap (map transaction_of) c.in_ok-push-in-Some.ensures.items ∙ map_push transaction_of c.in-Some.all.now.items c.args.done)

pub returns-in_ok-insert-in-None-clause-pushed : goal.returns-in_ok-insert-in-None-clause-pushed
returns-in_ok-insert-in-None-clause-pushed c =
    rw (← c.get_mut.follows.holds-at-none)
    (begun (λ all. map transaction_of all.items) c.args.target (transaction_of c.args.done) c.push-in-None.new.self
    (λ k. get_by (λ j. k == j) c.get_mut.follows.lender-at-none) (λ k. get_by (λ j. k == j) c.insert.new.self)
    (λ k. c.in_ok-insert-in-None.ensures.updates.0 k) (rw c.get_mut.follows.holds-at-none c.in-None.ensures.value)
    (ap (map transaction_of) (c.in_ok-push-in-None.ensures.items
    ∙ ap (λ (xs : List Done). xs ++ c.args.done ∷ []) c.new-all.ensures.items)))
