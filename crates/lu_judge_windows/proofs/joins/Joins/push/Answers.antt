use Rattle.std.proofs.Common.{rules, List, [], ◌∷◌, ◌++◌, ap, ◌∙◌}
use Rattle.std.specs.Prelude.{◌==◌}
use Rattle.std.specs.HashMap.{get_by}
use Rattle.lu_base.specs.declared.ids.Who.{Who}
use Rattle.lu_judge_windows.proofs.Listed.{written, begun}
use Rattle.lu_judge_windows.proofs.joins.Joins.push.Goals as goal

pub returns-in_ok-push-in-Some-clause-pushed : goal.returns-in_ok-push-in-Some-clause-pushed
returns-in_ok-push-in-Some-clause-pushed c =
    written (λ lives. lives) c.args.target c.args.who c.push.new.self (λ k. get_by (λ j. k == j) c.args.self.now.in_order)
    (λ k. get_by (λ j. k == j) (c.get_mut.follows.lender c.push.new.self))
    (((c.get_mut.follows.holds c.push.new.self).3 (search rules)).0) c.in-Some.lives.now c.in-Some.ensures.value
    c.in_ok-push-in-Some.ensures.added

pub returns-in_ok-insert-in-None-clause-pushed : goal.returns-in_ok-insert-in-None-clause-pushed
returns-in_ok-insert-in-None-clause-pushed c =
    rw (← c.get_mut.follows.holds-at-none)
    (begun (λ lives. lives) c.args.target c.args.who c.push-in-None.new.self (λ k. get_by (λ j. k == j) c.get_mut.follows.lender-at-none)
    (λ k. get_by (λ j. k == j) c.insert.new.self)
    (λ k. c.in_ok-insert-in-None.ensures.updates.0 k) (rw c.get_mut.follows.holds-at-none c.in-None.ensures.value)
    (c.in_ok-push-in-None.ensures.added ∙ ap (λ (lives : List Who). lives ++ c.args.who ∷ []) c.new-lives.ensures.empty))
