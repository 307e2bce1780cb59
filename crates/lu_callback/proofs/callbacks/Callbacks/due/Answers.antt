-- The blocks that are due stand in rising cookie.
use Rattle.std.proofs.Common.{◌≡◌, ◌∙◌, sym, subst}
use Rattle.std.specs.Prelude.{AllPairs, ◌<◌}
use Rattle.lu_callback.specs.Callbacks.{due}
use Rattle.lu_callback.specs.Filed.{all_asked}
use Rattle.lu_callback.proofs.Orders.{due_rises}
use Rattle.lu_callback.proofs.callbacks.Callbacks.due.Goals as goal

pub returns-clause-rising : goal.returns-clause-rising
returns-clause-rising c =
    let told : c.from.result ≡ due c.args.tick c.args.age (all_asked c.self.inside.holders.entries) = c.from.ensures
    ∙ c.in_ok-cookies.ensures in
    subst (AllPairs (λ earlier later. earlier.0 < later.0)) (sym told)
    (due_rises c.args.tick c.args.age (all_asked c.self.inside.holders.entries) c.self.invariant.sound.ordered)
