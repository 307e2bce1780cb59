-- The names in order lead to the locks in order.
use Rattle.std.proofs.Common.{◌∙◌, ap}
use Rattle.lu_held.specs.Held.{in_order}
use Rattle.lu_held.proofs.Looks.{all_listed}
use Rattle.lu_held.proofs.held.Held.in_order.Goals as goal

pub returns-clause-order : goal.returns-clause-order
returns-clause-order c =
    c.in_ok-locks_in_order.ensures
    ∙ all_listed c.self.inside.names.keys c.self.inside.uses.entries c.self.invariant.kept
    ∙ ap (λ state. in_order state.locks) c.self.view_is
