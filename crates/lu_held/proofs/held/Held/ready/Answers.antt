-- The names of the marked ones lead to the locks that are ready.
use Rattle.std.proofs.Common.{◌∙◌, ap, refl}
use Rattle.std.specs.Prelude.{vec_capacity}
use Rattle.lu_held.specs.declared.locks.Wanted.TheVariants.{Ready}
use Rattle.std.specs.List.{filter_map}
use Rattle.lu_held.specs.Kept.{asked}
use Rattle.lu_held.specs.Held.{those}
use Rattle.lu_held.proofs.Marks.{listed_marked}
use Rattle.lu_held.proofs.held.Held.ready.Goals as goal

pub returns-clause-ready : goal.returns-clause-ready
returns-clause-ready c =
    c.in_ok-locks_among.ensures
    ∙ ap (filter_map (asked Ready c.self.inside.uses.entries)) c.as_slice-marked.ensures.value
    ∙ listed_marked Ready c.self.inside.names.keys c.self.inside.uses.entries c.self.inside.marked.items (vec_capacity c.self.inside.marked)
    c.self.inside.free refl c.self.invariant.kept c.self.invariant.indexed
    ∙ ap (λ state. those Ready state.locks) c.self.view_is
