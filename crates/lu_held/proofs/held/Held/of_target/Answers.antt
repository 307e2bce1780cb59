-- The names in order lead to the target's locks.
use Rattle.std.proofs.Common.{◌∙◌, ap, map}
use Rattle.lu_held.specs.declared.locks.Wanted.TheVariants.{Of}
use Rattle.lu_held.specs.Locks.{lock_of}
use Rattle.lu_held.specs.Held.{those}
use Rattle.lu_held.specs.Kept.{asked, names_for}
use Rattle.lu_held.proofs.AtTarget.{listed_for}
use Rattle.lu_held.proofs.Looks.{listed, map_listed}
use Rattle.lu_held.proofs.held.Held.of_target.Goals as goal

pub returns-clause-locks : goal.returns-clause-locks
returns-clause-locks c =
    let wanted = Of c.args.target in
    c.in_ok-locks.ensures
    ∙ map_listed lock_of (asked wanted c.self.inside.uses.entries) (names_for wanted c.self.inside.names.keys)
    ∙ ap (map lock_of) (listed_for wanted c.self.inside.uses.entries c.self.inside.names.keys c.self.invariant.kept.keyed)
    ∙ ap (map lock_of) (listed wanted c.self.inside.names.keys c.self.inside.uses.entries c.self.invariant.kept)
    ∙ ap (λ state. map lock_of (those wanted state.locks)) c.self.view_is
