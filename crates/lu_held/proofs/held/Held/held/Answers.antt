-- The cache finds the lock of the name.
use Rattle.std.proofs.Common.{◌∙◌, ap, find}
use Rattle.lu_held.specs.Locks.{is_named}
use Rattle.lu_held.proofs.Entries.{lookup_find}
use Rattle.lu_held.proofs.held.Held.held.Goals as goal

pub returns-clause-held : goal.returns-clause-held
returns-clause-held c = c.peek.ensures ∙ lookup_find c.args.name c.self.inside.uses.entries c.self.invariant.kept.keyed
    ∙ ap (λ state. find (is_named c.args.name) state.locks) c.self.view_is
