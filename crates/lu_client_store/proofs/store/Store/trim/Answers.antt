-- The one that is marked is the first of the marks that were left.
use Rattle.std.proofs.Common.{◌≡◌, ◌∷◌, subst, sym, ◌∙◌}
use Rattle.lu_spec_entries.specs.Words.{Marks}
use Rattle.lu_held.specs.Locks.{named}
use Rattle.lu_client_store.specs.Stored.{StoreState, trims_left}
use Rattle.lu_client_store.proofs.Parts.{together}
use Rattle.lu_client_store.proofs.Trimming.{trims_next}
use Rattle.lu_client_store.proofs.store.Store.trim.Goals as goal

pub returns-clause-some : goal.returns-clause-some
returns-clause-some c =
    subst
    (λ (s : StoreState). trims_left s ≡ Marks (named c.in_ok-target.target c.in_ok-target.cookie)
    ∷ trims_left (together c.trim.new.self c.self.inside.cache c.self.inside.patches))
    c.self.view_is
    (trims_next (together c.self.inside.held c.self.inside.cache c.self.inside.patches) c.trim.new.self c.in_ok-target.target
    c.in_ok-target.cookie (sym c.trim.ensures.trimmed ∙ c.in_ok-target.was) c.trim.ensures.marked c.trim.ensures.sound)
