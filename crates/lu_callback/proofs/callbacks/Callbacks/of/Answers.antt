-- What stands under the lock's cookie.
use Rattle.std.proofs.Common.{◌≡◌, ◌∙◌, ℕ, zero, suc, List, [], Some, None, refl, sym, ap}
use Rattle.std.specs.Prelude.{slice_get, option_map}
use Rattle.lu_callback.specs.declared.callbacks.Asked.{Asked}
use Rattle.lu_callback.specs.declared.callbacks.Kind.{Kind}
use Rattle.lu_callback.specs.Callbacks.{of_lock}
use Rattle.lu_callback.specs.Filed.{all_asked}
use Rattle.lu_callback.proofs.Filed.{of_found}
use Rattle.lu_callback.proofs.callbacks.Callbacks.of.Goals as goal

no_kind : (at : ℕ) → None ≡ option_map {T = Asked} {U = Kind} (λ asked. asked.kind) (slice_get [] at)
no_kind zero = refl
no_kind (suc at) = refl

pub returns-in-Some-clause-asked : goal.returns-in-Some-clause-asked
returns-in-Some-clause-asked c =
    let under : of_lock c.args.cookie (all_asked c.self.inside.holders.entries) ≡ c.in-Some.holder.now =
    of_found c.args.cookie c.self.inside.holders.entries (Some c.in-Some.holder.now) c.self.invariant c.in-Some.ensures.value in
    c.kind_at.ensures.kind
    ∙ ap (λ (xs : List Asked). option_map (λ asked. asked.kind) (slice_get xs c.args.at))
    (sym under ∙ ap (of_lock c.args.cookie) c.self.view_is)

pub returns-in-None-clause-asked : goal.returns-in-None-clause-asked
returns-in-None-clause-asked c =
    let under : of_lock c.args.cookie (all_asked c.self.inside.holders.entries) ≡ [] =
    of_found c.args.cookie c.self.inside.holders.entries None c.self.invariant c.in-None.ensures.value in
    no_kind c.args.at
    ∙ ap (λ (xs : List Asked). option_map (λ asked. asked.kind) (slice_get xs c.args.at))
    (sym under ∙ ap (of_lock c.args.cookie) c.self.view_is)
