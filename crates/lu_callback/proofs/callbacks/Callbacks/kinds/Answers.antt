-- What stands under the lock's cookie.
use Rattle.std.proofs.Common.{◌≡◌, ◌∙◌, List, [], Some, None, map, sym, ap}
use Rattle.lu_callback.specs.declared.callbacks.Asked.{Asked}
use Rattle.lu_callback.specs.declared.callbacks.Kind.{Kind}
use Rattle.lu_callback.specs.Callbacks.{of_lock}
use Rattle.lu_callback.specs.Filed.{all_asked}
use Rattle.lu_callback.proofs.Filed.{of_found}
use Rattle.lu_callback.proofs.callbacks.Callbacks.kinds.Goals as goal

pub returns-in_ok-kinds-in-Some-clause-kinds : goal.returns-in_ok-kinds-in-Some-clause-kinds
returns-in_ok-kinds-in-Some-clause-kinds c =
    let under : of_lock c.args.cookie (all_asked c.self.inside.holders.entries) ≡ c.in-Some.holder.now =
    of_found c.args.cookie c.self.inside.holders.entries (Some c.in-Some.holder.now) c.self.invariant c.in-Some.ensures.value in
    c.from.ensures ∙ c.in_ok-kinds-in-Some.ensures.kinds
    ∙ ap (λ (xs : List Asked). map {A = Asked} {B = Kind} (λ asked. asked.kind) xs) (sym under ∙ ap (of_lock c.args.cookie) c.self.view_is)

pub returns-in-None-clause-kinds : goal.returns-in-None-clause-kinds
returns-in-None-clause-kinds c =
    let under : of_lock c.args.cookie (all_asked c.self.inside.holders.entries) ≡ [] =
    of_found c.args.cookie c.self.inside.holders.entries None c.self.invariant c.in-None.ensures.value in
    c.new.ensures.empty
    ∙ ap (λ (xs : List Asked). map {A = Asked} {B = Kind} (λ asked. asked.kind) xs) (sym under ∙ ap (of_lock c.args.cookie) c.self.view_is)
