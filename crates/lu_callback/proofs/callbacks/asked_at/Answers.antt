-- The chain over what was asked of each lock gives all that is kept.
use Rattle.std.proofs.Common.{◌≡◌, ◌∙◌, List, rules}
use Rattle.std.proofs.lemmas.Iterator.{YieldsList-from_slice}
use Rattle.std.proofs.lemmas.Iterator.Adapters.{YieldsList-from_flat_map}
use Rattle.std.proofs.lemmas.Iterator.Consumers.{nth_from_yields_List, YieldsList-from_rest}
use Rattle.lu_callback.specs.declared.callbacks.Asked.{Asked}
use Rattle.lu_callback.proofs.callbacks.asked_at.Goals as goal

pub returns : goal.returns
returns c =
    nth_from_yields_List c.nth.result c.nth.new.self c.args.at c.nth.ensures.ran
    (YieldsList-from_flat_map _ _ _ (λ y. y.now) (λ (xs : List Asked). xs) _
    (λ x u q k. (search rules, λ j b. let e : u.now ≡ x.now = search rules in YieldsList-from_slice _ (b.0 ∙ e)))
    (YieldsList-from_rest _ (c.flat_map.ensures.source ∙ c.values.ensures.rest)) c.flat_map.ensures.closure c.flat_map.ensures.front
    c.flat_map.ensures.back c.flat_map.ensures.done)
