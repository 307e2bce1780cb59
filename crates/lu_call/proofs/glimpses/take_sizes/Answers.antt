-- One size more.
use Rattle.std.proofs.Common.{◌≡◌, ℕ, List, [], ◌∷◌, ◌++◌, ◌∙◌, drop, ap, rules}
use Rattle.lu_spec_client.specs.Looks.{size_under}
use Rattle.lu_call.proofs.Glimpsing.{taken_more}
use Rattle.lu_call.proofs.glimpses.take_sizes.Goals as goal

pub loop-lock-preserved : goal.loop-lock-preserved
loop-lock-preserved c =
    let sizes : List ℕ = c.loop-lock.sizes in
    let shorter : c.pop_front.new.self.items ≡ drop 1 c.loop-lock.left.items = search rules in
    let longer : c.push.new.self ≡ sizes ++ size_under c.in-Some.lock c.args.store.now.store ∷ [] = c.in_ok-push.ensures.added
    ∙ ap (λ (size : ℕ). sizes ++ size ∷ []) c.size_under.ensures.size in
    taken_more (size_under c.in-Some.lock c.args.store.now.store) c.loop-lock.invariant shorter longer (c.in-Some.ensures.goes sizes)
