-- The last cookie of the list goes into the set, until the list is empty.
use Rattle.std.proofs.Common.{◌≡◌, ℕ, ◌-◌, ◌++◌, take, [], List, ap, sym, ◌∙◌}
use Rattle.lu_base.specs.declared.ids.Cookie.{Cookie}
use Rattle.lu_cache.proofs.InOrder.{upon, upon_last, all_upon}
use Rattle.lu_cache.proofs.Seeing.{if_ok}
use Rattle.lu_cache.proofs.paths.rising.Goals as goal

pub loop-cookie-preserved : goal.loop-cookie-preserved
loop-cookie-preserved c =
    let left = c.pop.new.self.items in
    let keys = c.loop-cookie.sorted.keys in
    ap (upon left) c.in_ok-insert.ensures.keys
    ∙ sym (upon_last left c.in-Some.cookie keys)
    ∙ ap (λ (xs : List Cookie). upon xs keys) (sym c.in-Some.ensures.items)
    ∙ c.loop-cookie.invariant

pub returns : goal.returns
returns c =
    let keys = c.loop-cookie.sorted.keys in
    let items = c.loop-cookie.cookies.items in
    let left : c.pop.new.self.items ≡ [] = c.in_default.ensures.rest ∙ ap (λ (n : ℕ). take (n - 1) items) c.in_default.ensures.cases.0 in
    let none : items ≡ [] = c.in_default.ensures.items ∙ ap (λ (xs : List Cookie). xs ++ []) left in
    record {
      rising = if_ok c.listed.result (λ locks same. same ∙ sym (ap (λ (xs : List Cookie). upon xs keys) none)
          ∙ c.loop-cookie.invariant ∙ all_upon c.args.cookies.items) c.listed.ensures.same;
    }
