-- The last one goes first.
use Rattle.std.proofs.Common.{◌≡◌, ◌∙◌, ◌++◌, ◌∷◌, [], List, ℕ, sym, ap, rules}
use Rattle.std.specs.Ordering.{nat_cmp}
use Rattle.std.specs.BTreeMap.{is_at}
use Rattle.std.specs.Set.{remove_key}
use Rattle.lu_import.specs.Adding.{undone}
use Rattle.lu_import.proofs.SeenNumbers.{undone_last}
use Rattle.lu_import.proofs.numbers.take_out.Goals as goal

pub loop-number-preserved : goal.loop-number-preserved
loop-number-preserved c =
    let n = c.in-Some.number in
    let seen = c.loop-number.seen.keys in
    let left = c.pop.new.self.items in
    let first : c.loop-number.added.items ≡ left ++ n ∷ [] = search rules in
    let out : c.remove.new.self.keys ≡ remove_key (is_at (nat_cmp n)) seen = c.remove.ensures.keys in
    ap (undone left) out
    ∙ sym (undone_last left n seen)
    ∙ ap (λ (added : List ℕ). undone added seen) (sym first)
    ∙ c.loop-number.invariant
