-- A new number is in its place, and would be taken out first.
use Rattle.std.proofs.Common.{◌≡◌, ◌∙◌, ◌++◌, ◌∷◌, [], List, ℕ, false, ap, rules}
use Rattle.std.specs.List.{list_any}
use Rattle.std.specs.Ordering.{nat_cmp}
use Rattle.std.specs.BTreeMap.{is_at}
use Rattle.lu_import.specs.Kept.{with_number}
use Rattle.lu_import.specs.Adding.{undone}
use Rattle.lu_import.proofs.SeenNumbers.{insert_is, undone_new}
use Rattle.lu_import.proofs.numbers.add_number.Goals as goal

pub returns-in-Ok-true-clause-added : goal.returns-in-Ok-true-clause-added
returns-in-Ok-true-clause-added c = c.in-Ok-true.ensures.keys ∙ insert_is c.args.number c.args.seen.now.keys

pub returns-in-Ok-true-clause-undone : goal.returns-in-Ok-true-clause-undone
returns-in-Ok-true-clause-undone c =
    let n = c.args.number in
    let old = c.args.seen.now.keys in
    let added : c.push.new.self.items ≡ c.args.added.now.items ++ n ∷ [] = search rules in
    let keys : c.insert.new.self.keys ≡ with_number n old = c.in-Ok-true.ensures.keys ∙ insert_is n old in
    let new : list_any (is_at (nat_cmp n)) old ≡ false = search rules in
    ap (λ (ns : List ℕ). undone ns c.insert.new.self.keys) added
    ∙ ap (undone (c.args.added.now.items ++ n ∷ [])) keys
    ∙ undone_new c.args.added.now.items n old new

pub returns-in-Ok-false-clause-added : goal.returns-in-Ok-false-clause-added
returns-in-Ok-false-clause-added c = c.in-Ok-false.ensures.keys ∙ insert_is c.args.number c.args.seen.now.keys
