-- The notes of a life are from its first on.
use Rattle.std.proofs.Common.{rules, ◌≡◌, ◌∙◌, true, filter, sym, subst}
use Rattle.std.specs.BTreeMap.Range.{range_contains}
use Rattle.std.specs.declared.ops.Bound.TheVariants.{Included, Unbounded}
use Rattle.lu_lockspace.specs.Notes.{stay, stay_order, is_noted}
use Rattle.lu_lockspace.proofs.NotedLives.{first, noted_from}
use Rattle.lu_lockspace.proofs.stays.stays_from.Goals as goal

pub returns : goal.returns
returns c =
    let who = c.args.who in
    let keys = c.args.stays.now.keys in
    let same : c.in_ok-some.some.items ≡ c.range.result = search rules in
    let some : c.range.result ≡ filter (range_contains stay_order (Included (first who)) Unbounded) keys =
    c.range.ensures.between tt ∙ (λ i. filter (range_contains stay_order (Included (c.first_stay.ensures i)) Unbounded) keys) in
    λ r h. subst (λ xs. is_noted (stay who r) xs ≡ true) (sym (same ∙ some)) (noted_from who r keys h)
