-- The notes of a life are between its first and the next life's.
use Rattle.std.proofs.Common.{rules, ◌≡◌, ◌+◌, ◌∙◌, true, filter, refl, sym, subst, arith}
use Rattle.std.specs.BTreeMap.Range.{range_contains}
use Rattle.std.specs.declared.ops.Bound.TheVariants.{Included, Excluded}
use Rattle.lu_base.specs.declared.ids.Who.{Who}
use Rattle.lu_lockspace.specs.Notes.{stay, stay_order, is_noted}
use Rattle.lu_lockspace.proofs.NotedLives.{first, noted_between}
use Rattle.lu_lockspace.proofs.stays.stays_to_next.Goals as goal

pub returns : goal.returns
returns c =
    let who = c.args.who in
    let keys = c.args.stays.now.keys in
    let next : Who = record { client = who.client; life = who.life + 1 } in
    let same : c.in_ok-some.some.items ≡ c.range.result = search rules in
    let some : c.range.result ≡ filter (range_contains stay_order (Included (first who)) (Excluded (first next))) keys =
    c.range.ensures.between tt ∙ (λ i. filter (range_contains stay_order (Included (c.first_stay.ensures i))
    (Excluded (c.first_stay-2.ensures i))) keys) in
    λ r h. subst (λ xs. is_noted (stay who r) xs ≡ true) (sym (same ∙ some)) (noted_between who next r keys refl (omega arith) h)
