-- The places of all touched parts, sorted and each once.
use Rattle.std.proofs.Common.{◌≡◌, true, take, ◌∙◌, sym, subst, ◌==◌}
use Rattle.std.specs.List.Sorted.{IsStrictlyIncreasing}
use Rattle.std.proofs.lemmas.List.{take_all}
use Rattle.std.proofs.lemmas.List.Filters.{dedup_is}
use Rattle.std.proofs.lemmas.List.Sorted.{list_any-IsPermutation}
use Rattle.std.proofs.lemmas.Map.Keys.{IsStrictlyIncreasing-dedup}
use Rattle.lu_part.specs.Places.{has}
use Rattle.lu_txn.specs.Indexes.{gathered}
use Rattle.lu_part.proofs.Places.{has_dedup}
use Rattle.lu_txn.proofs.index.Index.candidates.Goals as goal

pub returns-clause-rising : goal.returns-clause-rising
returns-clause-rising c =
    subst IsStrictlyIncreasing (sym (dedup_is _ _ _ c.dedup.ensures.filtered)) (IsStrictlyIncreasing-dedup _ c.sort_unstable.ensures.sorted)

pub returns-clause-all : goal.returns-clause-all
returns-clause-all c = λ place h.
    let all : take c.loop-part.part-index c.as_slice-part-items.result.now ≡ c.args.touched.now = take_all _ _ c.loop-part-test.false
    ∙ c.as_slice-part-items.ensures.same in
    let found : c.loop-part.places.items ≡ gathered c.args.self.now c.args.touched.now =
    subst (λ parts. c.loop-part.places.items ≡ gathered c.args.self.now parts) all c.loop-part.invariant in
    let unsorted : has c.loop-part.places.items place ≡ true = rw found h in
    let sorted : has c.sort_unstable.new.self.items place ≡ true =
    sym (list_any-IsPermutation (λ m. m == place) c.loop-part.places.items c.sort_unstable.new.self.items
    c.sort_unstable.ensures.permutation) ∙ unsorted in
    subst (λ places. has places place ≡ true) (sym (dedup_is _ _ _ c.dedup.ensures.filtered))
    (has_dedup c.sort_unstable.new.self.items place sorted)
