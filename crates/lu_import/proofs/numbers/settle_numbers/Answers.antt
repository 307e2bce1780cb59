-- What is left is all above the number.
use Rattle.std.proofs.Common.{◌≡◌, ◌∙◌, false, sym}
use Rattle.std.proofs.lemmas.List.Kept.{AllPairs-from_increasing}
use Rattle.lu_import.specs.Adding.{starts_by}
use Rattle.lu_import.proofs.SeenNumbers.{stays}
use Rattle.lu_import.proofs.numbers.settle_numbers.Goals as goal

pub returns-clause-settled : goal.returns-clause-settled
returns-clause-settled c =
    let left = c.loop-seen.seen.keys in
    let past : starts_by (λ n. n) c.args.number left ≡ false = sym c.starts_by.ensures.starts ∙ c.loop-seen-test.false in
    sym (stays (λ n. n) c.args.number left (AllPairs-from_increasing left c.starts_by.ensures.rising) past) ∙ c.loop-seen.invariant
