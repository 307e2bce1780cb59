use Rattle.std.proofs.Common.{◌≡◌, ◌/◌, true≢false, arith, sym, ◌∙◌, ap, length}
use Rattle.std.proofs.lemmas.Grind.{common_steps}
use Rattle.hex.specs.Hex.{encode_lower}
use Rattle.lu_base.proofs.Digits.{decodes, half_of, none_of, front_kept}
use Rattle.lu_base.proofs.text.read_digits.Goals as goal

pub returns-then-is_empty-clause-none : goal.returns-then-is_empty-clause-none
returns-then-is_empty-clause-none c = λ bytes fits is.
    none_of c.args.text.now bytes is (grind (arith, common_steps, c.in_ok-bytes.ensures.len, c.is_empty.ensures, c.if-is_empty.true))

pub returns-then-is_err-clause-none : goal.returns-then-is_err-clause-none
returns-then-is_err-clause-none c = λ bytes fits is.
    let room : length c.as_mut_slice.result.now ≡ length c.args.text.now / 2 =
    grind (arith, common_steps, c.in_ok-bytes.ensures.len, c.as_mut_slice.ensures.len) in
    let read = decodes c.args.text.now bytes _ (length c.as_mut_slice.result.now) _ (half_of c.args.text.now bytes is ∙ sym room) fits is
    c.decode_to_slice.ensures.value in
    absurd (grind (arith, common_steps, read.0, c.is_err.ensures.value, c.if-is_err.true))

pub returns-then-not-branch-clause-none : goal.returns-then-not-branch-clause-none
returns-then-not-branch-clause-none c = λ bytes fits is.
    let room : length c.as_mut_slice.result.now ≡ length c.args.text.now / 2 =
    grind (arith, common_steps, c.in_ok-bytes.ensures.len, c.as_mut_slice.ensures.len) in
    let read = decodes c.args.text.now bytes _ (length c.as_mut_slice.result.now) _ (half_of c.args.text.now bytes is ∙ sym room) fits is
    c.decode_to_slice.ensures.value in
    let written : c.as_slice.result.now ≡ bytes =
    c.as_slice.ensures.value ∙ front_kept c.in_ok-bytes.bytes.len c.decode_to_slice.new.out bytes c.in_ok-bytes.bytes.items read.1
    (half_of c.args.text.now bytes is ∙ sym c.in_ok-bytes.ensures.len) in
    absurd (true≢false (sym (c.in_ok-is_digits.ensures.test.1 (is ∙ ap encode_lower (sym written))) ∙ c.if-not-branch.true))
