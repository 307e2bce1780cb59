use Rattle.std.proofs.Common.{◌≡◌, arith, refl, sym, ◌∙◌, ap, ◌∷◌, [], List, ℕ, get_or, true≢false}
use Rattle.std.proofs.lemmas.Grind.{common_steps}
use Rattle.std.proofs.lemmas.Slice.Eq.{slice_eq-Decides}
use Rattle.std.proofs.lemmas.Bool.Decides.{Decides-eqb}
use Rattle.hex.specs.Hex.{encode_lower}
use Rattle.lu_base.proofs.Digits.{decodes, IsBytes-one}
use Rattle.lu_base.proofs.text.read_byte.Goals as goal

pub returns-then-is_err-clause-none : goal.returns-then-is_err-clause-none
returns-then-is_err-clause-none c = λ byte fits is.
    let read = decodes c.args.digits.now (byte ∷ []) _ 1 _ refl (IsBytes-one byte fits) is c.decode_to_slice.ensures.value in
    grind (arith, common_steps, read.0, c.is_err.ensures.value, c.if-is_err.true)

pub returns-clause-none : goal.returns-clause-none
returns-clause-none c = λ byte fits is.
    let read = decodes c.args.digits.now (byte ∷ []) _ 1 _ refl (IsBytes-one byte fits) is c.decode_to_slice.ensures.value in
    let same : c.as_slice.result.now ≡ c.args.digits.now =
    c.as_slice.ensures ∙ c.digits_of.ensures.digits ∙ ap (λ (out : List ℕ). encode_lower (get_or out 0 0 ∷ [])) read.1 ∙ sym is in
    true≢false (sym ((slice_eq-Decides Decides-eqb _ _ _ c.eq.ensures).1 same) ∙ c.if-eq.false)
