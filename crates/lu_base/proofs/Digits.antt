-- Facts on hexadecimal text.
use Rattle.std.proofs.Common.{◌≡◌, ℕ, zero, suc, ◌+◌, ◌-◌, ◌/◌, ◌<◌, List, [], ◌∷◌, ◌++◌, length, take, drop, get_or, refl, ap, sym, ◌∙◌}
use Rattle.std.proofs.Common.{append_assoc, add-one, arith, Result, Ok, Err, Some, decimal, lit<, slice_index}
use Rattle.std.proofs.lemmas.List.{take_all}
use Rattle.std.specs.Prelude.{MatchResult}
use Rattle.std.proofs.Math.Seq.{take-suc, take-append_seam}
use Rattle.hex.specs.Hex.{IsBytes, encode_with, encode_lower, lower_digits, decode_sized, hex_digit_value}
use Rattle.hex.specs.declared.error.FromHexError.{FromHexError}
use Rattle.hex.proofs.HexLemmas.{length-encode_with, decode_sized-encode_lower, IsDigits-lower_digits}
use Rattle.lu_base.specs.Texts.{repeated_text, HasStar}

-- the digits of two lists, one after the other
pub encode_with-append : (t xs ys : List ℕ) → encode_with t (xs ++ ys) ≡ encode_with t xs ++ encode_with t ys
unfolding encode_with
encode_with-append t [] ys = refl
encode_with-append t (x ∷ xs) ys = rw (encode_with-append t xs ys) refl

-- one more byte adds its digits
pub digits_more : (before now digits after held : List ℕ) (i d : ℕ) → i < length held
    → now ≡ before ++ encode_lower (take i held) → digits ≡ encode_lower (get_or held i d ∷ []) → after ≡ now ++ digits
    → after ≡ before ++ encode_lower (take (i + 1) held)
digits_more before now digits after held i d within so_far are added =
    let last = encode_lower (get_or held i d ∷ []) in
    let joined : encode_lower (take i held) ++ last ≡ encode_lower (take (i + 1) held) =
    sym (encode_with-append lower_digits (take i held) (get_or held i d ∷ []))
    ∙ ap encode_lower (sym (take-suc held i d within) ∙ ap (λ k. take k held) (sym (add-one i))) in
    added ∙ ap (λ w. w ++ digits) so_far ∙ ap (λ w. (before ++ encode_lower (take i held)) ++ w) are
    ∙ append_assoc before (encode_lower (take i held)) last ∙ ap (λ w. before ++ w) joined

-- one byte is a list of bytes
pub IsBytes-one : (byte : ℕ) → byte < 256 → IsBytes (byte ∷ [])
IsBytes-one byte fits zero = fits
IsBytes-one byte fits (suc k) = lit< tt

-- what decoding the digits of bytes writes, into room for as many
pub decodes : (text bytes out : List ℕ) (n : ℕ) (r : Result (Unit {0}) FromHexError) → length bytes ≡ n → IsBytes bytes → text
    ≡ encode_lower bytes
    → MatchResult (decode_sized text n) (λ read. (r ≡ Ok tt) × (out ≡ read)) (λ e. r ≡ Err e)
    → (r ≡ Ok tt) × (out ≡ bytes)
decodes text bytes out n r same fits is written =
    let read : decode_sized text n ≡ Ok bytes = ap (λ t. decode_sized t n) is ∙ decode_sized-encode_lower bytes n same fits in
    rw read at written

-- the digits of bytes are twice as many
pub half_of : (text bytes : List ℕ) → text ≡ encode_lower bytes → length bytes ≡ length text / 2
half_of text bytes is = let twice = ap length is ∙ length-encode_with lower_digits bytes in omega (arith, twice)

-- no bytes have no digits
pub none_of : (text bytes : List ℕ) → text ≡ encode_lower bytes → length text / 2 ≡ 0 → bytes ≡ []
none_of text [] is none = refl
none_of text (byte ∷ more) is none = let twice = ap length is ∙ length-encode_with lower_digits (byte ∷ more)
    in absurd (omega (arith, twice))

-- the two parts of a repeated byte's text, as the ranges up to 2 and from 3 on
pub parts_of : (text : List ℕ) (byte count : ℕ) → text ≡ repeated_text byte count
    → (take 2 text ≡ encode_lower (byte ∷ [])) × (take (length text - 3) (drop 3 text) ≡ decimal count)
unfolding encode_with
parts_of text byte count is = rw is (refl, take_all _ (decimal count) (omega arith))

-- the third byte of a repeated byte's text is `*`
pub star_of : (text : List ℕ) (byte count : ℕ) → text ≡ repeated_text byte count → HasStar text
unfolding encode_with
star_of text byte count is = rw is (omega arith, refl)

-- no digit is `*`
no_star_digit : (digit : ℕ) → digit < 16 → slice_index lower_digits digit ≡ 42 → ⊥
no_star_digit digit small is =
    let read : hex_digit_value 42 ≡ Some digit = ap hex_digit_value (sym is) ∙ IsDigits-lower_digits digit small in
    cc

-- the third byte of plain digits is not `*`
pub no_star : (text bytes : List ℕ) → IsBytes bytes → text ≡ encode_lower bytes → HasStar text → ⊥
unfolding encode_with
no_star text [] fits is (long, star) = let none = ap length is in omega (arith, none)
no_star text (byte ∷ []) fits is (long, star) = let two = ap length is in omega (arith, two)
no_star text (byte ∷ next ∷ more) fits is (long, star) =
    let small : next < 256 = fits 1 in
    no_star_digit (next / 16) (omega arith) (sym (ap (λ t. slice_index t 2) is) ∙ star)

-- a buffer that was written whole shows what was written
pub front_kept : (len : ℕ) (out bytes held : List ℕ) → out ≡ bytes → length bytes ≡ len → take len (out ++ drop (length out) held) ≡ bytes
front_kept len out bytes held is long =
    ap (λ n. take n (out ++ drop (length out) held)) (sym long ∙ ap length (sym is)) ∙ take-append_seam out (drop (length out) held) ∙ is
