-- Octal numbers and bytes: each one's text is read as it.
use Rattle.std.proofs.Common.{◌≡◌, ℕ, zero, suc, ◌/◌, ◌%◌, ◌^◌, ◌<◌, ◌≤◌, ◌==◌, Bool, true, false, cond, ◌&&◌, List, [], ◌∷◌, ◌++◌, length}
use Rattle.std.proofs.Common.{take, drop, replicate, Option, Some, None, refl, sym, ap, subst, ◌∙◌, decimal, arith, lit≤, inl, inr}
use Rattle.std.specs.Prelude.{nat_le, nat_lt, slice_index, codes, All}
use Rattle.std.specs.List.{list_all}
use Rattle.std.specs.Str.{bytes_eq}
use Rattle.std.specs.Str.Parse.{digits_value, AllDigits, IsNumeral}
use Rattle.std.specs.Char.{digit_value}
use Rattle.std.specs.Fmt.{digits}
use Rattle.std.proofs.lemmas.Bool.{lt-ltb, ltb-true, le-leb, eqb-true, and_parts, and_from, false_from_ne_true, cond-true, cond-false}
use Rattle.std.proofs.lemmas.Bool.{cases_lt}
use Rattle.std.proofs.lemmas.Bool.Decides.{nat_tests}
use Rattle.std.proofs.lemmas.Fmt.{digits_is_IsNumeral}
use Rattle.std.proofs.lemmas.List.Elements.{All-head, All-tail}
use Rattle.hex.specs.Hex.{IsBytes, lower_digits, encode_with, encode_lower}
use Rattle.lu_base.specs.Texts.{is_repeated, repeated_text, bytes_text, HasStar}
use Rattle.lu_base.specs.Values.{octal_text}
use Rattle.lu_base.proofs.Digits.{no_star}
use Rattle.lu_scene.specs.Fields.{number_of, data_of}
use Rattle.lu_scene.proofs.Options.{bytes_same}
use Rattle.lu_scene.proofs.Numerals.{number_of-decimal}
use Rattle.lu_scene.proofs.DataWords.{data_of-text}
use Rattle.lu_trace.specs.WellFormed.{Fits}
use Rattle.lu_judge_reader.specs.Reading.{◌>>?◌}
use Rattle.lu_judge_reader.specs.Values.{is_octal, octal_of, rights_of, has_star, repeated, repeated_of, bytes_of}
use Rattle.lu_judge_reader.proofs.Octals.{octal_of-small}

-- octal digits

octal_byte : (b : ℕ) → digit_value b < 8 → (nat_le 48 b && nat_le b 55) ≡ true
octal_byte b small =
    elim (cases_lt b 48) [
      | inl low ↦ let v : digit_value b ≡ 36 = cond-true (nat_lt b 48) 36 _ (lt-ltb b 48 low) in absurd (omega (arith, v, small))
      | inr high ↦
          elim (cases_lt b 56) [
            | inl digit ↦ and_from _ _ (le-leb 48 b high) (le-leb b 55 (omega (arith, digit)))
            | inr past ↦ absurd (large b past small)
          ]
    ]
  where
    large : (b : ℕ) → 56 ≤ b → digit_value b < 8 → ⊥
    large b past small = grind (arith, nat_tests)

octal_bytes : (text : List ℕ) → AllDigits 8 text → list_all (λ b. nat_le 48 b && nat_le b 55) text ≡ true
octal_bytes [] digits = refl
octal_bytes (b ∷ more) digits = and_from _ _ (octal_byte b digits.0) (octal_bytes more digits.1)

numeral : (n : ℕ) → n < 2 ^ 16 → IsNumeral 8 (octal_text n) × (digits_value 8 (octal_text n) ≡ n)
numeral n small = digits_is_IsNumeral 8 false (lit≤ tt) (lit≤ tt) n (omega (arith, small))

octal_test : (n : ℕ) → n < 2 ^ 16 → is_octal (octal_text n) ≡ true
octal_test n small =
    let is = (numeral n small).0 in
    and_from _ _ (lt-ltb 0 (length (octal_text n)) is.0) (octal_bytes (octal_text n) is.1)

pub octal_digits : (n : ℕ) → n < 2 ^ 16 → (0 < length (octal_text n)) × (list_all (λ b. nat_le 48 b && nat_le b 55) (octal_text n) ≡ true)
octal_digits n small = let is = (numeral n small).0 in (is.0, octal_bytes (octal_text n) is.1)

pub octal_again : (n : ℕ) → n < 2 ^ 16 → octal_of (octal_text n) ≡ Some n
octal_again n small =
    let value = (numeral n small).1 in
    octal_of-small (octal_text n) (octal_test n small) (subst (λ (m : ℕ). m < 2 ^ 16) (sym value) small) ∙ ap (λ (m : ℕ). Some m) value

pub rights_again : (n : ℕ) → n < 2 ^ 12 → rights_of (octal_text n) ≡ Some n
rights_again n small =
    ap (λ (o : Option ℕ). o >>? λ m. cond (nat_lt m (2 ^ 12)) (Some m) None) (octal_again n (omega (arith, small)))
    ∙ cond-true (nat_lt n (2 ^ 12)) (Some n) None (lt-ltb n (2 ^ 12) small)

-- bytes

pub are_bytes : (bytes : List ℕ) → All (Fits 8) bytes → IsBytes bytes
are_bytes [] are i = small i
  where
    small : (i : ℕ) → slice_index [] i < 256
    small i = omega arith
are_bytes (b ∷ bytes) are zero = All-head (Fits 8) b bytes are
are_bytes (b ∷ bytes) are (suc i) = are_bytes bytes (All-tail (Fits 8) b bytes are) i

all_same : (byte : ℕ) (rest : List ℕ) → list_all (λ other. other == byte) rest ≡ true → rest ≡ replicate (length rest) byte
all_same byte [] same = refl
all_same byte (b ∷ more) same =
    let parts = and_parts (b == byte) (list_all (λ other. other == byte) more) same in
    ap (λ (d : ℕ). d ∷ more) (eqb-true b byte parts.0) ∙ ap (λ (ds : List ℕ). byte ∷ ds) (all_same byte more parts.1)

one_byte : (b : ℕ) → b < 256 → IsBytes (b ∷ [])
one_byte b small zero = small
one_byte b small (suc i) = none i
  where
    none : (i : ℕ) → slice_index [] i < 256
    none i = omega arith

long_text : (a b : ℕ) (text : List ℕ) → bytes_eq (a ∷ b ∷ text) (codes "-") ≡ false
long_text a b text = false_from_ne_true _ (λ e. let same = ap (λ (t : List ℕ). length t) (bytes_same (a ∷ b ∷ text) (codes "-") e)
    in omega (arith, same))

dashless : (b : ℕ) (more text : List ℕ) → bytes_eq (encode_lower (b ∷ more) ++ text) (codes "-") ≡ false
unfolding encode_with
dashless b more text = long_text (slice_index lower_digits (b / 16)) (slice_index lower_digits (b % 16))
    (encode_with lower_digits more ++ text)

three : (h l : ℕ) (text : List ℕ) → has_star (h ∷ l ∷ 42 ∷ text) ≡ true
three h l text = and_from (nat_lt 2 (length (h ∷ l ∷ 42 ∷ text))) (42 == 42) (lt-ltb 2 (length (h ∷ l ∷ 42 ∷ text)) (omega arith)) refl

star_there : (b : ℕ) (text : List ℕ) → has_star (encode_lower (b ∷ []) ++ 42 ∷ text) ≡ true
unfolding encode_with
star_there b text = three (slice_index lower_digits (b / 16)) (slice_index lower_digits (b % 16)) text

cut_there : (b : ℕ) (text : List ℕ) → (take 2 (encode_lower (b ∷ []) ++ 42 ∷ text) ≡ encode_lower (b ∷ []))
    × (drop 3 (encode_lower (b ∷ []) ++ 42 ∷ text) ≡ text)
unfolding encode_with
cut_there b text = (refl, refl)

star-true : (text : List ℕ) → has_star text ≡ true → HasStar text
star-true text test = let parts = and_parts (nat_lt 2 (length text)) (slice_index text 2 == 42) test
    in (ltb-true 2 (length text) parts.0, eqb-true (slice_index text 2) 42 parts.1)

append_none : (text : List ℕ) → text ++ [] ≡ text
append_none [] = refl
append_none (b ∷ text) = ap (λ (t : List ℕ). b ∷ t) (append_none text)

repeated_again : (b count : ℕ) → b < 256 → count < 2 ^ 63 → bytes_of (repeated_text b count) ≡ Some (replicate count b)
unfolding bytes_of
repeated_again b count small few =
    let text = repeated_text b count in
    let cut = cut_there b (decimal count) in
    let byte : data_of (take 2 text) ≡ Some (b ∷ []) =
    ap data_of cut.0 ∙ data_of-text (encode_lower (b ∷ [])) (b ∷ []) (one_byte b small) (inl (refl, λ none. cc none)) in
    let number : number_of (drop 3 text) ≡ Some count = ap number_of cut.1 ∙ number_of-decimal count (omega (arith, few)) in
    cond-false (bytes_eq text (codes "-")) (Some []) (cond (has_star text) (repeated_of text) (data_of text))
    (dashless b [] (42 ∷ decimal count))
    ∙ cond-true (has_star text) (repeated_of text) (data_of text) (star_there b (decimal count))
    ∙ ap (λ (o : Option (List ℕ)). o >>? λ held. number_of (drop 3 text) >>? λ n. cond (nat_lt n (2 ^ 63)) (repeated n held) None) byte
    ∙ ap (λ (o : Option ℕ). o >>? λ n. cond (nat_lt n (2 ^ 63)) (repeated n (b ∷ [])) None) number
    ∙ cond-true (nat_lt count (2 ^ 63)) (Some (replicate count b)) None (lt-ltb count (2 ^ 63) few)

digits_again : (b : ℕ) (more : List ℕ) → IsBytes (b ∷ more) → bytes_of (encode_lower (b ∷ more)) ≡ Some (b ∷ more)
unfolding bytes_of
digits_again b more fit =
    let text = encode_lower (b ∷ more) in
    let dash : bytes_eq text (codes "-") ≡ false = ap (λ (t : List ℕ). bytes_eq t (codes "-")) (sym (append_none text)) ∙ dashless b more []
    in
    cond-false (bytes_eq text (codes "-")) (Some []) (cond (has_star text) (repeated_of text) (data_of text)) dash
    ∙ cond-false (has_star text) (repeated_of text) (data_of text)
    (false_from_ne_true (has_star text) (λ e. no_star text (b ∷ more) fit refl (star-true text e)))
    ∙ data_of-text text (b ∷ more) fit (inl (refl, λ none. cc none))

none_again : bytes_of (codes "-") ≡ Some []
unfolding bytes_of
none_again = refl

pub bytes_again : (bytes : List ℕ) → All (Fits 8) bytes → length bytes < 2 ^ 63 → bytes_of (bytes_text bytes) ≡ Some bytes
bytes_again [] are few = none_again
bytes_again (b ∷ more) are few = by (is_repeated (b ∷ more)) refl
  where
    fit : IsBytes (b ∷ more)
    fit = are_bytes (b ∷ more) are

    by : (v : Bool) → is_repeated (b ∷ more) ≡ v → bytes_of (cond v (repeated_text b (length (b ∷ more))) (encode_lower (b ∷ more)))
        ≡ Some (b ∷ more)
    by true same =
        let parts = and_parts (nat_lt 0 (length more)) (list_all (λ other. other == b) more) same in
        repeated_again b (length (b ∷ more)) (fit 0) few ∙ ap (λ (ds : List ℕ). Some (b ∷ ds)) (sym (all_same b more parts.1))
    by false other = digits_again b more fit
