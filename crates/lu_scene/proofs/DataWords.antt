-- Data as words.
use Rattle.std.proofs.Common.{◌≡◌, ◌≢◌, ℕ, zero, suc, ◌/◌, ◌<◌, Bool, true, false, cond, ◌&&◌, ◌==◌, List, [], ◌∷◌, length, take, drop}
use Rattle.std.proofs.Common.{replicate, Option, Some, None, Result, Ok, Err, refl, sym, ap, ◌∙◌, subst, arith, inl, inr, decimal, lit<}
use Rattle.std.specs.Prelude.{IfSome, IfNone, nat_le, nat_lt, slice_index}
use Rattle.std.specs.Result.{result_unwrap_or}
use Rattle.std.specs.Str.{bytes_eq}
use Rattle.std.specs.Str.Parse.{digits_value}
use Rattle.std.proofs.lemmas.Bool.{true≢false, ltb-true, lt-ltb, leb-true, le-leb, eqb-true, eq-eqb, and_parts, and_from}
use Rattle.std.proofs.lemmas.Bool.{false_from_ne_true, cond-true, cond-false}
use Rattle.std.proofs.lemmas.Option.{cond_some}
use Rattle.std.proofs.lemmas.Fmt.{decimal_is_IsNumeral}
use Rattle.hex.specs.Hex.{IsBytes, encode_with, encode_lower, decode_sized}
use Rattle.hex.proofs.HexLemmas.{decode_sized-encode_lower, decode_sized-ok, decode_sized-twice, decode_of-ok}
use Rattle.hex.specs.declared.error.FromHexError.{FromHexError}
use Rattle.lu_base.specs.Texts.{repeated_text, HasStar, IsRepeatedText, IsDataText}
use Rattle.lu_base.proofs.Digits.{IsBytes-one, half_of, star_of, no_star}
use Rattle.lu_scene.specs.Fields.{undigits, digits_of, repeated_of, data_of}
use Rattle.lu_scene.proofs.Options.{none_from, same_bytes, bytes_same}

-- the bytes of their digits
pub undigits-encode : (text bytes : List ℕ) → IsBytes bytes → text ≡ encode_lower bytes → undigits text ≡ bytes
undigits-encode text bytes fits is =
    let read : decode_sized text (length text / 2) ≡ Ok bytes =
    ap (λ (t : List ℕ). decode_sized t (length text / 2)) is ∙ decode_sized-encode_lower bytes (length text / 2) (half_of text bytes is)
    fits in
    ap (λ r. result_unwrap_or r []) read

-- the test for a star
abbrev pub has_star : List ℕ → Bool
has_star text = nat_lt 2 (length text) && slice_index text 2 == 42

star-from : (text : List ℕ) → HasStar text → has_star text ≡ true
star-from text (long, star) = and_from _ _ (lt-ltb 2 (length text) long) (eq-eqb (slice_index text 2) 42 star)

star-true : (text : List ℕ) → has_star text ≡ true → HasStar text
star-true text test = let parts = and_parts (nat_lt 2 (length text)) (slice_index text 2 == 42) test
    in (ltb-true 2 (length text) parts.0, eqb-true (slice_index text 2) 42 parts.1)

filled : (xs : List ℕ) → xs ≢ [] → 0 < length xs
filled [] some = absurd (some refl)
filled (x ∷ xs) some = omega arith

digits_of-text : (text bytes : List ℕ) → IsBytes bytes → text ≡ encode_lower bytes → bytes ≢ [] → digits_of text ≡ Some bytes
digits_of-text text bytes fits is some =
    ap (λ (found : List ℕ). cond (nat_lt 0 (length found) && bytes_eq (encode_lower found) text) (Some found) None)
    (undigits-encode text bytes fits is)
    ∙ cond-true _ (Some bytes) None (and_from _ _ (lt-ltb 0 (length bytes) (filled bytes some))
    (same_bytes (encode_lower bytes) text (sym is)))

-- the parts of the text of a repeated byte
parts : (text : List ℕ) (byte count : ℕ) → text ≡ repeated_text byte count → (take 2 text ≡ encode_lower (byte ∷ []))
    × (drop 3 text ≡ decimal count)
unfolding encode_with
parts text byte count is = rw is (refl, refl)

repeated_of-text : (text bytes : List ℕ) → IsRepeatedText text bytes → repeated_of text ≡ Some bytes
repeated_of-text text bytes (byte, count, small, one, most, is, are) =
    let cut = parts text byte count is in
    let byte_is : slice_index (undigits (take 2 text)) 0 ≡ byte =
    ap (λ (xs : List ℕ). slice_index xs 0) (undigits-encode (take 2 text) (byte ∷ []) (IsBytes-one byte small) cut.0) in
    let count_is : digits_value 10 (drop 3 text) ≡ count = ap (digits_value 10) cut.1 ∙ (decimal_is_IsNumeral count (omega arith)).1 in
    let F : ℕ → ℕ → Option (List ℕ) = λ (b n : ℕ). cond (nat_lt b 256 && nat_le 1 n && nat_le n 65536 && bytes_eq (repeated_text b n) text)
    (Some (replicate n b)) None in
    ap (λ (b : ℕ). F b (digits_value 10 (drop 3 text))) byte_is ∙ ap (λ (n : ℕ). F byte n) count_is
    ∙ cond-true _ (Some (replicate count byte)) None (and_from _ _
    (and_from _ _ (and_from _ _ (lt-ltb byte 256 small) (le-leb 1 count one)) (le-leb count 65536 most))
    (same_bytes (repeated_text byte count) text (sym is)))
    ∙ ap (λ (xs : List ℕ). Some xs) (sym are)

-- data's text is read as the data
pub data_of-text : (text bytes : List ℕ) → IsBytes bytes → IsDataText text bytes → data_of text ≡ Some bytes
unfolding data_of
data_of-text text bytes fits (inl digits) =
    cond-false (has_star text) (repeated_of text) (digits_of text)
    (false_from_ne_true (has_star text) (λ e. no_star text bytes fits digits.0 (star-true text e)))
    ∙ digits_of-text text bytes fits digits.0 digits.1
data_of-text text bytes fits (inr repeated) =
    cond-true (has_star text) (repeated_of text) (digits_of text) (star-from text (star_of text repeated.0 repeated.1 repeated.5))
    ∙ repeated_of-text text bytes repeated

digits_of-read : (text bytes : List ℕ) → digits_of text ≡ Some bytes → (text ≡ encode_lower bytes) × (bytes ≢ [])
digits_of-read text bytes e =
    let found = cond_some (nat_lt 0 (length (undigits text)) && bytes_eq (encode_lower (undigits text)) text) (undigits text) bytes e in
    let tests = and_parts (nat_lt 0 (length (undigits text))) (bytes_eq (encode_lower (undigits text)) text) found.0 in (
      sym (bytes_same (encode_lower (undigits text)) text tests.1) ∙ ap encode_lower found.1,
      λ none. true≢false (sym tests.0 ∙ ap (λ (xs : List ℕ). nat_lt 0 (length xs)) (found.1 ∙ none)),
    )

repeated_of-read : (text bytes : List ℕ) → repeated_of text ≡ Some bytes → IsRepeatedText text bytes
repeated_of-read text bytes e =
    let byte = slice_index (undigits (take 2 text)) 0 in
    let count = digits_value 10 (drop 3 text) in
    let found = cond_some (nat_lt byte 256 && nat_le 1 count && nat_le count 65536 && bytes_eq (repeated_text byte count) text)
    (replicate count byte) bytes e in
    let a = and_parts (nat_lt byte 256 && nat_le 1 count && nat_le count 65536) (bytes_eq (repeated_text byte count) text) found.0 in
    let b = and_parts (nat_lt byte 256 && nat_le 1 count) (nat_le count 65536) a.0 in
    let d = and_parts (nat_lt byte 256) (nat_le 1 count) b.0 in (
      byte,
      count,
      ltb-true byte 256 d.0,
      leb-true 1 count d.1,
      leb-true count 65536 b.1,
      sym (bytes_same (repeated_text byte count) text a.1),
      sym found.1,
    )

-- what is read as data is its text
pub data_of-read : (text bytes : List ℕ) → data_of text ≡ Some bytes → IsDataText text bytes
unfolding data_of
data_of-read text bytes e = by (has_star text) e
  where
    by : (b : Bool) → cond b (repeated_of text) (digits_of text) ≡ Some bytes → IsDataText text bytes
    by true read = inr (repeated_of-read text bytes read)
    by false read = inl (digits_of-read text bytes read)

IsBytes-none : IsBytes []
IsBytes-none i = lit< tt

IsBytes-undigits : (text : List ℕ) → IsBytes (undigits text)
IsBytes-undigits text = by (decode_sized text (length text / 2)) refl
  where
    by : (r : Result (List ℕ) FromHexError) → decode_sized text (length text / 2) ≡ r → IsBytes (result_unwrap_or r [])
    by (Ok bytes) e =
        let long = decode_sized-ok text (length text / 2) bytes e in
        (decode_of-ok text bytes (sym (decode_sized-twice text (length text / 2) long) ∙ e)).3
    by (Err fault) e = IsBytes-none

IsBytes-cons : (byte : ℕ) (xs : List ℕ) → byte < 256 → IsBytes xs → IsBytes (byte ∷ xs)
IsBytes-cons byte xs small fits zero = small
IsBytes-cons byte xs small fits (suc i) = fits i

IsBytes-replicate : (n byte : ℕ) → byte < 256 → IsBytes (replicate n byte)
IsBytes-replicate zero byte small = IsBytes-none
IsBytes-replicate (suc n) byte small = IsBytes-cons byte (replicate n byte) small (IsBytes-replicate n byte small)

-- what is read as data is bytes
pub data_of-bytes : (text bytes : List ℕ) → data_of text ≡ Some bytes → IsBytes bytes
unfolding data_of
data_of-bytes text bytes e = by (has_star text) e
  where
    by : (b : Bool) → cond b (repeated_of text) (digits_of text) ≡ Some bytes → IsBytes bytes
    by true read = let is = repeated_of-read text bytes read in subst IsBytes (sym is.6) (IsBytes-replicate is.1 is.0 is.2)
    by false read =
        let found = cond_some (nat_lt 0 (length (undigits text)) && bytes_eq (encode_lower (undigits text)) text) (undigits text) bytes read
        in
        subst IsBytes found.1 (IsBytes-undigits text)

-- what a reader of data answers
pub data_of-answered : (r : Option (List ℕ)) (text : List ℕ) → IfSome r IsBytes → IfSome r (λ bytes. IsDataText text bytes)
    → IfNone r ((bytes : List ℕ) → IsBytes bytes → ¬ IsDataText text bytes) → data_of text ≡ r
data_of-answered (Some bytes) text fits some none = data_of-text text bytes fits some
data_of-answered None text fits some none = none_from (data_of text)
    (λ bytes e. none bytes (data_of-bytes text bytes e) (data_of-read text bytes e))
