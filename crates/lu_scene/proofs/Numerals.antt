-- Numbers as words: what is read is so written, and what is so written is read.
use Rattle.std.proofs.Common.{◌≡◌, ◌≢◌, ℕ, ◌^◌, ◌<◌, Bool, true, cond, ◌&&◌, nat_lt, List, Option, Some, None, refl, sym, ap, ◌∙◌, subst}
use Rattle.std.proofs.Common.{decimal}
use Rattle.std.specs.Prelude.{IfSome, IfNone}
use Rattle.std.proofs.lemmas.Bool.{ltb-true, lt-ltb, and_parts, and_from}
use Rattle.std.proofs.lemmas.Option.{cond_some}
use Rattle.std.proofs.lemmas.Fmt.{decimal_is_IsNumeral}
use Rattle.std.specs.Str.{bytes_eq}
use Rattle.std.specs.Str.Parse.{digits_value}
use Rattle.lu_scene.specs.Fields.{number_of}
use Rattle.lu_scene.proofs.Options.{none_from, same_bytes, bytes_same}

-- a number's text is read as the number
pub number_of-decimal : (n : ℕ) → n < 2 ^ 64 → number_of (decimal n) ≡ Some n
unfolding number_of
number_of-decimal n small =
    let value : digits_value 10 (decimal n) ≡ n = (decimal_is_IsNumeral n small).1 in
    let test : (nat_lt n (2 ^ 64) && bytes_eq (decimal n) (decimal n)) ≡ true =
    and_from _ _ (lt-ltb n (2 ^ 64) small) (same_bytes (decimal n) (decimal n) refl) in
    ap (λ (v : ℕ). cond (nat_lt v (2 ^ 64) && bytes_eq (decimal v) (decimal n)) (Some v) None) value
    ∙ ap (λ (b : Bool). cond b (Some n) None) test

-- what is read as a number is its text
pub number_of-read : (text : List ℕ) (n : ℕ) → number_of text ≡ Some n → (text ≡ decimal n) × (n < 2 ^ 64)
unfolding number_of
number_of-read text n e =
    let v = digits_value 10 text in
    let found = cond_some (nat_lt v (2 ^ 64) && bytes_eq (decimal v) text) v n e in
    let parts = and_parts (nat_lt v (2 ^ 64)) (bytes_eq (decimal v) text) found.0 in
    (sym (bytes_same (decimal v) text parts.1) ∙ ap decimal found.1, subst (λ (k : ℕ). k < 2 ^ 64) found.1 (ltb-true v (2 ^ 64) parts.0))

-- what a reader of numbers answers
pub number_of-answered : (r : Option ℕ) (text : List ℕ) → IfSome r (λ n. text ≡ decimal n) → IfSome r (λ n. n < 2 ^ 64)
    → IfNone r ((n : ℕ) → n < 2 ^ 64 → text ≢ decimal n) → r ≡ number_of text
number_of-answered (Some n) text is small none = sym (ap number_of is ∙ number_of-decimal n small)
number_of-answered None text is small none = sym (none_from (number_of text)
    (λ n e. let read = number_of-read text n e in none n read.1 read.0))
