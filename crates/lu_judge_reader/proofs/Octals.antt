-- Octal digits: what is parsed is their value.
use Rattle.std.proofs.Common.{◌≡◌, ℕ, ◌^◌, ◌<◌, Bool, true, false, cond, ◌&&◌, List, [], ◌∷◌, length, drop, Some, None, Result, Ok, Err}
use Rattle.std.proofs.Common.{refl, sym, ap, ◌∙◌, subst, arith}
use Rattle.std.specs.Prelude.{nat_le, nat_lt}
use Rattle.std.specs.List.{list_all}
use Rattle.std.specs.Result.{OkIff}
use Rattle.std.specs.Char.{digit_value}
use Rattle.std.specs.Str.{IsUtf8}
use Rattle.std.specs.Str.Parse.{digits_value, ParsesUnsigned, without_leading_plus, AllDigits, IsNumeral}
use Rattle.std.proofs.lemmas.Bool.{and_parts, and_from, true≢false, ltb-true, lt-ltb, leb-true, ne_eqb, cond-true, cond-false}
use Rattle.std.proofs.lemmas.Bool.{false_from_ne_true, agree_below_at, true_from_ne_false}
use Rattle.std.proofs.Common.{not}
use Rattle.std.proofs.lemmas.Fmt.{IsAscii-from_digits}
use Rattle.std.proofs.lemmas.Str.{IsUtf8-from_ascii}
use Rattle.lu_judge_reader.specs.Values.{is_octal, octal_of}

abbrev octal : ℕ → Bool
octal b = nat_le 48 b && nat_le b 55

-- an octal digit's value
octal_value : (b : ℕ) → octal b ≡ true → digit_value b < 8
octal_value b test =
    let most = leb-true b 55 (and_parts (nat_le 48 b) (nat_le b 55) test).1 in
    let all : (octal b && not (nat_lt (digit_value b) 8)) ≡ false =
    agree_below_at (λ (d : ℕ). octal d && not (nat_lt (digit_value d) 8)) (λ (d : ℕ). false) 56 b refl (omega (arith, most)) in
    ltb-true (digit_value b) 8 (true_from_ne_false _ (λ e. true≢false (sym (and_from (octal b) _ test (ap not e)) ∙ all)))

pub octal_all : (text : List ℕ) → list_all octal text ≡ true → AllDigits 8 text
octal_all [] test = tt
octal_all (b ∷ more) test = let parts = and_parts (octal b) (list_all octal more) test in (octal_value b parts.0, octal_all more parts.1)

-- octal digits have no plus before them
no_plus : (text : List ℕ) → is_octal text ≡ true → without_leading_plus text ≡ text
no_plus [] test = absurd (true≢false (sym test))
no_plus (b ∷ more) test =
    let digits = (and_parts (nat_lt 0 (length (b ∷ more))) (list_all octal (b ∷ more)) test).1 in
    let least = leb-true 48 b (and_parts (nat_le 48 b) (nat_le b 55) (and_parts (octal b) (list_all octal more) digits).0).0 in
    ap (λ (t : Bool). drop (cond t 1 0) (b ∷ more)) (ne_eqb b 43 (λ e. omega (arith, least, e)))

wider : (text : List ℕ) → AllDigits 8 text → AllDigits 10 text
wider [] digits = tt
wider (b ∷ more) digits = (omega (arith, digits.0), wider more digits.1)

-- octal digits are a text
pub octal_utf8 : (text : List ℕ) → is_octal text ≡ true → IsUtf8 text
octal_utf8 text test =
    let a = and_parts (nat_lt 0 (length text)) (list_all octal text) test in
    IsUtf8-from_ascii text (IsAscii-from_digits text (wider text (octal_all text a.1)))

parsed : {E : Type 0} {P : Type 0} (v n : ℕ) (r : Result ℕ E) → OkIff r P v → r ≡ Ok n → P × (n ≡ v)
parsed v n (Ok x) read is = (read.0, cc (is, read.1))
parsed v n (Err d) read is = absurd cc

refused : {E : Type 0} {P : Type 0} (v : ℕ) (e : E) (r : Result ℕ E) → OkIff r P v → r ≡ Err e → P → ⊥
refused v e (Ok x) read is = absurd cc
refused v e (Err d) read is = read

-- what is no octal number says none
pub octal_of-other : (text : List ℕ) → is_octal text ≡ false → octal_of text ≡ None
unfolding octal_of
octal_of-other text test =
    cond-false (is_octal text && nat_lt (digits_value 8 text) (2 ^ 16)) (Some (digits_value 8 text)) None
    (ap (λ (b : Bool). b && nat_lt (digits_value 8 text) (2 ^ 16)) test)

pub octal_of-small : (text : List ℕ) → is_octal text ≡ true → digits_value 8 text < 2 ^ 16 → octal_of text ≡ Some (digits_value 8 text)
unfolding octal_of
octal_of-small text test small =
    cond-true (is_octal text && nat_lt (digits_value 8 text) (2 ^ 16)) (Some (digits_value 8 text)) None
    (and_from _ _ test (lt-ltb (digits_value 8 text) (2 ^ 16) small))

pub octal_of-large : (text : List ℕ) → (digits_value 8 text < 2 ^ 16 → ⊥) → octal_of text ≡ None
unfolding octal_of
octal_of-large text large =
    cond-false (is_octal text && nat_lt (digits_value 8 text) (2 ^ 16)) (Some (digits_value 8 text)) None
    (false_from_ne_true _ (λ e. large (ltb-true (digits_value 8 text) (2 ^ 16)
    (and_parts (is_octal text) (nat_lt (digits_value 8 text) (2 ^ 16)) e).1)))

plain : {E : Type 0} (text : List ℕ) (r : Result ℕ E) → is_octal text ≡ true → ParsesUnsigned 16 8 text r
    → OkIff r (IsNumeral 8 text × (digits_value 8 text < 2 ^ 16)) (digits_value 8 text)
plain text r test parses = subst (λ (t : List ℕ). OkIff r (IsNumeral 8 t × (digits_value 8 t < 2 ^ 16)) (digits_value 8 t))
    (no_plus text test) parses

numeral : (text : List ℕ) → is_octal text ≡ true → IsNumeral 8 text
numeral text test =
    let a = and_parts (nat_lt 0 (length text)) (list_all octal text) test in
    (ltb-true 0 (length text) a.0, octal_all text a.1)

-- octal digits are parsed
pub octal_parsed : {E : Type 0} (text : List ℕ) (r : Result ℕ E) (n : ℕ) → is_octal text ≡ true → ParsesUnsigned 16 8 text r → r ≡ Ok n
    → octal_of text ≡ Some n
octal_parsed text r n test parses is =
    let both = parsed (digits_value 8 text) n r (plain text r test parses) is in
    octal_of-small text test both.0.1 ∙ ap (λ (m : ℕ). Some m) (sym both.1)

pub octal_refused : {E : Type 0} (text : List ℕ) (r : Result ℕ E) (e : E) → is_octal text ≡ true → ParsesUnsigned 16 8 text r → r ≡ Err e
    → octal_of text ≡ None
octal_refused text r e test parses is =
    octal_of-large text (λ small. refused (digits_value 8 text) e r (plain text r test parses) is (numeral text test, small))
