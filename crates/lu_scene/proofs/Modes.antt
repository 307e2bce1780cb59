-- Modes as words.
use Rattle.std.proofs.Common.{◌≡◌, ℕ, ◌^◌, ◌<◌, ◌≤◌, Bool, true, false, cond, ◌&&◌, not, List, [], ◌∷◌, length, drop, Some, None, Result}
use Rattle.std.proofs.Common.{Ok, Err, refl, sym, ap, ◌∙◌, subst, arith, lit<}
use Rattle.std.specs.Prelude.{nat_le, nat_lt}
use Rattle.std.specs.List.{list_all}
use Rattle.std.specs.Result.{OkIff}
use Rattle.std.specs.Char.{digit_value}
use Rattle.std.specs.Str.Parse.{digits_value, ParsesUnsigned, without_leading_plus, AllDigits, IsNumeral}
use Rattle.std.proofs.lemmas.Bool.{and_parts, and_from, true≢false, ltb-true, leb-true, ne_eqb, cond-true, cond-false, agree_below_at}
use Rattle.std.proofs.lemmas.Bool.{true_from_ne_false}
use Rattle.std.proofs.lemmas.Option.{cond_some}
use Rattle.std.proofs.lemmas.Fmt.{IsAscii-from_digits}
use Rattle.std.proofs.lemmas.Str.{IsUtf8-from_ascii}
use Rattle.std.proofs.Math.Nat.{pow-le-pow_right}
use Rattle.std.specs.Str.{IsUtf8}
use Rattle.std.proofs.lemmas.Int.Digits.{digits_value-lt}
use Rattle.lu_scene.specs.Fields.{is_octal, mode_of}

abbrev octal : ℕ → Bool
octal b = nat_le 48 b && nat_le b 55

-- an octal digit's value
octal_value : (b : ℕ) → octal b ≡ true → digit_value b < 8
octal_value b test =
    let most = leb-true b 55 (and_parts (nat_le 48 b) (nat_le b 55) test).1 in
    let all : (octal b && not (nat_lt (digit_value b) 8)) ≡ false =
    agree_below_at (λ (d : ℕ). octal d && not (nat_lt (digit_value d) 8)) (λ (d : ℕ). false) 56 b refl (omega (arith, most)) in
    ltb-true (digit_value b) 8 (true_from_ne_false _ (λ e. true≢false (sym (and_from (octal b) _ test (ap not e)) ∙ all)))

octal_all : (text : List ℕ) → list_all octal text ≡ true → AllDigits 8 text
octal_all [] test = tt
octal_all (b ∷ more) test = let parts = and_parts (octal b) (list_all octal more) test in (octal_value b parts.0, octal_all more parts.1)

-- octal digits have no plus before them
no_plus : (text : List ℕ) → is_octal text ≡ true → without_leading_plus text ≡ text
no_plus [] test = absurd (true≢false (sym test))
no_plus (b ∷ more) test =
    let digits = (and_parts (nat_lt 0 (length (b ∷ more)) && nat_le (length (b ∷ more)) 4) (list_all octal (b ∷ more)) test).1 in
    let least = leb-true 48 b (and_parts (nat_le 48 b) (nat_le b 55) (and_parts (octal b) (list_all octal more) digits).0).0 in
    ap (λ (t : Bool). drop (cond t 1 0) (b ∷ more)) (ne_eqb b 43 (λ e. omega (arith, least, e)))

small_value : (text : List ℕ) → AllDigits 8 text → length text ≤ 4 → digits_value 8 text < 4096
small_value text digits short =
    let most : 8 ^ length text ≤ 8 ^ 4 = pow-le-pow_right (lit< tt) short in
    let below : digits_value 8 text < 8 ^ length text = digits_value-lt 8 text digits in
    omega (arith, most, below)

wider : (text : List ℕ) → AllDigits 8 text → AllDigits 10 text
wider [] digits = tt
wider (b ∷ more) digits = (omega (arith, digits.0), wider more digits.1)

-- octal digits are a text
pub octal_utf8 : (text : List ℕ) → is_octal text ≡ true → IsUtf8 text
octal_utf8 text test =
    let a = and_parts (nat_lt 0 (length text) && nat_le (length text) 4) (list_all octal text) test in
    IsUtf8-from_ascii text (IsAscii-from_digits text (wider text (octal_all text a.1)))

parsed : {E : Type 0} {P : Type 0} {v : ℕ} (r : Result ℕ E) → OkIff r P v → P → r ≡ Ok v
parsed (Ok x) read is = ap (λ (n : ℕ). Ok n) read.1
parsed (Err d) read is = absurd (read is)

-- octal digits are parsed
pub octal_parses : {E : Type 0} (text : List ℕ) (r : Result ℕ E) → is_octal text ≡ true → ParsesUnsigned 16 8 text r → r
    ≡ Ok (digits_value 8 text)
octal_parses {E} text r test parses =
    let a = and_parts (nat_lt 0 (length text) && nat_le (length text) 4) (list_all octal text) test in
    let b = and_parts (nat_lt 0 (length text)) (nat_le (length text) 4) a.0 in
    let digits : AllDigits 8 text = octal_all text a.1 in
    let least : digits_value 8 text < 4096 = small_value text digits (leb-true (length text) 4 b.1) in
    let small : digits_value 8 text < 2 ^ 16 = omega (arith, least) in
    let plain : OkIff r (IsNumeral 8 text × (digits_value 8 text < 2 ^ 16)) (digits_value 8 text) =
    subst (λ (t : List ℕ). OkIff r (IsNumeral 8 t × (digits_value 8 t < 2 ^ 16)) (digits_value 8 t)) (no_plus text test) parses in
    parsed r plain ((ltb-true 0 (length text) b.0, digits), small)

-- what is no octal number says no mode
pub mode_of-other : (text : List ℕ) → is_octal text ≡ false → mode_of text ≡ None
unfolding mode_of
mode_of-other text test = cond-false (is_octal text) (Some (digits_value 8 text)) None test

pub mode_of-octal : (text : List ℕ) → is_octal text ≡ true → mode_of text ≡ Some (digits_value 8 text)
unfolding mode_of
mode_of-octal text test = cond-true (is_octal text) (Some (digits_value 8 text)) None test

-- what is read as a mode is octal digits of that value
pub mode_of-read : (text : List ℕ) (mode : ℕ) → mode_of text ≡ Some mode → (is_octal text ≡ true) × (mode ≡ digits_value 8 text)
unfolding mode_of
mode_of-read text mode e = let found = cond_some (is_octal text) (digits_value 8 text) mode e in (found.0, sym found.1)

-- a mode of octal digits is small
pub small_mode : (text : List ℕ) → is_octal text ≡ true → digits_value 8 text < 4096
small_mode text test =
    let a = and_parts (nat_lt 0 (length text) && nat_le (length text) 4) (list_all octal text) test in
    let b = and_parts (nat_lt 0 (length text)) (nat_le (length text) 4) a.0 in
    small_value text (octal_all text a.1) (leb-true (length text) 4 b.1)
