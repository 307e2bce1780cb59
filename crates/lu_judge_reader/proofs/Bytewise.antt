-- Texts all of whose bytes are of a kind, and texts that are cut at a byte of another kind.
use Rattle.std.proofs.Common.{◌≡◌, ℕ, ◌/◌, ◌%◌, ◌^◌, ◌<◌, ◌≤◌, ◌==◌, Bool, true, false, ◌&&◌, ◌||◌, List, [], ◌∷◌, ◌++◌, refl, sym, ap}
use Rattle.std.proofs.Common.{subst, ◌∙◌, decimal, arith, inl, inr, append_assoc}
use Rattle.std.specs.Prelude.{nat_le, nat_lt, All}
use Rattle.std.specs.List.{slice_split, join_with_byte}
use Rattle.std.specs.Str.{bytes_eq}
use Rattle.std.specs.Str.Parse.{AllDigits}
use Rattle.std.specs.Char.{digit_value}
use Rattle.std.proofs.lemmas.Bool.{true≢false, lt-ltb, le-leb, eqb-true, and_from, false_from_ne_true, cond-true, cases_lt}
use Rattle.std.proofs.lemmas.Bool.Decides.{nat_tests}
use Rattle.std.proofs.lemmas.Fmt.{decimal_is_IsNumeral}
use Rattle.std.proofs.lemmas.List.Elements.{All-nil, All-cons, All-head, All-tail, All-append}
use Rattle.std.proofs.lemmas.List.Splits.{slice_split_none, slice_split_at}
use Rattle.lu_base.specs.Texts.{pair_text}
use Rattle.lu_scene.proofs.Options.{bytes_same}

-- each byte passes a test
abbrev pub Of : (ℕ → Bool) → List ℕ → Type 0
Of kind text = All (λ b. kind b ≡ true) text

-- no byte is this one
abbrev pub Free : ℕ → List ℕ → Type 0
Free c text = All (λ b. (b == c) ≡ false) text

abbrev pub is_digit : ℕ → Bool
is_digit b = nat_le 48 b && nat_le b 57

-- a digit, a dot or a colon
abbrev pub is_figure : ℕ → Bool
is_figure b = nat_le 48 b && nat_le b 58 || b == 46

pub of_nil : (kind : ℕ → Bool) → Of kind []
of_nil kind = All-nil (λ b. kind b ≡ true)

pub of_cons : (kind : ℕ → Bool) (b : ℕ) (text : List ℕ) → kind b ≡ true → Of kind text → Of kind (b ∷ text)
of_cons kind b text is are = All-cons (λ c. kind c ≡ true) b text is are

pub of_both : (kind : ℕ → Bool) (a b : List ℕ) → Of kind a → Of kind b → Of kind (a ++ b)
of_both kind a b one two = All-append (λ c. kind c ≡ true) a b one two

-- two texts with a byte between them
pub of_parted : (kind : ℕ → Bool) (a : List ℕ) (c : ℕ) (b : List ℕ) → kind c ≡ true → Of kind a → Of kind b → Of kind (a ++ c ∷ b)
of_parted kind a c b is one two = of_both kind a (c ∷ b) one (of_cons kind c b is two)

pub of_wider : (kind wide : ℕ → Bool) → ((b : ℕ) → kind b ≡ true → wide b ≡ true) → (text : List ℕ) → Of kind text → Of wide text
of_wider kind wide more [] are = of_nil wide
of_wider kind wide more (b ∷ text) are =
    of_cons wide b text (more b (All-head (λ c. kind c ≡ true) b text are))
    (of_wider kind wide more text (All-tail (λ c. kind c ≡ true) b text are))

-- a byte of another kind isn't there
pub of_free : (kind : ℕ → Bool) (c : ℕ) → kind c ≡ false → (text : List ℕ) → Of kind text → Free c text
of_free kind c other [] are = All-nil (λ b. (b == c) ≡ false)
of_free kind c other (b ∷ text) are =
    All-cons (λ d. (d == c) ≡ false) b text
    (false_from_ne_true (b == c) (λ e. true≢false (sym (All-head (λ d. kind d ≡ true) b text are) ∙ ap kind (eqb-true b c e) ∙ other)))
    (of_free kind c other text (All-tail (λ d. kind d ≡ true) b text are))

pub digit_figure : (b : ℕ) → is_digit b ≡ true → is_figure b ≡ true
digit_figure b is = grind (arith, nat_tests)

digit_of : (b : ℕ) → digit_value b < 10 → is_digit b ≡ true
digit_of b small =
    elim (cases_lt b 48) [
      | inl low ↦ let v : digit_value b ≡ 36 = cond-true (nat_lt b 48) 36 _ (lt-ltb b 48 low) in absurd (omega (arith, v, small))
      | inr high ↦
          elim (cases_lt b 58) [
            | inl digit ↦ and_from _ _ (le-leb 48 b high) (le-leb b 57 (omega (arith, digit)))
            | inr past ↦ absurd (large b past small)
          ]
    ]
  where
    large : (b : ℕ) → 58 ≤ b → digit_value b < 10 → ⊥
    large b past small = grind (arith, nat_tests)

digits_of : (text : List ℕ) → AllDigits 10 text → Of is_digit text
digits_of [] digits = of_nil is_digit
digits_of (b ∷ more) digits = of_cons is_digit b more (digit_of b digits.0) (digits_of more digits.1)

-- a number's text is digits
pub decimal_of : (n : ℕ) → n < 2 ^ 64 → Of is_digit (decimal n)
decimal_of n small = digits_of (decimal n) (decimal_is_IsNumeral n small).0.1

pub decimal_figures : (n : ℕ) → n < 2 ^ 64 → Of is_figure (decimal n)
decimal_figures n small = of_wider is_digit is_figure digit_figure (decimal n) (decimal_of n small)

high_small : (n : ℕ) → n < 2 ^ 64 → n / 2 ^ 32 < 2 ^ 32
high_small n small = omega (arith, small)

low_small : (n : ℕ) → n % 2 ^ 32 < 2 ^ 32
low_small n = omega arith

pub pair_figures : (n : ℕ) → n < 2 ^ 64 → Of is_figure (pair_text n)
pair_figures n small =
    let high = high_small n small in
    let low = low_small n in
    of_parted is_figure (decimal (n / 2 ^ 32)) 46 (decimal (n % 2 ^ 32)) refl
    (decimal_figures (n / 2 ^ 32) (omega (arith, high))) (decimal_figures (n % 2 ^ 32) (omega (arith, low)))

-- texts with a byte between them that isn't in them are cut there
pub AreFree : ℕ → List (List ℕ) → Type 0
AreFree c texts = All (Free c) texts

pub split_one : (c : ℕ) (a : List ℕ) → Free c a → slice_split (λ b. b == c) a ≡ a ∷ []
split_one c a one = slice_split_none (λ b. b == c) a one

pub split_two : (c : ℕ) (a b : List ℕ) → (c == c) ≡ true → Free c a → Free c b → slice_split (λ d. d == c) (a ++ c ∷ b) ≡ a ∷ b ∷ []
split_two c a b is one two =
    slice_split_at (λ d. d == c) a c b one is ∙ ap (λ (ws : List (List ℕ)). a ∷ ws) (split_one c b two)

pub split_more : (c : ℕ) (a b : List ℕ) (ws : List (List ℕ)) → (c == c) ≡ true → Free c a → slice_split (λ d. d == c) b ≡ ws
    → slice_split (λ d. d == c) (a ++ c ∷ b) ≡ a ∷ ws
split_more c a b ws is one two = slice_split_at (λ d. d == c) a c b one is ∙ ap (λ (vs : List (List ℕ)). a ∷ vs) two

-- the same, as it is printed
pub split_pair : (c : ℕ) (a b : List ℕ) → (c == c) ≡ true → Free c a → Free c b → slice_split (λ d. d == c) ((a ++ c ∷ []) ++ b) ≡ a ∷ b
    ∷ []
split_pair c a b is one two = ap (slice_split (λ d. d == c)) (append_assoc a (c ∷ []) b) ∙ split_two c a b is one two

pub split_three : (c : ℕ) (a b d : List ℕ) → (c == c) ≡ true → Free c a → Free c b → Free c d
    → slice_split (λ e. e == c) ((((a ++ c ∷ []) ++ b) ++ c ∷ []) ++ d) ≡ a ∷ b ∷ d ∷ []
split_three c a b d is one two three =
    ap (slice_split (λ e. e == c)) (append_assoc ((a ++ c ∷ []) ++ b) (c ∷ []) d ∙ append_assoc (a ++ c ∷ []) b (c ∷ d)
    ∙ append_assoc a (c ∷ []) (b ++ c ∷ d))
    ∙ split_more c a (b ++ c ∷ d) (b ∷ d ∷ []) is one (split_two c b d is two three)

pub of_pair : (kind : ℕ → Bool) (a : List ℕ) (c : ℕ) (b : List ℕ) → kind c ≡ true → Of kind a → Of kind b → Of kind ((a ++ c ∷ []) ++ b)
of_pair kind a c b is one two = of_both kind (a ++ c ∷ []) b (of_both kind a (c ∷ []) one (of_cons kind c [] is (of_nil kind))) two

pub split_joined : (c : ℕ) → (c == c) ≡ true → (a : List ℕ) (ws : List (List ℕ)) → Free c a → All (Free c) ws
    → slice_split (λ d. d == c) (join_with_byte c (a ∷ ws)) ≡ a ∷ ws
split_joined c is a [] one more = split_one c a one
split_joined c is a (b ∷ ws) one more =
    split_more c a (join_with_byte c (b ∷ ws)) (b ∷ ws) is one (split_joined c is b ws (All-head (Free c) b ws more)
    (All-tail (Free c) b ws more))

-- no text without this byte is the text of it alone
pub not_alone : (c : ℕ) (text : List ℕ) → (c == c) ≡ true → Free c text → bytes_eq text (c ∷ []) ≡ false
not_alone c text is free =
    false_from_ne_true (bytes_eq text (c ∷ [])) (λ e.
    let all : Free c (c ∷ []) = subst (Free c) (bytes_same text (c ∷ []) e) free in
    true≢false (sym is ∙ All-head (λ b. (b == c) ≡ false) c [] all))
