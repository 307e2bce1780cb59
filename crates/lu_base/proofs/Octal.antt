-- The octal digits of a number, from its first digits and its last one.
use Rattle.std.proofs.Common.{◌≡◌, ℕ, zero, suc, ◌+◌, ◌/◌, ◌%◌, ◌<◌, ◌≤◌, ◌^◌, false, List, [], ◌∷◌, ◌++◌, refl, ap, sym, ◌∙◌, append_assoc}
use Rattle.std.proofs.Common.{arith, eq-eqb, ne_eqb, cond, lt-ltb, inl, inr}
use Rattle.std.proofs.lemmas.Bool.{cases_lt}
use Rattle.std.specs.Fmt.{digits, digits_onto, digit_glyph}

abbrev spell : ℕ → ℕ → List ℕ → List ℕ
spell k n acc = digits_onto k 8 false n acc

abbrev glyph : ℕ → ℕ
glyph n = digit_glyph false (n % 8)

glyph_is : (d : ℕ) → d < 10 → digit_glyph false d ≡ 48 + d
glyph_is d small = ap (λ t. cond t (48 + d) (87 + d)) (lt-ltb d 10 small)

spell_last : (k n : ℕ) (acc : List ℕ) → n < 8 → spell (suc k) n acc ≡ glyph n ∷ acc
spell_last k n acc small = ap (λ t. cond t (glyph n ∷ acc) (spell k (n / 8) (glyph n ∷ acc))) (eq-eqb (n / 8) 0 (omega arith))

spell_next : (k n : ℕ) (acc : List ℕ) → 8 ≤ n → spell (suc k) n acc ≡ spell k (n / 8) (glyph n ∷ acc)
spell_next k n acc large = ap (λ t. cond t (glyph n ∷ acc) (spell k (n / 8) (glyph n ∷ acc))) (ne_eqb (n / 8) 0 (λ e. omega arith))

spell-append : (k n : ℕ) (acc : List ℕ) → spell k n acc ≡ spell k n [] ++ acc
spell-append zero n acc = refl
spell-append (suc k) n acc = elim (cases_lt n 8) [
  | inl l ↦ spell_last k n acc l ∙ ap (λ x. x ++ acc) (sym (spell_last k n [] l))
  | inr l ↦ spell_next k n acc l ∙ spell-append k (n / 8) (glyph n ∷ acc) ∙ sym (append_assoc (spell k (n / 8) []) (glyph n ∷ []) acc)
      ∙ ap (λ x. x ++ acc) (sym (spell_next k n [] l ∙ spell-append k (n / 8) (glyph n ∷ [])))
]

-- the most digits do not matter once they are enough
spell_enough : (j k n : ℕ) (acc : List ℕ) → n < 8 ^ suc j → n < 8 ^ suc k → spell (suc j) n acc ≡ spell (suc k) n acc
spell_enough zero k n acc p q = spell_last zero n acc (omega arith) ∙ sym (spell_last k n acc (omega arith))
spell_enough (suc j) zero n acc p q = spell_last (suc j) n acc (omega arith) ∙ sym (spell_last zero n acc (omega arith))
spell_enough (suc j) (suc k) n acc p q = elim (cases_lt n 8) [
  | inl l ↦ spell_last (suc j) n acc l ∙ sym (spell_last (suc k) n acc l)
  | inr l ↦ spell_next (suc j) n acc l ∙ spell_enough j k (n / 8) (glyph n ∷ acc) (omega arith) (omega arith)
      ∙ sym (spell_next (suc k) n acc l)
]

-- a number of one digit
pub octal_digit : (n : ℕ) → n < 8 → digits 8 false n ≡ (48 + n) ∷ []
unfolding digits
octal_digit n small = spell_last 63 n [] small ∙ ap (λ x. x ∷ []) (glyph_is (n % 8) (omega arith) ∙ omega arith)

-- a longer one
pub octal_step : (n : ℕ) → 8 ≤ n → n < 2 ^ 16 → digits 8 false n ≡ digits 8 false (n / 8) ++ ((48 + n % 8) ∷ [])
unfolding digits
octal_step n large small =
    spell_next 63 n [] large ∙ spell_enough 62 63 (n / 8) (glyph n ∷ []) (omega arith) (omega arith)
    ∙ spell-append 64 (n / 8) (glyph n ∷ [])
    ∙ ap (λ x. spell 64 (n / 8) [] ++ (x ∷ [])) (glyph_is (n % 8) (omega arith))
