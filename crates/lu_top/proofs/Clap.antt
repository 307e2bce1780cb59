-- What `clap` makes of the words of a form.
use Rattle.std.proofs.Common.{◌≡◌, ℕ, zero, suc, ◌+◌, ◌-◌, ◌<◌, ◌^◌, true, codes, List, [], ◌∷◌, Some, None, refl, sym, ap, subst, arith}
use Rattle.std.proofs.Common.{decimal, length}
use Rattle.std.proofs.lemmas.Fmt.{decimal_nonempty, digits_decimal}
use Rattle.std.proofs.lemmas.Str.Parse.{numerals_by_value}
use Rattle.std.specs.Int.{IsInRange}
use Rattle.clap.specs.Words.{App, Rule, Text, first_of, is_simple, new_app, new_rule, matches_of, takes, with_rule}
use Rattle.clap.specs.declared.builder.ArgAction.TheVariants.{Set}
use Rattle.clap.proofs.OnLiterals.{clap_on_literals}
use Rattle.lu_top.specs.Forms.{IsForm, word_of, number_of, words_with}
use Rattle.lu_top.specs.declared.forms.Performance.TheVariants.{Play, Storm}
use Rattle.lu_top.specs.declared.forms.Form.{Form}
use Rattle.lu_top.specs.declared.forms.Form.TheVariants.{Perform, Judge}

-- ---- the command

abbrev pub form : Rule
form = record (new_rule (codes "form")) { required = true; action = Some Set }

abbrev pub number : Rule
number = record (new_rule (codes "number")) { action = Some Set }

abbrev pub with_both : App
with_both = with_rule (with_rule (new_app (codes "lustre_run")) form) number

abbrev pub command : App
command = record with_both { top = record with_both.top { no_binary_name = true } }

pub simple : is_simple command ≡ true
unfolding clap_on_literals
simple = refl

-- ---- a digit after `storm`

abbrev storm : ℕ → Text → List Text
storm k rest = codes "storm" ∷ ((48 + k) ∷ rest) ∷ []

storm_taken : (k : ℕ) (rest : Text) → k < 10 → takes command (storm k rest) ≡ true
unfolding clap_on_literals
storm_taken zero rest small = refl
storm_taken (suc zero) rest small = refl
storm_taken (suc (suc zero)) rest small = refl
storm_taken (suc (suc (suc zero))) rest small = refl
storm_taken (suc (suc (suc (suc zero)))) rest small = refl
storm_taken (suc (suc (suc (suc (suc zero))))) rest small = refl
storm_taken (suc (suc (suc (suc (suc (suc zero)))))) rest small = refl
storm_taken (suc (suc (suc (suc (suc (suc (suc zero))))))) rest small = refl
storm_taken (suc (suc (suc (suc (suc (suc (suc (suc zero)))))))) rest small = refl
storm_taken (suc (suc (suc (suc (suc (suc (suc (suc (suc zero))))))))) rest small = refl
storm_taken (suc (suc (suc (suc (suc (suc (suc (suc (suc (suc k)))))))))) rest small = absurd (omega (arith, small))

storm_word : (k : ℕ) (rest : Text) → k < 10 → first_of (codes "form") (matches_of command (storm k rest)) ≡ Some (codes "storm")
unfolding clap_on_literals
storm_word zero rest small = refl
storm_word (suc zero) rest small = refl
storm_word (suc (suc zero)) rest small = refl
storm_word (suc (suc (suc zero))) rest small = refl
storm_word (suc (suc (suc (suc zero)))) rest small = refl
storm_word (suc (suc (suc (suc (suc zero))))) rest small = refl
storm_word (suc (suc (suc (suc (suc (suc zero)))))) rest small = refl
storm_word (suc (suc (suc (suc (suc (suc (suc zero))))))) rest small = refl
storm_word (suc (suc (suc (suc (suc (suc (suc (suc zero)))))))) rest small = refl
storm_word (suc (suc (suc (suc (suc (suc (suc (suc (suc zero))))))))) rest small = refl
storm_word (suc (suc (suc (suc (suc (suc (suc (suc (suc (suc k)))))))))) rest small = absurd (omega (arith, small))

storm_number : (k : ℕ) (rest : Text) → k < 10 → first_of (codes "number") (matches_of command (storm k rest)) ≡ Some ((48 + k) ∷ rest)
unfolding clap_on_literals
storm_number zero rest small = refl
storm_number (suc zero) rest small = refl
storm_number (suc (suc zero)) rest small = refl
storm_number (suc (suc (suc zero))) rest small = refl
storm_number (suc (suc (suc (suc zero)))) rest small = refl
storm_number (suc (suc (suc (suc (suc zero))))) rest small = refl
storm_number (suc (suc (suc (suc (suc (suc zero)))))) rest small = refl
storm_number (suc (suc (suc (suc (suc (suc (suc zero))))))) rest small = refl
storm_number (suc (suc (suc (suc (suc (suc (suc (suc zero)))))))) rest small = refl
storm_number (suc (suc (suc (suc (suc (suc (suc (suc (suc zero))))))))) rest small = refl
storm_number (suc (suc (suc (suc (suc (suc (suc (suc (suc (suc k)))))))))) rest small = absurd (omega (arith, small))

-- ---- a number begins with a digit

abbrev AreDigits : List ℕ → Type 0
AreDigits [] = Unit {0}
AreDigits (c ∷ cs) = IsInRange 48 57 c × AreDigits cs

are_digits : (n : ℕ) → n < 2 ^ 64 → AreDigits (decimal n)
are_digits n small =
    digits_decimal (numerals_by_value AreDigits (record {
      empty = tt;
      parts = λ c cs are. (are.0, are.1);
      more =
          λ c cs one are. (one, are);
    })) n small

begins : (ds : List ℕ) → AreDigits ds → 0 < length ds → (k : ℕ) × (rest : List ℕ) × (k < 10) × (ds ≡ (48 + k) ∷ rest)
begins [] are some = absurd (omega (arith, some))
begins (c ∷ cs) are some =
    (c - 48, cs, omega (arith, are.0), ap (λ d. d ∷ cs) (omega (arith, are.0)))

-- ---- the words of a form

abbrev pub words_of : Form → List Text
words_of form = words_with (word_of form) (number_of form)

module _ (seed : ℕ) (small : seed < 2 ^ 64) where
  abbrev begun : (k : ℕ) × (rest : List ℕ) × (k < 10) × (decimal seed ≡ (48 + k) ∷ rest)
  begun = begins (decimal seed) (are_digits seed small) (decimal_nonempty seed small)

  taken_storm : takes command (words_of (Perform (Storm seed))) ≡ true
  taken_storm =
      subst (λ (ds : Text). takes command (codes "storm" ∷ ds ∷ []) ≡ true) (sym begun.3) (storm_taken begun.0 begun.1 begun.2)

  word_storm : first_of (codes "form") (matches_of command (words_of (Perform (Storm seed)))) ≡ Some (codes "storm")
  word_storm =
      subst (λ (ds : Text). first_of (codes "form") (matches_of command (codes "storm" ∷ ds ∷ [])) ≡ Some (codes "storm")) (sym begun.3)
      (storm_word begun.0 begun.1 begun.2)

  number_storm : first_of (codes "number") (matches_of command (words_of (Perform (Storm seed)))) ≡ Some (decimal seed)
  number_storm =
      subst (λ (ds : Text). first_of (codes "number") (matches_of command (codes "storm" ∷ ds ∷ [])) ≡ Some ds) (sym begun.3)
      (storm_number begun.0 begun.1 begun.2)

taken_play : takes command (words_of (Perform Play)) ≡ true
unfolding clap_on_literals
taken_play = refl

word_play : first_of (codes "form") (matches_of command (words_of (Perform Play))) ≡ Some (codes "play")
unfolding clap_on_literals
word_play = refl

number_play : first_of (codes "number") (matches_of command (words_of (Perform Play))) ≡ None
unfolding clap_on_literals
number_play = refl

taken_judge : takes command (words_of Judge) ≡ true
unfolding clap_on_literals
taken_judge = refl

word_judge : first_of (codes "form") (matches_of command (words_of Judge)) ≡ Some (codes "judge")
unfolding clap_on_literals
word_judge = refl

number_judge : first_of (codes "number") (matches_of command (words_of Judge)) ≡ None
unfolding clap_on_literals
number_judge = refl

-- it takes them, and finds the word and the number
pub taken : (form : Form) → IsForm form → takes command (words_of form) ≡ true
taken (Perform Play) is = taken_play
taken (Perform (Storm seed)) is = taken_storm seed is
taken Judge is = taken_judge

pub word_found : (form : Form) → IsForm form → first_of (codes "form") (matches_of command (words_of form)) ≡ Some (word_of form)
word_found (Perform Play) is = word_play
word_found (Perform (Storm seed)) is = word_storm seed is
word_found Judge is = word_judge

pub number_found : (form : Form) → IsForm form → first_of (codes "number") (matches_of command (words_of form)) ≡ number_of form
number_found (Perform Play) is = number_play
number_found (Perform (Storm seed)) is = number_storm seed is
number_found Judge is = number_judge
