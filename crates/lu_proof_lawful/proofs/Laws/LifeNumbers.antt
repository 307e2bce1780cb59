-- Each number of a story is that of one life: whose it is.
use Rattle.std.proofs.Common.{◌≡◌, ℕ, zero, suc, ◌*◌, ◌≤◌, Bool, true, false, refl, sym, ap, ◌∙◌, arith, le_refl}
use Rattle.std.specs.Prelude.{if◌then◌else◌}
use Rattle.lu_base.specs.declared.ids.Who.{Who}
use Rattle.lu_proof_lawful.specs.Projection.Lives.{pair, number_of}
use Rattle.lu_proof_lawful.proofs.Projection.Lives.{same_life}

abbrev half : ℕ → ℕ
half zero = 0
half (suc zero) = 0
half (suc (suc n)) = suc (half n)

abbrev is_odd : ℕ → Bool
is_odd zero = false
is_odd (suc zero) = true
is_odd (suc (suc n)) = is_odd n

halves : (n : ℕ) → n ≡ (if is_odd n then suc (2 * half n) else 2 * half n)
halves zero = refl
halves (suc zero) = refl
halves (suc (suc n)) = by (is_odd n) (half n) (halves n)
  where
    by : (b : Bool) (h : ℕ) → n ≡ (if b then suc (2 * h) else 2 * h) → suc (suc n) ≡ (if b then suc (2 * suc h) else 2 * suc h)
    by true h e = omega (arith, e)
    by false h e = omega (arith, e)

-- as many steps are enough as the number has
abbrev client_by : ℕ → ℕ → ℕ
client_by zero n = 0
client_by (suc steps) n = if is_odd n then suc (client_by steps (half n)) else 0

abbrev life_by : ℕ → ℕ → ℕ
life_by zero n = half n
life_by (suc steps) n = if is_odd n then life_by steps (half n) else half n

abbrev pub who_of : ℕ → Who
who_of n = record { client = client_by n n; life = life_by n n }

pair_by : (steps n : ℕ) → n ≤ steps → pair (client_by steps n) (life_by steps n) ≡ n
pair_by zero zero le = refl
pair_by zero (suc n) le = absurd (omega (arith, le))
pair_by (suc steps) n le = by (is_odd n) (halves n) (pair_by steps (half n))
  where
    by : (b : Bool) → n ≡ (if b then suc (2 * half n) else 2 * half n)
        → (half n ≤ steps → pair (client_by steps (half n)) (life_by steps (half n)) ≡ half n)
        → pair (if b then suc (client_by steps (half n)) else 0) (if b then life_by steps (half n) else half n) ≡ n
    by true e ih = ap (λ (m : ℕ). suc (2 * m)) (ih (omega (arith, e, le))) ∙ sym e
    by false e ih = sym e

pub number_back : (n : ℕ) → number_of (who_of n) ≡ n
number_back n = pair_by n n (le_refl n)

pub who_back : (who : Who) → who_of (number_of who) ≡ who
who_back who = same_life (who_of (number_of who)) who (number_back (number_of who))
