-- How a line changes the number of transactions of a request that stand.
use Rattle.std.proofs.Common.{◌≡◌, Bool, true, false, refl, sym, ap, subst, ◌∙◌, arith}
use Rattle.std.specs.Prelude.{ℕ, suc, nat_lt, ◌==◌, ◌&&◌, ◌||◌, not, if◌then◌else◌, ◌∷◌}
use Rattle.std.proofs.lemmas.Bool.{eqb-true}
use Rattle.std.proofs.lemmas.Bool.Decides.{nat_tests}
use Rattle.lu_base.specs.declared.ids.Who.{Who}
use Rattle.lu_spec_machine.specs.Tree.{same_life}
use Rattle.lu_spec_laws.proofs.Tests.{first_of, rest_of, life_is}
use Rattle.lu_judge_acts.specs.Tables.{is_key}

-- what is said at the keys that are this one
same_key : {A : Type 0} (f : ℕ → Who → ℕ → A) (u : ℕ) (w : Who) (y t : ℕ) (who : Who) (x : ℕ) → is_key u w y t who x ≡ true → f u w y
    ≡ f t who x
same_key f u w y t who x e =
    let there : (u == t && same_life w who) ≡ true = first_of _ _ e in
    ap (λ (z : ℕ). f u w z) (eqb-true y x (rest_of _ _ e))
    ∙ ap (λ (v : Who). f u v x) (life_is w who (rest_of _ _ there))
    ∙ ap (λ (v : ℕ). f v who x) (eqb-true u t (first_of _ _ there))

count_first : (n : ℕ) → nat_lt 0 n ≡ true → nat_lt 1 (suc n) ≡ true
count_first n is = grind (arith, nat_tests)

count_none : (n : ℕ) → nat_lt 0 n ≡ false → nat_lt 1 (suc n) ≡ nat_lt 1 n
count_none n is = grind (arith, nat_tests)

count_some : (n : ℕ) → nat_lt 0 (suc n) ≡ true
count_some n = grind (arith, nat_tests)

-- a request of which one stood gets another: its key is put among those of more
pub again : (one more new : ℕ → Who → ℕ → Bool) (count : ℕ → Who → ℕ → ℕ) (u : ℕ) (w : Who) (y : ℕ)
    → ((t : ℕ) (who : Who) (x : ℕ) → (one t who x ≡ nat_lt 0 (count t who x)) × (more t who x ≡ nat_lt 1 (count t who x)))
    → one u w y ≡ true → ((t : ℕ) (who : Who) (x : ℕ) → new t who x ≡ (if is_key u w y t who x then true else more t who x))
    → (t : ℕ) (who : Who) (x : ℕ)
    → (one t who x ≡ nat_lt 0 (if is_key u w y t who x then suc (count t who x) else count t who x))
    × (new t who x ≡ nat_lt 1 (if is_key u w y t who x then suc (count t who x) else count t who x))
again one more new count u w y shown is puts t who x = by (is_key u w y t who x) refl (puts t who x) where
  by : (it : Bool) → is_key u w y t who x ≡ it → new t who x ≡ (if it then true else more t who x)
      → (one t who x ≡ nat_lt 0 (if it then suc (count t who x) else count t who x))
      × (new t who x ≡ nat_lt 1 (if it then suc (count t who x) else count t who x))
  by true e put =
      let there : one t who x ≡ true = sym (same_key one u w y t who x e) ∙ is in
      (there ∙ sym (count_some (count t who x)), put ∙ sym (count_first (count t who x) (sym (shown t who x).0 ∙ there)))
  by false e put = ((shown t who x).0, put ∙ (shown t who x).1)

-- the first of a request: its key is put among those of one
pub first : (one more new : ℕ → Who → ℕ → Bool) (count : ℕ → Who → ℕ → ℕ) (u : ℕ) (w : Who) (y : ℕ)
    → ((t : ℕ) (who : Who) (x : ℕ) → (one t who x ≡ nat_lt 0 (count t who x)) × (more t who x ≡ nat_lt 1 (count t who x)))
    → one u w y ≡ false → ((t : ℕ) (who : Who) (x : ℕ) → new t who x ≡ (if is_key u w y t who x then true else one t who x))
    → (t : ℕ) (who : Who) (x : ℕ)
    → (new t who x ≡ nat_lt 0 (if is_key u w y t who x then suc (count t who x) else count t who x))
    × (more t who x ≡ nat_lt 1 (if is_key u w y t who x then suc (count t who x) else count t who x))
first one more new count u w y shown is puts t who x = by (is_key u w y t who x) refl (puts t who x) where
  by : (it : Bool) → is_key u w y t who x ≡ it → new t who x ≡ (if it then true else one t who x)
      → (new t who x ≡ nat_lt 0 (if it then suc (count t who x) else count t who x))
      × (more t who x ≡ nat_lt 1 (if it then suc (count t who x) else count t who x))
  by true e put =
      let there : one t who x ≡ false = sym (same_key one u w y t who x e) ∙ is in
      (put ∙ sym (count_some (count t who x)), (shown t who x).1 ∙ sym (count_none (count t who x) (sym (shown t who x).0 ∙ there)))
  by false e put = (put ∙ (shown t who x).0, (shown t who x).1)

-- ---- a transaction's line

-- whether it stands is asked of its own target alone
pub own_lost : (lost : ℕ → ℕ → Bool) (u t n : ℕ) (life number v : Bool) → lost u n ≡ v → (((u == t && life) && number) && not (lost t n))
    ≡ (((u == t && life) && number) && not v)
own_lost lost u t n life number v is = by (u == t) refl where
  by : (same : Bool) → (u == t) ≡ same → (((same && life) && number) && not (lost t n)) ≡ (((same && life) && number) && not v)
  by true e = ap (λ (b : Bool). ((true && life) && number) && not b) (ap (λ (k : ℕ). lost k n) (sym (eqb-true u t e)) ∙ is)
  by false e = refl

and_true : (b : Bool) → (b && true) ≡ b
and_true true = refl
and_true false = refl

and_false : (b : Bool) → (b && false) ≡ false
and_false true = refl
and_false false = refl

-- it is lost: nothing changes
pub lost_count : (lost : ℕ → ℕ → Bool) (u t n : ℕ) (life number : Bool) (count : ℕ) → lost u n ≡ true
    → (if ((u == t && life) && number) && not (lost t n) then suc count else count) ≡ count
lost_count lost u t n life number count is = rw (own_lost lost u t n life number true is, and_false ((u == t && life) && number)) refl

-- it stands
pub standing_one : (lost : ℕ → ℕ → Bool) (u t n : ℕ) (life number : Bool) (count : ℕ) → lost u n ≡ false
    → (if (u == t && life) && number then suc count else count)
    ≡ (if ((u == t && life) && number) && not (lost t n) then suc count else count)
standing_one lost u t n life number count is = rw (own_lost lost u t n life number false is, and_true ((u == t && life) && number)) refl
