-- What is put at one key of a life.
use Rattle.std.proofs.Common.{◌≡◌, ℕ, ◌+◌, ◌≤◌, Bool, true, false, Some, None, refl, ap, subst, ◌∙◌, arith, Result, OnOk, OnErr}
use Rattle.std.specs.declared.result.Result.TheVariants.{Ok, Err}
use Rattle.std.specs.Prelude.{◌==◌, ◌&&◌, ◌||◌, nat_le, nat_lt, if◌then◌else◌, Option, unwrap_or}
use Rattle.std.proofs.lemmas.Bool.{eqb-true}
use Rattle.std.proofs.lemmas.Bool.Decides.{nat_tests}
use Rattle.lu_base.specs.declared.ids.Who.{Who}
use Rattle.lu_spec_machine.specs.Tree.{same_life}
use Rattle.lu_judge_windows.specs.Counted.{is_up_to}
use Rattle.lu_judge_windows.specs.Handed.{is_older}
use Rattle.lu_judge_windows.proofs.Tests.{same_who, at_key, at_life}

pub at_pair : (P : Who → ℕ → Bool → Type 0) (u w : Who) (m n : ℕ) → P u m true → P w n false → P w n (same_life u w && m == n)
at_pair P u w m n here there = by (u.client == w.client) (u.life == w.life) (m == n) refl refl refl where
  by : (a b d : Bool) → (u.client == w.client) ≡ a → (u.life == w.life) ≡ b → (m == n) ≡ d → P w n ((a && b) && d)
  by true true true c l k = subst (λ (v : Who). P v n true) (same_who u.client u.life w.client w.life (eqb-true u.client w.client c)
      (eqb-true u.life w.life l)) (subst (λ (j : ℕ). P u j true) (eqb-true m n k) here)
  by true true false c l k = there
  by true false d c l k = there
  by false b d c l k = there

-- ---- the least number at a key

least_there : (o : Option ℕ) (number bound : ℕ) → is_up_to o number ≡ true → is_up_to o bound ≡ (nat_le number bound || is_up_to o bound)
least_there None number bound is = absurd (cc)
least_there (Some least) number bound is = grind (arith, nat_tests)

least_put : (o : Option ℕ) (number bound : ℕ) → is_up_to o number ≡ false → nat_le number bound ≡ (nat_le number bound || is_up_to o bound)
least_put None number bound is = by (nat_le number bound) where
  by : (b : Bool) → b ≡ (b || false)
  by true = refl
  by false = refl
least_put (Some least) number bound is = grind (arith, nat_tests)

module _ (who : Who) (key number : ℕ) (old : Who → ℕ → Option ℕ) where
  pub least_stays : is_up_to (old who key) number ≡ true → (w : Who) (k bound : ℕ) → is_up_to (old w k) bound
      ≡ (((same_life who w && key == k) && nat_le number bound) || is_up_to (old w k) bound)
  least_stays is w k bound = at_pair (λ v j here. is_up_to (old v j) bound ≡ ((here && nat_le number bound) || is_up_to (old v j) bound))
      who w key k (least_there (old who key) number bound is) refl

  pub least_comes : (new : Who → ℕ → Option ℕ) → is_up_to (old who key) number ≡ false
      → ((w : Who) (k : ℕ) → new w k ≡ (if same_life who w && key == k then Some number else old w k))
      → (w : Who) (k bound : ℕ) → is_up_to (new w k) bound ≡ (((same_life who w && key == k) && nat_le number bound)
      || is_up_to (old w k) bound)
  least_comes new is put w k bound =
      ap (λ (o : Option ℕ). is_up_to o bound) (put w k)
      ∙ at_pair (λ v j here. is_up_to (if here then Some number else old v j) bound
      ≡ ((here && nat_le number bound) || is_up_to (old v j) bound)) who w key k (least_put (old who key) number bound is) refl

-- ---- the newest life of a client

newer_there : (o : Option ℕ) (life other : ℕ) → is_older life o ≡ true → is_older other o ≡ (nat_lt other life || is_older other o)
newer_there None life other is = absurd (cc)
newer_there (Some newest) life other is = grind (arith, nat_tests)

newer_put : (o : Option ℕ) (life other : ℕ) → is_older life o ≡ false → nat_lt other life ≡ (nat_lt other life || is_older other o)
newer_put None life other is = by (nat_lt other life) where
  by : (b : Bool) → b ≡ (b || false)
  by true = refl
  by false = refl
newer_put (Some newest) life other is = grind (arith, nat_tests)

module _ (who : Who) (old : ℕ → Option ℕ) where
  pub newest_stays : is_older who.life (old who.client) ≡ true → (w : Who) → is_older w.life (old w.client)
      ≡ ((who.client == w.client && nat_lt w.life who.life) || is_older w.life (old w.client))
  newest_stays is w = at_key (λ c here. is_older w.life (old c) ≡ ((here && nat_lt w.life who.life) || is_older w.life (old c))) who.client
      w.client (newer_there (old who.client) who.life w.life is) (λ apart. refl)

  pub newest_comes : (new : ℕ → Option ℕ) → is_older who.life (old who.client) ≡ false
      → ((c : ℕ) → new c ≡ (if who.client == c then Some who.life else old c))
      → (w : Who) → is_older w.life (new w.client) ≡ ((who.client == w.client && nat_lt w.life who.life) || is_older w.life (old w.client))
  newest_comes new is put w =
      ap (λ (o : Option ℕ). is_older w.life o) (put w.client)
      ∙ at_key (λ c here. is_older w.life (if here then Some who.life else old c)
      ≡ ((here && nat_lt w.life who.life) || is_older w.life (old c))) who.client w.client
      (newer_put (old who.client) who.life w.life is) (λ apart. refl)

-- ---- members and counts

module _ (who : Who) (number : ℕ) (old : Who → ℕ → Bool) where
  pub member_stays : old who number ≡ true → (w : Who) (n : ℕ) → old w n ≡ ((same_life who w && number == n) || old w n)
  member_stays is w n = at_pair (λ v j here. old v j ≡ (here || old v j)) who w number n is refl

module _ (who : Who) (count : ℕ) (old new : Who → Option ℕ) (put : (w : Who) → new w
    ≡ (if same_life who w then Some (count + 1) else old w)) (is : count ≡ unwrap_or (old who) 0) where
  pub count_comes : (w : Who) → unwrap_or (new w) 0 ≡ (if same_life who w then unwrap_or (old w) 0 + 1 else unwrap_or (old w) 0)
  count_comes w =
      ap (λ (o : Option ℕ). unwrap_or o 0) (put w)
      ∙ at_life (λ v same. unwrap_or (if same then Some (count + 1) else old v) 0
      ≡ (if same then unwrap_or (old v) 0 + 1 else unwrap_or (old v) 0)) who w (ap (λ (c : ℕ). c + 1) is) (λ apart. refl)

pub still_bounded : (here : Bool) (count all more : ℕ) (old new : Option ℕ) → new ≡ (if here then Some (count + 1) else old) → count ≤ all
    → unwrap_or old 0 ≤ all → more ≡ all + 1 → unwrap_or new 0 ≤ more
still_bounded true count all more old new put bound old_bound is = rw (put, is) (omega arith)
still_bounded false count all more old new put bound old_bound is = rw (put, is) (omega arith)

pub one_added : (all more : ℕ) (added : Bool) → more ≡ all + (if added then 1 else 0) → added ≡ true → more ≡ all + 1
one_added all more added is on = is ∙ ap (λ (b : Bool). all + (if b then 1 else 0)) on

module _ {T E : Type 0} where
  pub by_result : {P Q R : Type 0} (r : Result T E) → OnOk r P → OnErr r Q → (P → R) → (Q → R) → R
  by_result (Ok x) good bad f g = f good
  by_result (Err e) good bad f g = g bad
