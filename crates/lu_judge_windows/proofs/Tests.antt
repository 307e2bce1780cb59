-- Facts of tests, and of what was put at one key.
use Rattle.std.proofs.Common.{◌≡◌, ℕ, Bool, true, false, List, [], ◌∷◌, refl, subst, ap, sym, ◌∙◌}
use Rattle.std.specs.Prelude.{◌==◌, ◌&&◌, ◌||◌, not, if◌then◌else◌}
use Rattle.std.specs.List.{list_any}
use Rattle.std.proofs.lemmas.Bool.{eqb-true, eq-eqb}
use Rattle.lu_base.specs.declared.ids.Who.{Who}
use Rattle.lu_spec_machine.specs.Tree.{same_life}

-- ---- keys

pub at_key : (P : ℕ → Bool → Type 0) (u t : ℕ) → P u true → ((u == t) ≡ false → P t false) → P t (u == t)
at_key P u t here there = by (u == t) refl where
  by : (b : Bool) → (u == t) ≡ b → P t b
  by true is = subst (λ (k : ℕ). P k true) (eqb-true u t is) here
  by false is = there is

pub same_who : (a b c d : ℕ) → a ≡ c → b ≡ d → ◌≡◌ {A = Who} (record { client = a; life = b }) (record { client = c; life = d })
same_who a b c d p q = rw (p, q) refl

pub at_life : (P : Who → Bool → Type 0) (u w : Who) → P u true → (same_life u w ≡ false → P w false) → P w (same_life u w)
at_life P u w here there = by (u.client == w.client) (u.life == w.life) refl refl where
  by : (a b : Bool) → (u.client == w.client) ≡ a → (u.life == w.life) ≡ b → P w (a && b)
  by true true c l = subst (λ (v : Who). P v true) (same_who u.client u.life w.client w.life (eqb-true u.client w.client c)
      (eqb-true u.life w.life l)) here
  by true false c l = there (rw (c, l) refl)
  by false b c l = there (rw c refl)

pub eq_self : (n : ℕ) → (n == n) ≡ true
eq_self n = eq-eqb n n refl

pub eq_swap : (m n : ℕ) → (m == n) ≡ (n == m)
eq_swap m n = at_key (λ k b. b ≡ (k == m)) m n (sym (eq_self m)) (λ apart. by (n == m) refl apart) where
  by : (b : Bool) → (n == m) ≡ b → (m == n) ≡ false → false ≡ b
  by true is apart = sym apart ∙ subst (λ (k : ℕ). (m == k) ≡ true) (sym (eqb-true n m is)) (eq_self m)
  by false is apart = refl

-- ---- tests

pub was_there : (b new : Bool) → new ≡ not b → new ≡ false → b ≡ true
was_there true new is off = refl
was_there false new is off = absurd (cc)

pub was_absent : (b new : Bool) → new ≡ not b → new ≡ true → b ≡ false
was_absent false new is on = refl
was_absent true new is on = absurd (cc)

pub put_test : (a o : Bool) → (if a then true else o) ≡ (a || o)
put_test true o = refl
put_test false o = refl

pub put_both : (a b o : Bool) → (if a && b then true else o) ≡ ((b && a) || o)
put_both true true o = refl
put_both true false o = refl
put_both false true o = refl
put_both false false o = refl

pub put_known : (a b d o : Bool) → (if a && (b && d) then true else o) ≡ (((a && b) && d) || o)
put_known true b d o = put_test (b && d) o
put_known false b d o = refl

pub joined_put : (a b new mid old notion : Bool) → new ≡ (if a && b then true else mid) → old ≡ notion → mid ≡ old → new
    ≡ ((b && a) || notion)
joined_put a b new mid old notion put shown same = put ∙ ap (λ (o : Bool). if a && b then true else o) (same ∙ shown) ∙ put_both a b notion

-- what was known so far, with one more
pub one_more : (a v m o : Bool) → ((a && v) || ((a && m) || o)) ≡ ((a && (m || v)) || o)
one_more false v m o = refl
one_more true true true o = refl
one_more true true false o = refl
one_more true false true o = refl
one_more true false false o = refl

pub and_false : (a : Bool) → (a && false) ≡ false
and_false true = refl
and_false false = refl

-- ---- lists

module _ {A : Type 0} where
  pub any_same : (f g : A → Bool) (xs : List A) → ((x : A) → f x ≡ g x) → list_any f xs ≡ list_any g xs
  any_same f g [] same = refl
  any_same f g (x ∷ xs) same = rw (same x, any_same f g xs same) refl

  pub any_or : (f g h : A → Bool) (xs : List A) → ((x : A) → f x ≡ (g x || h x)) → list_any f xs ≡ (list_any g xs || list_any h xs)
  any_or f g h [] same = refl
  any_or f g h (x ∷ xs) same = rw (same x, any_or f g h xs same) (crossed (g x) (h x) (list_any g xs) (list_any h xs)) where
    crossed : (a b c d : Bool) → ((a || b) || (c || d)) ≡ ((a || c) || (b || d))
    crossed true b c d = refl
    crossed false true true d = refl
    crossed false true false d = refl
    crossed false false true d = refl
    crossed false false false d = refl

  -- an item is put in front of the list of one key
  pub any_put : (p : A → Bool) (here : Bool) (x : A) (xs : List A) (new mid old : Bool) → new ≡ (if here && p x then true else mid) → old
      ≡ list_any p xs → mid ≡ old
      → new ≡ list_any p (if here then x ∷ xs else xs)
  any_put p here x xs new mid old put shown same = put ∙ ap (λ (o : Bool). if here && p x then true else o) (same ∙ shown) ∙ by here where
    by : (here : Bool) → (if here && p x then true else list_any p xs) ≡ list_any p (if here then x ∷ xs else xs)
    by true = put_test (p x) (list_any p xs)
    by false = refl
