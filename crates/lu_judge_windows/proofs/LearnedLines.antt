-- What one line makes of what lives learned.
use Rattle.std.proofs.Common.{◌≡◌, ℕ, ◌+◌, ◌<◌, length, take, get_or, Bool, true, false, List, [], ◌∷◌, refl, ap, sym, ◌∙◌}
use Rattle.std.specs.Prelude.{◌==◌, ◌&&◌, ◌||◌, reverse, map, nat_eq}
use Rattle.std.specs.List.{list_any}
use Rattle.std.proofs.lemmas.Bool.{eqb-true}
use Rattle.std.proofs.lemmas.List.{map_more}
use Rattle.std.proofs.lemmas.List.Folds.{list_any-append, list_any_more}
use Rattle.std.proofs.lemmas.List.Sorted.{list_any-IsPermutation, IsPermutation-reverse}
use Rattle.lu_base.specs.declared.ids.Node.{Node}
use Rattle.lu_base.specs.declared.ids.Node.TheVariants.{Client}
use Rattle.lu_base.specs.declared.ids.Who.{Who}
use Rattle.lu_base.specs.declared.ids.At.{At}
use Rattle.lu_spec_laws.specs.Words.Pasts.{Past}
use Rattle.lu_spec_laws.specs.Words.Sends.{Sending, taken}
use Rattle.lu_spec_laws.specs.Words.Lives.{life, who_is, is_by}
use Rattle.lu_judge_windows.specs.Learned.{is_of}
use Rattle.lu_judge_windows.proofs.Tests.{same_who, eq_swap, one_more}

module _ (f : ℕ → Who → Bool) (target c : ℕ) (past : Past) (t : ℕ) (w : Who) where
  -- a test of the life that a client has at a target, and that of each life
  pub by_life : ((target == t && (c == w.client && life w.client past == w.life)) && f t w)
      ≡ (is_of target (who_is c past) t w && f target (who_is c past))
  by_life = at_target (target == t) refl where
    at_life : (l : Bool) → t ≡ target → c ≡ w.client → (life c past == w.life) ≡ l → (l && f t w) ≡ (l && f target (who_is c past))
    at_life true tt' cc' is = ap (λ (v : Who). f t v) (same_who w.client w.life c (life c past) (sym cc')
        (sym (eqb-true (life c past) w.life is))) ∙ ap (λ (k : ℕ). f k (who_is c past)) tt'
    at_life false tt' cc' is = refl

    at_client : (k : Bool) → t ≡ target → (c == w.client) ≡ k → ((k && life w.client past == w.life) && f t w)
        ≡ ((k && life c past == w.life) && f target (who_is c past))
    at_client true same is =
        ap (λ (d : ℕ). (life d past == w.life) && f t w) (sym (eqb-true c w.client is))
        ∙ at_life (life c past == w.life) same (eqb-true c w.client is) refl
    at_client false same is = refl

    at_target : (b : Bool) → (target == t) ≡ b → ((b && (c == w.client && life w.client past == w.life)) && f t w)
        ≡ ((b && (c == w.client && life c past == w.life)) && f target (who_is c past))
    at_target true is = at_client (c == w.client) (sym (eqb-true target t is)) refl
    at_target false is = refl

module _ {A : Type 0} where
  pub any_reverse : (p : A → Bool) (xs : List A) → list_any p (reverse xs) ≡ list_any p xs
  any_reverse p xs = sym (list_any-IsPermutation p xs (reverse xs) (IsPermutation-reverse xs))

-- ---- one line

or_assoc : (a b c : Bool) → (a || (b || c)) ≡ ((a || b) || c)
or_assoc true b c = refl
or_assoc false b c = refl

or_between : (a b c : Bool) → (a || (b || c)) ≡ (b || (a || c))
or_between true true c = refl
or_between true false c = refl
or_between false b c = refl

pub who_now : (c l : ℕ) (past : Past) (who : Who) → who ≡ record { client = c; life = l } → l ≡ life c past → who ≡ who_is c past
who_now c l past who is same = is ∙ same_who c l c (life c past) refl same

module _ (f : ℕ → Who → Sending → Bool) (target c : ℕ) (who : Who) (past : Past) (at : At) (node : at.node ≡ Client c) (xs : List Sending)
    (life_is : who ≡ who_is c past) (took : reverse xs ≡ taken past at) (t : ℕ) (w : Who) where
  -- a test of the messages that the turn took, by the life of a client
  taken_by : (is_of target who t w && list_any (f target who) xs)
      ≡ ((target == t && is_by w past at.node) && list_any (f t w) (taken past at))
  taken_by =
      ap (λ (v : Who). is_of target v t w && list_any (f target v) xs) life_is
      ∙ ap (λ (b : Bool). is_of target (who_is c past) t w && b)
      (sym (any_reverse (f target (who_is c past)) xs) ∙ ap (list_any (f target (who_is c past))) took)
      ∙ sym (by_life (λ k v. list_any (f k v) (taken past at)) target c past t w)
      ∙ ap (λ (n : Node). (target == t && is_by w past n) && list_any (f t w) (taken past at)) (sym node)

  pub learns : (new old notion : Bool) → new ≡ ((is_of target who t w && list_any (f target who) xs) || old) → old ≡ notion
      → new ≡ (((target == t && is_by w past at.node) && list_any (f t w) (taken past at)) || notion)
  learns new old notion is shows = is ∙ ap (λ (b : Bool). (is_of target who t w && list_any (f target who) xs) || b) shows
      ∙ ap (λ (b : Bool). b || notion) taken_by

  pub learns_first : (new old first second : Bool) → new ≡ ((is_of target who t w && list_any (f target who) xs) || old) → old
      ≡ (first || second)
      → new ≡ ((((target == t && is_by w past at.node) && list_any (f t w) (taken past at)) || first) || second)
  learns_first new old first second is shows =
      learns new old (first || second) is shows
      ∙ or_assoc ((target == t && is_by w past at.node) && list_any (f t w) (taken past at)) first second

  pub learns_second : (new old first second : Bool) → new ≡ ((is_of target who t w && list_any (f target who) xs) || old) → old
      ≡ (first || second)
      → new ≡ (first || (((target == t && is_by w past at.node) && list_any (f t w) (taken past at)) || second))
  learns_second new old first second is shows =
      learns new old (first || second) is shows
      ∙ or_between ((target == t && is_by w past at.node) && list_any (f t w) (taken past at)) first second

-- ---- one more of a list

pub known_more : (a : Bool) (n x i : ℕ) (xs : List ℕ) (new now old : Bool) → i < length xs → new ≡ ((a && x == n) || now)
    → now ≡ ((a && list_any (nat_eq n) (take i xs)) || old) → x ≡ get_or xs i 0 → new
    ≡ ((a && list_any (nat_eq n) (take (i + 1) xs)) || old)
known_more a n x i xs new now old below put so_far item =
    put
    ∙ ap (λ (b : Bool). (a && x == n) || b) so_far
    ∙ one_more a (x == n) (list_any (nat_eq n) (take i xs)) old
    ∙ ap (λ (b : Bool). (a && (list_any (nat_eq n) (take i xs) || b)) || old) (eq_swap x n ∙ ap (λ (k : ℕ). n == k) item)
    ∙ ap (λ (b : Bool). (a && b) || old) (sym (list_any_more (nat_eq n) xs i 0 below))

module _ {A B : Type 0} (f : A → B) (p : B → Bool) where
  or_false : (b : Bool) → (b || false) ≡ b
  or_false true = refl
  or_false false = refl

  pub taken_more : (a : Bool) (i : ℕ) (xs : List A) (d : A) (new now old : Bool) → i < length xs → new
      ≡ ((a && p (f (get_or xs i d))) || now)
      → now ≡ ((a && list_any p (map f (take i xs))) || old) → new ≡ ((a && list_any p (map f (take (i + 1) xs))) || old)
  taken_more a i xs d new now old below put so_far =
      put
      ∙ ap (λ (b : Bool). (a && p (f (get_or xs i d))) || b) so_far
      ∙ one_more a (p (f (get_or xs i d))) (list_any p (map f (take i xs))) old
      ∙ ap (λ (b : Bool). (a && b) || old)
      (sym (ap (list_any p) (map_more f xs i d below) ∙ list_any-append p (map f (take i xs)) (f (get_or xs i d) ∷ [])
      ∙ ap (λ (b : Bool). list_any p (map f (take i xs)) || b) (or_false (p (f (get_or xs i d))))))
