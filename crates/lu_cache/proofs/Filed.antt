-- What is filed under a key and a cookie, once a row was changed.
use Rattle.std.proofs.Common.{◌≡◌, ℕ, ◌==◌, ◌&&◌, Bool, true, false, cond, List, [], ◌∷◌, Option, Some, None, refl, sym, ap, subst, ◌∙◌}
use Rattle.std.proofs.Common.{arith}
use Rattle.std.specs.Map.{lookup, set_value}
use Rattle.std.specs.BTreeMap.{BTreeMap, is_at}
use Rattle.std.specs.Cmp.{IsEquivalence}
use Rattle.std.proofs.lemmas.Map.{lookup-set_value}
use Rattle.std.proofs.lemmas.Bool.Decides.{nat_tests}
use Rattle.lu_base.specs.declared.ids.Cookie.{Cookie}
use Rattle.lu_cache.specs.Filings.{in_row, by_cookie}

pub at_cookie : (c d : Cookie) → is_at (by_cookie c) d ≡ (c.0 == d.0)
at_cookie c d = grind (arith, nat_tests)

module _ {K : Type 0} (eq : K → K → Bool) (laws : IsEquivalence eq) where
  pub found_same : (k l : K) → eq k l ≡ true → (rows : List (K × BTreeMap Cookie ℕ)) → lookup (eq k) rows ≡ lookup (eq l) rows
  found_same k l e [] = refl
  found_same k l e (entry ∷ rows) = rw (laws.congr k l entry.0 e, found_same k l e rows) refl

  -- a row that was changed at one cookie
  pub refiled_row : (k l : K) (c d : Cookie) (w : Option ℕ) (rows : List (K × BTreeMap Cookie ℕ)) (row new : BTreeMap Cookie ℕ)
      → lookup (eq k) rows ≡ Some row → ((q : Cookie) → in_row (Some new) q ≡ cond (is_at (by_cookie c) q) w (in_row (Some row) q))
      → in_row (lookup (eq l) (set_value (eq k) rows new)) d ≡ cond (eq k l && c.0 == d.0) w (in_row (lookup (eq l) rows) d)
  refiled_row k l c d w rows row new found changed =
      ap (λ (o : Option (BTreeMap Cookie ℕ)). in_row o d) (lookup-set_value laws (eq k) (λ x y h. laws.congr k x y h) l new rows
      (rw found refl)) ∙ by (eq k l) refl
    where
      by : (same : Bool) → eq k l ≡ same → in_row (cond same (Some new) (lookup (eq l) rows)) d
          ≡ cond (same && c.0 == d.0) w (in_row (lookup (eq l) rows) d)
      by true e =
          let there : lookup (eq l) rows ≡ Some row = sym (found_same k l e rows) ∙ found in
          changed d ∙ rw (at_cookie c d, there) refl
      by false e = refl
