-- What a sorted map finds, inserts and removes is what the tree's lists have.
use Rattle.std.proofs.Common.{◌≡◌, ℕ, Bool, List, [], ◌∷◌, Some, None, refl, sym, ap, ◌∙◌, arith}
use Rattle.std.specs.Prelude.{if◌then◌else◌}
use Rattle.std.specs.BTreeMap.{insert_entry, is_at}
use Rattle.std.specs.List.Sorted.{IsStrictlySortedBy}
use Rattle.std.specs.Map.{keys_of, lookup, remove_entry, set_value}
use Rattle.std.specs.Cmp.{IsTotalOrder}
use Rattle.std.specs.List.{AllByRecursion}
use Rattle.std.specs.declared.cmp.Ordering.{Ordering}
use Rattle.std.specs.declared.cmp.Ordering.TheVariants.{Less, Equal, Greater}
use Rattle.std.specs.Ordering.{is_eq, match_ordering}
use Rattle.std.proofs.lemmas.Bool.Decides.{nat_tests}
use Rattle.std.proofs.lemmas.Map.Text.{is_eq-slice_cmp}
use Rattle.lu_base.specs.declared.ids.Fid.{Fid}
use Rattle.lu_spec_machine.specs.Name.{same_name, name_cmp}
use Rattle.lu_spec_machine.specs.Entries.{without, place}
use Rattle.lu_spec_machine.specs.Tree.{same_fid, fid_cmp}
use Rattle.lu_spec_machine.proofs.Ordered.{name_order, fid_order}
use Rattle.lu_spec_machine.proofs.Sorted.{put-sorted, without-sorted}

fid_test : (f g : Fid) → is_eq (fid_cmp f g) ≡ same_fid f g
fid_test f g = grind (arith, nat_tests)

module _ {K A : Type 0} (f g : K → Bool) (same : (k : K) → f k ≡ g k) where
  lookup_same : (es : List (K × A)) → lookup f es ≡ lookup g es
  lookup_same [] = refl
  lookup_same (e ∷ es) = ap (λ v. if v then Some e.1 else lookup f es) (same e.0) ∙ ap (λ o. if g e.0 then Some e.1 else o) (lookup_same es)

  remove_same : (es : List (K × A)) → remove_entry f es ≡ remove_entry g es
  remove_same [] = refl
  remove_same (e ∷ es) = ap (λ v. if v then es else e ∷ remove_entry f es) (same e.0)
      ∙ ap (λ xs. if g e.0 then es else e ∷ xs) (remove_same es)

module _ {A : Type 0} where
  pub name_found : (n : List ℕ) (es : List (List ℕ × A)) → lookup (is_at (name_cmp n)) es ≡ lookup (same_name n) es
  name_found n es = lookup_same (is_at (name_cmp n)) (same_name n) (is_eq-slice_cmp n) es

  pub name_put : (n : List ℕ) (a : A) (es : List (List ℕ × A)) → IsStrictlySortedBy name_cmp (keys_of es) → insert_entry name_cmp es n a
      ≡ place name_cmp n a (without (same_name n) es)
  name_put n a es s = sym (put-sorted name_cmp same_name name_order n a es s)

  pub name_gone : (n : List ℕ) (es : List (List ℕ × A)) → IsStrictlySortedBy name_cmp (keys_of es) → remove_entry (is_at (name_cmp n)) es
      ≡ without (same_name n) es
  name_gone n es s = remove_same (is_at (name_cmp n)) (same_name n) (is_eq-slice_cmp n) es
      ∙ sym (without-sorted name_cmp same_name name_order n es s)

  pub fid_found : (f : Fid) (es : List (Fid × A)) → lookup (is_at (fid_cmp f)) es ≡ lookup (same_fid f) es
  fid_found f es = lookup_same (is_at (fid_cmp f)) (same_fid f) (fid_test f) es

  pub fid_put : (f : Fid) (a : A) (es : List (Fid × A)) → IsStrictlySortedBy fid_cmp (keys_of es) → insert_entry fid_cmp es f a
      ≡ place fid_cmp f a (without (same_fid f) es)
  fid_put f a es s = sym (put-sorted fid_cmp same_fid fid_order f a es s)

  pub fid_gone : (f : Fid) (es : List (Fid × A)) → IsStrictlySortedBy fid_cmp (keys_of es) → remove_entry (is_at (fid_cmp f)) es
      ≡ without (same_fid f) es
  fid_gone f es s = remove_same (is_at (fid_cmp f)) (same_fid f) (fid_test f) es ∙ sym (without-sorted fid_cmp same_fid fid_order f es s)

-- ---- what a map has once a found value was written

module _ {K A : Type 0} (cmp : K → K → Ordering) (total : IsTotalOrder cmp) where
  absent : (k l : K) (es : List (K × A)) → cmp k l ≡ Less → AllByRecursion (λ y. cmp l y ≡ Less) (keys_of es) → lookup (is_at (cmp k)) es
      ≡ None
  absent k l [] h b = refl
  absent k l (e ∷ es) h b = ap (λ v. if is_eq v then Some e.1 else lookup (is_at (cmp k)) es) (total.trans k l e.0 h b.0)
      ∙ absent k l es h b.1

  written : (k : K) (a : A) (es : List (K × A)) → IsStrictlySortedBy cmp (keys_of es) → (w : A) → lookup (is_at (cmp k)) es ≡ Some w
      → set_value (is_at (cmp k)) es a ≡ insert_entry cmp es k a
  unfolding IsStrictlySortedBy
  written k a [] s w h = absurd (cc)
  written k a (e ∷ es) s w h = by (cmp k e.0) refl h (written k a es s.1 w)
    where
      by : (v : Ordering) → cmp k e.0 ≡ v → (if is_eq v then Some e.1 else lookup (is_at (cmp k)) es) ≡ Some w
          → (lookup (is_at (cmp k)) es ≡ Some w → set_value (is_at (cmp k)) es a ≡ insert_entry cmp es k a)
          → (if is_eq v then (e.0, a) ∷ es else e ∷ set_value (is_at (cmp k)) es a)
          ≡ match_ordering v ((k, a) ∷ e ∷ es) ((e.0, a) ∷ es) (e ∷ insert_entry cmp es k a)
      by Less q h ih = let n = absent k e.0 es q s.0 in absurd (cc)
      by Equal q h ih = refl
      by Greater q h ih = ap (λ xs. e ∷ xs) (ih h)

pub fid_set : {A : Type 0} (f : Fid) (a w : A) (es : List (Fid × A)) → IsStrictlySortedBy fid_cmp (keys_of es)
    → lookup (is_at (fid_cmp f)) es ≡ Some w → set_value (is_at (fid_cmp f)) es a ≡ place fid_cmp f a (without (same_fid f) es)
fid_set f a w es s h = written fid_cmp fid_order.total f a es s w h ∙ fid_put f a es s
