-- Entries in the order of their keys: they stay so, and are then those of a sorted map.
use Rattle.std.proofs.Common.{◌≡◌, Bool, true, false, not, List, [], ◌∷◌, inl, inr, Some, None, refl, sym, ap, subst, ◌∙◌}
use Rattle.std.specs.Prelude.{if◌then◌else◌}
use Rattle.std.specs.declared.cmp.Ordering.{Ordering}
use Rattle.std.specs.declared.cmp.Ordering.TheVariants.{Less, Equal, Greater}
use Rattle.std.specs.BTreeMap.{insert_entry}
use Rattle.std.specs.Cmp.{IsTotalOrder}
use Rattle.std.specs.List.{AllByRecursion}
use Rattle.std.specs.List.Sorted.{IsStrictlySortedBy}
use Rattle.std.specs.Map.{keys_of, lookup, remove_entry}
use Rattle.std.specs.Ordering.{is_lt, ordering_reverse, match_ordering}
use Rattle.lu_spec_machine.specs.Entries.{without, place}
use Rattle.lu_spec_machine.proofs.Keys.{Told}

module _ {K : Type 0} (cmp : K → K → Ordering) (same : K → K → Bool) where
  -- the order, and the test of sameness, go together
  pub record IsKeyOrder : Type 0 where
    pub total : IsTotalOrder cmp
    pub tells : (a b : K) → Told same a b
    pub ties : (a b : K) → cmp a b ≡ Equal → a ≡ b
    pub itself : (a : K) → cmp a a ≡ Equal

less : (v : Ordering) → is_lt v ≡ true → v ≡ Less
less Less h = refl
less Equal h = absurd (cc)
less Greater h = absurd (cc)

module _ {K : Type 0} (cmp : K → K → Ordering) (same : K → K → Bool) (o : IsKeyOrder cmp same) where
  -- where the first is not below the other and they differ, the other is below it
  turned : (k l : K) (v : Ordering) → cmp k l ≡ v → is_lt v ≡ false → (k ≡ l → ⊥) → cmp l k ≡ Less
  turned k l Less e h ne = absurd (cc)
  turned k l Equal e h ne = absurd (ne (o.ties k l e))
  turned k l Greater e h ne = o.total.antisymm l k ∙ ap ordering_reverse e

  pub not_same : (k y : K) → cmp k y ≡ Less → same k y ≡ false
  not_same k y l = told (o.tells k y)
    where
      told : Told same k y → same k y ≡ false
      told (inl t) = absurd (cc (o.itself k, ap (cmp k) t.1, l))
      told (inr t) = t.0

module _ {K A : Type 0} (cmp : K → K → Ordering) (same : K → K → Bool) (o : IsKeyOrder cmp same) where
  abbrev Below : K → List (K × A) → Type 0
  Below k es = AllByRecursion (λ y. cmp k y ≡ Less) (keys_of es)

  abbrev Sorted : List (K × A) → Type 0
  Sorted es = IsStrictlySortedBy cmp (keys_of es)

  below_more : (k l : K) (es : List (K × A)) → cmp k l ≡ Less → Below l es → Below k es
  below_more k l [] h b = tt
  below_more k l (e ∷ es) h b = (o.total.trans k l e.0 h b.0, below_more k l es h b.1)

  below_without : (k q : K) (es : List (K × A)) → Below k es → Below k (without (same q) es)
  below_without k q [] b = tt
  below_without k q (e ∷ es) b = by (same q e.0) (below_without k q es b.1)
    where
      by : (v : Bool) → Below k (without (same q) es) → Below k (if not v then e ∷ without (same q) es else without (same q) es)
      by true h = h
      by false h = (b.0, h)

  below_place : (k q : K) (a : A) (es : List (K × A)) → cmp k q ≡ Less → Below k es → Below k (place cmp q a es)
  below_place k q a [] h b = (h, tt)
  below_place k q a (e ∷ es) h b = by (is_lt (cmp q e.0)) (below_place k q a es h b.1)
    where
      by : (v : Bool) → Below k (place cmp q a es) → Below k (if v then (q, a) ∷ e ∷ es else e ∷ place cmp q a es)
      by true r = (h, (b.0, b.1))
      by false r = (b.0, r)

  pub sorted_without : (q : K) (es : List (K × A)) → Sorted es → Sorted (without (same q) es)
  unfolding IsStrictlySortedBy
  sorted_without q [] s = tt
  sorted_without q (e ∷ es) s = by (same q e.0) (sorted_without q es s.1)
    where
      by : (v : Bool) → Sorted (without (same q) es) → Sorted (if not v then e ∷ without (same q) es else without (same q) es)
      by true h = h
      by false h = (below_without e.0 q es s.0, h)

  pub sorted_place : (q : K) (a : A) (es : List (K × A)) → Sorted es → lookup (same q) es ≡ None → Sorted (place cmp q a es)
  unfolding IsStrictlySortedBy
  sorted_place q a [] s h = (tt, tt)
  sorted_place q a (e ∷ es) s h = apart (same q e.0) refl h (sorted_place q a es s.1)
    where
      by : (v : Bool) → is_lt (cmp q e.0) ≡ v → (q ≡ e.0 → ⊥) → Sorted (place cmp q a es)
          → Sorted (if v then (q, a) ∷ e ∷ es else e ∷ place cmp q a es)
      by true p ne r = let l = less (cmp q e.0) p in ((l, below_more q e.0 es l s.0), (s.0, s.1))
      by false p ne r = (below_place e.0 q a es (turned cmp same o q e.0 (cmp q e.0) refl p ne) s.0, r)

      other : same q e.0 ≡ false → q ≡ e.0 → ⊥
      other p = told (o.tells q e.0)
        where
          told : Told same q e.0 → q ≡ e.0 → ⊥
          told (inl t) = absurd (cc (t.0, p))
          told (inr t) = t.1

      apart : (v : Bool) → same q e.0 ≡ v → (if v then Some e.1 else lookup (same q) es) ≡ None
          → (lookup (same q) es ≡ None → Sorted (place cmp q a es))
          → Sorted (if is_lt (cmp q e.0) then (q, a) ∷ e ∷ es else e ∷ place cmp q a es)
      apart true p n r = absurd (cc)
      apart false p n r = by (is_lt (cmp q e.0)) refl (other p) (r n)

  -- ---- the entries of a sorted map

  none_without : (k : K) (es : List (K × A)) → Below k es → without (same k) es ≡ es
  none_without k [] b = refl
  none_without k (e ∷ es) b = ap (λ v. if not v then e ∷ without (same k) es else without (same k) es) (not_same cmp same o k e.0 b.0)
      ∙ ap (λ xs. e ∷ xs) (none_without k es b.1)

  none_place : (k : K) (a : A) (es : List (K × A)) → Below k es → place cmp k a es ≡ (k, a) ∷ es
  none_place k a [] b = refl
  none_place k a (e ∷ es) b = ap (λ v. if is_lt v then (k, a) ∷ e ∷ es else e ∷ place cmp k a es) b.0

  -- what `BTreeMap::remove` leaves
  pub without-sorted : (k : K) (es : List (K × A)) → Sorted es → without (same k) es ≡ remove_entry (same k) es
  unfolding IsStrictlySortedBy
  without-sorted k [] s = refl
  without-sorted k (e ∷ es) s = by (same k e.0) refl (without-sorted k es s.1)
    where
      equal : Told same k e.0 → same k e.0 ≡ true → e.0 ≡ k
      equal (inl t) p = sym t.1
      equal (inr t) p = absurd (cc (t.0, p))

      by : (v : Bool) → same k e.0 ≡ v → without (same k) es ≡ remove_entry (same k) es
          → (if not v then e ∷ without (same k) es else without (same k) es) ≡ (if v then es else e ∷ remove_entry (same k) es)
      by true p ih = none_without k es (subst (λ q. Below q es) (equal (o.tells k e.0) p) s.0)
      by false p ih = ap (λ xs. e ∷ xs) ih

  -- what `BTreeMap::insert` leaves
  pub put-sorted : (k : K) (a : A) (es : List (K × A)) → Sorted es → place cmp k a (without (same k) es) ≡ insert_entry cmp es k a
  unfolding IsStrictlySortedBy
  put-sorted k a [] s = refl
  put-sorted k a (e ∷ es) s = by (cmp k e.0) refl (put-sorted k a es s.1)
    where
      by : (v : Ordering) → cmp k e.0 ≡ v → place cmp k a (without (same k) es) ≡ insert_entry cmp es k a
          → place cmp k a (without (same k) (e ∷ es)) ≡ match_ordering v ((k, a) ∷ e ∷ es) ((e.0, a) ∷ es) (e ∷ insert_entry cmp es k a)
      by Less p ih = let b : Below k (e ∷ es) = (p, below_more k e.0 es p s.0) in ap (place cmp k a) (none_without k (e ∷ es) b)
          ∙ none_place k a (e ∷ es) b
      by Equal p ih =
          let q = o.ties k e.0 p in
          let b : Below k es = subst (λ x. Below x es) (sym q) s.0 in
          ap (λ v. place cmp k a (if not v then e ∷ without (same k) es else without (same k) es)) (is_same (o.tells k e.0) q)
          ∙ ap (place cmp k a) (none_without k es b) ∙ none_place k a es b ∙ ap (λ x. (x, a) ∷ es) q
        where
          is_same : Told same k e.0 → k ≡ e.0 → same k e.0 ≡ true
          is_same (inl t) q = t.0
          is_same (inr t) q = absurd (t.1 q)
      by Greater p ih =
          ap (λ v. place cmp k a (if not v then e ∷ without (same k) es else without (same k) es)) (differs (o.tells k e.0))
          ∙ ap (λ v. if is_lt v then (k, a) ∷ e ∷ without (same k) es else e ∷ place cmp k a (without (same k) es)) p ∙ ap (λ xs. e ∷ xs) ih
        where
          differs : Told same k e.0 → same k e.0 ≡ false
          differs (inl t) = absurd (cc (o.itself k, ap (cmp k) t.1, p))
          differs (inr t) = t.0
