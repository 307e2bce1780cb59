-- Lemmas on entries under keys, for a test that tells keys apart.
use Rattle.std.proofs.Common.{◌≡◌, ℕ, Bool, true, false, List, [], ◌∷◌, ◌⊎◌, inl, inr, Some, None, refl, ap, ◌∙◌, arith}
use Rattle.std.specs.Prelude.{◌==◌, ◌≢◌, if◌then◌else◌}
use Rattle.std.specs.declared.cmp.Ordering.{Ordering}
use Rattle.std.specs.Map.{keys_of, lookup}
use Rattle.std.proofs.lemmas.Bool.Decides.{nat_tests}
use Rattle.std.proofs.lemmas.Slice.Eq.{bytes_eq-Decides}
use Rattle.lu_base.specs.declared.ids.Fid.{Fid}
use Rattle.lu_spec_machine.specs.Name.{same_name, name_cmp}
use Rattle.lu_spec_machine.specs.Entries.{without, place}
use Rattle.lu_spec_machine.specs.Tree.{same_fid}
use Rattle.lu_spec_machine.specs.Effect.{without_name, place_name}

-- what a test of two keys tells
abbrev pub Told : {K : Type 0} → (K → K → Bool) → K → K → Type 0
Told same a b = ((same a b ≡ true) × (a ≡ b)) ⊎ ((same a b ≡ false) × (a ≢ b))

pub name_tells : (a b : List ℕ) → Told same_name a b
name_tells a b = by (same_name a b) refl (bytes_eq-Decides a b)
  where
    by : (v : Bool) → same_name a b ≡ v → ((v ≡ true → a ≡ b) × (a ≡ b → v ≡ true)) → ((v ≡ true) × (a ≡ b)) ⊎ ((v ≡ false) × (a ≢ b))
    by true e d = inl (refl, d.0 refl)
    by false e d = inr (refl, λ q. absurd (cc (d.1 q)))

pub fid_tells : (a b : Fid) → Told same_fid a b
fid_tells a b = by (a.0 == b.0) refl
  where
    yes : (a.0 == b.0) ≡ true → a.0 ≡ b.0
    yes h = grind (arith, nat_tests, h)

    no : (a.0 == b.0) ≡ false → a ≡ b → ⊥
    no h e = let k : a.0 ≡ b.0 = ap (λ (f : Fid). f.0) e in grind (arith, nat_tests, h, k)

    by : (v : Bool) → (a.0 == b.0) ≡ v → (((a.0 == b.0) ≡ true) × (a ≡ b)) ⊎ (((a.0 == b.0) ≡ false) × (a ≢ b))
    by true h = inl (h, ap (λ n. record { 0 = n }) (yes h))
    by false h = inr (h, no h)

module _ {K A : Type 0} (same : K → K → Bool) (tells : (a b : K) → Told same a b) where
  pub find-without : (k q : K) (es : List (K × A)) → lookup (same q) (without (same k) es) ≡ (if same k q then None else lookup (same q) es)
  find-without k q [] = grind (arith, tells)
  find-without k q (e ∷ es) = let ih = find-without k q es in grind (arith, tells, ih)

  pub find-place : (cmp : K → K → Ordering) (k : K) (a : A) (q : K) (es : List (K × A)) → lookup (same k) es ≡ None
      → lookup (same q) (place cmp k a es) ≡ (if same k q then Some a else lookup (same q) es)
  find-place cmp k a q [] h = grind (arith, tells)
  find-place cmp k a q (e ∷ es) h = let ih = find-place cmp k a q es in grind (arith, tells, ih)

  pub find-gone : (k : K) (es : List (K × A)) → lookup (same k) (without (same k) es) ≡ None
  find-gone k es = let h = find-without k k es in grind (arith, tells, h)

  pub find-put : (cmp : K → K → Ordering) (k : K) (a : A) (q : K) (es : List (K × A))
      → lookup (same q) (place cmp k a (without (same k) es)) ≡ (if same k q then Some a else lookup (same q) es)
  find-put cmp k a q es = let h = find-place cmp k a q (without (same k) es) (find-gone k es) in let g = find-without k q es
      in grind (arith, tells, h, g)

module _ {A : Type 0} where
  pub names-without : (n : List ℕ) (es : List (List ℕ × A)) → keys_of (without (same_name n) es) ≡ without_name n (keys_of es)
  names-without n [] = refl
  names-without n (e ∷ es) = let ih = names-without n es in grind (arith, name_tells, ih)

  names-place : (n : List ℕ) (a : A) (es : List (List ℕ × A)) → keys_of (place name_cmp n a es) ≡ place_name n (keys_of es)
  names-place n a [] = refl
  names-place n a (e ∷ es) = let ih = names-place n a es in grind (arith, ih)

  pub names-put : (n : List ℕ) (a : A) (es : List (List ℕ × A)) → keys_of (place name_cmp n a (without (same_name n) es))
      ≡ place_name n (without_name n (keys_of es))
  names-put n a es = names-place n a (without (same_name n) es) ∙ ap (place_name n) (names-without n es)
