-- A name that is led elsewhere before another one goes, and after it.
use Rattle.std.proofs.Common.{◌≡◌, ℕ, Bool, true, false, List, [], ◌∷◌, inl, inr, Option, Some, None, refl, sym, ap, subst, ◌∙◌, arith}
use Rattle.std.specs.Prelude.{◌&&◌, if◌then◌else◌}
use Rattle.std.specs.declared.cmp.Ordering.{Ordering}
use Rattle.std.specs.declared.cmp.Ordering.TheVariants.{Less, Equal, Greater}
use Rattle.std.specs.List.{AllByRecursion}
use Rattle.std.specs.List.Sorted.{IsStrictlySortedBy}
use Rattle.std.specs.Map.{keys_of, lookup}
use Rattle.std.specs.Ordering.{ordering_reverse}
use Rattle.std.proofs.lemmas.Bool.Decides.{nat_tests}
use Rattle.lu_base.specs.declared.ids.Fid.{Fid}
use Rattle.lu_spec_machine.specs.declared.child.Child.{Child}
use Rattle.lu_spec_machine.specs.Entries.{without}
use Rattle.lu_spec_machine.specs.Name.{same_name, name_cmp}
use Rattle.lu_spec_machine.specs.Order.{IsOrdered}
use Rattle.lu_spec_machine.specs.Tree.{Tree, Directory, same_fid, fid_cmp, directory}
use Rattle.lu_spec_machine.specs.Change.{Leads, Drops, put_name, change}
use Rattle.lu_spec_machine.proofs.Effects.{dir_put}
use Rattle.lu_spec_machine.proofs.Keys.{Told, fid_tells, name_tells, find-put, find-without, find-gone}
use Rattle.lu_spec_machine.proofs.Leads.{here}
use Rattle.lu_spec_machine.proofs.Ordered.{change_ordered, fid_order, name_order}
use Rattle.lu_spec_machine.proofs.Sorted.{IsKeyOrder, not_same, sorted_place, sorted_without}
use Rattle.lu_tree.proofs.Dirs.{with_dirs}

-- ---- sorted entries are told by what is found

module _ {K : Type 0} (cmp : K → K → Ordering) (same : K → K → Bool) (o : IsKeyOrder cmp same) where
  own : (k : K) → same k k ≡ true
  own k = by (o.tells k k)
    where
      by : Told same k k → same k k ≡ true
      by (inl t) = t.0
      by (inr t) = absurd (t.1 refl)

module _ {K A : Type 0} (cmp : K → K → Ordering) (same : K → K → Bool) (o : IsKeyOrder cmp same) where
  absent : (k : K) (es : List (K × A)) → AllByRecursion (λ y. cmp k y ≡ Less) (keys_of es) → lookup (same k) es ≡ None
  absent k [] h = refl
  absent k (e ∷ es) h = ap (λ v. if v then Some e.1 else lookup (same k) es) (not_same cmp same o k e.0 h.0) ∙ absent k es h.1

  above : (k l : K) (es : List (K × A)) → cmp k l ≡ Less → AllByRecursion (λ y. cmp l y ≡ Less) (keys_of es)
      → AllByRecursion (λ y. cmp k y ≡ Less) (keys_of es)
  above k l [] h b = tt
  above k l (e ∷ es) h b = (o.total.trans k l e.0 h b.0, above k l es h b.1)

  first : (e : K × A) (es : List (K × A)) → lookup (same e.0) (e ∷ es) ≡ Some e.1
  first e es = ap (λ v. if v then Some e.1 else lookup (same e.0) es) (own cmp same o e.0)

  -- the first of one list is in no list whose first is greater
  apart : (e f : K × A) (es fs : List (K × A)) → cmp e.0 f.0 ≡ Less → AllByRecursion (λ y. cmp f.0 y ≡ Less) (keys_of fs)
      → lookup (same e.0) (e ∷ es) ≡ lookup (same e.0) (f ∷ fs) → ⊥
  apart e f es fs l b h =
      let p = first e es in
      let q : lookup (same e.0) (f ∷ fs) ≡ None = absent e.0 (f ∷ fs) (l, above e.0 f.0 fs l b) in
      absurd (cc (p, q, h))

  pub told_by_look_ups : (es fs : List (K × A)) → IsStrictlySortedBy cmp (keys_of es) → IsStrictlySortedBy cmp (keys_of fs)
      → ((k : K) → lookup (same k) es ≡ lookup (same k) fs) → es ≡ fs
  unfolding IsStrictlySortedBy
  told_by_look_ups [] [] s r h = refl
  told_by_look_ups [] (f ∷ fs) s r h = absurd (cc (h f.0, first f fs))
  told_by_look_ups (e ∷ es) [] s r h = absurd (cc (h e.0, first e es))
  told_by_look_ups (e ∷ es) (f ∷ fs) s r h = by (cmp e.0 f.0) refl (told_by_look_ups es fs s.1 r.1)
    where
      rest : e.0 ≡ f.0 → (k : K) → lookup (same k) es ≡ lookup (same k) fs
      rest q k = split (o.tells k e.0)
        where
          below : AllByRecursion (λ y. cmp e.0 y ≡ Less) (keys_of fs)
          below = subst (λ z. AllByRecursion (λ y. cmp z y ≡ Less) (keys_of fs)) (sym q) r.0

          split : Told same k e.0 → lookup (same k) es ≡ lookup (same k) fs
          split (inl t) = ap (λ z. lookup (same z) es) t.1 ∙ absent e.0 es s.0
              ∙ sym (ap (λ z. lookup (same z) fs) t.1 ∙ absent e.0 fs below)
          split (inr t) =
              sym (ap (λ v. if v then Some e.1 else lookup (same k) es) t.0) ∙ h k
              ∙ ap (λ z. if same k z then Some f.1 else lookup (same k) fs) (sym q)
              ∙ ap (λ v. if v then Some f.1 else lookup (same k) fs) t.0

      value : e.0 ≡ f.0 → e.1 ≡ f.1
      value q =
          let p : Some e.1 ≡ Some f.1 = sym (first e es) ∙ h e.0 ∙ ap (λ z. lookup (same z) (f ∷ fs)) q ∙ first f fs in
          cc

      by : (v : Ordering) → cmp e.0 f.0 ≡ v → (((k : K) → lookup (same k) es ≡ lookup (same k) fs) → es ≡ fs) → e ∷ es ≡ f ∷ fs
      by Less p ih = absurd (apart e f es fs p r.0 (h e.0))
      by Equal p ih = let q = o.ties e.0 f.0 p in ap (λ k. (k, e.1) ∷ es) q ∙ ap (λ a. (f.0, a) ∷ es) (value q)
          ∙ ap (λ xs. f ∷ xs) (ih (rest q))
      by Greater p ih = absurd (apart f e fs es (o.total.antisymm f.0 e.0 ∙ ap ordering_reverse p) s.0 (sym (h f.0)))

-- ---- names of one directory

put_sorted : (m : List ℕ) (c : Child) (es : List (List ℕ × Child)) → IsStrictlySortedBy name_cmp (keys_of es)
    → IsStrictlySortedBy name_cmp (keys_of (put_name m c es))
put_sorted m c es s = sorted_place name_cmp same_name name_order m c (without (same_name m) es)
    (sorted_without name_cmp same_name name_order m es s) (find-gone same_name name_tells m es)

swap_names : (m n : List ℕ) (c : Child) (es : List (List ℕ × Child)) → IsStrictlySortedBy name_cmp (keys_of es) → same_name m n ≡ false
    → without (same_name n) (put_name m c es) ≡ put_name m c (without (same_name n) es)
swap_names m n c es s apart =
    told_by_look_ups name_cmp same_name name_order _ _ (sorted_without name_cmp same_name name_order n (put_name m c es)
    (put_sorted m c es s))
    (put_sorted m c (without (same_name n) es) (sorted_without name_cmp same_name name_order n es s)) found
  where
    found : (q : List ℕ) → lookup (same_name q) (without (same_name n) (put_name m c es))
        ≡ lookup (same_name q) (put_name m c (without (same_name n) es))
    found q =
        let a = find-without same_name name_tells n q (put_name m c es) in
        let b = find-put same_name name_tells name_cmp m c q es in
        let d = find-put same_name name_tells name_cmp m c q (without (same_name n) es) in
        let e = find-without same_name name_tells n q es in
        let t = name_tells m q in
        let u = name_tells n q in
        let v = name_tells m n in
        grind (arith, a, b, d, e, t, u, v, apart)

-- ---- directories

-- the directories once the name was led elsewhere, and once it went
abbrev with_name : Tree → Fid → List ℕ → Child → Directory
with_name t e m c = record { mode = (directory t e).mode; entries = put_name m c (directory t e).entries }

abbrev without_name : Tree → Fid → List ℕ → Directory
without_name t d n = record { mode = (directory t d).mode; entries = without (same_name n) (directory t d).entries }

either_first : {A : Type 0} (a b : Bool) (x y : A) (z : Option A) → (a ≡ true → b ≡ true → ⊥)
    → (if a then Some x else (if b then Some y else z)) ≡ (if b then Some y else (if a then Some x else z))
either_first true true x y z apart = absurd (apart refl refl)
either_first true false x y z apart = refl
either_first false true x y z apart = refl
either_first false false x y z apart = refl

once : {A : Type 0} (a : Bool) (x y : A) (z : Option A) → (if a then Some x else (if a then Some y else z)) ≡ (if a then Some x else z)
once true x y z = refl
once false x y z = refl

module _ (t : Tree) (e : Fid) (m : List ℕ) (c : Child) (d : Fid) (n : List ℕ) where
  led_first : (k : Fid) → lookup (same_fid k) (change (change t (Leads e m c)) (Drops d n)).dirs
      ≡ (if same_fid d k then Some (without_name (change t (Leads e m c)) d n)
      else (if same_fid e k then Some (with_name t e m c) else lookup (same_fid k) t.dirs))
  led_first k =
      find-put same_fid fid_tells fid_cmp d (without_name (change t (Leads e m c)) d n) k (change t (Leads e m c)).dirs
      ∙ ap (λ z. if same_fid d k then Some (without_name (change t (Leads e m c)) d n) else z)
      (find-put same_fid fid_tells fid_cmp e (with_name t e m c) k t.dirs)

  dropped_first : (k : Fid) → lookup (same_fid k) (change (change t (Drops d n)) (Leads e m c)).dirs
      ≡ (if same_fid e k then Some (with_name (change t (Drops d n)) e m c)
      else (if same_fid d k then Some (without_name t d n) else lookup (same_fid k) t.dirs))
  dropped_first k =
      find-put same_fid fid_tells fid_cmp e (with_name (change t (Drops d n)) e m c) k (change t (Drops d n)).dirs
      ∙ ap (λ z. if same_fid e k then Some (with_name (change t (Drops d n)) e m c) else z)
      (find-put same_fid fid_tells fid_cmp d (without_name t d n) k t.dirs)

  swap_apart : (e ≡ d → ⊥) → (k : Fid) → lookup (same_fid k) (change (change t (Leads e m c)) (Drops d n)).dirs
      ≡ lookup (same_fid k) (change (change t (Drops d n)) (Leads e m c)).dirs
  swap_apart ne k =
      let a : same_fid e d ≡ false = let h = fid_tells e d in grind (arith, h, ne) in
      let b : same_fid d e ≡ false = grind (arith, nat_tests, a) in
      let f : directory (change t (Leads e m c)) d ≡ directory t d = dir_put e (with_name t e m c) d t.dirs
      ∙ ap (λ v. if v then with_name t e m c else directory t d) a in
      let g : directory (change t (Drops d n)) e ≡ directory t e = dir_put d (without_name t d n) e t.dirs
      ∙ ap (λ v. if v then without_name t d n else directory t e) b in
      led_first k
      ∙ ap (λ (x : Directory). if same_fid d k then Some (record { mode = x.mode; entries = without (same_name n) x.entries })
      else (if same_fid e k then Some (with_name t e m c) else lookup (same_fid k) t.dirs)) f
      ∙ either_first (same_fid d k) (same_fid e k) (without_name t d n) (with_name t e m c) (lookup (same_fid k) t.dirs)
      (λ p q. absurd (ne (both p q)))
      ∙ sym
      (dropped_first k
      ∙ ap (λ (x : Directory). if same_fid e k then Some (record { mode = x.mode; entries = put_name m c x.entries })
      else (if same_fid d k then Some (without_name t d n) else lookup (same_fid k) t.dirs)) g)
    where
      both : same_fid d k ≡ true → same_fid e k ≡ true → e ≡ d
      both p q = let h = fid_tells d k in let i = fid_tells e k in grind (arith, h, i, p, q)

-- of one directory
swap_within : (t : Tree) (e : Fid) (m : List ℕ) (c : Child) (n : List ℕ) → IsOrdered t → same_name m n ≡ false → (k : Fid)
    → lookup (same_fid k) (change (change t (Leads e m c)) (Drops e n)).dirs
    ≡ lookup (same_fid k) (change (change t (Drops e n)) (Leads e m c)).dirs
swap_within t e m c n o apart k =
    let a : same_fid e e ≡ true = grind (arith, nat_tests) in
    let f : directory (change t (Leads e m c)) e ≡ with_name t e m c = dir_put e (with_name t e m c) e t.dirs
    ∙ ap (λ v. if v then with_name t e m c else directory t e) a in
    let g : directory (change t (Drops e n)) e ≡ without_name t e n = dir_put e (without_name t e n) e t.dirs
    ∙ ap (λ v. if v then without_name t e n else directory t e) a in
    led_first t e m c e n k ∙ once (same_fid e k) (without_name (change t (Leads e m c)) e n) (with_name t e m c)
    (lookup (same_fid k) t.dirs)
    ∙ ap (λ (x : Directory). if same_fid e k then Some (record { mode = x.mode; entries = without (same_name n) x.entries })
    else lookup (same_fid k) t.dirs) f
    ∙ ap (λ es. if same_fid e k then Some (record { mode = (directory t e).mode; entries = es }) else lookup (same_fid k) t.dirs)
    (swap_names m n c (directory t e).entries (o.names e) apart)
    ∙ sym
    (dropped_first t e m c e n k ∙ once (same_fid e k) (with_name (change t (Drops e n)) e m c) (without_name t e n)
    (lookup (same_fid k) t.dirs)
    ∙ ap (λ (x : Directory). if same_fid e k then Some (record { mode = x.mode; entries = put_name m c x.entries })
    else lookup (same_fid k) t.dirs) g)

pub swap : (t : Tree) (e : Fid) (m : List ℕ) (c : Child) (d : Fid) (n : List ℕ) → IsOrdered t → here e m d n ≡ false
    → change (change t (Leads e m c)) (Drops d n) ≡ change (change t (Drops d n)) (Leads e m c)
swap t e m c d n o apart =
    ap (with_dirs t)
    (told_by_look_ups fid_cmp same_fid fid_order _ _ (change_ordered (change t (Leads e m c)) (Drops d n)
    (change_ordered t (Leads e m c) o)).dirs
    (change_ordered (change t (Drops d n)) (Leads e m c) (change_ordered t (Drops d n) o)).dirs (λ k. by (fid_tells e d) k))
  where
    names : same_fid e d ≡ true → same_name m n ≡ false
    names h = sym (ap (λ v. v && same_name m n) h) ∙ apart

    by : Told same_fid e d → (k : Fid) → lookup (same_fid k) (change (change t (Leads e m c)) (Drops d n)).dirs
        ≡ lookup (same_fid k) (change (change t (Drops d n)) (Leads e m c)).dirs
    by (inl h) k =
        subst (λ x. lookup (same_fid k) (change (change t (Leads e m c)) (Drops x n)).dirs
        ≡ lookup (same_fid k) (change (change t (Drops x n)) (Leads e m c)).dirs) h.1
        (swap_within t e m c n o (names h.0) k)
    by (inr h) k = swap_apart t e m c d n h.1 k
