-- Which files are there still once those without a name and an open have left.
use Rattle.std.proofs.Common.{◌≡◌, ℕ, ◌+◌, ◌≤◌, Bool, true, false, not, List, [], ◌∷◌, ◌++◌, Option, Some, None, refl, sym, ap, ◌∙◌, arith}
use Rattle.std.proofs.Common.{length}
use Rattle.std.specs.Prelude.{◌||◌, ◌&&◌, ◌==◌, nat_lt, if◌then◌else◌}
use Rattle.std.specs.List.{AllByRecursion}
use Rattle.std.specs.List.Sorted.{IsStrictlySortedBy}
use Rattle.std.specs.Map.{keys_of, lookup}
use Rattle.std.specs.declared.cmp.Ordering.TheVariants.{Less}
use Rattle.std.proofs.lemmas.Bool.{lt-ltb}
use Rattle.std.proofs.lemmas.Bool.Decides.{nat_tests}
use Rattle.lu_base.specs.declared.ids.Fid.{Fid}
use Rattle.lu_base.specs.declared.ids.Txn.{Txn}
use Rattle.lu_base.specs.declared.ids.Who.{Who}
use Rattle.lu_layout.specs.Raid0.{Raid0}
use Rattle.lu_spec_machine.specs.declared.child.Child.{Child}
use Rattle.lu_spec_machine.specs.declared.child.Child.TheVariants.{Dir, File}
use Rattle.lu_spec_machine.specs.Entries.{without}
use Rattle.lu_spec_machine.specs.Tree.{Tree, Inode, Opened, same_fid, same_life, fid_cmp, file}
use Rattle.lu_spec_machine.specs.Change.{Leads, MakesFile, SetLinks, SetMode, Opens, Closes, new_file, put_file, closed, change, changed}
use Rattle.lu_spec_machine.specs.Order.{IsOrdered}
use Rattle.lu_spec_machine.specs.Trim.{is_open, is_alive, living, trim}
use Rattle.lu_spec_machine.proofs.Keys.{fid_tells}
use Rattle.lu_spec_machine.proofs.Ordered.{fid_order}
use Rattle.lu_spec_machine.proofs.Sorted.{not_same}
use Rattle.lu_tree.specs.Ends.{IsReached}
use Rattle.lu_tree.specs.Lives.{AreOthersLiving, opens_only, is_dead, is_dead_of, without_file}
use Rattle.lu_tree.specs.State.{IsCounted}
use Rattle.lu_tree.proofs.Dirs.{without_absent}
use Rattle.lu_tree.proofs.Entries.{all_filter, all_more, all_place}
use Rattle.lu_tree.proofs.Lean.{lean_with}
use Rattle.lu_tree.proofs.Named.{reached_linked}

abbrev pub AllLiving : List Opened → List (Fid × Inode) → Type 0
AllLiving os es = AllByRecursion (λ e. is_alive os e ≡ true) es

abbrev pub OthersLiving : List Opened → Fid → List (Fid × Inode) → Type 0
OthersLiving os f es = AllByRecursion (λ e. same_fid f e.0 ≡ false → is_alive os e ≡ true) es

shorter : (os : List Opened) (es : List (Fid × Inode)) → length (living os es) ≤ length es
shorter os [] = omega arith
shorter os (e ∷ es) = by (is_alive os e) (shorter os es)
  where
    by : (v : Bool) → length (living os es) ≤ length es → length (if v then e ∷ living os es else living os es) ≤ length (e ∷ es)
    by true h = omega (arith, h)
    by false h = omega (arith, h)

pub all_living : (os : List Opened) (es : List (Fid × Inode)) → living os es ≡ es → AllLiving os es
all_living os [] h = tt
all_living os (e ∷ es) h = by (is_alive os e) refl h (all_living os es)
  where
    by : (v : Bool) → is_alive os e ≡ v → (if v then e ∷ living os es else living os es) ≡ e ∷ es → (living os es ≡ es → AllLiving os es)
        → (is_alive os e ≡ true) × AllLiving os es
    by true p q ih = (p, ih (cc))
    by false p q ih = let l = shorter os es in let k : length (living os es) ≡ length (e ∷ es) = ap length q in absurd (omega (arith, l, k))

pub living_all : (os : List Opened) (es : List (Fid × Inode)) → AllLiving os es → living os es ≡ es
living_all os [] h = refl
living_all os (e ∷ es) h = ap (λ v. if v then e ∷ living os es else living os es) h.0 ∙ ap (λ xs. e ∷ xs) (living_all os es h.1)

-- ---- but one

none_below : (f : Fid) (es : List (Fid × Inode)) → AllByRecursion (λ g. fid_cmp f g ≡ Less) (keys_of es) → lookup (same_fid f) es ≡ None
none_below f [] h = refl
none_below f (e ∷ es) h = ap (λ v. if v then Some e.1 else lookup (same_fid f) es) (not_same fid_cmp same_fid fid_order f e.0 h.0)
    ∙ none_below f es h.1

module _ (os : List Opened) (f : Fid) where
  none_other : (es : List (Fid × Inode)) → lookup (same_fid f) es ≡ None → OthersLiving os f es → living os es ≡ es
  none_other [] n h = refl
  none_other (e ∷ es) n h = by (same_fid f e.0) refl n (λ m. none_other es m h.1)
    where
      by : (v : Bool) → same_fid f e.0 ≡ v → (if v then Some e.1 else lookup (same_fid f) es) ≡ None
          → (lookup (same_fid f) es ≡ None → living os es ≡ es) → (if is_alive os e then e ∷ living os es else living os es) ≡ e ∷ es
      by true p m ih = absurd (cc)
      by false p m ih = ap (λ v. if v then e ∷ living os es else living os es) (h.0 p) ∙ ap (λ xs. e ∷ xs) (ih m)

  -- where the entry is the file's, the file is in none after it
  after_own : (e : Fid × Inode) (es : List (Fid × Inode)) → IsStrictlySortedBy fid_cmp (keys_of (e ∷ es)) → same_fid f e.0 ≡ true
      → (f ≡ e.0) × (lookup (same_fid f) es ≡ None)
  unfolding IsStrictlySortedBy
  after_own e es s p =
      let t = fid_tells f e.0 in
      let q : f ≡ e.0 = grind (arith, t, p) in
      (q, ap (λ g. lookup (same_fid g) es) q ∙ none_below e.0 es s.0)

  pub left_dead : (es : List (Fid × Inode)) (x : Inode) → IsStrictlySortedBy fid_cmp (keys_of es) → OthersLiving os f es
      → lookup (same_fid f) es ≡ Some x → is_alive os (f, x) ≡ false → without (same_fid f) es ≡ living os es
  unfolding IsStrictlySortedBy
  left_dead [] x s h is dead = refl
  left_dead (e ∷ es) x s h is dead = by (same_fid f e.0) refl is (left_dead es x s.1 h.1)
    where
      by : (v : Bool) → same_fid f e.0 ≡ v → (if v then Some e.1 else lookup (same_fid f) es) ≡ Some x
          → (lookup (same_fid f) es ≡ Some x → is_alive os (f, x) ≡ false → without (same_fid f) es ≡ living os es)
          → (if not v then e ∷ without (same_fid f) es else without (same_fid f) es)
          ≡ (if is_alive os e then e ∷ living os es else living os es)
      by true p q ih =
          let o = after_own e es s p in
          let k : e.1 ≡ x = cc in
          let d : is_alive os e ≡ false = ap (λ y. is_alive os (e.0, y)) k ∙ ap (λ g. is_alive os (g, x)) (sym o.0) ∙ dead in
          without_absent same_fid fid_tells f es o.1 ∙ sym (none_other es o.1 h.1)
          ∙ sym (ap (λ v. if v then e ∷ living os es else living os es) d)
      by false p q ih = ap (λ xs. e ∷ xs) (ih q dead) ∙ sym (ap (λ v. if v then e ∷ living os es else living os es) (h.0 p))

  pub left_alive : (es : List (Fid × Inode)) (x : Inode) → IsStrictlySortedBy fid_cmp (keys_of es) → OthersLiving os f es
      → lookup (same_fid f) es ≡ Some x → is_alive os (f, x) ≡ true → es ≡ living os es
  unfolding IsStrictlySortedBy
  left_alive [] x s h is alive = refl
  left_alive (e ∷ es) x s h is alive = by (same_fid f e.0) refl is (left_alive es x s.1 h.1)
    where
      by : (v : Bool) → same_fid f e.0 ≡ v → (if v then Some e.1 else lookup (same_fid f) es) ≡ Some x
          → (lookup (same_fid f) es ≡ Some x → is_alive os (f, x) ≡ true → es ≡ living os es)
          → e ∷ es ≡ (if is_alive os e then e ∷ living os es else living os es)
      by true p q ih =
          let o = after_own e es s p in
          let k : e.1 ≡ x = cc in
          let d : is_alive os e ≡ true = ap (λ y. is_alive os (e.0, y)) k ∙ ap (λ g. is_alive os (g, x)) (sym o.0) ∙ alive in
          ap (λ xs. e ∷ xs) (sym (none_other es o.1 h.1)) ∙ sym (ap (λ v. if v then e ∷ living os es else living os es) d)
      by false p q ih = ap (λ xs. e ∷ xs) (ih q alive) ∙ sym (ap (λ v. if v then e ∷ living os es else living os es) (h.0 p))

-- what the test says
module _ (t : Tree) (f : Fid) (o : IsOrdered t) (others : AreOthersLiving t f) where
  pub gone : is_dead t f ≡ true → without_file t f ≡ trim t
  gone h = ap (λ fs. record t { files = fs }) (by (lookup (same_fid f) t.files) refl h)
    where
      dead : (v : Bool) → not v ≡ true → v ≡ false
      dead true q = absurd (cc)
      dead false q = refl

      by : (r : Option Inode) → lookup (same_fid f) t.files ≡ r → is_dead_of t.opens f r ≡ true → without (same_fid f) t.files
          ≡ living t.opens t.files
      by None p q = absurd (cc)
      by (Some x) p q = left_dead t.opens f t.files x o.files others p (dead (is_alive t.opens (f, x)) q)

  pub stays : is_dead t f ≡ false → t ≡ trim t
  stays h = ap (λ fs. record t { files = fs }) (by (lookup (same_fid f) t.files) refl h)
    where
      alive : (v : Bool) → not v ≡ false → v ≡ true
      alive true q = refl
      alive false q = absurd (cc)

      by : (r : Option Inode) → lookup (same_fid f) t.files ≡ r → is_dead_of t.opens f r ≡ false → t.files ≡ living t.opens t.files
      by None p q = sym (none_other t.opens f t.files p others)
      by (Some x) p q = left_alive t.opens f t.files x o.files others p (alive (is_alive t.opens (f, x)) q)

-- ---- opens

more_open : (os more : List Opened) (f : Fid) → is_open f os ≡ true → is_open f (os ++ more) ≡ true
more_open [] more f h = absurd (cc)
more_open (o ∷ os) more f h = by (same_fid o.fid f) h (more_open os more f)
  where
    by : (v : Bool) → (v || is_open f os) ≡ true → (is_open f os ≡ true → is_open f (os ++ more) ≡ true) → (v || is_open f (os ++ more))
        ≡ true
    by true q ih = refl
    by false q ih = ih q

still_open : (number : Txn) (life : Who) (f g : Fid) (os : List Opened) → opens_only number life f os ≡ true → same_fid f g ≡ false
    → is_open g os ≡ true → is_open g (closed number life os) ≡ true
still_open number life f g [] only apart h = h
still_open number life f g (o ∷ os) only apart h = by (o.number.0 == number.0 && same_life o.life life) (same_fid o.fid f) refl
    (same_fid o.fid g) refl only h (λ rest. still_open number life f g os rest apart)
  where
    both : same_fid o.fid f ≡ true → same_fid o.fid g ≡ true → ⊥
    both p q = grind (arith, nat_tests, p, q, apart)

    by : (made own : Bool) → same_fid o.fid f ≡ own → (is : Bool) → same_fid o.fid g ≡ is
        → ((not made || own) && opens_only number life f os) ≡ true → (is || is_open g os) ≡ true
        → (opens_only number life f os ≡ true → is_open g os ≡ true → is_open g (closed number life os) ≡ true)
        → is_open g (if not made then o ∷ closed number life os else closed number life os) ≡ true
    by true true p true q r s ih = absurd (both p q)
    by true true p false q r s ih = ih r s
    by true false p is q r s ih = absurd (cc)
    by false own p true q r s ih = ap (λ v. v || is_open g (closed number life os)) q
    by false own p false q r s ih = ap (λ v. v || is_open g (closed number life os)) q ∙ ih r s

living_still : (os ps : List Opened) (e : Fid × Inode) → (is_open e.0 os ≡ true → is_open e.0 ps ≡ true) → is_alive os e ≡ true
    → is_alive ps e ≡ true
living_still os ps e still h = by (nat_lt 0 e.1.links) h
  where
    by : (v : Bool) → (v || is_open e.0 os) ≡ true → (v || is_open e.0 ps) ≡ true
    by true q = refl
    by false q = still q

-- ---- trees

pub files_of : (t : Tree) → trim t ≡ t → living t.opens t.files ≡ t.files
files_of t lean = ap (λ (u : Tree). u.files) lean

pub lean_open : (t : Tree) (number : Txn) (life : Who) (f : Fid) → trim t ≡ t → trim (change t (Opens number life f))
    ≡ change t (Opens number life f)
lean_open t number life f lean =
    let os = t.opens ++ record { number = number; life = life; fid = f } ∷ [] in
    ap (λ fs. record t { files = fs; opens = os })
    (living_all os t.files (all_more (λ e. is_alive t.opens e ≡ true) (λ e. is_alive os e ≡ true)
    (λ e. living_still t.opens os e (more_open t.opens _ e.0)) t.files (all_living t.opens t.files (files_of t lean))))

pub others_closed : (t : Tree) (number : Txn) (life : Who) (f : Fid) → trim t ≡ t → opens_only number life f t.opens ≡ true
    → AreOthersLiving (change t (Closes number life)) f
others_closed t number life f lean only =
    all_more (λ e. is_alive t.opens e ≡ true) (λ e. same_fid f e.0 ≡ false → is_alive (closed number life t.opens) e ≡ true)
    (λ e h apart. living_still t.opens (closed number life t.opens) e (still_open number life f e.0 t.opens only apart) h) t.files
    (all_living t.opens t.files (files_of t lean))

-- a file with a link stands in place of what was there
pub lean_put : (os : List Opened) (f : Fid) (x : Inode) (es : List (Fid × Inode)) → nat_lt 0 x.links ≡ true → living os es ≡ es
    → living os (put_file f x es) ≡ put_file f x es
lean_put os f x es linked lean =
    let P : Fid × Inode → Type 0 = λ e. is_alive os e ≡ true in
    living_all os (put_file f x es) (all_place P fid_cmp f x (without (same_fid f) es) (ap (λ v. v || is_open f os) linked)
    (all_filter P (λ e. not (same_fid f e.0)) es (all_living os es lean)))

-- what is put may have left
pub others_put : (os : List Opened) (f : Fid) (x : Inode) (es : List (Fid × Inode)) → living os es ≡ es
    → OthersLiving os f (put_file f x es)
others_put os f x es lean =
    let P : Fid × Inode → Type 0 = λ e. is_alive os e ≡ true in
    let Q : Fid × Inode → Type 0 = λ e. same_fid f e.0 ≡ false → is_alive os e ≡ true in
    all_place Q fid_cmp f x (without (same_fid f) es) (λ apart. absurd (own apart))
    (all_more P Q (λ e h apart. h) (without (same_fid f) es) (all_filter P (λ e. not (same_fid f e.0)) es (all_living os es lean)))
  where
    own : same_fid f f ≡ false → ⊥
    own h = grind (arith, nat_tests, h)

pub lean_create : (t : Tree) (f : Fid) (l : Raid0) (d : Fid) (n : List ℕ) (c : Child) → trim t ≡ t
    → trim (changed t (MakesFile f l ∷ Leads d n c ∷ [])) ≡ changed t (MakesFile f l ∷ Leads d n c ∷ [])
lean_create t f l d n c lean = ap (λ fs. record (changed t (MakesFile f l ∷ Leads d n c ∷ [])) { files = fs })
    (lean_put t.opens f (new_file l) t.files refl (files_of t lean))

pub lean_link : (t : Tree) (d : Fid) (n : List ℕ) (c : Child) (f : Fid) (k : ℕ) → trim t ≡ t
    → trim (changed t (Leads d n c ∷ SetLinks f (k + 1) ∷ [])) ≡ changed t (Leads d n c ∷ SetLinks f (k + 1) ∷ [])
lean_link t d n c f k lean =
    let linked : nat_lt 0 (k + 1) ≡ true = grind (arith, nat_tests) in
    ap (λ fs. record (changed t (Leads d n c ∷ SetLinks f (k + 1) ∷ [])) { files = fs })
    (lean_put t.opens f (record { mode = (file t f).mode; links = k + 1; layout = (file t f).layout }) t.files linked (files_of t lean))

pub lean_mode : (t : Tree) (c : Child) (m : ℕ) → IsCounted t → IsReached t c → trim t ≡ t → trim (change t (SetMode c m))
    ≡ change t (SetMode c m)
lean_mode t (Dir d) m counted reached lean = lean_with t (change t (SetMode (Dir d) m)).dirs lean
lean_mode t (File f) m counted reached lean =
    let linked : nat_lt 0 (file t f).links ≡ true = lt-ltb 0 (file t f).links (reached_linked t f counted reached) in
    ap (λ fs. record t { files = fs }) (lean_put t.opens f (record { mode = m; links = (file t f).links; layout = (file t f).layout })
    t.files linked (files_of t lean))
