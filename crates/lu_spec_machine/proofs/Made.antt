-- Where directories alone are made and removed: each path that leads somewhere was made, and no two lead to one
-- directory. So a look-up of a path that was never made finds nothing.
use Rattle.std.proofs.Common.{◌≡◌, ℕ, ◌<◌, ◌≤◌, Bool, true, false, List, [], ◌∷◌, ◌++◌, ◌⊎◌, inl, inr, ⊎_elim, Option, Some, None, refl}
use Rattle.std.proofs.Common.{sym, ap, subst, ◌∙◌, arith}
use Rattle.std.specs.Prelude.{◌&&◌, if◌then◌else◌}
use Rattle.std.specs.Option.{option_and_then}
use Rattle.std.proofs.lemmas.Bool.{and_parts, cond_both, eqb-true}
use Rattle.std.proofs.lemmas.Bool.Decides.{nat_tests}
use Rattle.lu_base.specs.declared.ids.Fid.{Fid}
use Rattle.lu_base.specs.declared.ids.Txn.{Txn}
use Rattle.lu_base.specs.declared.ids.Who.{Who}
use Rattle.lu_msg.specs.declared.answers.Errno.TheVariants.{EEXIST, EBUSY}
use Rattle.lu_msg.specs.declared.operations.Op.{Op}
use Rattle.lu_msg.specs.declared.operations.Op.TheVariants as op
use Rattle.lu_spec_machine.specs.declared.child.Child.{Child}
use Rattle.lu_spec_machine.specs.declared.child.Child.TheVariants.{Dir, File}
use Rattle.lu_spec_machine.specs.Name.{same_name}
use Rattle.lu_spec_machine.specs.Tree.{Tree, same_fid, fid_of, child, listing}
use Rattle.lu_spec_machine.specs.Change.{Leads, Drops, Parted, MakesDir, Leaves, change, changed}
use Rattle.lu_spec_machine.specs.Plan.{Outcome, outcome}
use Rattle.lu_spec_machine.specs.Table.{root, made_by, absent, there, last_of, row_lookup, row_mkdir, row_rmdir}
use Rattle.lu_spec_machine.specs.Footprint.{Operation, empty, grants, after}
use Rattle.lu_spec_machine.specs.Paths.{leads_to, at_path}
use Rattle.lu_spec_machine.proofs.Keys.{Told, name_tells}
use Rattle.lu_spec_machine.proofs.Effects.{name_after}
use Rattle.lu_spec_machine.proofs.Walks.{there_ends, absent_ends, if_empty_ends, to_last_ends}
use Rattle.lu_spec_machine.proofs.Paths.{steps_lead, walk_steps, last_steps}

-- Made: the paths that were made. All inodes have numbers up to the bound, which is at least that of the root.
pub record Named (Made : List (List ℕ) → Type 0) (bound : ℕ) (t : Tree) : Type 0 where
  pub made : (path : List (List ℕ)) (c : Child) → at_path t path ≡ Some c → (path ≡ []) ⊎ Made path
  pub one : (p q : List (List ℕ)) (d : Fid) → at_path t p ≡ Some (Dir d) → at_path t q ≡ Some (Dir d) → p ≡ q
  pub low : (d : Fid) (n : List ℕ) (c : Child) → child t d n ≡ Some c → (fid_of c).0 ≤ bound
  pub least : 1 ≤ bound

same_one : (a b : Fid) → same_fid a b ≡ true → a ≡ b
same_one a b e = ap (λ (n : ℕ). record { 0 = n }) (eqb-true a.0 b.0 e)

name_one : (a b : List ℕ) → same_name a b ≡ true → a ≡ b
name_one a b e = by (name_tells a b)
  where
    by : Told same_name a b → a ≡ b
    by (inl t) = t.1
    by (inr t) = let f = t.0 in absurd (cc)

-- what a path leads to has a number up to the bound
reach : (t : Tree) (bound : ℕ) → ((d : Fid) (n : List ℕ) (c : Child) → child t d n ≡ Some c → (fid_of c).0 ≤ bound)
    → (at : Child) (path : List (List ℕ)) (c : Child) → (fid_of at).0 ≤ bound → leads_to t at path ≡ Some c → (fid_of c).0 ≤ bound
reach t bound low at [] c le h = let same : at ≡ c = cc in subst (λ (v : Child). (fid_of v).0 ≤ bound) same le
reach t bound low (File f) (n ∷ ns) c le h = absurd (cc)
reach t bound low (Dir d) (n ∷ ns) c le h = by (child t d n) refl h (λ b is. reach t bound low b ns c (low d n b is))
  where
    by : (o : Option Child) → child t d n ≡ o → option_and_then (λ b. leads_to t b ns) o ≡ Some c
        → ((b : Child) → child t d n ≡ Some b → leads_to t b ns ≡ Some c → (fid_of c).0 ≤ bound) → (fid_of c).0 ≤ bound
    by None is g ih = absurd (cc)
    by (Some b) is g ih = ih b is g

-- ---- fewer names

-- where each name that leads somewhere led there before, so does each path
fewer : (t u : Tree) → ((d : Fid) (n : List ℕ) (c : Child) → child u d n ≡ Some c → child t d n ≡ Some c)
    → (at : Child) (path : List (List ℕ)) (c : Child) → leads_to u at path ≡ Some c → leads_to t at path ≡ Some c
fewer t u less at [] c h = h
fewer t u less (File f) (n ∷ ns) c h = absurd (cc)
fewer t u less (Dir d) (n ∷ ns) c h = by (child u d n) refl h (λ b. fewer t u less b ns c)
  where
    by : (o : Option Child) → child u d n ≡ o → option_and_then (λ b. leads_to u b ns) o ≡ Some c
        → ((b : Child) → leads_to u b ns ≡ Some c → leads_to t b ns ≡ Some c) → leads_to t (Dir d) (n ∷ ns) ≡ Some c
    by None is g ih = absurd (cc)
    by (Some b) is g ih = ap (option_and_then (λ b. leads_to t b ns)) (less d n b is) ∙ ih b g

named_fewer : (Made : List (List ℕ) → Type 0) (bound : ℕ) (t u : Tree)
    → ((d : Fid) (n : List ℕ) (c : Child) → child u d n ≡ Some c → child t d n ≡ Some c) → Named Made bound t → Named Made bound u
named_fewer Made bound t u less h =
    record {
      made = λ path c is. h.made path c (fewer t u less root path c is);
      one = λ p q d a b. h.one p q d (fewer t u less root p (Dir d) a) (fewer t u less root q (Dir d) b);
      low = λ d n c is. h.low d n c (less d n c is);
      least = h.least;
    }

-- ---- a directory more

module _ (t : Tree) (bound : ℕ) (low : (d : Fid) (n : List ℕ) (c : Child) → child t d n ≡ Some c → (fid_of c).0 ≤ bound) (d : Fid)
    (n : List ℕ) (f : Fid) (under : d.0 ≤ bound) (new : bound < f.0) where
  abbrev pub with_dir : Tree
  with_dir = changed t (MakesDir f ∷ Leads d n (Dir f) ∷ [])

  names : (e : Fid) (m : List ℕ) → child with_dir e m ≡ (if same_fid d e && same_name n m then Some (Dir f) else if same_fid f e then None
      else child t e m)
  names e m = name_after (change t (MakesDir f)) (Leads d n (Dir f)) e m
      ∙ ap (λ (o : Option Child). if same_fid d e && same_name n m then Some (Dir f) else o) (name_after t (MakesDir f) e m)

  -- it has no names yet
  without_names : (k : List ℕ) → child with_dir f k ≡ None
  without_names k = names f k ∙ by (same_fid d f) (same_fid f f) (grind (arith, nat_tests)) (grind (arith, nat_tests))
    where
      by : (v w : Bool) → v ≡ false → w ≡ true → (if v && same_name n k then Some (Dir f) else if w then None else child t f k) ≡ None
      by true w a b = absurd (cc)
      by false true a b = refl
      by false false a b = absurd (cc)

  -- a name leads there, or where it led
  abbrev Leads_on : Fid → List ℕ → Child → Type 0
  Leads_on e m c = ((d ≡ e) × (n ≡ m) × (c ≡ Dir f)) ⊎ (child t e m ≡ Some c)

  name_is : (e : Fid) (m : List ℕ) (c : Child) → child with_dir e m ≡ Some c → Leads_on e m c
  name_is e m c h = by (same_fid d e && same_name n m) refl (same_fid f e) (sym (names e m) ∙ h)
    where
      by : (v : Bool) → (same_fid d e && same_name n m) ≡ v → (w : Bool) → (if v then Some (Dir f) else if w then None else child t e m)
          ≡ Some c → Leads_on e m c
      by true is w g = let p = and_parts (same_fid d e) (same_name n m) is in let same : Dir f ≡ c = cc
          in inl (same_one d e p.0, name_one n m p.1, sym same)
      by false is true g = absurd (cc)
      by false is false g = inr g

  -- a path leads there by that name, or where it led
  abbrev Goes_on : Child → List (List ℕ) → Child → Type 0
  Goes_on at path c = (leads_to t at path ≡ Some c) ⊎ ((front : List (List ℕ)) × (path ≡ front ++ n ∷ [])
      × (leads_to t at front ≡ Some (Dir d)) × (c ≡ Dir f))

  goes : (at : Child) (path : List (List ℕ)) (c : Child) → leads_to with_dir at path ≡ Some c → Goes_on at path c
  goes at [] c h = inl h
  goes (File g) (m ∷ ms) c h = absurd (cc)
  goes (Dir e) (m ∷ ms) c h = by (child with_dir e m) refl h (λ b. goes b ms c)
    where
      made_here : (b : Child) → d ≡ e → n ≡ m → b ≡ Dir f → (ns : List (List ℕ)) → leads_to with_dir b ns ≡ Some c
          → Goes_on (Dir e) (m ∷ ns) c
      made_here b x y z [] g = let same : b ≡ c = cc in inr (
        [],
        ap (λ (k : List ℕ). k ∷ []) (sym y),
        ap (λ (k : Fid). Some (Dir k)) (sym x),
        sym same ∙ z,
      )
      made_here b x y z (k ∷ ks) g =
          let h : leads_to with_dir (Dir f) (k ∷ ks) ≡ Some c = subst (λ (v : Child). leads_to with_dir v (k ∷ ks) ≡ Some c) z g in
          let w : option_and_then (λ b. leads_to with_dir b ks) None ≡ Some c =
          subst (λ (o : Option Child). option_and_then (λ b. leads_to with_dir b ks) o ≡ Some c) (without_names k) h in
          absurd (cc)

      by : (o : Option Child) → child with_dir e m ≡ o → option_and_then (λ b. leads_to with_dir b ms) o ≡ Some c
          → ((b : Child) → leads_to with_dir b ms ≡ Some c → Goes_on b ms c) → Goes_on (Dir e) (m ∷ ms) c
      by None is g ih = absurd (cc)
      by (Some b) is g ih = ⊎_elim
          (λ (p : (d ≡ e) × (n ≡ m) × (b ≡ Dir f)). made_here b p.0 p.1 p.2 ms g)
          (λ (p : child t e m ≡ Some b). ⊎_elim
          (λ (q : leads_to t b ms ≡ Some c). inl (ap (option_and_then (λ b. leads_to t b ms)) p ∙ q))
          (λ (q : (front : List (List ℕ)) × (ms ≡ front ++ n ∷ []) × (leads_to t b front ≡ Some (Dir d)) × (c ≡ Dir f)). inr
          (m ∷ q.0, ap (λ (z : List (List ℕ)). m ∷ z) q.1, ap (option_and_then (λ b. leads_to t b q.0)) p ∙ q.2, q.3))
          (ih b g))
          (name_is e m b is)

  module _ (Made : List (List ℕ) → Type 0) (h : Named Made bound t) (front : List (List ℕ)) (leads : at_path t front ≡ Some (Dir d)) where
    abbrev pub More : List (List ℕ) → Type 0
    More path = Made path ⊎ (path ≡ front ++ n ∷ [])

    -- the new directory was nowhere
    nowhere : (path : List (List ℕ)) → at_path t path ≡ Some (Dir f) → ⊥
    nowhere path is = let le = reach t bound low root path (Dir f) h.least is in omega arith

    pub named_more : Named More f.0 with_dir
    named_more =
        record {
          made = λ path c is. ⊎_elim
              (λ (p : leads_to t root path ≡ Some c). ⊎_elim (λ (e : path ≡ []). inl e) (λ (m : Made path). inr (inl m)) (h.made path c p))
              (λ (p : (early : List (List ℕ)) × (path ≡ early ++ n ∷ []) × (leads_to t root early ≡ Some (Dir d)) × (c ≡ Dir f)). inr
              (inr (p.1 ∙ ap (λ (z : List (List ℕ)). z ++ n ∷ []) (h.one p.0 front d p.2 leads))))
              (goes root path c is);
          one = λ p q e a b. ⊎_elim
              (λ (x : leads_to t root p ≡ Some (Dir e)). ⊎_elim
              (λ (y : leads_to t root q ≡ Some (Dir e)). h.one p q e x y)
              (λ (y : (early : List (List ℕ)) × (q ≡ early ++ n ∷ []) × (leads_to t root early ≡ Some (Dir d)) × (Dir e ≡ Dir f)). absurd
              (nowhere p (x ∙ ap Some y.3)))
              (goes root q (Dir e) b))
              (λ (x : (early : List (List ℕ)) × (p ≡ early ++ n ∷ []) × (leads_to t root early ≡ Some (Dir d)) × (Dir e ≡ Dir f)). ⊎_elim
              (λ (y : leads_to t root q ≡ Some (Dir e)). absurd (nowhere q (y ∙ ap Some x.3)))
              (λ (y : (early : List (List ℕ)) × (q ≡ early ++ n ∷ []) × (leads_to t root early ≡ Some (Dir d)) × (Dir e ≡ Dir f)). x.1
              ∙ ap (λ (z : List (List ℕ)). z ++ n ∷ []) (h.one x.0 y.0 d x.2 y.2) ∙ sym y.1)
              (goes root q (Dir e) b))
              (goes root p (Dir e) a);
          low = λ e m c is. ⊎_elim
              (λ (x : (d ≡ e) × (n ≡ m) × (c ≡ Dir f)). let y : (fid_of c).0 ≡ f.0 = ap (λ (v : Child). (fid_of v).0) x.2 in omega arith)
              (λ (x : child t e m ≡ Some c). let le = low e m c x in omega arith)
              (name_is e m c is);
          least = let le = h.least in omega arith;
        }

-- ---- operations

-- more paths may be called made, and the bound may be greater
pub named_wide : (Made More : List (List ℕ) → Type 0) (bound wide : ℕ) (t : Tree) → ((path : List (List ℕ)) → Made path → More path)
    → bound ≤ wide → Named Made bound t → Named More wide t
named_wide Made More bound wide t more le h =
    record {
      made = λ path c is. ⊎_elim (λ (e : path ≡ []). inl e) (λ (m : Made path). inr (more path m)) (h.made path c is);
      one = h.one;
      low = λ d n c is. let k = h.low d n c is in omega arith;
      least = let k = h.least in omega arith;
    }

-- the operations that make and remove directories alone
abbrev pub IsOfDirectories : Op → Type 0
IsOfDirectories (op.Lookup path) = Unit {0}
IsOfDirectories (op.Mkdir path) = Unit {0}
IsOfDirectories (op.Rmdir path) = Unit {0}
IsOfDirectories _ = ⊥

abbrev pub Makes : Op → List (List ℕ) → Type 0
Makes (op.Mkdir made) path = path ≡ made
Makes _ path = ⊥

module _ (osts : ℕ) (t : Tree) (number : Txn) (who : Who) (Made : List (List ℕ) → Type 0) (bound : ℕ) (h : Named Made bound t)
    (new : bound < number.0) where
  abbrev act : Op → Operation
  act o = record { number = number; who = who; op = o }

  abbrev WithOp : Op → List (List ℕ) → Type 0
  WithOp o path = Made path ⊎ Makes o path

  abbrev Named_after : Op → Outcome → Type 0
  Named_after o r = Named (WithOp o) number.0 (changed t r.changes)

  stays : (o : Op) → Named (WithOp o) number.0 t
  stays o = named_wide Made (WithOp o) bound number.0 t (λ path m. inl m) (omega arith) h

  rmdir_names : (d : Fid) (n : List ℕ) (e : Fid) (x : Fid) (m : List ℕ) (c : Child)
      → child (changed t (Drops d n ∷ Parted e ∷ Leaves e ∷ [])) x m ≡ Some c → child t x m ≡ Some c
  rmdir_names d n e x m c is =
      let u = change t (Drops d n) in
      let k : child (changed t (Drops d n ∷ Parted e ∷ Leaves e ∷ [])) x m ≡ (if same_fid d x && same_name n m then None else child t x m) =
      name_after (change u (Parted e)) (Leaves e) x m ∙ name_after t (Drops d n) x m in
      cond_both (same_fid d x && same_name n m) None (child t x m) (λ o. o ≡ Some c → child t x m ≡ Some c) (λ v g. absurd (cc)) (λ v g. g)
      (sym k ∙ is)

  pub named_after : (o : Op) → IsOfDirectories o → Named (WithOp o) number.0 (after osts t (act o))
  named_after (op.Lookup path) three = walk_steps t (Named_after (op.Lookup path)) (λ e. stays (op.Lookup path)) root path
      (λ cs. row_lookup cs (last_of root cs)) (λ cs s. stays (op.Lookup path))
  named_after (op.Mkdir path) three =
      last_steps t (Named_after (op.Mkdir path)) (λ e. stays (op.Mkdir path)) EEXIST path (λ cs d n. absent (row_mkdir number d n))
      (λ front cs d n p s is. absent_ends t (Named_after (op.Mkdir path)) (λ e. stays (op.Mkdir path)) (row_mkdir number d n) (child t d n)
      (λ none. let leads : at_path t front ≡ Some (Dir d) = steps_lead t root front cs s ∙ ap Some is in
      let under : d.0 ≤ bound = reach t bound h.low root front (Dir d) h.least leads in
      let more = named_more t bound h.low d n (made_by number) under new Made h front leads in
      named_wide (λ q. Made q ⊎ (q ≡ front ++ n ∷ [])) (WithOp (op.Mkdir path)) number.0 number.0
      (with_dir t bound h.low d n (made_by number) under new)
      (λ q m. ⊎_elim (λ (a : Made q). inl a) (λ (a : q ≡ front ++ n ∷ []). inr (a ∙ sym p)) m) (omega arith) more))
  named_after (op.Rmdir path) three =
      last_steps t (Named_after (op.Rmdir path)) (λ e. stays (op.Rmdir path)) EBUSY path (λ cs d n. there (row_rmdir d n))
      (λ front cs d n p s is. there_ends t (Named_after (op.Rmdir path)) (λ e. stays (op.Rmdir path)) (row_rmdir d n) (child t d n)
      (λ c at. removed d n c))
    where
      removed : (d : Fid) (n : List ℕ) (c : Child) → Named_after (op.Rmdir path) (outcome t (row_rmdir d n c))
      removed d n (File f) = stays (op.Rmdir path)
      removed d n (Dir e) = if_empty_ends t (Named_after (op.Rmdir path)) (λ e. stays (op.Rmdir path)) (listing t e) _
          (λ _. named_fewer (WithOp (op.Rmdir path)) number.0 t _ (rmdir_names d n e) (stays (op.Rmdir path)))
  named_after _ three = absurd three

-- a look-up of a path that wasn't made is granted nothing
pub misses : (osts : ℕ) (t : Tree) (number : Txn) (who : Who) (Made : List (List ℕ) → Type 0) (bound : ℕ) → Named Made bound t
    → (path : List (List ℕ)) → (path ≡ [] → ⊥) → (Made path → ⊥)
    → grants osts t (record { number = number; who = who; op = op.Lookup path }) ≡ []
misses osts t number who Made bound h path some none =
    walk_steps t (λ (o : Outcome). o.grants ≡ []) (λ e. refl) root path (λ cs. row_lookup cs (last_of root cs))
    (λ cs s. ⊎_elim (λ (e : path ≡ []). absurd (some e)) (λ (m : Made path). absurd (none m))
    (h.made path (last_of root cs) (steps_lead t root path cs s)))

-- nor is what makes or removes one
pub grants_none : (osts : ℕ) (t : Tree) (number : Txn) (who : Who) (o : Op) → ((path : List (List ℕ)) → o ≡ op.Lookup path → ⊥)
    → IsOfDirectories o → grants osts t (record { number = number; who = who; op = o }) ≡ []
grants_none osts t number who (op.Lookup path) n three = absurd (n path refl)
grants_none osts t number who (op.Mkdir path) n three =
    to_last_ends t (λ (o : Outcome). o.grants ≡ []) (λ e. refl) EEXIST path (λ cs d n. absent (row_mkdir number d n))
    (λ cs d n. absent_ends t (λ (o : Outcome). o.grants ≡ []) (λ e. refl) (row_mkdir number d n) (child t d n) (λ _. refl))
grants_none osts t number who (op.Rmdir path) n three =
    to_last_ends t (λ (o : Outcome). o.grants ≡ []) (λ e. refl) EBUSY path (λ cs d n. there (row_rmdir d n))
    (λ cs d n. there_ends t (λ (o : Outcome). o.grants ≡ []) (λ e. refl) (row_rmdir d n) (child t d n) (λ c is. removed d n c))
  where
    removed : (d : Fid) (n : List ℕ) (c : Child) → (outcome t (row_rmdir d n c)).grants ≡ []
    removed d n (File f) = refl
    removed d n (Dir e) = if_empty_ends t (λ (o : Outcome). o.grants ≡ []) (λ e. refl) (listing t e) _ (λ _. refl)
grants_none osts t number who _ n three = absurd three

-- the tree of a new file system has no names
pub named_empty : (Made : List (List ℕ) → Type 0) (bound : ℕ) → 1 ≤ bound → Named Made bound empty
named_empty Made bound le =
    record {
      made = λ path c is. inl (only_root path c is);
      one = λ p q d a b. only_root p (Dir d) a ∙ sym (only_root q (Dir d) b);
      low = λ d n c is. absurd (none d n c is);
      least = le;
    }
  where
    none : (d : Fid) (n : List ℕ) (c : Child) → child empty d n ≡ Some c → ⊥
    none d n c is = by (same_fid d (record { 0 = 1 })) refl is
      where
        by : (v : Bool) → same_fid d (record { 0 = 1 }) ≡ v → child empty d n ≡ Some c → ⊥
        by true e g = grind (arith, nat_tests)
        by false e g = grind (arith, nat_tests)

    only_root : (path : List (List ℕ)) (c : Child) → at_path empty path ≡ Some c → path ≡ []
    only_root [] c is = refl
    only_root (n ∷ ns) c is = by (child empty (fid_of root) n) refl is
      where
        by : (o : Option Child) → child empty (fid_of root) n ≡ o → option_and_then (λ b. leads_to empty b ns) o ≡ Some c → n ∷ ns ≡ []
        by None e g = absurd (cc)
        by (Some b) e g = absurd (none (fid_of root) n b e)
