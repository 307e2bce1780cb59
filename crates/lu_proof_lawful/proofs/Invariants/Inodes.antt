-- No inode is a directory by one name and a file by another, and no two paths lead to one directory: so the inodes on a path
-- are all different, and a reading is granted at most one lock on each.
use Rattle.std.proofs.Common.{◌≡◌, ℕ, zero, suc, ◌+◌, ◌<◌, ◌≤◌, Bool, true, false, List, [], ◌∷◌, ◌++◌, ◌⊎◌, inl, inr, Option, Some, None}
use Rattle.std.proofs.Common.{refl, sym, ap, subst, ◌∙◌, arith}
use Rattle.std.specs.Option.{option_and_then}
use Rattle.std.proofs.lemmas.Bool.{cond_both}
use Rattle.std.proofs.lemmas.Bool.Decides.{nat_tests}
use Rattle.std.proofs.lemmas.List.{append_cancel_left}
use Rattle.lu_base.specs.declared.ids.Fid.{Fid}
use Rattle.lu_base.specs.declared.ids.Txn.{Txn}
use Rattle.lu_base.specs.declared.ids.Who.{Who}
use Rattle.lu_msg.specs.declared.operations.Op.{Op}
use Rattle.lu_msg.specs.declared.operations.Op.TheVariants as op
use Rattle.lu_part.specs.declared.bits.TheConstants.{UPDATE, LAYOUT}
use Rattle.lu_part.specs.declared.parts.Want.{Want}
use Rattle.lu_spec_machine.specs.declared.child.Child.{Child}
use Rattle.lu_spec_machine.specs.declared.child.Child.TheVariants.{Dir, File}
use Rattle.lu_spec_machine.specs.Tree.{Tree, same_fid, fid_of, child}
use Rattle.lu_spec_machine.specs.Change.{Change, Leads, Drops, MakesDir, change, changed}
use Rattle.lu_spec_machine.specs.Plan.{Outcome, outcome}
use Rattle.lu_spec_machine.specs.Table.{root, made_by, last_of, wants, row_lookup, row_stat, row_list, row_layout, plan}
use Rattle.lu_spec_machine.specs.Footprint.{Operation, Every, empty, grants, after}
use Rattle.lu_spec_machine.specs.Laws.{IsReading}
use Rattle.lu_spec_machine.specs.Paths.{leads_to, at_path}
use Rattle.lu_spec_machine.proofs.Effects.{name_after}
use Rattle.lu_spec_machine.proofs.Leads.{here}
use Rattle.lu_spec_machine.proofs.Outcomes.{Comes, refused, learns, mkdir, create, link, unlink, rmdir, move, replace_dir, replace_file}
use Rattle.lu_spec_machine.proofs.Outcomes.{chmod, opens, closes, plan_comes}
use Rattle.lu_spec_machine.proofs.Paths.{Steps, walk_steps}
use Rattle.lu_spec_machine.proofs.Walks.{IsNamed}
use Rattle.lu_proof_lawful.specs.Covered.Makes.{Path}
use Rattle.lu_proof_lawful.proofs.Preconditions.Guards.{In}
use Rattle.lu_proof_lawful.proofs.Invariants.OnNames.{IsOnNames}
use Rattle.lu_proof_lawful.proofs.Invariants.Readings.{changing_free}
use Rattle.lu_proof_lawful.proofs.Invariants.Ways.{goes_on}

-- ---- directories and files

abbrev pub Kinds : Tree → Type 0
Kinds t = (d e : Fid) (n m : List ℕ) (x : Fid) → child t d n ≡ Some (Dir x) → child t e m ≡ Some (File x) → ⊥

pub kinds_empty : Kinds empty
kinds_empty d e n m x a b = by (same_fid d (record { 0 = 1 })) refl a
  where
    by : (v : Bool) → same_fid d (record { 0 = 1 }) ≡ v → child empty d n ≡ Some (Dir x) → ⊥
    by true q g = grind (arith, nat_tests)
    by false q g = grind (arith, nat_tests)

module _ (t : Tree) (new : Child) where
  -- each name of the other tree leads to what some name led to in this one, or to the new inode
  abbrev Sourced : Tree → Type 0
  Sourced u = (d : Fid) (n : List ℕ) (c : Child) → child u d n ≡ Some c → IsNamed t c ⊎ (c ≡ new)

  abbrev Fine : Change → Type 0
  Fine (Leads d n c) = IsNamed t c ⊎ (c ≡ new)
  Fine _ = Unit {0}

  sourced_more : (u : Tree) (x : Change) → Fine x → Sourced u → Sourced (change u x)
  sourced_more u (Leads d n b) f h e m c is = cond_both (here d n e m) (Some b) (child u e m)
      (λ (o : Option Child). o ≡ Some c → IsNamed t c ⊎ (c ≡ new))
      (λ v g. let same : b ≡ c = cc in subst (λ (k : Child). IsNamed t k ⊎ (k ≡ new)) same f)
      (λ v g. h e m c g)
      (sym (name_after u (Leads d n b) e m) ∙ is)
  sourced_more u (Drops d n) f h e m c is = cond_both (here d n e m) None (child u e m)
      (λ (o : Option Child). o ≡ Some c → IsNamed t c ⊎ (c ≡ new)) (λ v g. absurd (cc)) (λ v g. h e m c g)
      (sym (name_after u (Drops d n) e m) ∙ is)
  sourced_more u (MakesDir d) f h e m c is = cond_both (same_fid d e) None (child u e m)
      (λ (o : Option Child). o ≡ Some c → IsNamed t c ⊎ (c ≡ new)) (λ v g. absurd (cc)) (λ v g. h e m c g)
      (sym (name_after u (MakesDir d) e m) ∙ is)
  sourced_more u x f h e m c is = h e m c (sym (name_after u x e m) ∙ is)

  all_sourced : (u : Tree) (xs : List Change) → Every Fine xs → Sourced u → Sourced (changed u xs)
  all_sourced u [] f h = h
  all_sourced u (x ∷ xs) f h = all_sourced (change u x) xs f.1 (sourced_more u x f.0 h)

  kinds_from : (u : Tree) (bound : ℕ) → ((d : Fid) (n : List ℕ) (c : Child) → child t d n ≡ Some c → (fid_of c).0 ≤ bound)
      → bound < (fid_of new).0 → Sourced u → Kinds t → Kinds u
  kinds_from u bound low lt s k d e n m x a b = by (s d n (Dir x) a) (s e m (File x) b)
    where
      is_new : (c : Child) → IsNamed t c → (fid_of c).0 ≡ (fid_of new).0 → ⊥
      is_new c i q = let le = low i.0 i.1.0 c i.1.1 in omega (arith, le, q, lt)

      by : IsNamed t (Dir x) ⊎ (Dir x ≡ new) → IsNamed t (File x) ⊎ (File x ≡ new) → ⊥
      by (inl i) (inl j) = k i.0 j.0 i.1.0 j.1.0 x i.1.1 j.1.1
      by (inl i) (inr q) = is_new (Dir x) i (ap (λ (c : Child). (fid_of c).0) q)
      by (inr p) (inl j) = is_new (File x) j (ap (λ (c : Child). (fid_of c).0) p)
      by (inr p) (inr q) = cc

module _ (t : Tree) (number : Txn) (who : Who) where
  -- what an act comes to makes at most one inode, under its number
  abbrev IsFine : List Change → Type 0
  IsFine xs = (new : Child) × (fid_of new ≡ made_by number) × Every (Fine t new) xs

  abbrev no_new : Child
  no_new = Dir (made_by number)

  fine : (o : Outcome) → Comes t number who o → IsFine o.changes
  fine _ (refused e) = (no_new, refl, tt)
  fine _ (learns answer locks is) = (no_new, refl, tt)
  fine _ (mkdir d n free) = (Dir (made_by number), refl, (tt, (inr refl, tt)))
  fine _ (create d n l free) = (File (made_by number), refl, (tt, (inr refl, tt)))
  fine _ (link d n f free named) = (no_new, refl, (inl named, (tt, tt)))
  fine _ (unlink d n f is) = (no_new, refl, (tt, (tt, (tt, tt))))
  fine _ (rmdir d n e is none) = (no_new, refl, (tt, (tt, (tt, tt))))
  fine _ (move d n c e m is free) = (no_new, refl, (tt, (inl (d, (n, is)), (tt, tt))))
  fine _ (replace_dir d n f e m g is at ne none) = (no_new, refl, (tt, (inl (d, (n, is)), (tt, (tt, (tt, tt))))))
  fine _ (replace_file d n f e m g is at ne) = (no_new, refl, (tt, (inl (d, (n, is)), (tt, (tt, (tt, tt))))))
  fine _ (chmod c mode r) = (no_new, refl, (tt, tt))
  fine _ (opens f named) = (no_new, refl, (tt, tt))
  fine _ (closes opened) = (no_new, refl, (tt, tt))

pub kinds_after : (osts : ℕ) (t : Tree) (a : Operation) (bound : ℕ)
    → ((d : Fid) (n : List ℕ) (c : Child) → child t d n ≡ Some c → (fid_of c).0 ≤ bound) → bound < a.number.0 → Kinds t
    → Kinds (after osts t a)
kinds_after osts t a bound low lt k =
    let o = outcome t (plan osts a.number a.who a.op) in
    let f = fine t a.number a.who o (plan_comes t a.number a.who osts a.op) in
    let above : bound < (fid_of f.0).0 = subst (λ (x : Fid). bound < x.0) (sym f.1) lt in
    kinds_from t f.0 (changed t o.changes) bound low above (all_sourced t f.0 t o.changes f.2 (λ d n c is. inl (d, (n, is)))) k

-- ---- the inodes on a path

abbrev pub Different : List Child → Type 0
Different [] = Unit {0}
Different (c ∷ cs) = ((b : Child) → In b cs → (fid_of b).0 ≡ (fid_of c).0 → ⊥) × Different cs

-- each has a name, and a path with some name in it leads there
below : (t : Tree) (at : Child) (ns : Path) (cs : List Child) → Steps t at ns cs → (b : Child) → In b cs → (m : List ℕ) × (rest : Path)
    × (leads_to t at (m ∷ rest) ≡ Some b) × IsNamed t b
below t at [] [] s b i = absurd i
below t at [] (c ∷ cs) s b i = absurd s
below t (File f) (n ∷ ns) cs s b i = absurd s
below t (Dir d) (n ∷ ns) [] s b i = absurd s
below t (Dir d) (n ∷ ns) (c ∷ cs) s b (inl e) =
    let is : child t d n ≡ Some b = s.0 ∙ ap (λ (v : Child). Some v) e in
    (n, [], ap (option_and_then (λ (x : Child). leads_to t x [])) is, (d, (n, is)))
below t (Dir d) (n ∷ ns) (c ∷ cs) s b (inr i) =
    let r = below t c ns cs s.1 b i in
    (n, r.0 ∷ r.1, ap (option_and_then (λ (x : Child). leads_to t x (r.0 ∷ r.1))) s.0 ∙ r.2, r.3)

module _ (t : Tree) (one : (p q : Path) (d : Fid) → at_path t p ≡ Some (Dir d) → at_path t q ≡ Some (Dir d) → p ≡ q) (kinds : Kinds t) where
  -- what a name leads to isn't what a path goes on to from there
  other : (front : Path) (d : Fid) (n : List ℕ) (c : Child) → at_path t front ≡ Some (Dir d) → child t d n ≡ Some c
      → (m : List ℕ) (rest : Path) (b : Child) → leads_to t c (m ∷ rest) ≡ Some b → IsNamed t b → (fid_of b).0 ≡ (fid_of c).0 → ⊥
  other front d n (File f) leads is m rest b on named q = absurd (cc)
  other front d n (Dir x) leads is m rest (File y) on named q =
      let same : y ≡ x = ap (λ (k : ℕ). record { 0 = k }) q in
      kinds d named.0 n named.1.0 x is (subst (λ (f : Fid). child t named.0 named.1.0 ≡ Some (File f)) same named.1.1)
  other front d n (Dir x) leads is m rest (Dir y) on named q =
      let same : y ≡ x = ap (λ (k : ℕ). record { 0 = k }) q in
      let here : at_path t (front ++ n ∷ []) ≡ Some (Dir x) = goes_on t root front (n ∷ []) (Dir d) (Dir x) leads
      (ap (option_and_then (λ (v : Child). Some v)) is) in
      let there : at_path t ((front ++ n ∷ []) ++ m ∷ rest) ≡ Some (Dir x) =
      subst (λ (f : Fid). at_path t ((front ++ n ∷ []) ++ m ∷ rest) ≡ Some (Dir f)) same
      (goes_on t root (front ++ n ∷ []) (m ∷ rest) (Dir x) (Dir y) here on) in
      longer (front ++ n ∷ []) m rest (one ((front ++ n ∷ []) ++ m ∷ rest) (front ++ n ∷ []) x there here)
    where
      ends : (p : Path) → p ++ [] ≡ p
      ends [] = refl
      ends (k ∷ p) = ap (λ (z : Path). k ∷ z) (ends p)

      longer : (p : Path) (m : List ℕ) (rest : Path) → p ++ m ∷ rest ≡ p → ⊥
      longer p m rest e = let none = append_cancel_left p (m ∷ rest) [] (e ∙ sym (ends p)) in absurd (cc)

  pub steps_differ : (front : Path) (at : Child) (ns : Path) (cs : List Child) → at_path t front ≡ Some at → Steps t at ns cs → Different cs
  steps_differ front at [] [] leads s = tt
  steps_differ front at [] (c ∷ cs) leads s = absurd s
  steps_differ front (File f) (n ∷ ns) cs leads s = absurd s
  steps_differ front (Dir d) (n ∷ ns) [] leads s = absurd s
  steps_differ front (Dir d) (n ∷ ns) (c ∷ cs) leads s = (
    λ b i q. let r = below t c ns cs s.1 b i in other front d n c leads s.0 r.0 r.1 b r.2 r.3 q,
    steps_differ (front ++ n ∷ []) c ns cs (goes_on t root front (n ∷ []) (Dir d) c leads
        (ap (option_and_then (λ (v : Child). Some v)) s.0)) s.1,
  )

-- ---- what is granted

abbrev pub EachOnce : List Want → Type 0
EachOnce [] = Unit {0}
EachOnce (w ∷ ws) = ((v : Want) → In v ws → v.fid.0 ≡ w.fid.0 → ⊥) × EachOnce ws

wants_of : (more : ℕ) (c : Child) (cs : List Child) (v : Want) → In v (wants more (c ∷ cs)) → (b : Child) × In b (c ∷ cs)
    × (v.fid ≡ fid_of b)
wants_of more c [] v (inl e) = (c, inl refl, ap (λ (w : Want). w.fid) (sym e))
wants_of more c [] v (inr i) = absurd i
wants_of more c (d ∷ cs) v (inl e) = (c, inl refl, ap (λ (w : Want). w.fid) (sym e))
wants_of more c (d ∷ cs) v (inr i) = let r = wants_of more d cs v i in (r.0, inr r.1, r.2)

wants_once : (more : ℕ) (cs : List Child) → Different cs → EachOnce (wants more cs)
wants_once zero [] h = tt
wants_once (suc more) [] h = (λ v i. absurd i, tt)
wants_once more (c ∷ []) h = (λ v i. absurd i, tt)
wants_once more (c ∷ d ∷ cs) h = (
  λ v i q. let r = wants_of more d cs v i in h.0 r.0 r.1 (ap (λ (f : Fid). f.0) (sym r.2) ∙ q),
  wants_once more (d ∷ cs) h.1,
)

module _ (osts : ℕ) (t : Tree) (number : Txn) (who : Who) (one : (p q : Path) (d : Fid) → at_path t p ≡ Some (Dir d) → at_path t q
    ≡ Some (Dir d) → p ≡ q) (kinds : Kinds t) where
  abbrev act : Op → Operation
  act o = record { number = number; who = who; op = o }

  abbrev Once : Outcome → Type 0
  Once o = EachOnce o.grants

  stat_once : (cs : List Child) (c : Child) → Different cs → Once (outcome t (row_stat cs c))
  stat_once cs (Dir d) h = wants_once UPDATE cs h
  stat_once cs (File f) h = wants_once (UPDATE + LAYOUT) cs h

  list_once : (cs : List Child) (c : Child) → Different cs → Once (outcome t (row_list cs c))
  list_once cs (Dir d) h = wants_once UPDATE cs h
  list_once cs (File f) h = tt

  layout_once : (cs : List Child) (c : Child) → Different cs → Once (outcome t (row_layout cs c))
  layout_once cs (Dir d) h = tt
  layout_once cs (File f) h = wants_once LAYOUT cs h

  on_path : (path : Path) (cs : List Child) → Steps t root path cs → Different cs
  on_path path cs s = steps_differ t one kinds [] root path cs refl s

  none : (ws : List Want) → ws ≡ [] → EachOnce ws
  none [] e = tt
  none (w ∷ ws) e = absurd (cc)

  changing_once : (o : Op) → IsOnNames o → (IsReading o → ⊥) → EachOnce (grants osts t (act o))
  changing_once o is changes = none (grants osts t (act o)) (changing_free osts t number who o is changes)

  pub grants_once : (o : Op) → IsOnNames o → EachOnce (grants osts t (act o))
  grants_once (op.Lookup path) is = walk_steps t Once (λ e. tt) root path (λ cs. row_lookup cs (last_of root cs))
      (λ cs s. wants_once 0 cs (on_path path cs s))
  grants_once (op.Stat path) is = walk_steps t Once (λ e. tt) root path (λ cs. row_stat cs (last_of root cs))
      (λ cs s. stat_once cs (last_of root cs) (on_path path cs s))
  grants_once (op.List path) is = walk_steps t Once (λ e. tt) root path (λ cs. row_list cs (last_of root cs))
      (λ cs s. list_once cs (last_of root cs) (on_path path cs s))
  grants_once (op.Layout path) is = walk_steps t Once (λ e. tt) root path (λ cs. row_layout cs (last_of root cs))
      (λ cs s. layout_once cs (last_of root cs) (on_path path cs s))
  grants_once (op.Mkdir path) is = changing_once (op.Mkdir path) is (λ r. r)
  grants_once (op.Create path size count) is = changing_once (op.Create path size count) is (λ r. r)
  grants_once (op.Link old new) is = changing_once (op.Link old new) is (λ r. r)
  grants_once (op.Unlink path) is = changing_once (op.Unlink path) is (λ r. r)
  grants_once (op.Rmdir path) is = changing_once (op.Rmdir path) is (λ r. r)
  grants_once (op.Rename old new) is = changing_once (op.Rename old new) is (λ r. r)
  grants_once (op.Chmod path mode) is = changing_once (op.Chmod path mode) is (λ r. r)
  grants_once (op.Open path) is = changing_once (op.Open path) is (λ r. r)
  grants_once (op.Close opened fid) is = changing_once (op.Close opened fid) is (λ r. r)
  grants_once _ is = absurd is
