-- Each operation on names keeps that each path which leads somewhere was made, and that no two lead to one directory.
use Rattle.std.proofs.Common.{◌≡◌, ℕ, ℤ, ◌+◌, ◌-◌, ◌<◌, ◌≤◌, Bool, true, false, List, [], ◌∷◌, ◌++◌, ◌⊎◌, inl, inr, ⊎_elim, Option, Some}
use Rattle.std.proofs.Common.{None, refl, sym, ap, subst, ◌∙◌, arith}
use Rattle.std.specs.Prelude.{◌==◌, ◌||◌, if◌then◌else◌}
use Rattle.std.specs.Option.{option_and_then}
use Rattle.std.proofs.lemmas.Bool.{cond_both}
use Rattle.std.proofs.lemmas.List.{append_assoc, append_cancel_left}
use Rattle.lu_base.specs.declared.ids.Fid.{Fid}
use Rattle.lu_base.specs.declared.ids.Txn.{Txn}
use Rattle.lu_base.specs.declared.ids.Who.{Who}
use Rattle.lu_layout.specs.Raid0.{Raid0}
use Rattle.lu_msg.specs.declared.answers.Answer.TheVariants as told
use Rattle.lu_msg.specs.declared.answers.Errno.{Errno}
use Rattle.lu_msg.specs.declared.answers.Errno.TheVariants.{EEXIST, EISDIR, ENOTDIR, EINVAL, EBUSY}
use Rattle.lu_msg.specs.declared.operations.Op.{Op}
use Rattle.lu_msg.specs.declared.operations.Op.TheVariants as op
use Rattle.lu_spec_machine.specs.declared.child.Child.{Child}
use Rattle.lu_spec_machine.specs.declared.child.Child.TheVariants.{Dir, File}
use Rattle.lu_spec_machine.specs.Tree.{Tree, same_fid, fid_of, child, listing, attributes}
use Rattle.lu_spec_machine.specs.Change.{Leads, Drops, Parted, MakesDir, MakesFile, SetMode, SetLinks, Leaves, Opens, Closes, change}
use Rattle.lu_spec_machine.specs.Change.{changed}
use Rattle.lu_spec_machine.specs.Striping.{new_layout}
use Rattle.lu_spec_machine.specs.Plan.{Refuse, LookAttr, Outcome, outcome}
use Rattle.lu_spec_machine.specs.Table.{root, made_by, absent, there, walk, walk_up, to_last, last_of, tells, does, row_lookup, row_stat}
use Rattle.lu_spec_machine.specs.Table.{row_list, row_layout, row_mkdir, row_create, row_link, row_unlink, row_rmdir, passes, moves}
use Rattle.lu_spec_machine.specs.Table.{row_replace, row_rename, rename, row_chmod, row_open}
use Rattle.lu_spec_machine.specs.Footprint.{Operation, after}
use Rattle.lu_spec_machine.specs.Paths.{leads_to, at_path}
use Rattle.lu_spec_machine.proofs.Keys.{fid_tells, name_tells}
use Rattle.lu_spec_machine.proofs.Effects.{name_after}
use Rattle.lu_spec_machine.proofs.Leads.{here, at_same}
use Rattle.lu_spec_machine.proofs.Made.{Named, named_wide}
use Rattle.lu_spec_machine.proofs.Walks.{there_ends, absent_ends, if_empty_ends}
use Rattle.lu_spec_machine.proofs.Paths.{Steps, steps_lead, walk_steps, last_steps}
use Rattle.lu_proof_lawful.specs.Covered.Makes.{Path}
use Rattle.lu_proof_lawful.proofs.Invariants.OnNames.{IsOnNames}
use Rattle.lu_proof_lawful.proofs.Invariants.Ways.{goes_on, comes_by, one_name, leads_still, IsOneMore, leads_by}
use Rattle.lu_proof_lawful.proofs.Invariants.Grafts.{named_fewer, IsNew, IsBy, named_graft}

-- ---- names after a change

-- the name leads there, and else each name where it led
led_more : (t : Tree) (d : Fid) (n : List ℕ) (b : Child) → IsOneMore t (change t (Leads d n b)) d n b
led_more t d n b e m c h = by (here d n e m) refl (sym (name_after t (Leads d n b) e m) ∙ h)
  where
    by : (v : Bool) → here d n e m ≡ v → (if v then Some b else child t e m) ≡ Some c → ((d ≡ e) × (n ≡ m) × (c ≡ b))
        ⊎ (child t e m ≡ Some c)
    by true is g = let p = at_same d n e m is in let same : b ≡ c = cc in inl (p.0, p.1, sym same)
    by false is g = inr g

dropped : (t : Tree) (d : Fid) (n : List ℕ) (e : Fid) (m : List ℕ) (c : Child) → child (change t (Drops d n)) e m ≡ Some c → child t e m
    ≡ Some c
dropped t d n e m c h = cond_both (here d n e m) None (child t e m) (λ o. o ≡ Some c → child t e m ≡ Some c) (λ v g. absurd (cc)) (λ v g. g)
    (sym (name_after t (Drops d n) e m) ∙ h)

itself : (d : Fid) (n : List ℕ) → here d n d n ≡ true
itself d n = let f = fid_tells d d in let g = name_tells n n in grind (arith, f, g)

-- it leads nowhere
dropped_none : (t : Tree) (d : Fid) (n : List ℕ) (c : Child) → child (change t (Drops d n)) d n ≡ Some c → ⊥
dropped_none t d n c h = by (here d n d n) (itself d n) (sym (name_after t (Drops d n) d n) ∙ h)
  where
    by : (v : Bool) → v ≡ true → (if v then None else child t d n) ≡ Some c → ⊥
    by true e g = absurd (cc)
    by false e g = absurd (cc)

-- so the tree before has that one name more
was_more : (t : Tree) (d : Fid) (n : List ℕ) (b : Child) → child t d n ≡ Some b → IsOneMore (change t (Drops d n)) t d n b
was_more t d n b is e m c h = by (here d n e m) refl
  where
    by : (v : Bool) → here d n e m ≡ v → ((d ≡ e) × (n ≡ m) × (c ≡ b)) ⊎ (child (change t (Drops d n)) e m ≡ Some c)
    by true at = let p = at_same d n e m at in let same : child t d n ≡ Some c = rw (p.0, p.1) h in let one : b ≡ c = cc
        in inl (p.0, p.1, sym one)
    by false at = inr (name_after t (Drops d n) e m ∙ ap (λ (v : Bool). if v then None else child t e m) at ∙ h)

own_fid : (f : Fid) → same_fid f f ≡ true
own_fid f = let e = fid_tells f f in grind (arith, e)

-- what a path leads to has a number up to the bound
reach : (t : Tree) (bound : ℕ) → ((d : Fid) (n : List ℕ) (c : Child) → child t d n ≡ Some c → (fid_of c).0 ≤ bound)
    → (at : Child) (path : Path) (c : Child) → (fid_of at).0 ≤ bound → leads_to t at path ≡ Some c → (fid_of c).0 ≤ bound
reach t bound low at [] c le h = let same : at ≡ c = cc in subst (λ (v : Child). (fid_of v).0 ≤ bound) same le
reach t bound low (File f) (n ∷ ns) c le h = absurd (cc)
reach t bound low (Dir d) (n ∷ ns) c le h = by (child t d n) refl h (λ b is. reach t bound low b ns c (low d n b is))
  where
    by : (o : Option Child) → child t d n ≡ o → option_and_then (λ b. leads_to t b ns) o ≡ Some c
        → ((b : Child) → child t d n ≡ Some b → leads_to t b ns ≡ Some c → (fid_of c).0 ≤ bound) → (fid_of c).0 ≤ bound
    by None is g more = absurd (cc)
    by (Some b) is g more = more b is g

-- ---- what is new where a name leads to it

-- no path leads through a file
file_new : (t u : Tree) (d : Fid) (n : List ℕ) (f : Fid) (more : IsOneMore t u d n (File f)) → IsNew t u d n (File f) more
file_new t u d n f more = record { single = λ p q x a b. absurd (none p x a); alone = λ p q x a b. none q x b }
  where
    none : (p : Path) (x : Fid) → leads_to u (File f) p ≡ Some (Dir x) → ⊥
    none [] x h = absurd (cc)
    none (m ∷ p) x h = absurd (cc)

file_ends : (u : Tree) (f : Fid) (rest : Path) (c : Child) → leads_to u (File f) rest ≡ Some c → rest ≡ []
file_ends u f [] c h = refl
file_ends u f (m ∷ rest) c h = absurd (cc)

-- ---- operations

-- the paths that may lead somewhere once it is done
abbrev pub Makes : Op → Path → Type 0
Makes (op.Mkdir made) path = path ≡ made
Makes (op.Create made size count) path = path ≡ made
Makes (op.Link old new) path = path ≡ new
Makes (op.Rename old new) path = (rest : Path) × (path ≡ new ++ rest)
Makes _ path = ⊥

module _ (osts : ℕ) (t : Tree) (number : Txn) (who : Who) (Made : Path → Type 0) (bound : ℕ) (h : Named Made bound t)
    (new : bound < number.0) where
  abbrev act : Op → Operation
  act o = record { number = number; who = who; op = o }

  abbrev WithOp : Op → Path → Type 0
  WithOp o path = Made path ⊎ Makes o path

  abbrev So : Op → Tree → Type 0
  So o u = Named (WithOp o) number.0 u

  abbrev After : Op → Outcome → Type 0
  After o r = So o (changed t r.changes)

  stays : (o : Op) → So o t
  stays o = named_wide Made (WithOp o) bound number.0 t (λ path m. inl m) (omega arith) h

  -- with fewer names than a tree that is so
  fewer_so : (o : Op) (v u : Tree) → ((d : Fid) (n : List ℕ) (c : Child) → child u d n ≡ Some c → child v d n ≡ Some c) → So o v → So o u
  fewer_so o v u fewer k = named_fewer (WithOp o) number.0 v u fewer k

  less : (o : Op) (u : Tree) → ((d : Fid) (n : List ℕ) (c : Child) → child u d n ≡ Some c → child t d n ≡ Some c) → So o u
  less o u fewer = fewer_so o t u fewer (stays o)

  -- ---- mkdir

  module _ (d : Fid) (n : List ℕ) (under : d.0 ≤ bound) where
    abbrev f : Fid
    f = made_by number

    abbrev with_dir : Tree
    with_dir = changed t (MakesDir f ∷ Leads d n (Dir f) ∷ [])

    -- it has no names yet
    no_names : (m : List ℕ) (c : Child) → child with_dir f m ≡ Some c → ⊥
    no_names m c k = ⊎_elim
        (λ (p : (d ≡ f) × (n ≡ m) × (c ≡ Dir f)). let same : d.0 ≡ number.0 = ap (λ (x : Fid). x.0) p.0
        in absurd (omega (arith, same, under, new)))
        (λ (p : child (change t (MakesDir f)) f m ≡ Some c). by (same_fid f f) (own_fid f) (sym (name_after t (MakesDir f) f m) ∙ p))
        (led_more (change t (MakesDir f)) d n (Dir f) f m c k)
      where
        by : (v : Bool) → v ≡ true → (if v then None else child t f m) ≡ Some c → ⊥
        by true e g = absurd (cc)
        by false e g = absurd (cc)

    dir_more : IsOneMore t with_dir d n (Dir f)
    dir_more e m c k = ⊎_elim
        (λ (p : (d ≡ e) × (n ≡ m) × (c ≡ Dir f)). inl p)
        (λ (p : child (change t (MakesDir f)) e m ≡ Some c). inr
        (cond_both (same_fid f e) None (child t e m) (λ o. o ≡ Some c → child t e m ≡ Some c) (λ v g. absurd (cc)) (λ v g. g)
        (sym (name_after t (MakesDir f) e m) ∙ p)))
        (led_more (change t (MakesDir f)) d n (Dir f) e m c k)

    dir_ends : (rest : Path) (c : Child) → leads_to with_dir (Dir f) rest ≡ Some c → rest ≡ []
    dir_ends [] c k = refl
    dir_ends (m ∷ rest) c k = by (child with_dir f m) refl k
      where
        by : (o : Option Child) → child with_dir f m ≡ o → option_and_then (λ x. leads_to with_dir x rest) o ≡ Some c → m ∷ rest ≡ []
        by None is g = absurd (cc)
        by (Some x) is g = absurd (no_names m x is)

    dir_new : IsNew t with_dir d n (Dir f) dir_more
    dir_new =
        record {
          single = λ p q x a b. dir_ends p (Dir x) a ∙ sym (dir_ends q (Dir x) b);
          alone = λ p q x a b. nowhere p x a (subst (λ (z : Path). leads_to with_dir (Dir f) z ≡ Some (Dir x)) (dir_ends q (Dir x) b) b);
        }
      where
        nowhere : (p : Path) (x : Fid) → at_path t p ≡ Some (Dir x) → Some (Dir f) ≡ Some (Dir x) → ⊥
        nowhere p x a b = let le = reach t bound h.low root p (Dir x) h.least a in let same : f ≡ x = cc in let k : number.0 ≡ x.0 =
            ap (λ (y : Fid). y.0) same in absurd (omega (arith, le, k, new))

  mkdir_named : (path : Path) → After (op.Mkdir path) (outcome t (to_last EEXIST path (λ cs d n. absent (row_mkdir number d n))))
  mkdir_named path =
      last_steps t (After (op.Mkdir path)) (λ e. stays (op.Mkdir path)) EEXIST path (λ cs d n. absent (row_mkdir number d n))
      (λ front cs d n p s is. absent_ends t (After (op.Mkdir path)) (λ e. stays (op.Mkdir path)) (row_mkdir number d n) (child t d n)
      (λ none.
      let leads : at_path t front ≡ Some (Dir d) = steps_lead t root front cs s ∙ ap Some is in
      let under : d.0 ≤ bound = reach t bound h.low root front (Dir d) h.least leads in
      let g = named_graft t (with_dir d n under) d n (Dir (made_by number)) (dir_more d n under) Made bound number.0 h (omega arith)
      (omega arith) front leads (dir_new d n under) in
      named_wide (λ q. Made q ⊎ IsBy t (with_dir d n under) d n (Dir (made_by number)) (dir_more d n under) front q)
      (WithOp (op.Mkdir path)) number.0 number.0 (with_dir d n under)
      (λ q m. ⊎_elim (λ (a : Made q). inl a) (λ (a : IsBy t (with_dir d n under) d n (Dir (made_by number)) (dir_more d n under) front q).
      inr (a.1 ∙ ap (λ (z : Path). front ++ n ∷ z) (dir_ends d n under a.0 a.2.0 a.2.1) ∙ sym p)) m) (omega arith) g))

  -- ---- a name that leads to a file

  -- u has that name more
  file_named : (u : Tree) (d : Fid) (n : List ℕ) (f : Fid) (o : Op) (path front : Path) → IsOneMore t u d n (File f) → f.0 ≤ number.0
      → at_path t front ≡ Some (Dir d) → path ≡ front ++ n ∷ [] → ((q : Path) → q ≡ path → Makes o q) → So o u
  file_named u d n f o path front more low leads p makes =
      named_wide (λ q. Made q ⊎ IsBy t u d n (File f) more front q) (WithOp o) number.0 number.0 u
      (λ q m. ⊎_elim (λ (a : Made q). inl a) (λ (a : IsBy t u d n (File f) more front q). inr
      (makes q (a.1 ∙ ap (λ (z : Path). front ++ n ∷ z) (file_ends u f a.0 a.2.0 a.2.1) ∙ sym p))) m) (omega arith)
      (named_graft t u d n (File f) more Made bound number.0 h (omega arith) low front leads (file_new t u d n f more))

  create_named : (path : Path) (size : ℕ) (count : ℤ) → After (op.Create path size count)
      (outcome t (to_last EEXIST path (λ cs d n. absent (row_create number d n (new_layout osts number size count)))))
  create_named path size count =
      last_steps t (After (op.Create path size count)) (λ e. stays (op.Create path size count)) EEXIST path
      (λ cs d n. absent (row_create number d n (new_layout osts number size count)))
      (λ front cs d n p s is. absent_ends t (After (op.Create path size count)) (λ e. stays (op.Create path size count))
      (row_create number d n (new_layout osts number size count)) (child t d n)
      (λ none. ends front d n (new_layout osts number size count) p (steps_lead t root front cs s ∙ ap Some is)))
    where
      ends : (front : Path) (d : Fid) (n : List ℕ) (l : Option Raid0) → path ≡ front ++ n ∷ [] → at_path t front ≡ Some (Dir d)
          → After (op.Create path size count) (outcome t (row_create number d n l))
      ends front d n None p leads = stays (op.Create path size count)
      ends front d n (Some l) p leads =
          file_named (changed t (MakesFile (made_by number) l ∷ Leads d n (File (made_by number)) ∷ [])) d n (made_by number)
          (op.Create path size count) path front (λ e m c k. led_more (change t (MakesFile (made_by number) l)) d n
          (File (made_by number)) e m c k) (omega arith) leads p (λ q e. e)

  link_named : (old path : Path) → After (op.Link old path) (outcome t (walk root old (λ cs. row_link path (last_of root cs))))
  link_named old path = walk_steps t (After (op.Link old path)) (λ e. stays (op.Link old path)) root old
      (λ cs. row_link path (last_of root cs)) (λ cs s. links (last_of root cs) (steps_lead t root old cs s))
    where
      links : (c : Child) → at_path t old ≡ Some c → After (op.Link old path) (outcome t (row_link path c))
      links (Dir d) leads = stays (op.Link old path)
      links (File f) leads =
          let low = reach t bound h.low root old (File f) h.least leads in
          last_steps t (After (op.Link old path)) (λ e. stays (op.Link old path)) EEXIST path
          (λ cs d n. absent (LookAttr (File f) (λ a. does told.Done (Leads d n (File f) ∷ SetLinks f (a.links + 1) ∷ []))))
          (λ front cs d n p s is. absent_ends t (After (op.Link old path)) (λ e. stays (op.Link old path))
          (LookAttr (File f) (λ a. does told.Done (Leads d n (File f) ∷ SetLinks f (a.links + 1) ∷ []))) (child t d n)
          (λ none. file_named (changed t (Leads d n (File f) ∷ SetLinks f ((attributes t (File f)).links + 1) ∷ [])) d n f
          (op.Link old path) path front (λ e m c k. led_more t d n (File f) e m c k) (omega (arith, low, new))
          (steps_lead t root front cs s ∙ ap Some is) p (λ q e. e)))

  -- ---- unlink, rmdir and chmod

  unlink_named : (path : Path) → After (op.Unlink path) (outcome t (to_last EISDIR path (λ cs d n. there (row_unlink d n))))
  unlink_named path =
      last_steps t (After (op.Unlink path)) (λ e. stays (op.Unlink path)) EISDIR path (λ cs d n. there (row_unlink d n))
      (λ front cs d n p s is. there_ends t (After (op.Unlink path)) (λ e. stays (op.Unlink path)) (row_unlink d n) (child t d n)
      (λ c at. gone d n c))
    where
      gone : (d : Fid) (n : List ℕ) (c : Child) → After (op.Unlink path) (outcome t (row_unlink d n c))
      gone d n (Dir e) = stays (op.Unlink path)
      gone d n (File f) = less (op.Unlink path) (changed t (Drops d n ∷ Parted f ∷ SetLinks f ((attributes t (File f)).links - 1) ∷ []))
          (λ e m c k. dropped t d n e m c k)

  rmdir_named : (path : Path) → After (op.Rmdir path) (outcome t (to_last EBUSY path (λ cs d n. there (row_rmdir d n))))
  rmdir_named path =
      last_steps t (After (op.Rmdir path)) (λ e. stays (op.Rmdir path)) EBUSY path (λ cs d n. there (row_rmdir d n))
      (λ front cs d n p s is. there_ends t (After (op.Rmdir path)) (λ e. stays (op.Rmdir path)) (row_rmdir d n) (child t d n)
      (λ c at. gone d n c))
    where
      gone : (d : Fid) (n : List ℕ) (c : Child) → After (op.Rmdir path) (outcome t (row_rmdir d n c))
      gone d n (File f) = stays (op.Rmdir path)
      gone d n (Dir e) = if_empty_ends t (After (op.Rmdir path)) (λ e. stays (op.Rmdir path)) (listing t e)
          (does told.Done (Drops d n ∷ Parted e ∷ Leaves e ∷ []))
          (λ _. less (op.Rmdir path) (changed t (Drops d n ∷ Parted e ∷ Leaves e ∷ []))
          (λ x m c k. dropped t d n x m c (sym (name_after (change t (Drops d n)) (Leaves e) x m) ∙ k)))

  chmod_named : (path : Path) (mode : ℕ) → After (op.Chmod path mode) (outcome t (walk root path (λ cs. row_chmod mode (last_of root cs))))
  chmod_named path mode =
      walk_steps t (After (op.Chmod path mode)) (λ e. stays (op.Chmod path mode)) root path (λ cs. row_chmod mode (last_of root cs))
      (λ cs s. sets (last_of root cs))
    where
      sets : (c : Child) → After (op.Chmod path mode) (outcome t (row_chmod mode c))
      sets c = cond_both ((attributes t c).mode == mode) (tells told.Done []) (does told.Done (SetMode c mode ∷ []))
          (λ x. After (op.Chmod path mode) (outcome t x))
          (λ _. stays (op.Chmod path mode)) (λ _. less (op.Chmod path mode) (change t (SetMode c mode))
          (λ x m b k. sym (name_after t (SetMode c mode) x m) ∙ k))

  -- ---- open

  open_named : (path : Path) → After (op.Open path) (outcome t (walk root path (λ cs. row_open number who (last_of root cs))))
  open_named path = walk_steps t (After (op.Open path)) (λ e. stays (op.Open path)) root path (λ cs. row_open number who (last_of root cs))
      (λ cs s. opened (last_of root cs))
    where
      opened : (c : Child) → After (op.Open path) (outcome t (row_open number who c))
      opened (Dir d) = stays (op.Open path)
      opened (File f) = less (op.Open path) (change t (Opens number who f)) (λ x m c k. k)

  -- ---- rename

  or_true : (b : Bool) → (b || true) ≡ true
  or_true true = refl
  or_true false = refl

  -- a walk whose path begins with one that leads to a directory passes it
  passed : (at : Child) (n : List ℕ) (front rest : Path) (cs : List Child) (f : Fid) → Steps t at ((n ∷ front) ++ rest) cs
      → leads_to t at (n ∷ front) ≡ Some (Dir f) → passes (Dir f) cs ≡ true
  passed (File g) n front rest cs f s leads = absurd (cc)
  passed (Dir x) n front rest [] f s leads = absurd s
  passed (Dir x) n [] rest (c ∷ cs) f s leads =
      let k : child t x n ≡ Some (Dir f) = one_name t x n (Dir f) leads in
      let same : c ≡ Dir f = some_same c (Dir f) (sym s.0 ∙ k) in
      ap (λ (v : Child). same_fid (fid_of v) f || passes (Dir f) cs) same ∙ ap (λ (b : Bool). b || passes (Dir f) cs) (own_fid f)
    where
      some_same : (a b : Child) → Some a ≡ Some b → a ≡ b
      some_same a b e = cc
  passed (Dir x) n (m ∷ front) rest (c ∷ cs) f s leads =
      let on : leads_to t c (m ∷ front) ≡ Some (Dir f) = sym (ap (option_and_then (λ y. leads_to t y (m ∷ front))) s.0) ∙ leads in
      ap (λ (b : Bool). same_fid (fid_of c) f || b) (passed c m front rest cs f s.1 on) ∙ or_true (same_fid (fid_of c) f)

  module _ (first : List ℕ) (names : Path) (early : Path) (d : Fid) (n : List ℕ) (c : Child) (begins : first ∷ names ≡ early ++ n ∷ [])
      (there_at : at_path t early ≡ Some (Dir d)) (is : child t d n ≡ Some c)
      (path front : Path) (cs : List Child) (e : Fid) (m : List ℕ) (ends : path ≡ front ++ m ∷ []) (steps : Steps t root front cs)
      (last : last_of root cs ≡ Dir e) (apart : passes c cs ≡ false) where
    abbrev old : Path
    old = first ∷ names

    abbrev w : Tree
    w = change t (Drops d n)

    abbrev u : Tree
    u = change w (Leads e m c)

    front_leads : at_path t front ≡ Some (Dir e)
    front_leads = steps_lead t root front cs steps ∙ ap Some last

    old_leads : at_path t old ≡ Some c
    old_leads = ap (at_path t) begins ∙ goes_on t root early (n ∷ []) (Dir d) c there_at (ap (option_and_then (λ x. leads_to t x [])) is)

    -- from what is moved no path leads to the directory where it goes
    outside : (rest : Path) → leads_to t c rest ≡ Some (Dir e) → ⊥
    outside rest k = by c old_leads apart k
      where
        by : (b : Child) → at_path t old ≡ Some b → passes b cs ≡ false → leads_to t b rest ≡ Some (Dir e) → ⊥
        by (File g) o a k = let nowhere = file_ends t g rest (Dir e) k in let same : leads_to t (File g) [] ≡ Some (Dir e) =
            subst (λ (z : Path). leads_to t (File g) z ≡ Some (Dir e)) nowhere k in absurd (cc)
        by (Dir f) o a k =
            let same : front ≡ old ++ rest = h.one front (old ++ rest) e front_leads (goes_on t root old rest (Dir f) (Dir e) o k) in
            let yes = passed root first names rest cs f (subst (λ (z : Path). Steps t root z cs) same steps) o in
            absurd (cc)

    still : (at : Child) (p : Path) (b : Child) → leads_to w at p ≡ Some b → leads_to t at p ≡ Some b
    still at p b k = leads_still t w (λ x y z. dropped t d n x y z) at p b k

    -- the directory where it goes is there without the old name
    front_stays : at_path w front ≡ Some (Dir e)
    front_stays = ⊎_elim
        (λ (p : leads_to w root front ≡ Some (Dir e)). p)
        (λ (p : (a : Path) × (rest : Path) × (front ≡ a ++ n ∷ rest) × (leads_to w root a ≡ Some (Dir d))
        × (leads_to t c rest ≡ Some (Dir e))). absurd (outside p.1 p.4))
        (leads_by w t d n c (was_more t d n c is) root front (Dir e) front_leads)

    more : IsOneMore w u e m c
    more = led_more w e m c

    -- below it all is as it was
    inside : (p : Path) (b : Child) → leads_to u c p ≡ Some b → leads_to t c p ≡ Some b
    inside p b k = ⊎_elim
        (λ (g : leads_to w c p ≡ Some b). still c p b g)
        (λ (g : (a : Path) × (rest : Path) × (p ≡ a ++ m ∷ rest) × (leads_to w c a ≡ Some (Dir e)) × (leads_to u c rest ≡ Some b)). absurd
        (outside g.0 (still c g.0 (Dir e) g.3)))
        (leads_by w u e m c more c p b k)

    by_old : (p : Path) (b : Child) → leads_to u c p ≡ Some b → at_path t (old ++ p) ≡ Some b
    by_old p b k = goes_on t root old p c b old_leads (inside p b k)

    -- by the old name nothing is found any more
    old_gone : (rest : Path) (b : Child) → at_path w (old ++ rest) ≡ Some b → ⊥
    old_gone rest b k =
        let r = comes_by w root old rest b k in
        let a : leads_to w root (early ++ n ∷ []) ≡ Some r.0 = subst (λ (z : Path). leads_to w root z ≡ Some r.0) begins r.1 in
        let q = comes_by w root early (n ∷ []) r.0 a in
        let at_d : q.0 ≡ Dir d = some_same q.0 (Dir d) (sym (still root early q.0 q.1) ∙ there_at) in
        dropped_none t d n r.0 (one_name w d n r.0 (subst (λ (v : Child). leads_to w v (n ∷ []) ≡ Some r.0) at_d q.2))
      where
        some_same : (a b : Child) → Some a ≡ Some b → a ≡ b
        some_same a b e = cc

    moved_new : IsNew w u e m c more
    moved_new =
        record {
          single = λ p q x a b. append_cancel_left old p q (h.one (old ++ p) (old ++ q) x (by_old p (Dir x) a) (by_old q (Dir x) b));
          alone = λ p q x a b.
              let same : p ≡ old ++ q = h.one p (old ++ q) x (still root p (Dir x) a) (by_old q (Dir x) b) in
              old_gone q (Dir x) (subst (λ (z : Path). at_path w z ≡ Some (Dir x)) same a);
        }

    without : Named Made bound w
    without = named_fewer Made bound t w (λ x y z. dropped t d n x y z) h

    by_new : (rest : Path) → front ++ m ∷ rest ≡ path ++ rest
    by_new rest = sym (append_assoc front (m ∷ []) rest) ∙ ap (λ (z : Path). z ++ rest) (sym ends)

    moved : So (op.Rename old path) u
    moved =
        named_wide (λ q. Made q ⊎ IsBy w u e m c more front q) (WithOp (op.Rename old path)) number.0 number.0 u
        (λ q k. ⊎_elim (λ (a : Made q). inl a) (λ (a : IsBy w u e m c more front q). inr (a.0, a.1 ∙ by_new a.0)) k) (omega arith)
        (named_graft w u e m c more Made bound number.0 without (omega arith) (let low = h.low d n c is in omega (arith, low, new)) front
        front_stays moved_new)

  module _ (first : List ℕ) (names : Path) (path : Path) where
    abbrev Q : Outcome → Type 0
    Q = After (op.Rename (first ∷ names) path)

    stays_so : (e : Errno) → Q (record { answer = told.Refused e; grants = []; changes = [] })
    stays_so e = stays (op.Rename (first ∷ names) path)

    replaced : (d : Fid) (n : List ℕ) (c : Child) (e : Fid) (m : List ℕ) (g : Child)
        → So (op.Rename (first ∷ names) path) (change (change t (Drops d n)) (Leads e m c)) → Q (outcome t (row_replace d n c e m g))
    replaced d n (Dir f) e m (File g) k = stays_so ENOTDIR
    replaced d n (File f) e m (Dir g) k = stays_so EISDIR
    replaced d n (Dir f) e m (Dir g) k =
        if_empty_ends t Q stays_so (listing t g) (moves d n (Dir f) e m (Parted g ∷ Leaves g ∷ []))
        (λ _. fewer_so (op.Rename (first ∷ names) path) (change (change t (Drops d n)) (Leads e m (Dir f)))
        (change (change (change t (Drops d n)) (Leads e m (Dir f))) (Leaves g))
        (λ x y z r. sym (name_after (change (change t (Drops d n)) (Leads e m (Dir f))) (Leaves g) x y) ∙ r) k)
    replaced d n (File f) e m (File g) k =
        fewer_so (op.Rename (first ∷ names) path) (change (change t (Drops d n)) (Leads e m (File f)))
        (changed t (Drops d n ∷ Leads e m (File f) ∷ Parted f ∷ Parted g ∷ SetLinks g ((attributes t (File g)).links - 1) ∷ []))
        (λ x y z r. r) k

    renamed : (d : Fid) (n : List ℕ) (c : Child) (cs : List Child) (e : Fid) (m : List ℕ) (o : Option Child)
        → (passes c cs ≡ false → So (op.Rename (first ∷ names) path) (change (change t (Drops d n)) (Leads e m c)))
        → Q (outcome t (row_rename d n c cs e m o))
    renamed d n c cs e m None k = cond_both (passes c cs) (Refuse EINVAL) (moves d n c e m []) (λ x. Q (outcome t x)) (λ _. stays_so EINVAL)
        (λ ok. k ok)
    renamed d n c cs e m (Some g) k =
        cond_both (same_fid (fid_of g) (fid_of c)) (tells told.Done []) (if passes c cs then Refuse EINVAL else row_replace d n c e m g)
        (λ x. Q (outcome t x)) (λ _. stays_so EINVAL)
        (λ _. cond_both (passes c cs) (Refuse EINVAL) (row_replace d n c e m g) (λ x. Q (outcome t x)) (λ _. stays_so EINVAL)
        (λ ok. replaced d n c e m g (k ok)))

  rename_named : (old path : Path) → After (op.Rename old path) (outcome t (rename old path))
  rename_named old [] = stays (op.Rename old [])
  rename_named [] (m ∷ ms) = stays (op.Rename [] (m ∷ ms))
  rename_named (first ∷ names) (m ∷ ms) =
      let old = first ∷ names in
      let path = m ∷ ms in
      let Goal = After (op.Rename (first ∷ names) (m ∷ ms)) in
      last_steps t Goal (stays_so first names path) EBUSY old (λ cs d n. there (λ c. walk_up root m ms (λ cs e m. row_rename d n c cs e m)))
      (λ early before d n begins before_steps at. there_ends t Goal (stays_so first names path)
      (λ c. walk_up root m ms (λ cs e m. row_rename d n c cs e m)) (child t d n)
      (λ c is. last_steps t Goal (stays_so first names path) EBUSY path (λ cs e m. row_rename d n c cs e m)
      (λ front cs e k ends steps last. renamed first names path d n c cs e k (child t e k)
      (λ apart. moved first names early d n c begins (steps_lead t root early before before_steps ∙ ap Some at) is path front cs e k ends
      steps last apart))))

  -- ---- all of them

  pub named_after : (o : Op) → IsOnNames o → So o (after osts t (act o))
  named_after (op.Lookup path) is = walk_steps t (After (op.Lookup path)) (λ e. stays (op.Lookup path)) root path
      (λ cs. row_lookup cs (last_of root cs)) (λ cs s. stays (op.Lookup path))
  named_after (op.Stat path) is = walk_steps t (After (op.Stat path)) (λ e. stays (op.Stat path)) root path
      (λ cs. row_stat cs (last_of root cs)) (λ cs s. by cs (last_of root cs))
    where
      by : (cs : List Child) (c : Child) → After (op.Stat path) (outcome t (row_stat cs c))
      by cs (Dir d) = stays (op.Stat path)
      by cs (File f) = stays (op.Stat path)
  named_after (op.List path) is = walk_steps t (After (op.List path)) (λ e. stays (op.List path)) root path
      (λ cs. row_list cs (last_of root cs)) (λ cs s. by cs (last_of root cs))
    where
      by : (cs : List Child) (c : Child) → After (op.List path) (outcome t (row_list cs c))
      by cs (Dir d) = stays (op.List path)
      by cs (File f) = stays (op.List path)
  named_after (op.Layout path) is = walk_steps t (After (op.Layout path)) (λ e. stays (op.Layout path)) root path
      (λ cs. row_layout cs (last_of root cs)) (λ cs s. by cs (last_of root cs))
    where
      by : (cs : List Child) (c : Child) → After (op.Layout path) (outcome t (row_layout cs c))
      by cs (Dir d) = stays (op.Layout path)
      by cs (File f) = stays (op.Layout path)
  named_after (op.Mkdir path) is = mkdir_named path
  named_after (op.Create path size count) is = create_named path size count
  named_after (op.Link old path) is = link_named old path
  named_after (op.Unlink path) is = unlink_named path
  named_after (op.Rmdir path) is = rmdir_named path
  named_after (op.Rename old path) is = rename_named old path
  named_after (op.Chmod path mode) is = chmod_named path mode
  named_after (op.Open path) is = open_named path
  named_after (op.Close opened fid) is = less (op.Close opened fid) (change t (Closes opened who)) (λ x m c k. k)
  named_after _ is = absurd is
