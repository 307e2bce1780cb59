-- An operation looks only at inodes that it came to by names that it looked at, from the root on.
use Rattle.std.proofs.Common.{◌≡◌, ℕ, ◌+◌, List, [], ◌∷◌, ◌⊎◌, inl, inr, Option, Some, None, refl, sym, subst}
use Rattle.std.specs.Prelude.{◌==◌, if◌then◌else◌}
use Rattle.std.proofs.lemmas.Bool.{cond_both}
use Rattle.lu_base.specs.declared.ids.Fid.{Fid}
use Rattle.lu_base.specs.declared.ids.Txn.{Txn}
use Rattle.lu_base.specs.declared.ids.Who.{Who}
use Rattle.lu_layout.specs.Raid0.{Raid0}
use Rattle.lu_msg.specs.declared.answers.Answer.TheVariants as told
use Rattle.lu_msg.specs.declared.answers.Errno.{Errno}
use Rattle.lu_msg.specs.declared.answers.Errno.TheVariants.{EEXIST, EISDIR, EINVAL, EBUSY, ENAMETOOLONG}
use Rattle.lu_msg.specs.declared.operations.Op.{Op}
use Rattle.lu_msg.specs.declared.operations.Op.TheVariants as op
use Rattle.lu_spec_machine.specs.declared.child.Child.{Child}
use Rattle.lu_spec_machine.specs.declared.child.Child.TheVariants.{Dir, File}
use Rattle.lu_spec_machine.specs.Name.{is_too_long}
use Rattle.lu_spec_machine.specs.Tree.{Tree, Attributes, same_fid, fid_of, child}
use Rattle.lu_spec_machine.specs.Change.{Change, Leads, Drops, Parted, MakesDir, MakesFile, SetMode, SetLinks, Leaves}
use Rattle.lu_spec_machine.specs.Striping.{new_layout}
use Rattle.lu_spec_machine.specs.Plan.{Plan, Refuse, Do, LookName, LookList, LookAttr, LookLayout, Outcome}
use Rattle.lu_spec_machine.specs.Table.{root, made_by, look_in, look, there, absent, walk, onward, walk_up, to_last, last_of, tells, does}
use Rattle.lu_spec_machine.specs.Table.{row_lookup, row_stat, row_list, row_layout, row_mkdir, row_create, row_link, row_unlink, if_empty}
use Rattle.lu_spec_machine.specs.Table.{row_rmdir, passes, moves, row_replace, row_rename, rename, row_chmod, row_open, plan}
use Rattle.lu_spec_machine.specs.Footprint.{Every}
use Rattle.lu_spec_machine.proofs.Walks.{IsNamed}
use Rattle.lu_spec_machine.proofs.Outcomes.{IsReached, Comes, refused, learns, mkdir, create, link, unlink, rmdir, move, replace_dir}
use Rattle.lu_spec_machine.proofs.Outcomes.{replace_file, chmod, opens, closes}

module _ (K : Child → Type 0) where
  abbrev pub IsKnown : Option Child → Type 0
  IsKnown None = Unit {0}
  IsKnown (Some c) = K c

  abbrev pub Knows : Plan → Type 0
  Knows (Refuse e) = Unit {0}
  Knows (Do answer grants changes) = Unit {0}
  Knows (LookName d n k) = K (Dir d) × ((o : Option Child) → IsKnown o → Knows (k o))
  Knows (LookList d k) = K (Dir d) × ((names : List (List ℕ)) → Knows (k names))
  Knows (LookAttr c k) = K c × ((a : Attributes) → Knows (k a))
  Knows (LookLayout f k) = K (File f) × ((l : Raid0) → Knows (k l))

  abbrev Goes : Type 0
  Goes = List Child → Fid → List ℕ → Option Child → Plan

  look_in_knows : (at : Child) (n : List ℕ) (next : Fid → Option Child → Plan) → K at
      → ((d : Fid) (o : Option Child) → K (Dir d) → IsKnown o → Knows (next d o)) → Knows (look_in at n next)
  look_in_knows (File f) n next k h = tt
  look_in_knows (Dir d) n next k h = (k, λ o ko. h d o k ko)

  look_knows : (at : Child) (n : List ℕ) (next : Fid → Option Child → Plan) → K at
      → ((d : Fid) (o : Option Child) → K (Dir d) → IsKnown o → Knows (next d o)) → Knows (look at n next)
  look_knows at n next k h = cond_both (is_too_long n) (Refuse ENAMETOOLONG) (look_in at n next) Knows (λ _. tt)
      (λ _. look_in_knows at n next k h)

  there_knows : (next : Child → Plan) (o : Option Child) → IsKnown o → ((c : Child) → K c → Knows (next c)) → Knows (there next o)
  there_knows next None ko h = tt
  there_knows next (Some c) ko h = h c ko

  absent_knows : (next : Plan) (o : Option Child) → Knows next → Knows (absent next o)
  absent_knows next None h = h
  absent_knows next (Some c) h = tt

  if_empty_knows : (names : List (List ℕ)) (next : Plan) → Knows next → Knows (if_empty names next)
  if_empty_knows [] next h = h
  if_empty_knows (n ∷ ns) next h = tt

  walk_knows : (at : Child) (ns : List (List ℕ)) (next : List Child → Plan) → K at → ((cs : List Child) → Every K cs → Knows (next cs))
      → Knows (walk at ns next)
  walk_knows at [] next k h = h [] tt
  walk_knows at (n ∷ ns) next k h =
      look_knows at n (λ d. there (λ c. walk c ns (λ cs. next (c ∷ cs)))) k
      (λ d o kd ko. there_knows (λ c. walk c ns (λ cs. next (c ∷ cs))) o ko
      (λ c kc. walk_knows c ns (λ cs. next (c ∷ cs)) kc (λ cs kcs. h (c ∷ cs) (kc, kcs))))

  onward_knows : (ns : List (List ℕ)) (next : Goes) (d : Fid) (n : List ℕ) (o : Option Child) → K (Dir d) → IsKnown o
      → ((cs : List Child) (d : Fid) (m : List ℕ) (o : Option Child) → K (Dir d) → IsKnown o → Knows (next cs d m o))
      → Knows (onward ns next d n o)
  onward_knows [] next d n o kd ko h = h [] d n o kd ko
  onward_knows (m ∷ ns) next d n o kd ko h =
      there_knows (λ c. look c m (λ e. onward ns (λ cs. next (c ∷ cs)) e m)) o ko
      (λ c kc. look_knows c m (λ e. onward ns (λ cs. next (c ∷ cs)) e m) kc
      (λ e p ke kp. onward_knows ns (λ cs. next (c ∷ cs)) e m p ke kp (λ cs. h (c ∷ cs))))

  walk_up_knows : (at : Child) (n : List ℕ) (ns : List (List ℕ)) (next : Goes) → K at
      → ((cs : List Child) (d : Fid) (m : List ℕ) (o : Option Child) → K (Dir d) → IsKnown o → Knows (next cs d m o))
      → Knows (walk_up at n ns next)
  walk_up_knows at n ns next k h = look_knows at n (λ d. onward ns next d n) k (λ d o kd ko. onward_knows ns next d n o kd ko h)

  last_known : (c : Child) (cs : List Child) → K c → Every K cs → K (last_of c cs)
  last_known c [] k h = k
  last_known c (d ∷ ds) k h = last_known d ds h.0 h.1

  -- ---- the rows

  stat_knows : (cs : List Child) (c : Child) → K c → Knows (row_stat cs c)
  stat_knows cs (Dir d) k = (k, λ a. tt)
  stat_knows cs (File f) k = (k, λ a. (k, λ l. tt))

  list_knows : (cs : List Child) (c : Child) → K c → Knows (row_list cs c)
  list_knows cs (Dir d) k = (k, λ names. tt)
  list_knows cs (File f) k = tt

  layout_knows : (cs : List Child) (c : Child) → K c → Knows (row_layout cs c)
  layout_knows cs (Dir d) k = tt
  layout_knows cs (File f) k = (k, λ l. tt)

  create_knows : (number : Txn) (d : Fid) (n : List ℕ) (o : Option Raid0) → Knows (row_create number d n o)
  create_knows number d n None = tt
  create_knows number d n (Some l) = tt

  unlink_knows : (d : Fid) (n : List ℕ) (c : Child) → K c → Knows (row_unlink d n c)
  unlink_knows d n (Dir e) k = tt
  unlink_knows d n (File f) k = (k, λ a. tt)

  rmdir_knows : (d : Fid) (n : List ℕ) (c : Child) → K c → Knows (row_rmdir d n c)
  rmdir_knows d n (File f) k = tt
  rmdir_knows d n (Dir e) k = (k, λ names. if_empty_knows names (does told.Done (Drops d n ∷ Parted e ∷ Leaves e ∷ [])) tt)

  replace_knows : (d : Fid) (n : List ℕ) (c : Child) (e : Fid) (m : List ℕ) (g : Child) → K c → K g → Knows (row_replace d n c e m g)
  replace_knows d n (Dir f) e m (File g) k l = tt
  replace_knows d n (File f) e m (Dir g) k l = tt
  replace_knows d n (Dir f) e m (Dir g) k l = (l, λ names. if_empty_knows names (moves d n (Dir f) e m (Parted g ∷ Leaves g ∷ [])) tt)
  replace_knows d n (File f) e m (File g) k l = (l, λ a. tt)

  rename_row_knows : (d : Fid) (n : List ℕ) (c : Child) (cs : List Child) (e : Fid) (m : List ℕ) (o : Option Child) → K c → IsKnown o
      → Knows (row_rename d n c cs e m o)
  rename_row_knows d n c cs e m None k l = cond_both (passes c cs) (Refuse EINVAL) (moves d n c e m []) Knows (λ _. tt) (λ _. tt)
  rename_row_knows d n c cs e m (Some g) k l =
      cond_both (same_fid (fid_of g) (fid_of c)) (tells told.Done []) (if passes c cs then Refuse EINVAL else row_replace d n c e m g) Knows
      (λ _. tt)
      (λ _. cond_both (passes c cs) (Refuse EINVAL) (row_replace d n c e m g) Knows (λ _. tt) (λ _. replace_knows d n c e m g k l))

  open_knows : (number : Txn) (who : Who) (c : Child) → K c → Knows (row_open number who c)
  open_knows number who (Dir d) k = tt
  open_knows number who (File f) k = (k, λ l. tt)

  chmod_knows : (mode : ℕ) (c : Child) → K c → Knows (row_chmod mode c)
  chmod_knows mode c k = (
    k,
    λ a. cond_both (a.mode == mode) (tells told.Done []) (does told.Done (SetMode c mode ∷ [])) Knows (λ _. tt)
        (λ _. tt),
  )

  module _ (k : K root) where
    to_last_knows : (e : Errno) (ns : List (List ℕ)) (next : Goes)
        → ((cs : List Child) (d : Fid) (m : List ℕ) (o : Option Child) → K (Dir d) → IsKnown o → Knows (next cs d m o))
        → Knows (to_last e ns next)
    to_last_knows e [] next h = tt
    to_last_knows e (n ∷ ns) next h = walk_up_knows root n ns next k h

    link_knows : (new : List (List ℕ)) (c : Child) → K c → Knows (row_link new c)
    link_knows new (Dir d) kc = tt
    link_knows new (File f) kc =
        to_last_knows EEXIST new (λ cs d n. absent (LookAttr (File f)
        (λ a. does told.Done (Leads d n (File f) ∷ SetLinks f (a.links + 1) ∷ []))))
        (λ cs d m o kd ko. absent_knows (LookAttr (File f) (λ a. does told.Done (Leads d m (File f) ∷ SetLinks f (a.links + 1) ∷ []))) o
        (kc, λ a. tt))

    rename_knows : (old new : List (List ℕ)) → Knows (rename old new)
    rename_knows old [] = tt
    rename_knows old (m ∷ ms) =
        to_last_knows EBUSY old (λ cs d n. there (λ c. walk_up root m ms (λ cs e m. row_rename d n c cs e m)))
        (λ cs d n o kd ko. there_knows (λ c. walk_up root m ms (λ cs e m. row_rename d n c cs e m)) o ko
        (λ c kc. walk_up_knows root m ms (λ cs e m. row_rename d n c cs e m) k (λ cs e m o ke ko. rename_row_knows d n c cs e m o kc ko)))

    pub plan_knows : (osts : ℕ) (number : Txn) (who : Who) (o : Op) → Knows (plan osts number who o)
    plan_knows osts number who (op.Lookup path) = walk_knows root path (λ cs. row_lookup cs (last_of root cs)) k (λ cs h. tt)
    plan_knows osts number who (op.Stat path) = walk_knows root path (λ cs. row_stat cs (last_of root cs)) k
        (λ cs h. stat_knows cs (last_of root cs) (last_known root cs k h))
    plan_knows osts number who (op.List path) = walk_knows root path (λ cs. row_list cs (last_of root cs)) k
        (λ cs h. list_knows cs (last_of root cs) (last_known root cs k h))
    plan_knows osts number who (op.Layout path) = walk_knows root path (λ cs. row_layout cs (last_of root cs)) k
        (λ cs h. layout_knows cs (last_of root cs) (last_known root cs k h))
    plan_knows osts number who (op.Mkdir path) = to_last_knows EEXIST path (λ cs d n. absent (row_mkdir number d n))
        (λ cs d n o kd ko. absent_knows (row_mkdir number d n) o tt)
    plan_knows osts number who (op.Create path size count) =
        to_last_knows EEXIST path (λ cs d n. absent (row_create number d n (new_layout osts number size count)))
        (λ cs d n o kd ko. absent_knows (row_create number d n (new_layout osts number size count)) o
        (create_knows number d n (new_layout osts number size count)))
    plan_knows osts number who (op.Link old new) = walk_knows root old (λ cs. row_link new (last_of root cs)) k
        (λ cs h. link_knows new (last_of root cs) (last_known root cs k h))
    plan_knows osts number who (op.Unlink path) = to_last_knows EISDIR path (λ cs d n. there (row_unlink d n))
        (λ cs d n o kd ko. there_knows (row_unlink d n) o ko (unlink_knows d n))
    plan_knows osts number who (op.Rmdir path) = to_last_knows EBUSY path (λ cs d n. there (row_rmdir d n))
        (λ cs d n o kd ko. there_knows (row_rmdir d n) o ko (rmdir_knows d n))
    plan_knows osts number who (op.Rename old new) = rename_knows old new
    plan_knows osts number who (op.Chmod path mode) = walk_knows root path (λ cs. row_chmod mode (last_of root cs)) k
        (λ cs h. chmod_knows mode (last_of root cs) (last_known root cs k h))
    plan_knows osts number who (op.Open path) = walk_knows root path (λ cs. row_open number who (last_of root cs)) k
        (λ cs h. open_knows number who (last_of root cs) (last_known root cs k h))
    plan_knows osts number who (op.Close opened fid) = tt
    plan_knows osts number who (op.Enqueue resource mode extent) = tt
    plan_knows osts number who (op.Get resource cookie page) = tt
    plan_knows osts number who (op.Put resource cookie offset bytes) = tt
    plan_knows osts number who (op.Cut resource cookie size) = tt
    plan_knows osts number who (op.Size resource) = tt

-- ---- what an act changes is known: a name is made to lead to what is known or to the new inode

module _ (K : Child → Type 0) (number : Txn) where
  abbrev pub Bound : Change → Type 0
  Bound (Leads d n c) = K c ⊎ (fid_of c ≡ made_by number)
  Bound (SetMode c m) = K c
  Bound (SetLinks f n) = K (File f)
  Bound (MakesDir f) = f ≡ made_by number
  Bound (MakesFile f l) = f ≡ made_by number
  Bound _ = Unit {0}

  module _ (t : Tree) (who : Who) (k : K root) (older : (d : Fid) (n : List ℕ) (c : Child) → child t d n ≡ Some c → K c) where
    named_known : (c : Child) → IsNamed t c → K c
    named_known c h = older h.0 h.1.0 c h.1.1

    reached_known : (c : Child) → IsReached t c → K c
    reached_known c (inl e) = subst K (sym e) k
    reached_known c (inr h) = named_known c h

    pub bound : (o : Outcome) → Comes t number who o → Every Bound o.changes
    bound _ (refused e) = tt
    bound _ (learns answer grants is) = tt
    bound _ (mkdir d n free) = (refl, (inr refl, tt))
    bound _ (create d n l free) = (refl, (inr refl, tt))
    bound _ (link d n f free named) = (inl (named_known (File f) named), (named_known (File f) named, tt))
    bound _ (unlink d n f is) = (tt, (tt, (older d n (File f) is, tt)))
    bound _ (rmdir d n e is none) = (tt, (tt, (tt, tt)))
    bound _ (move d n c e m is free) = (tt, (inl (older d n c is), (tt, tt)))
    bound _ (replace_dir d n f e m g is at ne none) = (tt, (inl (older d n (Dir f) is), (tt, (tt, (tt, tt)))))
    bound _ (replace_file d n f e m g is at ne) = (tt, (inl (older d n (File f) is), (tt, (tt, (older e m (File g) at, tt)))))
    bound _ (chmod c mode r) = (reached_known c r, tt)
    bound _ (opens f named) = (tt, tt)
    bound _ (closes opened) = (tt, tt)
