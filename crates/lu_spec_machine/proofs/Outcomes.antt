-- What an act on names comes to, in the tree that it is asked of: one case for each row's end.
use Rattle.std.proofs.Common.{◌≡◌, ℕ, ◌+◌, ◌-◌, false, List, [], ◌∷◌, ◌⊎◌, inl, inr, Option, Some, None, refl}
use Rattle.std.specs.Prelude.{◌==◌, if◌then◌else◌}
use Rattle.std.proofs.lemmas.Bool.{cond_both}
use Rattle.lu_base.specs.declared.ids.Fid.{Fid}
use Rattle.lu_base.specs.declared.ids.Txn.{Txn}
use Rattle.lu_base.specs.declared.ids.Who.{Who}
use Rattle.lu_layout.specs.Raid0.{Raid0}
use Rattle.lu_msg.specs.declared.answers.Answer.{Answer}
use Rattle.lu_msg.specs.declared.answers.Answer.TheVariants as told
use Rattle.lu_msg.specs.declared.answers.Errno.{Errno}
use Rattle.lu_msg.specs.declared.answers.Errno.TheVariants.{EEXIST, EISDIR, EINVAL, EBUSY}
use Rattle.lu_msg.specs.declared.operations.Op.{Op}
use Rattle.lu_msg.specs.declared.operations.Op.TheVariants as op
use Rattle.lu_part.specs.declared.parts.Want.{Want}
use Rattle.lu_spec_machine.specs.declared.child.Child.{Child}
use Rattle.lu_spec_machine.specs.declared.child.Child.TheVariants.{Dir, File}
use Rattle.lu_spec_machine.specs.Tree.{Tree, same_fid, fid_of, child, listing, attributes, layout}
use Rattle.lu_spec_machine.specs.Change.{Change, Leads, Drops, Parted, MakesDir, MakesFile, SetMode, SetLinks, Leaves, Opens, Closes}
use Rattle.lu_spec_machine.specs.Striping.{new_layout}
use Rattle.lu_spec_machine.specs.Plan.{Plan, Refuse, LookAttr, Outcome, outcome}
use Rattle.lu_spec_machine.specs.Table.{root, made_by, there, absent, walk_up, last_of, tells, does, found, row_lookup, row_stat, row_list}
use Rattle.lu_spec_machine.specs.Table.{row_layout, row_mkdir, row_create, row_link, row_unlink, row_rmdir, passes, moves, row_replace}
use Rattle.lu_spec_machine.specs.Table.{row_rename, rename, row_chmod, row_open, plan}
use Rattle.lu_spec_machine.specs.Footprint.{Every}
use Rattle.lu_spec_machine.proofs.Walks.{IsNamed, there_ends, absent_ends, if_empty_ends, walk_ends, walk_up_ends, to_last_ends}

-- an answer of a reading, or of a change to what stands: neither a refusal nor a new inode
abbrev pub IsTold : Answer → Type 0
IsTold (told.Refused e) = ⊥
IsTold (told.Made f) = ⊥
IsTold _ = Unit {0}

-- it is the root, or a name leads to it
abbrev pub IsReached : Tree → Child → Type 0
IsReached t c = (c ≡ root) ⊎ IsNamed t c

abbrev moved : Fid → List ℕ → Child → Fid → List ℕ → List Change → Outcome
moved d n c e m more = record { answer = told.Done; grants = []; changes = Drops d n ∷ Leads e m c ∷ Parted (fid_of c) ∷ more }

module _ (t : Tree) (number : Txn) (who : Who) where
  pub data Comes : Outcome → Type 0 where
    refused : (e : Errno) → Comes (record { answer = told.Refused e; grants = []; changes = [] })
    learns : (answer : Answer) (grants : List Want) → IsTold answer → Comes (record { answer = answer; grants = grants; changes = [] })
    mkdir : (d : Fid) (n : List ℕ) → child t d n ≡ None → Comes
        (record {
          answer = told.Made (made_by number);
          grants = [];
          changes = MakesDir (made_by number) ∷ Leads d n (Dir (made_by number))
              ∷ [];
        })
    create : (d : Fid) (n : List ℕ) (l : Raid0) → child t d n ≡ None
        → Comes (record {
          answer = told.Made (made_by number);
          grants = [];
          changes = MakesFile (made_by number) l
              ∷ Leads d n (File (made_by number)) ∷ [];
        })
    link : (d : Fid) (n : List ℕ) (f : Fid) → child t d n ≡ None → IsNamed t (File f)
        → Comes (record {
          answer = told.Done;
          grants = [];
          changes = Leads d n (File f) ∷ SetLinks f ((attributes t (File f)).links + 1)
              ∷ [];
        })
    unlink : (d : Fid) (n : List ℕ) (f : Fid) → child t d n ≡ Some (File f)
        → Comes (record {
          answer = told.Done;
          grants = [];
          changes = Drops d n ∷ Parted f ∷ SetLinks f ((attributes t (File f)).links - 1)
              ∷ [];
        })
    rmdir : (d : Fid) (n : List ℕ) (e : Fid) → child t d n ≡ Some (Dir e) → listing t e ≡ []
        → Comes (record { answer = told.Done; grants = []; changes = Drops d n ∷ Parted e ∷ Leaves e ∷ [] })
    move : (d : Fid) (n : List ℕ) (c : Child) (e : Fid) (m : List ℕ) → child t d n ≡ Some c → child t e m ≡ None
        → Comes (moved d n c e m [])
    replace_dir : (d : Fid) (n : List ℕ) (f e : Fid) (m : List ℕ) (g : Fid) → child t d n ≡ Some (Dir f) → child t e m ≡ Some (Dir g)
        → same_fid g f ≡ false → listing t g ≡ []
        → Comes (moved d n (Dir f) e m (Parted g ∷ Leaves g ∷ []))
    replace_file : (d : Fid) (n : List ℕ) (f e : Fid) (m : List ℕ) (g : Fid) → child t d n ≡ Some (File f) → child t e m ≡ Some (File g)
        → same_fid g f ≡ false
        → Comes (moved d n (File f) e m (Parted g ∷ SetLinks g ((attributes t (File g)).links - 1) ∷ []))
    chmod : (c : Child) (mode : ℕ) → IsReached t c → Comes (record { answer = told.Done; grants = []; changes = SetMode c mode ∷ [] })
    opens : (f : Fid) → IsNamed t (File f) → Comes (record {
      answer = told.OpenFile f number (layout t f);
      grants = [];
      changes =
          Opens number who f ∷ [];
    })
    closes : (opened : Txn) → Comes (record { answer = told.Done; grants = []; changes = Closes opened who ∷ [] })

  abbrev Holds : Plan → Type 0
  Holds p = Comes (outcome t p)

  last_reached : (c : Child) (cs : List Child) → IsReached t c → Every (IsNamed t) cs → IsReached t (last_of c cs)
  last_reached c [] r h = r
  last_reached c (d ∷ ds) r h = last_reached d ds (inr h.0) h.1

  -- the root is no file
  named_file : (f : Fid) → IsReached t (File f) → IsNamed t (File f)
  named_file f (inl e) = absurd (cc)
  named_file f (inr h) = h

  -- ---- the rows

  found_told : (c : Child) → IsTold (found c)
  found_told (Dir d) = tt
  found_told (File f) = tt

  stat_comes : (cs : List Child) (c : Child) → Holds (row_stat cs c)
  stat_comes cs (Dir d) = learns _ _ tt
  stat_comes cs (File f) = learns _ _ tt

  list_comes : (cs : List Child) (c : Child) → Holds (row_list cs c)
  list_comes cs (Dir d) = learns _ _ tt
  list_comes cs (File f) = refused _

  layout_comes : (cs : List Child) (c : Child) → Holds (row_layout cs c)
  layout_comes cs (Dir d) = refused _
  layout_comes cs (File f) = learns _ _ tt

  create_comes : (d : Fid) (n : List ℕ) (o : Option Raid0) → child t d n ≡ None → Holds (row_create number d n o)
  create_comes d n None free = refused _
  create_comes d n (Some l) free = create d n l free

  link_comes : (new : List (List ℕ)) (c : Child) → IsReached t c → Holds (row_link new c)
  link_comes new (Dir d) r = refused _
  link_comes new (File f) r =
      to_last_ends t Comes refused EEXIST new (λ cs d n. absent
      (LookAttr (File f) (λ a. does told.Done (Leads d n (File f) ∷ SetLinks f (a.links + 1) ∷ []))))
      (λ cs d n. absent_ends t Comes refused (LookAttr (File f) (λ a. does told.Done (Leads d n (File f) ∷ SetLinks f (a.links + 1) ∷ [])))
      (child t d n) (λ free. link d n f free (named_file f r)))

  unlink_comes : (d : Fid) (n : List ℕ) (c : Child) → child t d n ≡ Some c → Holds (row_unlink d n c)
  unlink_comes d n (Dir e) is = refused _
  unlink_comes d n (File f) is = unlink d n f is

  rmdir_comes : (d : Fid) (n : List ℕ) (c : Child) → child t d n ≡ Some c → Holds (row_rmdir d n c)
  rmdir_comes d n (File f) is = refused _
  rmdir_comes d n (Dir e) is = if_empty_ends t Comes refused (listing t e) (does told.Done (Drops d n ∷ Parted e ∷ Leaves e ∷ []))
      (λ none. rmdir d n e is none)

  replace_comes : (d : Fid) (n : List ℕ) (c : Child) (e : Fid) (m : List ℕ) (g : Child) → child t d n ≡ Some c → child t e m ≡ Some g
      → same_fid (fid_of g) (fid_of c) ≡ false → Holds (row_replace d n c e m g)
  replace_comes d n (Dir f) e m (File g) is at ne = refused _
  replace_comes d n (File f) e m (Dir g) is at ne = refused _
  replace_comes d n (Dir f) e m (Dir g) is at ne = if_empty_ends t Comes refused (listing t g)
      (moves d n (Dir f) e m (Parted g ∷ Leaves g ∷ [])) (λ none. replace_dir d n f e m g is at ne none)
  replace_comes d n (File f) e m (File g) is at ne = replace_file d n f e m g is at ne

  rename_row_comes : (d : Fid) (n : List ℕ) (c : Child) (cs : List Child) (e : Fid) (m : List ℕ) (o : Option Child) → child t d n ≡ Some c
      → child t e m ≡ o → Holds (row_rename d n c cs e m o)
  rename_row_comes d n c cs e m None is at = cond_both (passes c cs) (Refuse EINVAL) (moves d n c e m []) Holds (λ _. refused _)
      (λ _. move d n c e m is at)
  rename_row_comes d n c cs e m (Some g) is at =
      cond_both (same_fid (fid_of g) (fid_of c)) (tells told.Done []) (if passes c cs then Refuse EINVAL else row_replace d n c e m g) Holds
      (λ _. learns _ _ tt)
      (λ ne. cond_both (passes c cs) (Refuse EINVAL) (row_replace d n c e m g) Holds (λ _. refused _)
      (λ _. replace_comes d n c e m g is at ne))

  rename_comes : (old new : List (List ℕ)) → Holds (rename old new)
  rename_comes old [] = refused _
  rename_comes old (m ∷ ms) =
      to_last_ends t Comes refused EBUSY old (λ cs d n. there (λ c. walk_up root m ms (λ cs e m. row_rename d n c cs e m)))
      (λ cs d n. there_ends t Comes refused (λ c. walk_up root m ms (λ cs e m. row_rename d n c cs e m)) (child t d n)
      (λ c is. walk_up_ends t Comes refused root m ms (λ cs e m. row_rename d n c cs e m)
      (λ cs e m. rename_row_comes d n c cs e m (child t e m) is refl)))

  chmod_comes : (mode : ℕ) (c : Child) → IsReached t c → Holds (row_chmod mode c)
  chmod_comes mode c r = cond_both ((attributes t c).mode == mode) (tells told.Done []) (does told.Done (SetMode c mode ∷ [])) Holds
      (λ _. learns _ _ tt) (λ _. chmod c mode r)

  open_comes : (c : Child) → IsReached t c → Holds (row_open number who c)
  open_comes (Dir d) r = refused _
  open_comes (File f) r = opens f (named_file f r)

  pub plan_comes : (osts : ℕ) (o : Op) → Holds (plan osts number who o)
  plan_comes osts (op.Lookup path) = walk_ends t Comes refused root path (λ cs. row_lookup cs (last_of root cs))
      (λ cs h. learns _ _ (found_told (last_of root cs)))
  plan_comes osts (op.Stat path) = walk_ends t Comes refused root path (λ cs. row_stat cs (last_of root cs))
      (λ cs h. stat_comes cs (last_of root cs))
  plan_comes osts (op.List path) = walk_ends t Comes refused root path (λ cs. row_list cs (last_of root cs))
      (λ cs h. list_comes cs (last_of root cs))
  plan_comes osts (op.Layout path) = walk_ends t Comes refused root path (λ cs. row_layout cs (last_of root cs))
      (λ cs h. layout_comes cs (last_of root cs))
  plan_comes osts (op.Mkdir path) = to_last_ends t Comes refused EEXIST path (λ cs d n. absent (row_mkdir number d n))
      (λ cs d n. absent_ends t Comes refused (row_mkdir number d n) (child t d n) (mkdir d n))
  plan_comes osts (op.Create path size count) =
      to_last_ends t Comes refused EEXIST path (λ cs d n. absent (row_create number d n (new_layout osts number size count)))
      (λ cs d n. absent_ends t Comes refused (row_create number d n (new_layout osts number size count)) (child t d n)
      (create_comes d n (new_layout osts number size count)))
  plan_comes osts (op.Link old new) = walk_ends t Comes refused root old (λ cs. row_link new (last_of root cs))
      (λ cs h. link_comes new (last_of root cs) (last_reached root cs (inl refl) h))
  plan_comes osts (op.Unlink path) = to_last_ends t Comes refused EISDIR path (λ cs d n. there (row_unlink d n))
      (λ cs d n. there_ends t Comes refused (row_unlink d n) (child t d n) (unlink_comes d n))
  plan_comes osts (op.Rmdir path) = to_last_ends t Comes refused EBUSY path (λ cs d n. there (row_rmdir d n))
      (λ cs d n. there_ends t Comes refused (row_rmdir d n) (child t d n) (rmdir_comes d n))
  plan_comes osts (op.Rename old new) = rename_comes old new
  plan_comes osts (op.Chmod path mode) = walk_ends t Comes refused root path (λ cs. row_chmod mode (last_of root cs))
      (λ cs h. chmod_comes mode (last_of root cs) (last_reached root cs (inl refl) h))
  plan_comes osts (op.Open path) = walk_ends t Comes refused root path (λ cs. row_open number who (last_of root cs))
      (λ cs h. open_comes (last_of root cs) (last_reached root cs (inl refl) h))
  plan_comes osts (op.Close opened fid) = closes opened
  plan_comes osts (op.Enqueue resource mode extent) = refused _
  plan_comes osts (op.Get resource cookie page) = refused _
  plan_comes osts (op.Put resource cookie offset bytes) = refused _
  plan_comes osts (op.Cut resource cookie size) = refused _
  plan_comes osts (op.Size resource) = refused _
