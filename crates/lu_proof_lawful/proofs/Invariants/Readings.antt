-- A reading that finds what it asks for is granted a lock, and one that is granted none is refused. Where the paths that lead
-- somewhere are known, one of another path finds nothing; and what changes names is granted no lock at all.
use Rattle.std.proofs.Common.{◌≡◌, ℕ, suc, ◌+◌, List, [], ◌∷◌, ⊎_elim, Option, Some, None, refl, ap}
use Rattle.std.specs.Prelude.{◌==◌, if◌then◌else◌}
use Rattle.std.proofs.lemmas.Bool.{cond_both}
use Rattle.lu_base.specs.declared.ids.Fid.{Fid}
use Rattle.lu_base.specs.declared.ids.Txn.{Txn}
use Rattle.lu_base.specs.declared.ids.Who.{Who}
use Rattle.lu_layout.specs.Raid0.{Raid0}
use Rattle.lu_msg.specs.declared.answers.Answer.TheVariants as told
use Rattle.lu_msg.specs.declared.answers.Errno.{Errno}
use Rattle.lu_msg.specs.declared.answers.Errno.TheVariants.{EEXIST, EISDIR, EBUSY, EINVAL}
use Rattle.lu_msg.specs.declared.operations.Op.{Op}
use Rattle.lu_msg.specs.declared.operations.Op.TheVariants as op
use Rattle.lu_spec_machine.specs.declared.child.Child.{Child}
use Rattle.lu_spec_machine.specs.declared.child.Child.TheVariants.{Dir, File}
use Rattle.lu_spec_machine.specs.Tree.{Tree, same_fid, fid_of, child, listing, attributes}
use Rattle.lu_spec_machine.specs.Change.{Leads, Drops, Parted, SetMode, SetLinks, Leaves}
use Rattle.lu_spec_machine.specs.Striping.{new_layout}
use Rattle.lu_spec_machine.specs.Plan.{Plan, Refuse, LookAttr, Outcome, outcome}
use Rattle.lu_spec_machine.specs.Table.{root, absent, there, walk, walk_up, to_last, last_of, wants, tells, does, row_lookup, row_stat}
use Rattle.lu_spec_machine.specs.Table.{row_list, row_layout, row_mkdir, row_create, row_link, row_unlink, row_rmdir, passes, moves}
use Rattle.lu_spec_machine.specs.Table.{row_replace, row_rename, rename, row_chmod, row_open}
use Rattle.lu_spec_machine.specs.Footprint.{Operation, answer, grants}
use Rattle.lu_spec_machine.specs.Laws.{IsReading}
use Rattle.lu_spec_machine.proofs.Made.{Named}
use Rattle.lu_spec_machine.proofs.Walks.{there_ends, absent_ends, if_empty_ends, walk_ends, to_last_ends, walk_up_ends}
use Rattle.lu_spec_machine.proofs.Paths.{Steps, steps_lead, walk_steps}
use Rattle.lu_proof_lawful.specs.Covered.Makes.{Path}
use Rattle.lu_proof_lawful.proofs.Invariants.OnNames.{IsOnNames, IsRefusal}

-- more bits on the last inode are a lock on it
wants_some : (k : ℕ) (cs : List Child) → wants (suc k) cs ≡ [] → ⊥
wants_some k [] e = absurd (cc)
wants_some k (c ∷ []) e = absurd (cc)
wants_some k (c ∷ d ∷ cs) e = absurd (cc)

module _ (osts : ℕ) (t : Tree) (number : Txn) (who : Who) where
  abbrev act : Op → Operation
  act o = record { number = number; who = who; op = o }

  -- ---- a reading that is granted no lock is refused

  abbrev Refuses : Outcome → Type 0
  Refuses o = o.grants ≡ [] → IsRefusal o.answer

  lookup_refused : (path : Path) → (path ≡ [] → ⊥) → Refuses (outcome t (walk root path (λ cs. row_lookup cs (last_of root cs))))
  lookup_refused path some = walk_steps t Refuses (λ e _. tt) root path (λ cs. row_lookup cs (last_of root cs)) (ends path some)
    where
      ends : (path : Path) → (path ≡ [] → ⊥) → (cs : List Child) → Steps t root path cs
          → Refuses (outcome t (row_lookup cs (last_of root cs)))
      ends [] some cs s n = absurd (some refl)
      ends (n ∷ ns) some [] s e = absurd s
      ends (n ∷ ns) some (c ∷ []) s e = absurd (cc)
      ends (n ∷ ns) some (c ∷ d ∷ cs) s e = absurd (cc)

  stat_refused : (cs : List Child) (c : Child) → Refuses (outcome t (row_stat cs c))
  stat_refused cs (Dir d) e = absurd (wants_some _ cs e)
  stat_refused cs (File f) e = absurd (wants_some _ cs e)

  list_refused : (cs : List Child) (c : Child) → Refuses (outcome t (row_list cs c))
  list_refused cs (Dir d) e = absurd (wants_some _ cs e)
  list_refused cs (File f) e = tt

  layout_refused : (cs : List Child) (c : Child) → Refuses (outcome t (row_layout cs c))
  layout_refused cs (Dir d) e = tt
  layout_refused cs (File f) e = absurd (wants_some _ cs e)

  -- but a lookup of the root, which is told without a lock
  pub reading_refused : (o : Op) → IsReading o → (o ≡ op.Lookup [] → ⊥) → grants osts t (act o) ≡ [] → IsRefusal (answer osts t (act o))
  reading_refused (op.Lookup path) is asked = lookup_refused path (λ e. asked (ap op.Lookup e))
  reading_refused (op.Stat path) is asked = walk_steps t Refuses (λ e _. tt) root path (λ cs. row_stat cs (last_of root cs))
      (λ cs s. stat_refused cs (last_of root cs))
  reading_refused (op.List path) is asked = walk_steps t Refuses (λ e _. tt) root path (λ cs. row_list cs (last_of root cs))
      (λ cs s. list_refused cs (last_of root cs))
  reading_refused (op.Layout path) is asked = walk_steps t Refuses (λ e _. tt) root path (λ cs. row_layout cs (last_of root cs))
      (λ cs s. layout_refused cs (last_of root cs))
  reading_refused _ is asked = absurd is

  -- ---- a reading of a path that wasn't made

  abbrev IsFree : Outcome → Type 0
  IsFree o = o.grants ≡ []

  refused : (e : Errno) → IsFree (record { answer = told.Refused e; grants = []; changes = [] })
  refused e = refl

  module _ (Made : Path → Type 0) (bound : ℕ) (h : Named Made bound t) where
    -- it doesn't come to its end
    ends : (path : Path) (next : List Child → Plan) → (path ≡ [] → ⊥) → (Made path → ⊥) → IsFree (outcome t (walk root path next))
    ends path next some none =
        walk_steps t IsFree refused root path next
        (λ cs s. ⊎_elim (λ (e : path ≡ []). absurd (some e)) (λ (m : Made path). absurd (none m))
        (h.made path (last_of root cs) (steps_lead t root path cs s)))

    pub lookup_misses : (path : Path) → (path ≡ [] → ⊥) → (Made path → ⊥) → grants osts t (act (op.Lookup path)) ≡ []
    lookup_misses path some none = ends path (λ cs. row_lookup cs (last_of root cs)) some none

    pub stat_misses : (path : Path) → (path ≡ [] → ⊥) → (Made path → ⊥) → grants osts t (act (op.Stat path)) ≡ []
    stat_misses path some none = ends path (λ cs. row_stat cs (last_of root cs)) some none

    pub list_misses : (path : Path) → (path ≡ [] → ⊥) → (Made path → ⊥) → grants osts t (act (op.List path)) ≡ []
    list_misses path some none = ends path (λ cs. row_list cs (last_of root cs)) some none

    -- the root has no layout
    pub layout_misses : (path : Path) → (Made path → ⊥) → grants osts t (act (op.Layout path)) ≡ []
    layout_misses [] none = refl
    layout_misses (n ∷ ns) none = ends (n ∷ ns) (λ cs. row_layout cs (last_of root cs)) (λ e. absurd (cc)) none

  -- ---- what changes names

  mkdir_free : (path : Path) → IsFree (outcome t (to_last EEXIST path (λ cs d n. absent (row_mkdir number d n))))
  mkdir_free path = to_last_ends t IsFree refused EEXIST path (λ cs d n. absent (row_mkdir number d n))
      (λ cs d n. absent_ends t IsFree refused (row_mkdir number d n) (child t d n) (λ _. refl))

  create_free : (path : Path) (l : Option Raid0) → IsFree (outcome t (to_last EEXIST path (λ cs d n. absent (row_create number d n l))))
  create_free path l = to_last_ends t IsFree refused EEXIST path (λ cs d n. absent (row_create number d n l))
      (λ cs d n. absent_ends t IsFree refused (row_create number d n l) (child t d n) (λ _. made d n l))
    where
      made : (d : Fid) (n : List ℕ) (l : Option Raid0) → IsFree (outcome t (row_create number d n l))
      made d n None = refl
      made d n (Some l) = refl

  link_free : (new : Path) (c : Child) → IsFree (outcome t (row_link new c))
  link_free new (Dir d) = refl
  link_free new (File f) =
      to_last_ends t IsFree refused EEXIST new (λ cs d n. absent
      (LookAttr (File f) (λ a. does told.Done (Leads d n (File f) ∷ SetLinks f (a.links + 1) ∷ []))))
      (λ cs d n. absent_ends t IsFree refused (LookAttr (File f) (λ a. does told.Done (Leads d n (File f) ∷ SetLinks f (a.links + 1) ∷ [])))
      (child t d n) (λ _. refl))

  unlink_free : (d : Fid) (n : List ℕ) (c : Child) → IsFree (outcome t (row_unlink d n c))
  unlink_free d n (Dir e) = refl
  unlink_free d n (File f) = refl

  rmdir_free : (d : Fid) (n : List ℕ) (c : Child) → IsFree (outcome t (row_rmdir d n c))
  rmdir_free d n (File f) = refl
  rmdir_free d n (Dir e) = if_empty_ends t IsFree refused (listing t e) (does told.Done (Drops d n ∷ Parted e ∷ Leaves e ∷ [])) (λ _. refl)

  replace_free : (d : Fid) (n : List ℕ) (c : Child) (e : Fid) (m : List ℕ) (g : Child) → IsFree (outcome t (row_replace d n c e m g))
  replace_free d n (Dir f) e m (File g) = refl
  replace_free d n (File f) e m (Dir g) = refl
  replace_free d n (Dir f) e m (Dir g) = if_empty_ends t IsFree refused (listing t g) (moves d n (Dir f) e m (Parted g ∷ Leaves g ∷ []))
      (λ _. refl)
  replace_free d n (File f) e m (File g) = refl

  rename_row_free : (d : Fid) (n : List ℕ) (c : Child) (cs : List Child) (e : Fid) (m : List ℕ) (o : Option Child)
      → IsFree (outcome t (row_rename d n c cs e m o))
  rename_row_free d n c cs e m None = cond_both (passes c cs) (Refuse EINVAL) (moves d n c e m []) (λ x. IsFree (outcome t x)) (λ _. refl)
      (λ _. refl)
  rename_row_free d n c cs e m (Some g) =
      cond_both (same_fid (fid_of g) (fid_of c)) (tells told.Done []) (if passes c cs then Refuse EINVAL else row_replace d n c e m g)
      (λ x. IsFree (outcome t x)) (λ _. refl)
      (λ _. cond_both (passes c cs) (Refuse EINVAL) (row_replace d n c e m g) (λ x. IsFree (outcome t x)) (λ _. refl)
      (λ _. replace_free d n c e m g))

  rename_free : (old new : Path) → IsFree (outcome t (rename old new))
  rename_free old [] = refl
  rename_free old (m ∷ ms) =
      to_last_ends t IsFree refused EBUSY old (λ cs d n. there (λ c. walk_up root m ms (λ cs e m. row_rename d n c cs e m)))
      (λ cs d n. there_ends t IsFree refused (λ c. walk_up root m ms (λ cs e m. row_rename d n c cs e m)) (child t d n)
      (λ c is. walk_up_ends t IsFree refused root m ms (λ cs e m. row_rename d n c cs e m)
      (λ cs e m. rename_row_free d n c cs e m (child t e m))))

  chmod_free : (mode : ℕ) (c : Child) → IsFree (outcome t (row_chmod mode c))
  chmod_free mode c = cond_both ((attributes t c).mode == mode) (tells told.Done []) (does told.Done (SetMode c mode ∷ []))
      (λ x. IsFree (outcome t x)) (λ _. refl) (λ _. refl)

  open_free : (c : Child) → IsFree (outcome t (row_open number who c))
  open_free (Dir d) = refl
  open_free (File f) = refl

  pub changing_free : (o : Op) → IsOnNames o → (IsReading o → ⊥) → grants osts t (act o) ≡ []
  changing_free (op.Lookup path) is changes = absurd (changes tt)
  changing_free (op.Stat path) is changes = absurd (changes tt)
  changing_free (op.List path) is changes = absurd (changes tt)
  changing_free (op.Layout path) is changes = absurd (changes tt)
  changing_free (op.Mkdir path) is changes = mkdir_free path
  changing_free (op.Create path size count) is changes = create_free path (new_layout osts number size count)
  changing_free (op.Link old new) is changes = walk_ends t IsFree refused root old (λ cs. row_link new (last_of root cs))
      (λ cs h. link_free new (last_of root cs))
  changing_free (op.Unlink path) is changes = to_last_ends t IsFree refused EISDIR path (λ cs d n. there (row_unlink d n))
      (λ cs d n. there_ends t IsFree refused (row_unlink d n) (child t d n) (λ c h. unlink_free d n c))
  changing_free (op.Rmdir path) is changes = to_last_ends t IsFree refused EBUSY path (λ cs d n. there (row_rmdir d n))
      (λ cs d n. there_ends t IsFree refused (row_rmdir d n) (child t d n) (λ c h. rmdir_free d n c))
  changing_free (op.Rename old new) is changes = rename_free old new
  changing_free (op.Chmod path mode) is changes = walk_ends t IsFree refused root path (λ cs. row_chmod mode (last_of root cs))
      (λ cs h. chmod_free mode (last_of root cs))
  changing_free (op.Open path) is changes = walk_ends t IsFree refused root path (λ cs. row_open number who (last_of root cs))
      (λ cs h. open_free (last_of root cs))
  changing_free (op.Close opened fid) is changes = refl
  changing_free _ is changes = absurd is
