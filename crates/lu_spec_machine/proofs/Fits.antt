-- Each answer of the table fits its operation: the ends of each row, by the walks.
use Rattle.std.proofs.Common.{◌≡◌, ℕ, ◌+◌, Bool, true, false, List, [], ◌∷◌, Option, Some, None, ℤ, refl}
use Rattle.std.specs.Prelude.{◌==◌, if◌then◌else◌}
use Rattle.std.proofs.lemmas.Bool.{cond_both}
use Rattle.lu_base.specs.declared.ids.Fid.{Fid}
use Rattle.lu_base.specs.declared.ids.Txn.{Txn}
use Rattle.lu_base.specs.declared.ids.Who.{Who}
use Rattle.lu_layout.specs.Raid0.{Raid0}
use Rattle.lu_msg.specs.declared.answers.Answer.TheVariants as told
use Rattle.lu_msg.specs.declared.answers.Errno.{Errno}
use Rattle.lu_msg.specs.declared.answers.Errno.TheVariants.{ENOENT, EEXIST, ENOTDIR, EISDIR, ENOTEMPTY, EPERM, EINVAL, EBUSY, EBADF}
use Rattle.lu_msg.specs.declared.answers.Errno.TheVariants.{ENAMETOOLONG, EIO}
use Rattle.lu_msg.specs.declared.operations.Op.{Op}
use Rattle.lu_msg.specs.declared.operations.Op.TheVariants as op
use Rattle.lu_spec_machine.specs.declared.child.Child.{Child}
use Rattle.lu_spec_machine.specs.declared.child.Child.TheVariants.{Dir, File}
use Rattle.lu_spec_machine.specs.Tree.{Tree, same_fid, fid_of, child, listing, attributes}
use Rattle.lu_spec_machine.specs.Change.{Drops, Leads, Parted, SetMode, SetLinks, Leaves}
use Rattle.lu_spec_machine.specs.Striping.{new_layout}
use Rattle.lu_spec_machine.specs.Plan.{Plan, Refuse, LookAttr, Outcome, outcome}
use Rattle.lu_spec_machine.specs.Table.{root, there, absent, walk, walk_up, to_last, last_of, tells, does, row_lookup, row_stat, row_list}
use Rattle.lu_spec_machine.specs.Table.{row_layout, row_mkdir, row_create, row_link, row_unlink, row_rmdir, passes, moves, row_replace}
use Rattle.lu_spec_machine.specs.Table.{row_rename, rename, row_chmod, row_open, plan}
use Rattle.lu_spec_machine.specs.Fits.{answer_fits, AnswersFit}
use Rattle.lu_spec_machine.proofs.Walks.{there_within, absent_within, if_empty_within, walk_within, walk_up_within, to_last_within}

-- the errors of the table
abbrev is_error : Errno → Bool
is_error ENOENT = true
is_error EEXIST = true
is_error ENOTDIR = true
is_error EISDIR = true
is_error ENOTEMPTY = true
is_error EPERM = true
is_error EINVAL = true
is_error EBUSY = true
is_error EBADF = false
is_error ENAMETOOLONG = true
is_error EIO = false

abbrev Fits : Op → Outcome → Type 0
Fits o x = answer_fits o x.answer ≡ true

-- an operation that these errors fit
abbrev Refuses : Op → Type 0
Refuses o = (e : Errno) → is_error e ≡ true → answer_fits o (told.Refused e) ≡ true

-- one that has the form of refusals among its own
refuses : (o : Op) → answer_fits o (told.Refused ENOENT) ≡ true → Refuses o
refuses o h ENOENT e = h
refuses o h EEXIST e = h
refuses o h ENOTDIR e = h
refuses o h EISDIR e = h
refuses o h ENOTEMPTY e = h
refuses o h EPERM e = h
refuses o h EINVAL e = h
refuses o h EBUSY e = h
refuses o h EBADF e = absurd (cc (e))
refuses o h ENAMETOOLONG e = h
refuses o h EIO e = absurd (cc (e))

module _ (t : Tree) where
  whole_fits : (o : Op) → Refuses o → (path : List (List ℕ)) (next : List Child → Plan) → ((cs : List Child) → Fits o (outcome t (next cs)))
      → Fits o (outcome t (walk root path next))
  whole_fits o may path next h = walk_within t (Fits o) is_error may refl refl refl root path next (λ cs _. h cs)

  last_fits : (o : Op) → Refuses o → (e : Errno) → is_error e ≡ true
      → (path : List (List ℕ)) (next : List Child → Fid → List ℕ → Option Child → Plan)
      → ((cs : List Child) (d : Fid) (n : List ℕ) (found : Option Child) → Fits o (outcome t (next cs d n found)))
      → Fits o (outcome t (to_last e path next))
  last_fits o may e ok path next h = to_last_within t (Fits o) is_error may refl refl refl e ok path next (λ cs d n. h cs d n (child t d n))

  -- ---- the rows that are read

  lookup_fits : (path : List (List ℕ)) (cs : List Child) (c : Child) → Fits (op.Lookup path) (outcome t (row_lookup cs c))
  lookup_fits path cs (Dir d) = refl
  lookup_fits path cs (File f) = refl

  stat_fits : (path : List (List ℕ)) (cs : List Child) (c : Child) → Fits (op.Stat path) (outcome t (row_stat cs c))
  stat_fits path cs (Dir d) = refl
  stat_fits path cs (File f) = refl

  list_fits : (path : List (List ℕ)) (cs : List Child) (c : Child) → Fits (op.List path) (outcome t (row_list cs c))
  list_fits path cs (Dir d) = refl
  list_fits path cs (File f) = refl

  layout_fits : (path : List (List ℕ)) (cs : List Child) (c : Child) → Fits (op.Layout path) (outcome t (row_layout cs c))
  layout_fits path cs (Dir d) = refl
  layout_fits path cs (File f) = refl

  open_fits : (number : Txn) (who : Who) (path : List (List ℕ)) (c : Child) → Fits (op.Open path) (outcome t (row_open number who c))
  open_fits number who path (Dir d) = refl
  open_fits number who path (File f) = refl

  -- ---- the rows that make an inode

  mkdir_fits : (number : Txn) (path : List (List ℕ)) (d : Fid) (n : List ℕ) (found : Option Child)
      → Fits (op.Mkdir path) (outcome t (absent (row_mkdir number d n) found))
  mkdir_fits number path d n None = refl
  mkdir_fits number path d n (Some c) = refl

  create_fits : (number : Txn) (path : List (List ℕ)) (size : ℕ) (count : ℤ) (d : Fid) (n : List ℕ) (l : Option Raid0)
      (found : Option Child) → Fits (op.Create path size count) (outcome t (absent (row_create number d n l) found))
  create_fits number path size count d n None None = refl
  create_fits number path size count d n (Some l) None = refl
  create_fits number path size count d n l (Some c) = refl

  -- ---- the rows that answer that it is done

  module _ (o : Op) (may : Refuses o) (done : answer_fits o told.Done ≡ true) where
    link_fits : (new : List (List ℕ)) (c : Child) → Fits o (outcome t (row_link new c))
    link_fits new (Dir d) = may EPERM refl
    link_fits new (File f) =
        last_fits o may EEXIST refl new (λ cs d n. absent (LookAttr (File f)
        (λ a. does told.Done (Leads d n (File f) ∷ SetLinks f (a.links + 1) ∷ []))))
        (λ cs d n found. absent_within t (Fits o) is_error may refl
        (LookAttr (File f) (λ a. does told.Done (Leads d n (File f) ∷ SetLinks f (a.links + 1) ∷ []))) found (λ _. done))

    unlink_fits : (d : Fid) (n : List ℕ) (c : Child) → Fits o (outcome t (row_unlink d n c))
    unlink_fits d n (Dir e) = may EISDIR refl
    unlink_fits d n (File f) = done

    rmdir_fits : (d : Fid) (n : List ℕ) (c : Child) → Fits o (outcome t (row_rmdir d n c))
    rmdir_fits d n (File f) = may ENOTDIR refl
    rmdir_fits d n (Dir e) = if_empty_within t (Fits o) is_error may refl (listing t e)
        (does told.Done (Drops d n ∷ Parted e ∷ Leaves e ∷ [])) (λ _. done)

    replace_fits : (d : Fid) (n : List ℕ) (c : Child) (e : Fid) (m : List ℕ) (g : Child) → Fits o (outcome t (row_replace d n c e m g))
    replace_fits d n (Dir f) e m (File g) = may ENOTDIR refl
    replace_fits d n (File f) e m (Dir g) = may EISDIR refl
    replace_fits d n (Dir f) e m (Dir g) = if_empty_within t (Fits o) is_error may refl (listing t g)
        (moves d n (Dir f) e m (Parted g ∷ Leaves g ∷ [])) (λ _. done)
    replace_fits d n (File f) e m (File g) = done

    rename_row_fits : (d : Fid) (n : List ℕ) (c : Child) (cs : List Child) (e : Fid) (m : List ℕ) (found : Option Child)
        → Fits o (outcome t (row_rename d n c cs e m found))
    rename_row_fits d n c cs e m None = cond_both (passes c cs) (Refuse EINVAL) (moves d n c e m []) (λ p. Fits o (outcome t p))
        (λ _. may EINVAL refl) (λ _. done)
    rename_row_fits d n c cs e m (Some g) =
        cond_both (same_fid (fid_of g) (fid_of c)) (tells told.Done []) (if passes c cs then Refuse EINVAL else row_replace d n c e m g)
        (λ p. Fits o (outcome t p)) (λ _. done)
        (λ _. cond_both (passes c cs) (Refuse EINVAL) (row_replace d n c e m g) (λ p. Fits o (outcome t p)) (λ _. may EINVAL refl)
        (λ _. replace_fits d n c e m g))

    rename_fits : (old new : List (List ℕ)) → Fits o (outcome t (rename old new))
    rename_fits old [] = may EBUSY refl
    rename_fits old (m ∷ ms) =
        last_fits o may EBUSY refl old (λ cs d n. there (λ c. walk_up root m ms (λ cs e m. row_rename d n c cs e m)))
        (λ cs d n found. there_within t (Fits o) is_error may refl (λ c. walk_up root m ms (λ cs e m. row_rename d n c cs e m)) found
        (λ c _. walk_up_within t (Fits o) is_error may refl refl refl root m ms (λ cs e m. row_rename d n c cs e m)
        (λ cs e m. rename_row_fits d n c cs e m (child t e m))))

    chmod_fits : (mode : ℕ) (c : Child) → Fits o (outcome t (row_chmod mode c))
    chmod_fits mode c = cond_both ((attributes t c).mode == mode) (tells told.Done []) (does told.Done (SetMode c mode ∷ []))
        (λ p. Fits o (outcome t p)) (λ _. done) (λ _. done)

  plan_fits : (osts : ℕ) (number : Txn) (who : Who) (o : Op) → Fits o (outcome t (plan osts number who o))
  plan_fits osts number who (op.Lookup path) = whole_fits (op.Lookup path) (refuses (op.Lookup path) refl) path
      (λ cs. row_lookup cs (last_of root cs)) (λ cs. lookup_fits path cs (last_of root cs))
  plan_fits osts number who (op.Stat path) = whole_fits (op.Stat path) (refuses (op.Stat path) refl) path
      (λ cs. row_stat cs (last_of root cs)) (λ cs. stat_fits path cs (last_of root cs))
  plan_fits osts number who (op.List path) = whole_fits (op.List path) (refuses (op.List path) refl) path
      (λ cs. row_list cs (last_of root cs)) (λ cs. list_fits path cs (last_of root cs))
  plan_fits osts number who (op.Layout path) = whole_fits (op.Layout path) (refuses (op.Layout path) refl) path
      (λ cs. row_layout cs (last_of root cs)) (λ cs. layout_fits path cs (last_of root cs))
  plan_fits osts number who (op.Mkdir path) = last_fits (op.Mkdir path) (refuses (op.Mkdir path) refl) EEXIST refl path
      (λ cs d n. absent (row_mkdir number d n)) (λ cs d n. mkdir_fits number path d n)
  plan_fits osts number who (op.Create path size count) =
      last_fits (op.Create path size count) (refuses (op.Create path size count) refl) EEXIST refl path
      (λ cs d n. absent (row_create number d n (new_layout osts number size count)))
      (λ cs d n. create_fits number path size count d n (new_layout osts number size count))
  plan_fits osts number who (op.Link old new) = whole_fits (op.Link old new) (refuses (op.Link old new) refl) old
      (λ cs. row_link new (last_of root cs)) (λ cs. link_fits (op.Link old new) (refuses (op.Link old new) refl) refl new (last_of root cs))
  plan_fits osts number who (op.Unlink path) =
      last_fits (op.Unlink path) (refuses (op.Unlink path) refl) EISDIR refl path (λ cs d n. there (row_unlink d n))
      (λ cs d n found. there_within t (Fits (op.Unlink path)) is_error (refuses (op.Unlink path) refl) refl (row_unlink d n) found
      (λ c _. unlink_fits (op.Unlink path) (refuses (op.Unlink path) refl) refl d n c))
  plan_fits osts number who (op.Rmdir path) =
      last_fits (op.Rmdir path) (refuses (op.Rmdir path) refl) EBUSY refl path (λ cs d n. there (row_rmdir d n))
      (λ cs d n found. there_within t (Fits (op.Rmdir path)) is_error (refuses (op.Rmdir path) refl) refl (row_rmdir d n) found
      (λ c _. rmdir_fits (op.Rmdir path) (refuses (op.Rmdir path) refl) refl d n c))
  plan_fits osts number who (op.Rename old new) = rename_fits (op.Rename old new) (refuses (op.Rename old new) refl) refl old new
  plan_fits osts number who (op.Chmod path mode) = whole_fits (op.Chmod path mode) (refuses (op.Chmod path mode) refl) path
      (λ cs. row_chmod mode (last_of root cs)) (λ cs. chmod_fits (op.Chmod path mode) (refuses (op.Chmod path mode) refl) refl mode
      (last_of root cs))
  plan_fits osts number who (op.Open path) = whole_fits (op.Open path) (refuses (op.Open path) refl) path
      (λ cs. row_open number who (last_of root cs)) (λ cs. open_fits number who path (last_of root cs))
  plan_fits osts number who (op.Close opened fid) = refl
  plan_fits osts number who (op.Enqueue resource mode extent) = refl
  plan_fits osts number who (op.Get resource cookie page) = refl
  plan_fits osts number who (op.Put resource cookie offset bytes) = refl
  plan_fits osts number who (op.Cut resource cookie size) = refl
  plan_fits osts number who (op.Size resource) = refl

pub answers_fit : AnswersFit
answers_fit osts t a = plan_fits t osts a.number a.who a.op
