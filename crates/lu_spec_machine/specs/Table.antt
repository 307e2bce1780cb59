-- The table of operations on names (POSIX.1, and this project's profile where it chooses): which errors
-- come, in their order, what is answered, which locks are granted and what changes. A walk goes from the
-- root name by name; at each name ENAMETOOLONG comes before ENOTDIR, and that before ENOENT.
use Rattle.std.specs.Prelude.{ℕ, zero, ◌+◌, ◌-◌, Bool, false, List, [], ◌∷◌, Option, Some, None, ◌==◌, ◌||◌, if◌then◌else◌}
use Rattle.lu_base.specs.declared.ids.Fid.{Fid}
use Rattle.lu_base.specs.declared.ids.Txn.{Txn}
use Rattle.lu_base.specs.declared.ids.Who.{Who}
use Rattle.lu_layout.specs.Raid0.{Raid0}
use Rattle.lu_msg.specs.declared.answers.Answer.{Answer}
use Rattle.lu_msg.specs.declared.answers.Answer.TheVariants as told
use Rattle.lu_msg.specs.declared.answers.Errno.{Errno}
use Rattle.lu_msg.specs.declared.answers.Errno.TheVariants.{ENOENT, EEXIST, ENOTDIR, EISDIR, ENOTEMPTY, EPERM, EINVAL, EBUSY, EBADF}
use Rattle.lu_msg.specs.declared.answers.Errno.TheVariants.{ENAMETOOLONG}
use Rattle.lu_msg.specs.declared.operations.Op.{Op}
use Rattle.lu_msg.specs.declared.operations.Op.TheVariants as op
use Rattle.lu_part.specs.declared.bits.TheConstants.{LOOKUP, UPDATE, LAYOUT}
use Rattle.lu_part.specs.declared.parts.Want.{Want}
use Rattle.lu_spec_machine.specs.declared.child.Child.{Child}
use Rattle.lu_spec_machine.specs.declared.child.Child.TheVariants.{Dir, File}
use Rattle.lu_spec_machine.specs.Name.{is_too_long}
use Rattle.lu_spec_machine.specs.Tree.{same_fid, fid_of}
use Rattle.lu_spec_machine.specs.Change.{Change, Leads, Drops, Parted, MakesDir, MakesFile, SetMode, SetLinks, Leaves, Opens, Closes}
use Rattle.lu_spec_machine.specs.Striping.{new_layout}
use Rattle.lu_spec_machine.specs.Plan.{Plan, Refuse, Do, LookName, LookList, LookAttr, LookLayout}

abbrev pub root : Child
root = Dir (record { 0 = 1 })

-- a new inode has the number of the transaction that makes it
abbrev pub made_by : Txn → Fid
made_by number = record { 0 = number.0 }

-- ---- walks

abbrev pub look_in : Child → List ℕ → (Fid → Option Child → Plan) → Plan
look_in (File f) n next = Refuse ENOTDIR
look_in (Dir d) n next = LookName d n (next d)

-- one name: the directory, and what is found there, go on
abbrev pub look : Child → List ℕ → (Fid → Option Child → Plan) → Plan
look at n next = if is_too_long n then Refuse ENAMETOOLONG else look_in at n next

abbrev pub there : (Child → Plan) → Option Child → Plan
there next None = Refuse ENOENT
there next (Some c) = next c

abbrev pub absent : Plan → Option Child → Plan
absent next None = next
absent next (Some c) = Refuse EEXIST

-- the whole path: the inodes after the root go on
abbrev pub walk : Child → List (List ℕ) → (List Child → Plan) → Plan
walk at [] next = next []
walk at (n ∷ ns) next = look at n (λ d. there (λ c. walk c ns (λ cs. next (c ∷ cs))))

abbrev pub onward : List (List ℕ) → (List Child → Fid → List ℕ → Option Child → Plan) → Fid → List ℕ → Option Child → Plan
onward [] next d n o = next [] d n o
onward (m ∷ ns) next d n o = there (λ c. look c m (λ e. onward ns (λ cs. next (c ∷ cs)) e m)) o

-- all names but the last must be there: the inodes after the root up to the last name's directory,
-- that directory, the last name and what is found there go on
abbrev pub walk_up : Child → List ℕ → List (List ℕ) → (List Child → Fid → List ℕ → Option Child → Plan) → Plan
walk_up at n ns next = look at n (λ d. onward ns next d n)

-- the same, with what is answered for `/`
abbrev pub to_last : Errno → List (List ℕ) → (List Child → Fid → List ℕ → Option Child → Plan) → Plan
to_last e [] next = Refuse e
to_last e (n ∷ ns) next = walk_up root n ns next

abbrev pub last_of : Child → List Child → Child
last_of c [] = c
last_of c (d ∷ ds) = last_of d ds

-- ---- grants: PR locks, LOOKUP on each inode after the root, and more bits on the last one

-- the root is locked only where it is the last, and then without LOOKUP; a lock without bits isn't made
abbrev pub wants : ℕ → List Child → List Want
wants zero [] = []
wants more [] = record { fid = fid_of root; bits = more } ∷ []
wants more (c ∷ []) = record { fid = fid_of c; bits = LOOKUP + more } ∷ []
wants more (c ∷ d ∷ cs) = record { fid = fid_of c; bits = LOOKUP } ∷ wants more (d ∷ cs)

-- an answer with grants makes no transaction, and one with changes makes one
abbrev pub tells : Answer → List Want → Plan
tells answer grants = Do answer grants []

abbrev pub does : Answer → List Change → Plan
does answer changes = Do answer [] changes

-- ---- the rows, from the end of the walk on

abbrev pub found : Child → Answer
found (Dir d) = told.Dir d
found (File f) = told.File f

abbrev pub row_lookup : List Child → Child → Plan
row_lookup cs c = tells (found c) (wants 0 cs)

abbrev pub row_stat : List Child → Child → Plan
row_stat cs (Dir d) = LookAttr (Dir d) (λ a. tells (told.DirStat d a.mode) (wants UPDATE cs))
row_stat cs (File f) = LookAttr (File f) (λ a. LookLayout f (λ l. tells (told.FileStat f a.mode a.links l) (wants (UPDATE + LAYOUT) cs)))

abbrev pub row_list : List Child → Child → Plan
row_list cs (Dir d) = LookList d (λ names. tells (told.Names names) (wants UPDATE cs))
row_list cs (File f) = Refuse ENOTDIR

abbrev pub row_layout : List Child → Child → Plan
row_layout cs (Dir d) = Refuse EISDIR
row_layout cs (File f) = LookLayout f (λ l. tells (told.Layout l) (wants LAYOUT cs))

abbrev pub row_mkdir : Txn → Fid → List ℕ → Plan
row_mkdir number d n = does (told.Made (made_by number)) (MakesDir (made_by number) ∷ Leads d n (Dir (made_by number)) ∷ [])

abbrev pub row_create : Txn → Fid → List ℕ → Option Raid0 → Plan
row_create number d n None = Refuse EINVAL
row_create number d n (Some l) = does (told.Made (made_by number)) (MakesFile (made_by number) l ∷ Leads d n (File (made_by number)) ∷ [])

abbrev pub row_link : List (List ℕ) → Child → Plan
row_link new (Dir d) = Refuse EPERM
row_link new (File f) = to_last EEXIST new (λ cs d n. absent (LookAttr (File f)
    (λ a. does told.Done (Leads d n (File f) ∷ SetLinks f (a.links + 1) ∷ []))))

abbrev pub row_unlink : Fid → List ℕ → Child → Plan
row_unlink d n (Dir e) = Refuse EISDIR
row_unlink d n (File f) = LookAttr (File f) (λ a. does told.Done (Drops d n ∷ Parted f ∷ SetLinks f (a.links - 1) ∷ []))

abbrev pub if_empty : List (List ℕ) → Plan → Plan
if_empty [] next = next
if_empty (n ∷ ns) next = Refuse ENOTEMPTY

abbrev pub row_rmdir : Fid → List ℕ → Child → Plan
row_rmdir d n (File f) = Refuse ENOTDIR
row_rmdir d n (Dir e) = LookList e (λ names. if_empty names (does told.Done (Drops d n ∷ Parted e ∷ Leaves e ∷ [])))

-- whether a directory is among the inodes that a walk passes
abbrev pub passes : Child → List Child → Bool
passes (File f) cs = false
passes (Dir d) [] = false
passes (Dir d) (c ∷ cs) = same_fid (fid_of c) d || passes (Dir d) cs

-- the name n of d goes, and m of e leads to what it led to
abbrev pub moves : Fid → List ℕ → Child → Fid → List ℕ → List Change → Plan
moves d n c e m more = does told.Done (Drops d n ∷ Leads e m c ∷ Parted (fid_of c) ∷ more)

-- onto what the new name led to
abbrev pub row_replace : Fid → List ℕ → Child → Fid → List ℕ → Child → Plan
row_replace d n (Dir f) e m (File g) = Refuse ENOTDIR
row_replace d n (File f) e m (Dir g) = Refuse EISDIR
row_replace d n (Dir f) e m (Dir g) = LookList g (λ names. if_empty names (moves d n (Dir f) e m (Parted g ∷ Leaves g ∷ [])))
row_replace d n (File f) e m (File g) = LookAttr (File g) (λ a. moves d n (File f) e m (Parted g ∷ SetLinks g (a.links - 1) ∷ []))

abbrev pub row_rename : Fid → List ℕ → Child → List Child → Fid → List ℕ → Option Child → Plan
row_rename d n c cs e m None = if passes c cs then Refuse EINVAL else moves d n c e m []
row_rename d n c cs e m (Some g) =
    if same_fid (fid_of g) (fid_of c)
    then tells told.Done []
    else (if passes c cs then Refuse EINVAL else row_replace d n c e m g)

-- `/` on either side comes before both walks
abbrev pub rename : List (List ℕ) → List (List ℕ) → Plan
rename old [] = Refuse EBUSY
rename old (m ∷ ms) = to_last EBUSY old (λ cs d n. there (λ c. walk_up root m ms (λ cs e m. row_rename d n c cs e m)))

-- to the mode that stands it changes nothing
abbrev pub row_chmod : ℕ → Child → Plan
row_chmod mode c = LookAttr c (λ a. if a.mode == mode then tells told.Done [] else does told.Done (SetMode c mode ∷ []))

abbrev pub row_open : Txn → Who → Child → Plan
row_open number who (Dir d) = Refuse EISDIR
row_open number who (File f) = LookLayout f (λ l. does (told.OpenFile f number l) (Opens number who f ∷ []))

-- ---- one clause for each operation. An operation of an object storage target is none on names: it
-- looks at nothing, changes nothing, and is refused with EBADF, which no operation on names answers.

abbrev pub plan : ℕ → Txn → Who → Op → Plan
plan osts number who (op.Lookup path) = walk root path (λ cs. row_lookup cs (last_of root cs))
plan osts number who (op.Stat path) = walk root path (λ cs. row_stat cs (last_of root cs))
plan osts number who (op.List path) = walk root path (λ cs. row_list cs (last_of root cs))
plan osts number who (op.Layout path) = walk root path (λ cs. row_layout cs (last_of root cs))
plan osts number who (op.Mkdir path) = to_last EEXIST path (λ cs d n. absent (row_mkdir number d n))
plan osts number who (op.Create path size count) = to_last EEXIST path
    (λ cs d n. absent (row_create number d n (new_layout osts number size count)))
plan osts number who (op.Link old new) = walk root old (λ cs. row_link new (last_of root cs))
plan osts number who (op.Unlink path) = to_last EISDIR path (λ cs d n. there (row_unlink d n))
plan osts number who (op.Rmdir path) = to_last EBUSY path (λ cs d n. there (row_rmdir d n))
plan osts number who (op.Rename old new) = rename old new
plan osts number who (op.Chmod path mode) = walk root path (λ cs. row_chmod mode (last_of root cs))
plan osts number who (op.Open path) = walk root path (λ cs. row_open number who (last_of root cs))
plan osts number who (op.Close opened fid) = does told.Done (Closes opened who ∷ [])
plan osts number who (op.Enqueue resource mode extent) = Refuse EBADF
plan osts number who (op.Get resource cookie page) = Refuse EBADF
plan osts number who (op.Put resource cookie offset bytes) = Refuse EBADF
plan osts number who (op.Cut resource cookie size) = Refuse EBADF
plan osts number who (op.Size resource) = Refuse EBADF
