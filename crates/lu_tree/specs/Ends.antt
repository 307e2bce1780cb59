-- Where an operation comes to in the table: one case for each row's end.
use Rattle.std.specs.Prelude.{◌≡◌, ℕ, ◌+◌, ◌-◌, ◌<◌, false, Option, Some, None, List, [], ◌∷◌, ◌++◌, ◌⊎◌, Result}
use Rattle.std.specs.Map.{lookup}
use Rattle.std.specs.declared.result.Result.TheVariants.{Ok, Err}
use Rattle.lu_base.specs.declared.ids.Fid.{Fid}
use Rattle.lu_base.specs.declared.ids.Txn.{Txn}
use Rattle.lu_base.specs.declared.ids.Who.{Who}
use Rattle.lu_layout.specs.Raid0.{Raid0}
use Rattle.lu_msg.specs.declared.answers.Answer.{Answer}
use Rattle.lu_msg.specs.declared.answers.Answer.TheVariants as told
use Rattle.lu_msg.specs.declared.answers.Errno.{Errno}
use Rattle.lu_msg.specs.declared.answers.Errno.TheVariants.{ENOTEMPTY}
use Rattle.lu_msg.specs.declared.operations.Op.{Op}
use Rattle.lu_msg.specs.declared.operations.Op.TheVariants as op
use Rattle.lu_part.specs.declared.bits.TheConstants.{UPDATE, LAYOUT}
use Rattle.lu_part.specs.declared.parts.Part.{Part}
use Rattle.lu_part.specs.declared.parts.Part.TheVariants as part
use Rattle.lu_part.specs.declared.parts.Want.{Want}
use Rattle.lu_tree.specs.Walks.{looks, reach}
use Rattle.lu_spec_machine.specs.declared.child.Child.{Child}
use Rattle.lu_spec_machine.specs.declared.child.Child.TheVariants.{Dir, File}
use Rattle.lu_spec_machine.specs.Tree.{Tree, same_fid, fid_of, child, listing, directory, file, layout}
use Rattle.lu_spec_machine.specs.Change.{Change, Leads, Drops, Parted, MakesDir, MakesFile, SetMode, SetLinks, Leaves, Opens, Closes}
use Rattle.lu_spec_machine.specs.Plan.{Outcome}
use Rattle.lu_spec_machine.specs.Striping.{is_bad, stripe_targets}
use Rattle.lu_spec_machine.specs.Table.{root, made_by, found, wants}
use Rattle.lu_tree.specs.declared.ends.End.{End}
use Rattle.lu_tree.specs.declared.ends.End.TheVariants.{Refused, NotEmpty, Finds, Stats, Lists, Shows, Makes, Creates, Links, Loses, Same}
use Rattle.lu_tree.specs.declared.ends.End.TheVariants.{Moves, Replaces, SetsMode, KeepsMode, OpensFile, ClosesFile}

abbrev pub stat_of : Tree → Child → Answer
stat_of t (Dir d) = told.DirStat d (directory t d).mode
stat_of t (File f) = told.FileStat f (file t f).mode (file t f).links (layout t f)

abbrev pub told_of : Tree → Txn → End → Answer
told_of t number (Refused e) = told.Refused e
told_of t number (NotEmpty d) = told.Refused ENOTEMPTY
told_of t number (Finds c) = found c
told_of t number (Stats c) = stat_of t c
told_of t number (Lists d) = told.Names (listing t d)
told_of t number (Shows f) = told.Layout (layout t f)
told_of t number (Makes new) = told.Made (made_by number)
told_of t number (Creates new size count) = told.Made (made_by number)
told_of t number (Links new f) = told.Done
told_of t number (Loses old g) = told.Done
told_of t number (SetsMode c mode) = told.Done
told_of t number (KeepsMode c) = told.Done
told_of t number Same = told.Done
told_of t number (Moves old c new) = told.Done
told_of t number (Replaces old c new g) = told.Done
told_of t number (OpensFile f) = told.OpenFile f number (layout t f)
told_of t number (ClosesFile opened f) = told.Done

-- the layout of a new file
abbrev pub striped : ℕ → Txn → ℕ → ℕ → Raid0
striped osts number size count = record { size = size; targets = stripe_targets osts number count }

-- what loses a name goes, if it is a directory, and has a link less, if it is a file
abbrev pub leaving : Tree → Child → Change
leaving t (Dir g) = Leaves g
leaving t (File g) = SetLinks g ((file t g).links - 1)

-- over this many object storage targets
abbrev pub changes_of : ℕ → Tree → Txn → Who → End → List Change
changes_of osts t number who (Makes new) = MakesDir (made_by number) ∷ Leads new.dir new.name.now (Dir (made_by number)) ∷ []
changes_of osts t number who (Creates new size count) = MakesFile (made_by number) (striped osts number size count)
    ∷ Leads new.dir new.name.now (File (made_by number)) ∷ []
changes_of osts t number who (Links new f) = Leads new.dir new.name.now (File f) ∷ SetLinks f ((file t f).links + 1) ∷ []
changes_of osts t number who (Loses old g) = Drops old.dir old.name.now ∷ Parted (fid_of g) ∷ leaving t g ∷ []
changes_of osts t number who (SetsMode c mode) = SetMode c mode ∷ []
changes_of osts t number who (Moves old c new) = Drops old.dir old.name.now ∷ Leads new.dir new.name.now c ∷ Parted (fid_of c) ∷ []
changes_of osts t number who (Replaces old c new g) = Drops old.dir old.name.now ∷ Leads new.dir new.name.now c ∷ Parted (fid_of c)
    ∷ Parted (fid_of g) ∷ leaving t g ∷ []
changes_of osts t number who (OpensFile f) = Opens number who f ∷ []
changes_of osts t number who (ClosesFile opened f) = Closes opened who ∷ []
changes_of osts t number who _ = []

-- the bits, besides LOOKUP, that a reading is granted on the last inode of its walk; only readings are granted locks
abbrev pub bits_of : End → Option ℕ
bits_of (Finds c) = Some 0
bits_of (Stats (Dir d)) = Some UPDATE
bits_of (Stats (File f)) = Some (UPDATE + LAYOUT)
bits_of (Lists d) = Some UPDATE
bits_of (Shows f) = Some LAYOUT
bits_of _ = None

-- the locks with these bits on what a walk has passed
abbrev pub wanted : List Child → Option ℕ → List Want
wanted passed None = []
wanted passed (Some bits) = wants bits passed

-- what comes of it, where a walk has passed these inodes
abbrev pub ended : ℕ → Tree → Txn → Who → List Child → End → Outcome
ended osts t number who passed end = record {
  answer = told_of t number end;
  grants = wanted passed (bits_of end);
  changes =
      changes_of osts t number who end;
}

-- of what loses a name, the list of a directory or the attributes of a file
abbrev pub looked_at : Child → List Part
looked_at (Dir g) = part.List g ∷ []
looked_at (File g) = part.Attr g ∷ []

-- what it looked at after the names
abbrev pub looked_of : End → List Part
looked_of (NotEmpty d) = part.List d ∷ []
looked_of (Stats (Dir d)) = part.Attr d ∷ []
looked_of (Stats (File f)) = part.Attr f ∷ part.Layout f ∷ []
looked_of (Lists d) = part.List d ∷ []
looked_of (Shows f) = part.Layout f ∷ []
looked_of (Links new f) = part.Attr f ∷ []
looked_of (Loses old g) = looked_at g
looked_of (SetsMode c mode) = part.Attr (fid_of c) ∷ []
looked_of (KeepsMode c) = part.Attr (fid_of c) ∷ []
looked_of (Replaces old c new g) = looked_at g
looked_of (OpensFile f) = part.Layout f ∷ []
looked_of _ = []

-- it is the root, or a name leads to it
abbrev pub IsReached : Tree → Child → Type 0
IsReached t c = (c ≡ root) ⊎ ((d : Fid) × (n : List ℕ) × (child t d n ≡ Some c))

-- a stripe size and a number of stripes of which a layout can be made
pub record IsStriping (osts size count : ℕ) : Type 0 where
  pub some_size : 0 < size
  pub some_count : 0 < count
  pub good : is_bad osts size count ≡ false

-- a directory that leaves is empty
abbrev pub MayLeave : Tree → Child → Type 0
MayLeave t (Dir g) = listing t g ≡ []
MayLeave t (File g) = Unit {0}

-- what the walks have seen
abbrev pub Seen : ℕ → Tree → End → Type 0
Seen osts t (Stats c) = IsReached t c
Seen osts t (Shows f) = IsReached t (File f)
Seen osts t (Makes new) = IsReached t (Dir new.dir) × (child t new.dir new.name.now ≡ None)
Seen osts t (Creates new size count) = IsReached t (Dir new.dir) × (child t new.dir new.name.now ≡ None) × IsStriping osts size count
Seen osts t (Links new f) = IsReached t (Dir new.dir) × (child t new.dir new.name.now ≡ None) × IsReached t (File f)
Seen osts t (Loses old g) = (child t old.dir old.name.now ≡ Some g) × MayLeave t g
Seen osts t (SetsMode c mode) = IsReached t c
Seen osts t (Moves old c new) = (child t old.dir old.name.now ≡ Some c) × (child t new.dir new.name.now ≡ None) × IsReached t (Dir new.dir)
Seen osts t (Replaces old c new g) = (child t old.dir old.name.now ≡ Some c) × (child t new.dir new.name.now ≡ Some g)
    × (same_fid (fid_of g) (fid_of c) ≡ false) × MayLeave t g
Seen osts t (OpensFile f) = IsReached t (File f)
Seen osts t _ = Unit {0}

-- nothing has the number, and no file has so many links
pub record IsFresh (t : Tree) (number : Txn) : Type 0 where
  pub dirs : lookup (same_fid (made_by number)) t.dirs ≡ None
  pub files : lookup (same_fid (made_by number)) t.files ≡ None
  pub links : (f : Fid) → (file t f).links < number.0

-- the names by which an operation on what a whole path leads to walks
abbrev pub path_of : Op → List (List ℕ)
path_of (op.Lookup path) = path
path_of (op.Stat path) = path
path_of (op.List path) = path
path_of (op.Layout path) = path
path_of (op.Chmod path mode) = path
path_of (op.Open path) = path
path_of _ = []

-- a link looks its new name up where the old one leads to a file
abbrev pub names_after : Tree → List (List ℕ) → Result Child Errno → List Part
names_after t new (Ok (File f)) = looks t root new
names_after t new _ = []

-- a rename looks its new name up where the old one leads to something
abbrev pub names_if_there : Tree → List (List ℕ) → Result Child Errno → List Part
names_if_there t new (Ok c) = looks t root new
names_if_there t new (Err e) = []

-- but with `/` on either side it looks at nothing
abbrev pub rename_names : Tree → List (List ℕ) → List (List ℕ) → List Part
rename_names t [] new = []
rename_names t (n ∷ ns) [] = []
rename_names t (n ∷ ns) (m ∷ ms) = looks t root (n ∷ ns) ++ names_if_there t (m ∷ ms) (reach t root (n ∷ ns))

-- the names that an operation looks up
abbrev pub names_of : Tree → Op → List Part
names_of t (op.Lookup path) = looks t root path
names_of t (op.Stat path) = looks t root path
names_of t (op.List path) = looks t root path
names_of t (op.Layout path) = looks t root path
names_of t (op.Mkdir path) = looks t root path
names_of t (op.Create path size count) = looks t root path
names_of t (op.Open path) = looks t root path
names_of t (op.Link old new) = looks t root old ++ names_after t new (reach t root old)
names_of t (op.Unlink path) = looks t root path
names_of t (op.Rmdir path) = looks t root path
names_of t (op.Rename old new) = rename_names t old new
names_of t (op.Chmod path mode) = looks t root path
names_of t _ = []
