-- The elementary changes that an operation on names is made of, what they write, and which inodes they make.
use Rattle.std.specs.Prelude.{ℕ, not, List, [], ◌∷◌, ◌++◌, ◌==◌, ◌&&◌}
use Rattle.std.specs.List.{filter}
use Rattle.lu_base.specs.declared.ids.Fid.{Fid}
use Rattle.lu_base.specs.declared.ids.Txn.{Txn}
use Rattle.lu_base.specs.declared.ids.Who.{Who}
use Rattle.lu_layout.specs.Raid0.{Raid0}
use Rattle.lu_part.specs.declared.parts.Part.{Part}
use Rattle.lu_part.specs.declared.parts.Part.TheVariants.{Name, Attr, Parent}
use Rattle.lu_spec_machine.specs.declared.child.Child.{Child}
use Rattle.lu_spec_machine.specs.declared.child.Child.TheVariants.{Dir, File}
use Rattle.lu_spec_machine.specs.Name.{same_name, name_cmp}
use Rattle.lu_spec_machine.specs.Entries.{without, place}
use Rattle.lu_spec_machine.specs.Tree.{Tree, Directory, Inode, Opened, same_fid, fid_cmp, same_life, fid_of, directory, file}

pub data Change : Type 0 where
  -- the name leads there
  Leads : (dir : Fid) (name : List ℕ) (to : Child) → Change
  -- the name leads nowhere
  Drops : (dir : Fid) (name : List ℕ) → Change
  -- a name that led to the inode does so no longer; of the tree this changes nothing
  Parted : (fid : Fid) → Change
  -- a directory without names, and a file with one, come to be
  MakesDir : (fid : Fid) → Change
  MakesFile : (fid : Fid) (layout : Raid0) → Change
  SetMode : (of : Child) (mode : ℕ) → Change
  SetLinks : (fid : Fid) (links : ℕ) → Change
  -- a directory leaves the tree
  Leaves : (fid : Fid) → Change
  Opens : (number : Txn) (life : Who) (fid : Fid) → Change
  Closes : (number : Txn) (life : Who) → Change

-- octal 755 and 644
abbrev pub new_directory : Directory
new_directory = record { mode = 493; entries = [] }

abbrev pub new_file : Raid0 → Inode
new_file layout = record { mode = 420; links = 1; layout = layout }

abbrev pub put_dir : Fid → Directory → List (Fid × Directory) → List (Fid × Directory)
put_dir d x dirs = place fid_cmp d x (without (same_fid d) dirs)

abbrev pub put_file : Fid → Inode → List (Fid × Inode) → List (Fid × Inode)
put_file f x files = place fid_cmp f x (without (same_fid f) files)

abbrev pub put_name : List ℕ → Child → List (List ℕ × Child) → List (List ℕ × Child)
put_name n c entries = place name_cmp n c (without (same_name n) entries)

-- only an empty directory leaves: one that isn't keeps its names
abbrev pub leave : Fid → List (List ℕ × Child) → List (Fid × Directory) → List (Fid × Directory)
leave d [] dirs = without (same_fid d) dirs
leave d (e ∷ es) dirs = put_dir d (record { mode = 0; entries = e ∷ es }) dirs

-- the opens without that one of that life
abbrev pub closed : Txn → Who → List Opened → List Opened
closed number life opens = filter (λ o. not (o.number.0 == number.0 && same_life o.life life)) opens

abbrev pub change : Tree → Change → Tree
change t (Leads d n c) = record t {
  dirs = put_dir d (record {
    mode = (directory t d).mode;
    entries =
        put_name n c (directory t d).entries;
  }) t.dirs;
}
change t (Drops d n) = record t {
  dirs = put_dir d (record {
    mode = (directory t d).mode;
    entries =
        without (same_name n) (directory t d).entries;
  }) t.dirs;
}
change t (Parted f) = t
change t (MakesDir f) = record t { dirs = put_dir f new_directory t.dirs }
change t (MakesFile f l) = record t { files = put_file f (new_file l) t.files }
change t (SetMode (Dir d) m) = record t { dirs = put_dir d (record { mode = m; entries = (directory t d).entries }) t.dirs }
change t (SetMode (File f) m) = record t {
  files = put_file f (record { mode = m; links = (file t f).links; layout = (file t f).layout })
      t.files;
}
change t (SetLinks f k) = record t { files = put_file f (record { mode = (file t f).mode; links = k; layout = (file t f).layout }) t.files }
change t (Leaves d) = record t { dirs = leave d (directory t d).entries t.dirs }
change t (Opens number life f) = record t { opens = t.opens ++ record { number = number; life = life; fid = f } ∷ [] }
change t (Closes number life) = record t { opens = closed number life t.opens }

-- one after another
abbrev pub changed : Tree → List Change → Tree
changed t [] = t
changed t (x ∷ xs) = changed (change t x) xs

abbrev pub writes_of : Change → List Part
writes_of (Leads d n c) = Name d n ∷ []
writes_of (Drops d n) = Name d n ∷ []
writes_of (Parted f) = Parent f ∷ []
writes_of (MakesDir f) = []
writes_of (MakesFile f layout) = []
writes_of (SetMode c m) = Attr (fid_of c) ∷ []
writes_of (SetLinks f k) = Attr f ∷ []
writes_of (Leaves d) = Attr d ∷ []
writes_of (Opens number life f) = []
writes_of (Closes number life) = []

abbrev pub written : List Change → List Part
written [] = []
written (x ∷ xs) = writes_of x ++ written xs

abbrev pub makes_of : Change → List Fid
makes_of (Leads d n c) = []
makes_of (Drops d n) = []
makes_of (Parted f) = []
makes_of (MakesDir f) = f ∷ []
makes_of (MakesFile f l) = f ∷ []
makes_of (SetMode c m) = []
makes_of (SetLinks f k) = []
makes_of (Leaves d) = []
makes_of (Opens number life f) = []
makes_of (Closes number life) = []

abbrev pub made : List Change → List Fid
made [] = []
made (x ∷ xs) = makes_of x ++ made xs
