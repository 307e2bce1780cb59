-- A tree is three lists: directories and files in the order of their Fids, and opens in the order in which
-- they came. What stands at its parts is looked up: where nothing stands there is no name, no mode, no link
-- and an empty layout.
use Rattle.std.specs.Prelude.{ℕ, Bool, List, [], Option, ◌==◌, ◌&&◌}
use Rattle.std.specs.declared.cmp.Ordering.{Ordering}
use Rattle.std.specs.Option.{unwrap_or}
use Rattle.std.specs.Ordering.{nat_cmp}
use Rattle.std.specs.Map.{keys_of, lookup}
use Rattle.lu_base.specs.declared.ids.Fid.{Fid}
use Rattle.lu_base.specs.declared.ids.Txn.{Txn}
use Rattle.lu_base.specs.declared.ids.Who.{Who}
use Rattle.lu_layout.specs.Raid0.{Raid0}
use Rattle.lu_spec_machine.specs.declared.child.Child.{Child}
use Rattle.lu_spec_machine.specs.declared.child.Child.TheVariants.{Dir, File}
use Rattle.lu_spec_machine.specs.Name.{same_name}

-- the entries stand in the order of the bytes of their names
pub record Directory : Type 0 where
  pub mode : ℕ
  pub entries : List (List ℕ × Child)

-- the links count the names that lead to the file: where numbers rise, they are at least as many
pub record Inode : Type 0 where
  pub mode : ℕ
  pub links : ℕ
  pub layout : Raid0

-- the transaction that opened a file, the life that asked for it, and the file
pub record Opened : Type 0 where
  pub number : Txn
  pub life : Who
  pub fid : Fid

pub record Tree : Type 0 where
  pub dirs : List (Fid × Directory)
  pub files : List (Fid × Inode)
  pub opens : List Opened

pub record Attributes : Type 0 where
  pub mode : ℕ
  pub links : ℕ

abbrev pub same_fid : Fid → Fid → Bool
same_fid f g = f.0 == g.0

abbrev pub fid_cmp : Fid → Fid → Ordering
fid_cmp f g = nat_cmp f.0 g.0

abbrev pub same_life : Who → Who → Bool
same_life a b = a.client == b.client && a.life == b.life

abbrev pub fid_of : Child → Fid
fid_of (Dir f) = f
fid_of (File f) = f

abbrev pub no_directory : Directory
no_directory = record { mode = 0; entries = [] }

abbrev pub no_file : Inode
no_file = record { mode = 0; links = 0; layout = record { size = 0; targets = [] } }

abbrev pub directory : Tree → Fid → Directory
directory t d = unwrap_or (lookup (same_fid d) t.dirs) no_directory

abbrev pub file : Tree → Fid → Inode
file t f = unwrap_or (lookup (same_fid f) t.files) no_file

-- what a name leads to
abbrev pub child : Tree → Fid → List ℕ → Option Child
child t d n = lookup (same_name n) (directory t d).entries

-- the names in a directory
abbrev pub listing : Tree → Fid → List (List ℕ)
listing t d = keys_of (directory t d).entries

-- of a directory only the mode
abbrev pub attributes : Tree → Child → Attributes
attributes t (Dir d) = record { mode = (directory t d).mode; links = 0 }
attributes t (File f) = record { mode = (file t f).mode; links = (file t f).links }

abbrev pub layout : Tree → Fid → Raid0
layout t f = (file t f).layout
