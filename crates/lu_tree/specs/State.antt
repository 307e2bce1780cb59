-- What a tree of the program shows.
use Rattle.std.specs.Prelude.{◌≡◌, ℕ, ◌<◌, ◌≤◌, List, Some, None, if◌then◌else◌}
use Rattle.std.specs.List.{AllByRecursion}
use Rattle.std.specs.Map.{lookup}
use Rattle.lu_base.specs.declared.ids.Fid.{Fid}
use Rattle.lu_base.specs.declared.ids.Txn.{Txn}
use Rattle.lu_base.specs.declared.ids.Who.{Who}
use Rattle.lu_msg.specs.declared.operations.Op.{Op}
use Rattle.lu_spec_machine.specs.declared.child.Child.{Child}
use Rattle.lu_spec_machine.specs.Tree.{Tree, Inode, same_fid, fid_of, file, child}
use Rattle.lu_spec_machine.specs.Footprint.{Operation, empty, changes, after, forget}
use Rattle.lu_spec_machine.specs.Order.{IsOrdered}
use Rattle.lu_spec_machine.specs.Trim.{trim}
use Rattle.lu_spec_machine.proofs.Count.{named}

-- the number of object storage targets, the greatest number that was used (that of the root at first), and
-- the directories, files and opens
pub record TreeState : Type 0 where
  pub osts : ℕ
  pub last : ℕ
  pub tree : Tree

-- a new file system
abbrev pub fresh : ℕ → TreeState
fresh osts = record { osts = osts; last = 1; tree = empty }

-- an operation as a life asks for it
abbrev pub asked : Txn → Who → Op → Operation
asked number who o = record { number = number; who = who; op = o }

-- once an operation is performed: a file leaves with its last name and its last open
abbrev pub performed : TreeState → Operation → TreeState
performed s a =
    record {
      osts = s.osts;
      last = if changes s.osts s.tree a then a.number.0 else s.last;
      tree = trim (after s.osts s.tree a);
    }

-- once the opens of a life are forgotten
abbrev pub forgotten : TreeState → Who → TreeState
forgotten s who = record s { tree = trim (forget s.tree who) }

-- a file has at least as many links as names lead to it
abbrev pub IsCounted : Tree → Type 0
IsCounted t = (f : Fid) → named f t.dirs ≤ (file t f).links

-- its number is used, and it has no more links than numbers were
abbrev pub HasUsed : ℕ → Fid × Inode → Type 0
HasUsed last e = (e.0.0 ≤ last) × (e.1.links ≤ last)

-- no number above the last one is used
pub record IsUsed (last : ℕ) (t : Tree) : Type 0 where
  pub root : 1 ≤ last
  pub dirs : (f : Fid) → last < f.0 → lookup (same_fid f) t.dirs ≡ None
  pub files : AllByRecursion (HasUsed last) t.files
  pub names : (d : Fid) (n : List ℕ) (c : Child) → child t d n ≡ Some c → (fid_of c).0 ≤ last

-- what holds of every tree of the program
pub record IsSound (s : TreeState) : Type 0 where
  pub some : 1 ≤ s.osts
  pub most : s.osts ≤ 8
  pub ordered : IsOrdered s.tree
  pub used : IsUsed s.last s.tree
  pub counted : IsCounted s.tree
  pub lean : trim s.tree ≡ s.tree
