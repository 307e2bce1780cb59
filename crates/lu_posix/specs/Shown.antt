-- What a machine of the program shows of the plain machine. All that the plain machine ever answers is the same for two of
-- its states that one machine shows.
use Rattle.std.specs.Prelude.{◌≡◌, ℕ, ◌+◌, List, Option}
use Rattle.std.specs.Map.{lookup}
use Rattle.std.specs.Option.{option_map}
use Rattle.lu_base.specs.declared.ids.Fid.{Fid}
use Rattle.lu_base.specs.declared.locks.Resource.{Resource}
use Rattle.lu_layout.specs.Raid0.{Raid0}
use Rattle.lu_spec_machine.specs.Footprint.{empty}
use Rattle.lu_spec_machine.specs.Machine.{Machine, object_of}
use Rattle.lu_spec_machine.specs.Objects.{Object}
use Rattle.lu_spec_machine.specs.Removal.{Item, contents}
use Rattle.lu_spec_machine.specs.Tree.{Tree, Inode, same_fid}
use Rattle.lu_spec_machine.specs.Trim.{trimmed, Above, Rising}
use Rattle.lu_service.specs.Contents.{object_in}
use Rattle.lu_posix.specs.Names.{NamesState}

-- the names, the layout of each file that was made, and the objects that were written or cut
pub record MachineState : Type 0 where
  pub names : NamesState
  pub layouts : List (Fid × Raid0)
  pub objects : List (Resource × Object)

-- One past with rising numbers, none above the last, has left both trees: the plain machine keeps each file's record, the
-- program drops it with the file's last name and last open.
pub record ShowsNames (osts : ℕ) (s : NamesState) (m : Machine) : Type 0 where
  pub count : s.osts ≡ osts
  pub over : s.tree.osts ≡ osts
  pub last : s.last ≡ m.last
  pub past : List Item
  pub rising : Rising past
  pub below : Above past (m.last + 1)
  pub plain : m.tree ≡ contents osts empty past
  pub kept : s.tree.tree ≡ trimmed osts past

-- the layout that a file has or had; none of what never was one
abbrev pub layout_in : Tree → Fid → Option Raid0
layout_in t f = option_map (λ (i : Inode). i.layout) (lookup (same_fid f) t.files)

abbrev pub ShowsLayouts : List (Fid × Raid0) → Machine → Type 0
ShowsLayouts layouts m = (f : Fid) → lookup (same_fid f) layouts ≡ layout_in m.tree f

abbrev pub ShowsObjects : List (Resource × Object) → Machine → Type 0
ShowsObjects objects m = (r : Resource) → object_in objects r ≡ object_of m r.fid r.stripe

-- this state of the plain machine, over so many object storage targets
pub record Shows (osts : ℕ) (s : MachineState) (m : Machine) : Type 0 where
  pub names : ShowsNames osts s.names m
  pub layouts : ShowsLayouts s.layouts m
  pub objects : ShowsObjects s.objects m
