-- Which files live on.
use Rattle.std.specs.Prelude.{◌≡◌, Bool, true, false, not, List, Option, Some, None, IsSome, ◌||◌, ◌&&◌, ◌==◌}
use Rattle.std.specs.List.{AllByRecursion, list_all}
use Rattle.std.specs.Map.{lookup}
use Rattle.lu_base.specs.declared.ids.Fid.{Fid}
use Rattle.lu_base.specs.declared.ids.Txn.{Txn}
use Rattle.lu_base.specs.declared.ids.Who.{Who}
use Rattle.lu_spec_machine.specs.declared.child.Child.{Child}
use Rattle.lu_spec_machine.specs.declared.child.Child.TheVariants.{Dir, File}
use Rattle.lu_spec_machine.specs.Entries.{without}
use Rattle.lu_spec_machine.specs.Tree.{Tree, Inode, Opened, same_fid, same_life}
use Rattle.lu_spec_machine.specs.Trim.{is_alive}

abbrev pub is_dead_of : List Opened → Fid → Option Inode → Bool
is_dead_of opens f None = false
is_dead_of opens f (Some x) = not (is_alive opens (f, x))

-- each file but this one is alive
abbrev pub AreOthersLiving : Tree → Fid → Type 0
AreOthersLiving t f = AllByRecursion (λ e. same_fid f e.0 ≡ false → is_alive t.opens e ≡ true) t.files

-- a file has an inode
abbrev pub IsThere : Tree → Child → Type 0
IsThere t (Dir d) = Unit {0}
IsThere t (File f) = IsSome (lookup (same_fid f) t.files)

-- it is there and isn't alive
abbrev pub is_dead : Tree → Fid → Bool
is_dead t f = is_dead_of t.opens f (lookup (same_fid f) t.files)

-- each open of that transaction and life is of this file
abbrev pub opens_only : Txn → Who → Fid → List Opened → Bool
opens_only number life f opens = list_all (λ o. not (o.number.0 == number.0 && same_life o.life life) || same_fid o.fid f) opens

abbrev pub without_file : Tree → Fid → Tree
without_file t f = record t { files = without (same_fid f) t.files }
