-- The lock that guards a part: bits of an inode, whose resource has stripe 0, or the range of an object
-- (this project's profile).
use Rattle.std.specs.Prelude.{◌≡◌, ℕ}
use Rattle.lu_base.specs.declared.ids.Fid.{Fid}
use Rattle.lu_base.specs.declared.locks.Resource.{Resource}
use Rattle.lu_base.specs.declared.locks.Policy.{Policy}
use Rattle.lu_base.specs.declared.locks.Policy.TheVariants.{Bits, Range}
use Rattle.lu_part.specs.declared.parts.Part.{Part}
use Rattle.lu_part.specs.declared.parts.Part.TheVariants.{Name, List, Attr, Layout, Parent, Bytes}
use Rattle.lu_lock.specs.Overlap.{PoliciesMeet}

-- The inode bits: the names that lead to an inode; its attributes and a directory's names; a file's layout.
abbrev pub lookup_bit : ℕ
lookup_bit = 1

abbrev pub update_bit : ℕ
update_bit = 2

abbrev pub layout_bit : ℕ
layout_bit = 4

-- These bits of an inode.
abbrev pub inode : Fid → ℕ → Resource × Policy
inode fid bits = (record { fid = fid; stripe = 0 }, Bits bits)

-- The resource and what is covered of it.
abbrev pub guard : Part → Resource × Policy
guard (Name directory _) = inode directory update_bit
guard (List directory) = inode directory update_bit
guard (Attr fid) = inode fid update_bit
guard (Layout fid) = inode fid layout_bit
guard (Parent fid) = inode fid lookup_bit
guard (Bytes fid stripe range) = (record { fid = fid; stripe = stripe }, Range range)

-- The guards of two parts are on one resource, and meet there.
abbrev pub GuardsMeet : Part → Part → Type 0
GuardsMeet a b = ((guard a).0 ≡ (guard b).0) × PoliciesMeet (guard a).1 (guard b).1
