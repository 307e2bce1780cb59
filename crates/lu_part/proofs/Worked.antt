-- Worked rows, computed on the definitions.
use Rattle.std.proofs.Common.{◌≡◌, ℕ, true, false, refl, [], ◌∷◌}
use Rattle.lu_base.specs.declared.ids.Fid.{Fid}
use Rattle.lu_base.specs.declared.locks.Extent.{Extent}
use Rattle.lu_base.specs.declared.locks.Policy.TheVariants.{Bits, Range}
use Rattle.lu_part.specs.declared.parts.Part.TheVariants as part
use Rattle.lu_part.specs.Meets.{meets}
use Rattle.lu_part.specs.Guards.{guard}

abbrev fid : ℕ → Fid
fid number = record { 0 = number }

abbrev over : (first last : ℕ) → Extent
over first last = record { first = first; last = last }

-- The list of a directory meets each name in it, both ways, and no name of another directory.
list_and_name : meets (part.List (fid 1)) (part.Name (fid 1) (97 ∷ [])) ≡ true
list_and_name = refl

name_and_list : meets (part.Name (fid 1) (97 ∷ [])) (part.List (fid 1)) ≡ true
name_and_list = refl

list_elsewhere : meets (part.List (fid 2)) (part.Name (fid 1) (97 ∷ [])) ≡ false
list_elsewhere = refl

other_name : meets (part.Name (fid 1) (97 ∷ [])) (part.Name (fid 1) (98 ∷ [])) ≡ false
other_name = refl

-- Parts of one inode but of other kinds don't meet.
other_kind : meets (part.Attr (fid 1)) (part.Parent (fid 1)) ≡ false
other_kind = refl

-- Bytes of one object meet where their ranges share an offset; those of another stripe never do.
one_byte : meets (part.Bytes (fid 1) 0 (over 0 4095)) (part.Bytes (fid 1) 0 (over 4095 8191)) ≡ true
one_byte = refl

no_byte : meets (part.Bytes (fid 1) 0 (over 0 4095)) (part.Bytes (fid 1) 0 (over 4096 8191)) ≡ false
no_byte = refl

other_stripe : meets (part.Bytes (fid 1) 0 (over 0 4095)) (part.Bytes (fid 1) 1 (over 0 4095)) ≡ false
other_stripe = refl

-- The guards, with the bits as numbers: LOOKUP 1, UPDATE 2, LAYOUT 4.
name_guard : guard (part.Name (fid 7) (97 ∷ [])) ≡ (record { fid = fid 7; stripe = 0 }, Bits 2)
name_guard = refl

list_guard : guard (part.List (fid 7)) ≡ (record { fid = fid 7; stripe = 0 }, Bits 2)
list_guard = refl

attr_guard : guard (part.Attr (fid 7)) ≡ (record { fid = fid 7; stripe = 0 }, Bits 2)
attr_guard = refl

layout_guard : guard (part.Layout (fid 7)) ≡ (record { fid = fid 7; stripe = 0 }, Bits 4)
layout_guard = refl

parent_guard : guard (part.Parent (fid 7)) ≡ (record { fid = fid 7; stripe = 0 }, Bits 1)
parent_guard = refl

bytes_guard : guard (part.Bytes (fid 7) 3 (over 0 9)) ≡ (record { fid = fid 7; stripe = 3 }, Range (over 0 9))
bytes_guard = refl
