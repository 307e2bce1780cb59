-- The bytes of a file among the objects: what is read of them, and that they show the bytes of the plain machine.
use Rattle.std.specs.Prelude.{◌≡◌, ℕ, zero, suc, ◌+◌, List, [], ◌∷◌, map, length}
use Rattle.std.specs.List.{range_with_len}
use Rattle.std.specs.Option.{unwrap_or}
use Rattle.lu_base.specs.declared.ids.Fid.{Fid}
use Rattle.lu_base.specs.declared.locks.Resource.{Resource}
use Rattle.lu_layout.specs.Raid0.{Raid0, stripe_of, offset_of, file_size_of}
use Rattle.lu_spec_machine.specs.Bytes.{FileBytes, object_at}
use Rattle.lu_spec_machine.specs.Objects.{Object, object_size}
use Rattle.lu_spec_machine.specs.Places.{found_at}
use Rattle.lu_service.specs.Contents.{object_in}

-- what the object of a stripe is named
abbrev pub object : Fid → ℕ → Resource
object fid stripe = record { fid = fid; stripe = stripe }

-- ---- what is read: an absent byte is 0

-- so many bytes of an object from an offset on
abbrev pub run_in : Object → ℕ → ℕ → List ℕ
run_in o offset zero = []
run_in o offset (suc count) = unwrap_or (found_at o offset) 0 ∷ run_in o (offset + 1) count

module _ (l : Raid0) (fid : Fid) (objects : List (Resource × Object)) where
  abbrev pub byte_in : ℕ → ℕ
  byte_in position = unwrap_or (found_at (object_in objects (object fid (stripe_of l position))) (offset_of l position)) 0

  -- so many bytes of a file from a position on
  abbrev pub file_run : ℕ → ℕ → List ℕ
  file_run position zero = []
  file_run position (suc count) = byte_in position ∷ file_run (position + 1) count

abbrev pub sizes_in : List (Resource × Object) → Fid → ℕ → List ℕ
sizes_in objects fid count = map (λ stripe. object_size (object_in objects (object fid stripe))) (range_with_len 0 count)

-- the size of a file
abbrev pub size_in : List (Resource × Object) → Fid → Raid0 → ℕ
size_in objects fid l = file_size_of l (sizes_in objects fid (length l.targets))

-- ---- what they show

-- these are the bytes of the file
abbrev pub ShowsFile : List (Resource × Object) → Fid → FileBytes → Type 0
ShowsFile objects fid file = (stripe : ℕ) → object_in objects (object fid stripe) ≡ object_at file stripe

-- the objects of other files stay
abbrev pub Others : Fid → List (Resource × Object) → List (Resource × Object) → Type 0
Others fid old new = (r : Resource) → (r.fid.0 ≡ fid.0 → ⊥) → object_in new r ≡ object_in old r
