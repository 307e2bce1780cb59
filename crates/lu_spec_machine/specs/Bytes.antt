-- The bytes of a file, by stripe and offset: its objects, that of stripe 0 first, each kept whether a layout has the stripe
-- or not. A call looks at them through the layout that it uses: the byte at a position is that of the position's stripe at
-- its offset. An absent byte is read as 0.
use Rattle.std.specs.Prelude.{ℕ, zero, suc, ◌+◌, ◌-◌, min, List, [], ◌∷◌, Option, map, length}
use Rattle.std.specs.List.{fold, range_with_len}
use Rattle.std.specs.Option.{unwrap_or}
use Rattle.lu_layout.specs.Raid0.{Raid0, stripe_of, offset_of, below_of, file_size_of}
use Rattle.lu_spec_machine.specs.Places.{found_at}
use Rattle.lu_spec_machine.specs.Objects.{Object, put_bytes, cut_bytes, object_size}

abbrev pub FileBytes : Type 0
FileBytes = List Object

abbrev pub object_at : FileBytes → ℕ → Object
object_at [] stripe = []
object_at (object ∷ objects) zero = object
object_at (object ∷ objects) (suc stripe) = object_at objects stripe

-- a change of the object of one stripe
abbrev pub on_object : (Object → Object) → ℕ → FileBytes → FileBytes
on_object change zero [] = change [] ∷ []
on_object change zero (object ∷ objects) = change object ∷ objects
on_object change (suc stripe) [] = [] ∷ on_object change stripe []
on_object change (suc stripe) (object ∷ objects) = object ∷ on_object change stripe objects

-- ---- pieces: what reaches the object of one stripe

abbrev pub put_piece : ℕ → ℕ → List ℕ → FileBytes → FileBytes
put_piece stripe offset bytes m = on_object (put_bytes offset bytes) stripe m

abbrev pub cut_piece : ℕ → ℕ → FileBytes → FileBytes
cut_piece stripe size m = on_object (cut_bytes size) stripe m

-- ---- through a layout

abbrev pub byte_at : Raid0 → FileBytes → ℕ → Option ℕ
byte_at l m position = found_at (object_at m (stripe_of l position)) (offset_of l position)

-- the sizes of the objects of its stripes
abbrev pub sizes_of : Raid0 → FileBytes → List ℕ
sizes_of l m = map (λ stripe. object_size (object_at m stripe)) (range_with_len 0 (length l.targets))

abbrev pub size_of : Raid0 → FileBytes → ℕ
size_of l m = file_size_of l (sizes_of l m)

-- as many bytes as asked, but none past the size
abbrev pub read : Raid0 → FileBytes → ℕ → ℕ → List ℕ
read l m offset count = map (λ i. unwrap_or (byte_at l m (offset + i)) 0) (range_with_len 0 (min count (size_of l m - offset)))

-- each byte is put where its position lies
abbrev pub write : Raid0 → ℕ → List ℕ → FileBytes → FileBytes
write l offset [] m = m
write l offset (b ∷ bs) m = write l (offset + 1) bs (put_piece (stripe_of l offset) (offset_of l offset) (b ∷ []) m)

-- each stripe is cut to the number of its positions below n
abbrev pub cut : Raid0 → ℕ → FileBytes → FileBytes
cut l n m = fold (λ k stripe. cut_piece stripe (below_of l stripe n) k) m (range_with_len 0 (length l.targets))
