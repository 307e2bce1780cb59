-- The part of a file's positions that lies on one stripe: its offsets from the number of those below the first
-- position up to the number of those below the end (Lustre Operations Manual, striping).
use Rattle.std.specs.Prelude.{ℕ, ◌+◌, ◌-◌, ◌%◌, ◌==◌, nat_lt, if◌then◌else◌, List, [], ◌∷◌, length}
use Rattle.std.specs.List.{range_with_len}
use Rattle.lu_base.specs.declared.ids.Fid.{Fid}
use Rattle.lu_base.specs.declared.locks.Resource.{Resource}
use Rattle.lu_layout.specs.Raid0.{Raid0, stripe_of, offset_of}

-- How many of a stripe's offsets stand for positions below n: `below_of`, without its recursion.
abbrev pub below_on : Raid0 → ℕ → ℕ → ℕ
below_on l stripe n =
    if nat_lt stripe (stripe_of l n) then offset_of l n - n % l.size + l.size
    else if stripe == stripe_of l n then offset_of l n
    else offset_of l n - n % l.size

-- The stripes, from 0.
abbrev pub stripes : Raid0 → List ℕ
stripes l = range_with_len 0 (length l.targets)

abbrev pub object : Fid → ℕ → Resource
object fid stripe = record { fid = fid; stripe = stripe }

-- Of bytes at a position of the file, those that lie on a stripe, in order.
abbrev pub bytes_on : Raid0 → ℕ → ℕ → List ℕ → List ℕ
bytes_on l stripe p [] = []
bytes_on l stripe p (b ∷ bs) = if stripe_of l p == stripe then b ∷ bytes_on l stripe (p + 1) bs else bytes_on l stripe (p + 1) bs
