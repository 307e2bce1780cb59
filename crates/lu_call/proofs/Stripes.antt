-- The count of a stripe's offsets below a position is at most the position.
use Rattle.std.proofs.Common.{ℕ, ◌<◌, ◌≤◌, length, subst}
use Rattle.lu_layout.specs.Raid0.{Raid0, below_of}
use Rattle.lu_layout.specs.Sound.{IsLayout}
use Rattle.lu_layout.proofs.Below.{IsCount-le, IsCount-below_of}
use Rattle.lu_spec_client.specs.Stripes.{below_on}
use Rattle.lu_client_store.proofs.Striping.{below_is}

pub below-le : (l : Raid0) (i n : ℕ) → IsLayout l → i < length l.targets → below_on l i n ≤ n
below-le l i n good in_range =
    subst (λ (m : ℕ). m ≤ n) (below_is l i n good in_range) (IsCount-le l i n (below_of l i n) good (IsCount-below_of l i n good in_range))
