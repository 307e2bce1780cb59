-- The locks that a call on bytes asks for, stripe by stripe in rising order.
use Rattle.std.specs.Prelude.{ℕ, ◌+◌, ◌-◌, nat_lt, if◌then◌else◌, List, [], ◌∷◌, length, slice_index}
use Rattle.lu_base.specs.declared.ids.Fid.{Fid}
use Rattle.lu_base.specs.declared.locks.Extent.{Extent}
use Rattle.lu_base.specs.declared.locks.Mode.{Mode}
use Rattle.lu_base.specs.declared.locks.Mode.TheVariants.{PR, PW}
use Rattle.lu_base.specs.declared.locks.Policy.TheVariants.{Range}
use Rattle.lu_layout.specs.Raid0.{Raid0}
use Rattle.lu_held.specs.declared.locks.Use.{Use}
use Rattle.lu_spec_client.specs.Patches.{to_end, cut_extent}
use Rattle.lu_spec_client.specs.Stripes.{below_on, stripes, object}
use Rattle.lu_spec_entries.specs.Carried.{Kind, Narrow, Wide, Writes, Cuts, Stats, Glimpses}

abbrev pub want : Raid0 → Fid → Mode → ℕ → Extent → Use
want l fid mode stripe extent =
    record { target = record { 0 = slice_index l.targets stripe }; resource = object fid stripe; mode = mode; policy = Range extent }

-- the offsets from the first up to the end, where there is one
abbrev pub wants_piece : Raid0 → Fid → Mode → ℕ → ℕ → ℕ → List Use → List Use
wants_piece l fid mode stripe first end wants = if nat_lt first end then want l fid mode stripe (record { first = first; last = end - 1 })
    ∷ wants else wants

-- on each stripe that holds one of the positions
abbrev pub wants_run : Raid0 → Fid → Mode → ℕ → ℕ → List ℕ → List Use
wants_run l fid mode p end [] = []
wants_run l fid mode p end (i ∷ is) = wants_piece l fid mode i (below_on l i p) (below_on l i end) (wants_run l fid mode p end is)

-- on every stripe from the least offset whose position is at or past p
abbrev pub wants_rest : Raid0 → Fid → ℕ → List ℕ → List Use
wants_rest l fid p [] = []
wants_rest l fid p (i ∷ is) = want l fid PR i (to_end (below_on l i p)) ∷ wants_rest l fid p is

abbrev pub wants_cut : Raid0 → Fid → ℕ → List ℕ → List Use
wants_cut l fid n [] = []
wants_cut l fid n (i ∷ is) = want l fid PW i (cut_extent (below_on l i n)) ∷ wants_cut l fid n is

abbrev pub wants_on : Raid0 → Fid → Kind → List ℕ → List Use
wants_on l fid (Narrow p n) is = wants_run l fid PR p (p + n) is
wants_on l fid (Wide p n) is = wants_rest l fid p is
wants_on l fid (Writes p bs) is = wants_run l fid PW p (p + length bs) is
wants_on l fid (Cuts n) is = wants_cut l fid n is
wants_on l fid (Stats mode links) is = wants_rest l fid 0 is
wants_on l fid (Glimpses sizes) is = wants_rest l fid 0 is

abbrev pub wants_of : Raid0 → Fid → Kind → List Use
wants_of l fid kind = wants_on l fid kind (stripes l)
