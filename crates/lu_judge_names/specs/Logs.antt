-- What was written, in the order of the lines, and what of it is seen by what touches some parts.
use Rattle.std.specs.Prelude.{Option, Some, None, if◌then◌else◌, slice_get, ℕ, Bool, List, map, filter, ◌&&◌, nat_lt}
use Rattle.std.specs.List.{list_any}
use Rattle.lu_part.specs.declared.parts.Part.{Part}
use Rattle.lu_part.specs.Meets.{meets}
use Rattle.lu_judge_names.specs.declared.logs.Written.{Written}

abbrev pub number : Written → ℕ
number w = w.number

abbrev pub meets_written : List Part → Part → Bool
meets_written ws p = list_any (λ w. meets w p) ws

abbrev pub is_above : ℕ → Written → Bool
is_above n w = nat_lt n w.number

-- a part of one list meets a part of the other
abbrev pub meet : List Part → List Part → Bool
meet ws ps = list_any (λ p. meets_written ws p) ps

-- it is above that number, and wrote what meets these parts
abbrev pub is_seen : ℕ → List Part → Written → Bool
is_seen above touched w = nat_lt above w.number && meet w.writes touched

abbrev pub seen_by : ℕ → List Part → List Written → List ℕ
seen_by above touched all = map number (filter (is_seen above touched) all)

abbrev pub number_if : (Written → Bool) → Option Written → Option ℕ
number_if test None = None
number_if test (Some w) = if test w then Some (number w) else None

abbrev pub seen_at : (Written → Bool) → List Written → ℕ → Option ℕ
seen_at test all place = number_if test (slice_get all place)
