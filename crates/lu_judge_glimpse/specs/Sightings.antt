-- When objects were last seen with a size.
use Rattle.std.specs.Prelude.{ℕ, Bool, false, nat_le, ◌==◌, ◌&&◌, Option, Some, None}
use Rattle.std.specs.HashMap.{get_by}
use Rattle.lu_base.specs.declared.ids.Fid.{Fid}
use Rattle.lu_judge_glimpse.specs.declared.sightings.Sightings.{Sightings}

abbrev pub last_in : Sightings → Fid → ℕ → ℕ → Option ℕ
last_in t fid stripe size = get_by (λ k. (fid.0 == k.0.0 && stripe == k.0.1) && size == k.1) t.last

abbrev pub is_from : ℕ → Option ℕ → Bool
is_from place None = false
is_from place (Some last) = nat_le place last

-- at that place or later
abbrev pub since_in : Sightings → Option Fid → ℕ → ℕ → ℕ → Bool
since_in t None stripe size place = false
since_in t (Some fid) stripe size place = is_from place (last_in t fid stripe size)
