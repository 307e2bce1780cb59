-- The places of transactions, from 0, by the buckets in which something that they wrote is filed. This is the code's own
-- way to what was seen, and no part of what a caller sees.
use Rattle.std.specs.Prelude.{◌≡◌, ℕ, ◌<◌, Bool, true, List, [], length, unwrap_or, nat_eq, slice_index_or}
use Rattle.std.specs.List.{list_any, flat_map}
use Rattle.std.specs.HashMap.{get}
use Rattle.lu_part.specs.declared.parts.Part.{Part}
use Rattle.lu_part.specs.Places.{has}
use Rattle.lu_judge_names.specs.declared.index.Index.{Index}
use Rattle.lu_judge_names.specs.declared.logs.Written.{Written}
use Rattle.lu_judge_names.specs.Buckets.{filing, lookups}

-- the places that are filed in a bucket
abbrev pub places_of : Index → ℕ → List ℕ
places_of index b = unwrap_or (get nat_eq index.buckets b) []

-- what was filed still is
abbrev pub Grows : Index → Index → Type 0
Grows old new = (b place : ℕ) → has (places_of old b) place ≡ true → has (places_of new b) place ≡ true

-- whether one of the parts is filed in this bucket
abbrev pub files : List Part → ℕ → Bool
files writes b = list_any (λ part. has (filing part) b) writes

-- the places that are filed in the buckets in which the touched parts are looked up
abbrev pub gathered : Index → List Part → List ℕ
gathered index touched = flat_map (λ part. flat_map (places_of index) (lookups part)) touched

-- Each transaction is filed in each bucket of what it writes.
abbrev pub IsIndexed : Index → List Written → Type 0
IsIndexed index transactions =
    (place b : ℕ) (d : Written) → place < length transactions → files (slice_index_or transactions place d).writes b ≡ true
    → has (places_of index b) place ≡ true
