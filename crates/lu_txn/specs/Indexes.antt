-- The places of transactions, by the buckets in which something that they wrote is filed. A place is counted from the
-- first transaction that the journal ever had, so that it stays when earlier ones are committed. This is the code's own
-- way to what was seen, and no part of what a caller sees.
use Rattle.std.specs.Prelude.{◌≡◌, ℕ, ◌+◌, ◌<◌, ◌≤◌, Bool, true, List, [], length, All, AllPairs, unwrap_or, slice_index_or}
use Rattle.std.specs.List.{list_any, flat_map}
use Rattle.std.specs.HashMap.{get}
use Rattle.lu_part.specs.declared.parts.Part.{Part}
use Rattle.lu_part.specs.Places.{has}
use Rattle.lu_txn.specs.declared.index.Bucket.{Bucket}
use Rattle.lu_txn.specs.declared.index.Index.{Index}
use Rattle.lu_txn.specs.declared.logs.Logged.{Logged}
use Rattle.lu_txn.specs.Logs.{number}
use Rattle.lu_txn.specs.Buckets.{same_bucket, holds, filing, lookups}

-- the places that are filed in a bucket
abbrev pub places_of : Index → Bucket → List ℕ
places_of index b = unwrap_or (get same_bucket index.buckets b) []

-- what was filed still is
abbrev pub Grows : Index → Index → Type 0
Grows old new =
    (b : Bucket) (place : ℕ) → has (places_of old b) place ≡ true → has (places_of new b) place ≡ true

-- what was filed past this place still is
abbrev pub Keeps : ℕ → Index → Index → Type 0
Keeps place old new =
    (b : Bucket) (later : ℕ) → place < later → has (places_of old b) later ≡ true → has (places_of new b) later ≡ true

-- whether one of the parts is filed in this bucket
abbrev pub files : List Part → Bucket → Bool
files writes b = list_any (λ part. holds (filing part) b) writes

-- the places that are filed in the buckets in which the touched parts are looked up
abbrev pub gathered : Index → List Part → List ℕ
gathered index touched = flat_map (λ part. flat_map (places_of index) (lookups part)) touched

-- Each transaction is filed in each bucket of what it writes, from the place of the first one on.
abbrev pub IsIndexed : ℕ → Index → List Logged → Type 0
IsIndexed first index transactions =
    (k : ℕ) (b : Bucket) (d : Logged) → k < length transactions
    → files (slice_index_or transactions k d).writes b ≡ true → has (places_of index b) (first + k) ≡ true

-- How the code keeps transactions: no more were there than the newest number says, numbers rise up to it, and each
-- transaction is found by what it writes.
pub record IsFiled (first newest : ℕ) (index : Index) (transactions : List Logged) : Type 0 where
  pub counted : first + length transactions ≤ newest
  pub rising : AllPairs (λ earlier later. number earlier < number later) transactions
  pub given : All (λ logged. number logged ≤ newest) transactions
  pub indexed : IsIndexed first index transactions
