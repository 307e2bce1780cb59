-- Layouts of a file, and what is read through one of the bytes of its stripes, whatever gives these; and what a read and a stat
-- rest on, by the story of each stripe's object. A layout may lack stripes, and have only the first offsets of one (Lustre
-- Operations Manual, composite layouts). Positions of the file, offsets of a stripe's object and sizes are bytes, from 0;
-- stripes are counted from 0.
use Rattle.std.specs.Prelude.{◌≡◌, ◌⊎◌, ℕ, zero, suc, ◌<◌, ◌≤◌, ◌+◌, ◌-◌, min, max, length, Bool, true, ◌&&◌, nat_lt, List, [], ◌∷◌, Option}
use Rattle.std.specs.Prelude.{Some, None}
use Rattle.lu_proof_bytes.specs.Object.Words.{Lock, Entry, covers, overlay, value}
use Rattle.lu_proof_bytes.specs.Object.Folds.{pending, dirty, known, reads_at, HeldBy}
use Rattle.lu_proof_bytes.specs.Object.History.{IsSize}
use Rattle.lu_proof_bytes.specs.Object.Guards.{EndAt, ShownAt, in_run}

-- a layout of the file. It has these many stripes. `stripe` and `offset`: where a position lies; `position`: the position
-- of an offset of a stripe; `has i q`: it has this offset of the stripe; `below i n`: how many offsets of the stripe lie
-- below position n; `cap i e`: how many of the first e offsets it has. Each position lies on a stripe that it has, at an
-- offset that it has (`low`, `inside`, `there`); on one stripe positions rise with offsets (`rises`), and it has the first
-- offsets of each (`begins`); `below` and `cap` are what they say (`below_is`, `below_has`, `cap_is`)
pub record Layout : Type 0 where
  pub stripes : ℕ
  pub has : ℕ → ℕ → Bool
  pub stripe : ℕ → ℕ
  pub offset : ℕ → ℕ
  pub position : ℕ → ℕ → ℕ
  pub below : ℕ → ℕ → ℕ
  pub cap : ℕ → ℕ → ℕ
  pub low : (p : ℕ) → stripe p < stripes
  pub inside : (p : ℕ) → has (stripe p) (offset p) ≡ true
  pub there : (p : ℕ) → position (stripe p) (offset p) ≡ p
  pub rises : (i q r : ℕ) → has i r ≡ true → q ≤ r → position i q ≤ position i r
  pub begins : (i q r : ℕ) → has i r ≡ true → q ≤ r → has i q ≡ true
  pub below_is : (i n q : ℕ) → has i q ≡ true → nat_lt q (below i n) ≡ nat_lt (position i q) n
  pub below_has : (i n q : ℕ) → q < below i n → has i q ≡ true
  pub cap_is : (i e q : ℕ) → nat_lt q (cap i e) ≡ (nat_lt q e && has i q)

-- one more than the position of the last of the first e offsets of a stripe; 0 for no offset
abbrev pub top : Layout → ℕ → ℕ → ℕ
top y i zero = 0
top y i (suc q) = suc (y.position i q)

-- where objects of these sizes end in positions of the file, for the first k stripes: an object that ends past what the
-- layout has of it ends with the last offset that it has
abbrev pub tops : Layout → (ℕ → ℕ) → ℕ → ℕ
tops y ends zero = 0
tops y ends (suc k) = max (tops y ends k) (top y k (y.cap k (ends k)))

-- of bytes by stripe and offset, n from position `at` on through a layout, absent ones as 0
abbrev pub read_on : Layout → (ℕ → ℕ → Option ℕ) → ℕ → ℕ → List ℕ
read_on y bytes at zero = []
read_on y bytes at (suc n) = value (bytes (y.stripe at) (y.offset at)) ∷ read_on y bytes (suc at) n

-- the size of a file through a layout, by the sizes of its objects, which are one more than the last offset with a byte, or 0
-- (this project's profile: the size is that of the objects' ends)
abbrev pub IsSizeOn : Layout → (ℕ → ℕ → Option ℕ) → ℕ → Type 0
IsSizeOn y bytes z = (sizes : ℕ → ℕ) × ((i : ℕ) → IsSize (bytes i) (sizes i)) × (z ≡ tops y sizes y.stripes)

-- the byte at a position is this, as the life takes it on its stripe: a byte of its own that isn't written back, 0 behind a
-- cut of its own, or what it knows there of the object
abbrev pub known_on : (ℕ → List Entry) → Layout → ℕ → ℕ → ℕ → Type 0
known_on story y c p v =
    reads_at (pending c (story (y.stripe p))) (dirty c (story (y.stripe p)) (y.offset p)) (known c (story (y.stripe p)) (y.offset p))
    (y.offset p) ≡ Some v

-- a read under locks to the end of each stripe that has an offset at or past the position, from the first such: it is told
-- as many bytes as lie below the end of the file that is known there, each as it is known, or 0 at or past the end of its
-- object
pub record WideOn (story : ℕ → List Entry) (y : Layout) (c at n : ℕ) (vs : List ℕ) : Type 0 where
  pub ends : ℕ → ℕ
  pub locks : (i : ℕ) → i < y.stripes → y.has i (y.below i at) ≡ true → EndAt (story i) c (y.below i at) (ends i)
  pub count : length vs ≡ min n (tops y ends y.stripes - at)
  pub each : (p v : ℕ) → overlay at vs p None ≡ Some v → known_on story y c p v ⊎ ((ends (y.stripe p) ≤ y.offset p) × (v ≡ 0))

-- a read under locks over what it asks, on each stripe that it touches: all of it, where the last position was reached on
-- its stripe, under a lock to the end of an object that is known to end past it, or since a position at or past it was
-- shown. Each byte is told as it is known, or as 0 where the lock goes to the end and the object is known to end at the
-- offset or below
pub record NarrowOn (story : ℕ → List Entry) (y : Layout) (c at n : ℕ) (vs : List ℕ) : Type 0 where
  pub lock : ℕ → Lock
  pub held : (p : ℕ) → in_run at n p ≡ true → HeldBy (story (y.stripe p)) (lock p)
  pub life : (p : ℕ) → in_run at n p ≡ true → (lock p).life ≡ c
  pub covered : (p : ℕ) → in_run at n p ≡ true → covers (lock p) (y.offset p) ≡ true
  pub count : length vs ≡ n
  pub each : (p v : ℕ) → overlay at vs p None ≡ Some v → known_on story y c p v
      ⊎ ((z : ℕ) × EndAt (story (y.stripe p)) c (y.offset p) z × (z ≤ y.offset p) × (v ≡ 0))
  pub final : ℕ
  pub is_final : suc final ≡ at + n
  pub reached : ((z : ℕ) × EndAt (story (y.stripe final)) c (y.offset final) z × (y.offset final < z))
      ⊎ ShownAt (story (y.stripe final)) c (y.offset final)

-- a stat under locks on the whole of each object that the layout has: the end of the file that is known there
pub record StatOn (story : ℕ → List Entry) (y : Layout) (c z : ℕ) : Type 0 where
  pub ends : ℕ → ℕ
  pub locks : (i : ℕ) → i < y.stripes → EndAt (story i) c 0 (ends i)
  pub size : z ≡ tops y ends y.stripes
