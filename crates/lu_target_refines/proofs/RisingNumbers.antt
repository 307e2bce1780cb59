-- Numbers of transactions that rise from above one number rise from above each lower one, and end at the greatest.
use Rattle.std.proofs.Common.{◌≡◌, ℕ, ◌<◌, ◌≤◌, max, List, [], ◌∷◌, ◌++◌, map, refl, ap, subst, ◌∙◌, arith}
use Rattle.lu_msg.specs.declared.commits.Batch.{Batch}
use Rattle.lu_msg.specs.declared.commits.Transaction.{Transaction}
use Rattle.lu_spec_entries.specs.Carried.{Deed}
use Rattle.lu_spec_target.specs.Stored.{transaction_of, last_number}
use Rattle.lu_target_refines.specs.Journals.{AreLate, AreRising, AllRising, last_in}

pub rising_below : (m n : ℕ) (ts : List Transaction) → m ≤ n → AreRising n ts → AreRising m ts
rising_below m n [] le rising = tt
rising_below m n (t ∷ ts) le rising = (omega (arith, le, rising.0), rising.1)

pub last_le : (m n : ℕ) (ts : List Transaction) → m ≤ n → last_number ts m ≤ last_number ts n
last_le m n [] le = le
last_le m n (t ∷ ts) le = omega arith

pub last_over : (n : ℕ) (ts : List Transaction) → AreRising n ts → n ≤ last_number ts n
last_over n [] rising = omega arith
last_over n (t ∷ ts) rising = let more : t.txn.0 ≤ last_number ts t.txn.0 = last_over t.txn.0 ts rising.1 in omega (arith, rising.0, more)

pub last_max : (n m : ℕ) (ts : List Transaction) → AreRising (max n m) ts → last_number ts (max n m) ≡ max n (last_number ts m)
last_max n m [] rising = refl
last_max n m (t ∷ ts) rising = let more : t.txn.0 ≤ last_number ts t.txn.0 = last_over t.txn.0 ts rising.1 in omega (arith, rising.0, more)

-- late transactions that rise from above n rise from above 1 too
pub late_rising : (n : ℕ) (ds : List Deed) → AreRising n (map transaction_of ds) → AreLate ds → AreRising (max 1 n) (map transaction_of ds)
late_rising n [] rising late = tt
late_rising n (d ∷ ds) rising late = (omega (arith, rising.0, late.0), rising.1)

-- ---- batches

pub all_rising_below : (m n : ℕ) (batches : List Batch) → m ≤ n → AllRising n batches → AllRising m batches
all_rising_below m n [] le rising = tt
all_rising_below m n (batch ∷ batches) le rising = (
  rising_below m n batch.transactions le rising.0,
  all_rising_below (last_number batch.transactions m) (last_number batch.transactions n)
      batches (last_le m n batch.transactions le) rising.1,
)

pub last_in_max : (n m : ℕ) (batches : List Batch) → AllRising (max n m) batches → last_in (max n m) batches ≡ max n (last_in m batches)
last_in_max n m [] rising = refl
last_in_max n m (batch ∷ batches) rising =
    let last : last_number batch.transactions (max n m) ≡ max n (last_number batch.transactions m) =
    last_max n m batch.transactions rising.0 in
    ap (λ k. last_in k batches) last
    ∙ last_in_max n (last_number batch.transactions m) batches (subst (λ k. AllRising k batches) last rising.1)

pub rising_push : (n : ℕ) (batches : List Batch) (batch : Batch) → AllRising n batches → AreRising (last_in n batches) batch.transactions
    → AllRising n (batches ++ batch ∷ [])
rising_push n [] batch rises new = (new, tt)
rising_push n (b ∷ batches) batch rises new = (rises.0, rising_push (last_number b.transactions n) batches batch rises.1 new)

pub last_push : (n : ℕ) (batches : List Batch) (batch : Batch) → last_in n (batches ++ batch ∷ [])
    ≡ last_number batch.transactions (last_in n batches)
last_push n [] batch = refl
last_push n (b ∷ batches) batch = last_push (last_number b.transactions n) batches batch
