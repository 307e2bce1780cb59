-- Replays that are kept under their transactions, in a map.
use Rattle.std.proofs.Common.{Ordering, ◌≡◌, ℕ, ◌<◌, ◌==◌, Bool, true, false, cond, nat_lt, if◌then◌else◌, List, [], ◌∷◌, refl, sym, ap}
use Rattle.std.proofs.Common.{◌∙◌, arith}
use Rattle.std.specs.Prelude.{All, AllPairs}
use Rattle.std.specs.List.{AllByRecursion}
use Rattle.std.specs.List.Sorted.{IsStrictlySortedBy}
use Rattle.std.specs.Ordering.{nat_cmp, match_ordering}
use Rattle.std.specs.declared.cmp.Ordering.TheVariants.{Less}
use Rattle.std.specs.Map.{keys_of}
use Rattle.std.specs.BTreeMap.{insert_entry}
use Rattle.std.proofs.lemmas.Bool.Decides.{nat_tests}
use Rattle.std.proofs.lemmas.List.Elements.{All-cons}
use Rattle.std.proofs.lemmas.List.Kept.{AllPairs-cons}
use Rattle.std.proofs.lemmas.Map.Keys.{sorted_head, sorted_tail}
use Rattle.lu_base.specs.declared.ids.Txn.{Txn}
use Rattle.lu_import.specs.declared.kept.Answered.{Answered}
use Rattle.lu_msg.specs.declared.messages.Reply.{Reply}
use Rattle.lu_import.specs.declared.requests.InFlight.{InFlight}
use Rattle.lu_import.specs.Kept.{Replay, KeptState, with_numbers, with_replay, replay_to, taught, settled}
use Rattle.lu_import.specs.Adding.{replay_of, replays_of}

abbrev pub by_txn : Txn → Txn → Ordering
by_txn one other = nat_cmp one.0 other.0

abbrev pub Rising : Replay → Replay → Type 0
Rising earlier later = earlier.txn.0 < later.txn.0

below : (n m : ℕ) → nat_cmp n m ≡ Less → n < m
below n m less = grind (arith, nat_tests)

later : (txn : Txn) (answered : Answered) (entries : List (Txn × Answered)) → AllByRecursion (λ y. by_txn txn y ≡ Less) (keys_of entries)
    → All (Rising (replay_of txn answered)) (replays_of entries)
later txn answered [] less = λ k d inside. absurd (omega arith)
later txn answered (entry ∷ entries) less =
    All-cons (Rising (replay_of txn answered)) (replay_of entry.0 entry.1) (replays_of entries) (below txn.0 entry.0.0 less.0)
    (later txn answered entries less.1)

pub rises : (entries : List (Txn × Answered)) → IsStrictlySortedBy by_txn (keys_of entries) → AllPairs Rising (replays_of entries)
rises [] sorted = λ i j d less inside. absurd (omega arith)
rises (entry ∷ entries) sorted =
    AllPairs-cons Rising (replay_of entry.0 entry.1) (replays_of entries)
    (later entry.0 entry.1 entries (sorted_head by_txn entry.0 (keys_of entries) sorted))
    (rises entries (sorted_tail by_txn entry.0 (keys_of entries) sorted))

step : {A : Type 0} (n m : ℕ) (less equal more : A) → match_ordering (nat_cmp n m) less equal more
    ≡ (if nat_lt m n then more else if m == n then equal else less)
step n m less equal more = grind (arith, nat_tests)

same_txn : (one other : Txn) → (one.0 == other.0) ≡ true → one ≡ other
same_txn one other same = let e : one.0 ≡ other.0 = grind (arith, nat_tests) in ap (λ n. record { 0 = n }) e

-- a replay in its place
pub insert_is : (txn : Txn) (answered : Answered) (entries : List (Txn × Answered)) → replays_of (insert_entry by_txn entries txn answered)
    ≡ with_replay (replay_of txn answered) (replays_of entries)
insert_is txn answered [] = refl
insert_is txn answered (entry ∷ entries) =
    ap replays_of (step txn.0 entry.0.0 ((txn, answered) ∷ entry ∷ entries) ((entry.0, answered) ∷ entries)
    (entry ∷ insert_entry by_txn entries txn answered))
    ∙ by (nat_lt entry.0.0 txn.0) (entry.0.0 == txn.0) refl (insert_is txn answered entries)
  where
    by : (below same : Bool) → (entry.0.0 == txn.0) ≡ same → replays_of (insert_entry by_txn entries txn answered)
        ≡ with_replay (replay_of txn answered) (replays_of entries)
        → replays_of (if below then entry ∷ insert_entry by_txn entries txn answered else if same then (entry.0, answered) ∷ entries
        else (txn, answered) ∷ entry ∷ entries)
        ≡ (if below then replay_of entry.0 entry.1 ∷ with_replay (replay_of txn answered) (replays_of entries) else if same
        then replay_of txn answered ∷ replays_of entries else replay_of txn answered ∷ replay_of entry.0 entry.1 ∷ replays_of entries)
    by true same s rest = ap (λ more. replay_of entry.0 entry.1 ∷ more) rest
    by false true s rest = ap (λ number. replay_of number answered ∷ replays_of entries) (same_txn entry.0 txn s)
    by false false s rest = refl

-- a reply that names a transaction is kept for its replay, and what is committed goes
pub taught_is : (request : InFlight) (reply : Reply) (kept : KeptState) (seen : List ℕ) (replays : List Replay) → (reply.txn.0 == 0) ≡ false
    → seen ≡ with_numbers reply.seen kept.seen → replays ≡ with_replay (replay_to request reply) kept.replays
    → settled reply.committed.0 (record { committed = kept.committed; seen = seen; replays = replays }) ≡ taught request reply kept
taught_is request reply kept seen replays named numbers put = rw (numbers, put, named) refl
