-- How the code keeps replays, takes numbers that it added to a set out again, and takes what is settled from the front.
-- This is the code's own way, and no part of what a caller sees.
use Rattle.std.specs.Prelude.{ℕ, Bool, false, nat_le, List, [], ◌∷◌, map}
use Rattle.std.specs.Ordering.{nat_cmp}
use Rattle.std.specs.BTreeMap.{is_at}
use Rattle.std.specs.Set.{remove_key}
use Rattle.lu_base.specs.declared.ids.Txn.{Txn}
use Rattle.lu_import.specs.declared.kept.Answered.{Answered}
use Rattle.lu_import.specs.Kept.{Replay}

-- The set without these numbers; the last one goes first.
abbrev pub undone : List ℕ → List ℕ → List ℕ
undone [] seen = seen
undone (n ∷ added) seen = remove_key (is_at (nat_cmp n)) (undone added seen)

-- Whether the first of a list is at or below a number.
abbrev pub starts_by : {A : Type 0} → (A → ℕ) → ℕ → List A → Bool
starts_by key n [] = false
starts_by key n (x ∷ xs) = nat_le (key x) n

-- Each replay is kept under its transaction.
abbrev pub replay_of : Txn → Answered → Replay
replay_of txn answered =
    record { txn = txn; xid = answered.xid; tag = answered.tag; seen = answered.seen; op = answered.op }

abbrev pub replays_of : List (Txn × Answered) → List Replay
replays_of entries = map (λ entry. replay_of entry.0 entry.1) entries
