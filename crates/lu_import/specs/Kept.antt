-- What a life keeps for the target's next recovery (Lustre Operations Manual, recovery: replay of requests, and the
-- transactions that an operation has seen).
use Rattle.std.specs.Prelude.{ℕ, ◌==◌, ◌<◌, nat_lt, max, if◌then◌else◌, List, [], ◌∷◌, filter, All, AllPairs, Option, Some, None}
use Rattle.std.specs.List.Sorted.{IsStrictlyIncreasing}
use Rattle.lu_base.specs.declared.ids.Txn.{Txn}
use Rattle.lu_base.specs.declared.ids.Xid.{Xid}
use Rattle.lu_msg.specs.declared.messages.Reply.{Reply}
use Rattle.lu_msg.specs.declared.operations.Op.{Op}
use Rattle.lu_import.specs.declared.requests.InFlight.{InFlight}

-- A request whose reply named a transaction, as it is replayed: with the numbers that its reply saw.
pub record Replay : Type 0 where
  pub txn : Txn
  pub xid : Xid
  pub tag : ℕ
  pub seen : List ℕ
  pub op : Op

-- The greatest number of which the life was told that all up to it is committed; the numbers that it has seen above
-- that, and the replays above it, both in rising number, each once.
pub record KeptState : Type 0 where
  pub committed : ℕ
  pub seen : List ℕ
  pub replays : List Replay

abbrev pub nothing_kept : KeptState
nothing_kept = record { committed = 0; seen = []; replays = [] }

-- A number in its place.
abbrev pub with_number : ℕ → List ℕ → List ℕ
with_number n [] = n ∷ []
with_number n (m ∷ seen) =
    if nat_lt m n then m ∷ with_number n seen else if m == n then m ∷ seen else n ∷ m ∷ seen

abbrev pub with_numbers : List ℕ → List ℕ → List ℕ
with_numbers [] seen = seen
with_numbers (n ∷ numbers) seen = with_numbers numbers (with_number n seen)

-- A replay in its place; it takes that of one with the same number.
abbrev pub with_replay : Replay → List Replay → List Replay
with_replay r [] = r ∷ []
with_replay r (q ∷ replays) =
    if nat_lt q.txn.0 r.txn.0 then q ∷ with_replay r replays
    else if q.txn.0 == r.txn.0 then r ∷ replays else r ∷ q ∷ replays

-- A request, once its reply named a transaction.
abbrev pub replay_to : InFlight → Reply → Replay
replay_to request reply =
    record { txn = reply.txn; xid = reply.xid; tag = request.tag; seen = reply.seen; op = request.op }

-- A reply that names no transaction leaves nothing to replay.
abbrev pub with_reply : InFlight → Reply → List Replay → List Replay
with_reply request reply replays =
    if reply.txn.0 == 0 then replays else with_replay (replay_to request reply) replays

-- All up to a number is committed: what is at or below it is forgotten.
abbrev pub settled_at : ℕ → KeptState → KeptState
settled_at n kept =
    record {
      committed = n;
      seen = filter (nat_lt n) kept.seen;
      replays = filter (λ (r : Replay). nat_lt n r.txn.0) kept.replays;
    }

-- The committed number never falls.
abbrev pub settled : ℕ → KeptState → KeptState
settled n kept = settled_at (max n kept.committed) kept

-- The life is told a committed number, and numbers that it has seen.
abbrev pub noted : ℕ → List ℕ → KeptState → KeptState
noted committed seen kept = settled committed (record kept { seen = with_numbers seen kept.seen })

-- What the reply to a request teaches.
abbrev pub taught : InFlight → Reply → KeptState → KeptState
taught request reply kept =
    noted reply.committed.0 reply.seen (record kept { replays = with_reply request reply kept.replays })

-- What the reply to a request teaches, where it is in flight.
abbrev pub taught_by : Option InFlight → Reply → KeptState → KeptState
taught_by None reply kept = kept
taught_by (Some request) reply kept = taught request reply kept

-- A new life of the client has seen nothing; what it was told of the target's disk stays true.
abbrev pub forgotten : KeptState → KeptState
forgotten kept = record nothing_kept { committed = kept.committed }

-- What holds of all that is kept.
pub record IsSettled (kept : KeptState) : Type 0 where
  pub seen : IsStrictlyIncreasing kept.seen
  pub unsettled : All (λ n. kept.committed < n) kept.seen
  pub replays : AllPairs (λ (earlier later : Replay). earlier.txn.0 < later.txn.0) kept.replays
  pub uncommitted : All (λ (r : Replay). kept.committed < r.txn.0) kept.replays
