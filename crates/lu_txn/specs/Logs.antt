-- The transactions of a journal, each with the parts that it writes, and which of them an operation has seen: those
-- that write something that meets what it touches (this project's profile).
use Rattle.std.specs.Prelude.{Option, Some, None, if◌then◌else◌, slice_get, ℕ, nat_lt, nat_le, ◌-◌, Bool, List, map, filter}
use Rattle.std.specs.List.{list_any}
use Rattle.lu_part.specs.declared.parts.Part.{Part}
use Rattle.lu_part.specs.Meets.{meets}
use Rattle.lu_txn.specs.declared.logs.Logged.{Logged}

-- Its number.
abbrev pub number : Logged → ℕ
number logged = logged.transaction.txn.0

-- The part meets one of those written.
abbrev pub meets_written : List Part → Part → Bool
meets_written writes part = list_any (λ written. meets part written) writes

-- Something that was touched meets something that the transaction writes.
abbrev pub is_seen : List Part → Logged → Bool
is_seen touched logged = list_any (λ part. meets_written logged.writes part) touched

-- The numbers of the transactions that an operation has seen which touches these parts.
abbrev pub seen_by : List Part → List Logged → List ℕ
seen_by touched transactions = map number (filter (is_seen touched) transactions)

-- Those up to this number, and those above it.
abbrev pub up_to : ℕ → List Logged → List Logged
up_to to transactions = filter (λ logged. nat_le (number logged) to) transactions

abbrev pub above : ℕ → List Logged → List Logged
above to transactions = filter (λ logged. nat_lt to (number logged)) transactions

-- The number of the transaction at this place, where the operation has seen it. The first one stands at place `first`.
abbrev pub seen_here : List Part → Option Logged → Option ℕ
seen_here touched None = None
seen_here touched (Some logged) = if is_seen touched logged then Some (number logged) else None

abbrev pub seen_at : List Part → ℕ → List Logged → ℕ → Option ℕ
seen_at touched first transactions place =
    if nat_lt place first then None else seen_here touched (slice_get transactions (place - first))

-- The transactions that aren't on the disk, and the greatest number so far.
pub record LogState : Type 0 where
  pub newest : ℕ
  pub transactions : List Logged
