-- Turns of a target that recovers: whatever state it showed, it recovers still or serves.
use Rattle.std.specs.Prelude.{◌≡◌, ℕ, ◌+◌, ◌≤◌, ◌++◌, Bool, true, false, List, [], take, Option, Some, None}
use Rattle.lu_msg.specs.declared.commits.Batch.{Batch}
use Rattle.lu_trace.specs.Turns.{Making}
use Rattle.lu_spec_entries.specs.Words.{Entry}
use Rattle.lu_spec_target.specs.Disks.{failing, batches_of}
use Rattle.lu_spec_target.specs.States.{Target, turn}
use Rattle.lu_window.specs.States.{State}
use Rattle.lu_spec_entries.specs.Given.{giving}
use Rattle.lu_target_server.specs.Servers.{ServerState, Shows}
use Rattle.lu_target_server.specs.Recovering.{Gathers, Recovers}

-- Whatever it showed, what was given in the turn is what was given before and then the row's entries; where a window is left it
-- recovers in the state that they make of that, and else it serves it.
pub record Passes (shown : Target → Type 0) (row : Target → List Entry) (new : ServerState) (window : Option State)
    (before after : Making) : Type 0 where
  pub gives : (v : Target) → shown v → after ≡ giving before (row v)
  pub recovers : (x : State) → window ≡ Some x → (v : Target) → shown v → Recovers new x (turn v (row v))
  pub serves : window ≡ None → (v : Target) → shown v → Shows new (turn v (row v))

-- The window closed.
pub record IsClosed (shown : Target → Type 0) (row : Target → List Entry) (new : ServerState) (before after : Making) : Type 0 where
  pub gives : (v : Target) → shown v → after ≡ giving before (row v)
  pub serves : (v : Target) → shown v → Shows new (turn v (row v))

-- The disk has what it had, and the first of the row's batches.
abbrev pub HasBatches : (shown : Target → Type 0) → (row : Target → List Entry) → (old new : List Batch) → Type 0
HasBatches shown row old new = (v : Target) → shown v → (n : ℕ) × (new ≡ old ++ take n (batches_of (row v)))

-- The disk failed after so many calls of the turn.
abbrev pub StopsAt : ℕ → (shown : Target → Type 0) → (row : Target → List Entry) → (before after : Making) → Type 0
StopsAt n shown row before after = (v : Target) → shown v → after ≡ giving before (failing (row v) n)
