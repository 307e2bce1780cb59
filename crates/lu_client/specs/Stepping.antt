-- A client's steps: what happens to it, what it gives in the turn that it makes, and the client after it.
use Rattle.std.specs.Prelude.{List}
use Rattle.lu_base.specs.declared.ids.Stamp.{Stamp}
use Rattle.lu_spec_client.specs.Rows.{Event, row}
use Rattle.lu_spec_client.specs.States.{turn}
use Rattle.lu_client.specs.Clients.{ClientState, turn_of}
use Rattle.lu_trace.specs.declared.traces.Step.{Step}
use Rattle.lu_spec_entries.specs.Given.{step_of}
use Rattle.lu_spec_entries.specs.Words.{Entry}

-- the row of what happens to it
abbrev pub row_at : Stamp → Event → ClientState → List Entry
row_at stamp event c = row c.limits (turn_of stamp c) event c.client

-- what it gives in this turn
abbrev pub step_at : Stamp → Event → ClientState → Step
step_at stamp event c = step_of (turn_of stamp c) (row_at stamp event c)

-- the client after it
abbrev pub stepped : Stamp → Event → ClientState → ClientState
stepped stamp event c = record c { client = turn c.client (row_at stamp event c) }
