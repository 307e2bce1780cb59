-- A step of a client's code against the rows.
use Rattle.std.specs.Prelude.{◌≡◌, List}
use Rattle.lu_trace.specs.Turns.{Making}
use Rattle.lu_spec_entries.specs.Words.{Entry}
use Rattle.lu_spec_client.specs.States.{Client, turn}
use Rattle.lu_spec_entries.specs.Given.{giving}

-- A step went as this row has it: it gave what the row's entries give after what was given before, and the client is as they
-- leave it. The row is read at the client as it was before the step.
pub record Goes (row : Client → List Entry) (old new : Client) (before after : Making) : Type 0 where
  pub gives : after ≡ giving before (row old)
  pub shows : new ≡ turn old (row old)

-- In the middle of a row: what is left of it, from this client and what was given so far, comes to what the whole comes to
-- from the first client.
pub record Leads (whole left : Client → List Entry) (first now : Client) (before making : Making) : Type 0 where
  pub gives : giving making (left now) ≡ giving before (whole first)
  pub shows : turn now (left now) ≡ turn first (whole first)
