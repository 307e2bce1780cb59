-- What every run keeps and no law asks: conditions on single lines that come of what the nodes do, so that a line which
-- nothing brought about stands out. They are no part of what a lawful trace is.
use Rattle.std.specs.Prelude.{ℕ, reverse}
use Rattle.lu_trace.specs.declared.traces.Trace.{Trace}
use Rattle.lu_spec_laws.specs.Holds.{Holds}
use Rattle.lu_spec_laws.specs.Words.Pasts.{Past}
use Rattle.lu_spec_laws.specs.Order.Serving.{Serving}
use Rattle.lu_spec_laws.specs.Order.Requests.{Requests}
use Rattle.lu_spec_laws.specs.Order.Boots.{Boots}
use Rattle.lu_spec_laws.specs.Order.Messages.{Messages}
use Rattle.lu_spec_laws.specs.Order.Lives.{Lives}
use Rattle.lu_spec_laws.specs.Order.Held.{Held}
use Rattle.lu_spec_laws.specs.Order.Heard.{Heard}
use Rattle.lu_spec_laws.specs.Order.Repeated.{Repeated}
use Rattle.lu_spec_laws.specs.Order.Answers.{Answers}
use Rattle.lu_spec_laws.specs.Order.Closes.{Closes}
use Rattle.lu_spec_laws.specs.Order.Kept.{Kept}
use Rattle.lu_spec_laws.specs.Order.Restored.{Restored}
use Rattle.lu_spec_laws.specs.Order.Joined.{Joined}
use Rattle.lu_spec_laws.specs.Order.Waits.{Waits}
use Rattle.lu_spec_laws.specs.Order.Releases.{Releases}
use Rattle.lu_spec_laws.specs.Order.Blocks.{Blocks}

-- over a number of object storage targets and all lines, the newest first
pub record Orderly (osts : ℕ) (whole : Past) : Type 0 where
  pub serving : Holds Serving whole
  pub requests : Holds Requests whole
  pub boots : Holds Boots whole
  pub messages : Holds Messages whole
  pub lives : Holds Lives whole
  pub held : Holds Held whole
  pub heard : Holds Heard whole
  pub repeated : Holds Repeated whole
  pub answers : Holds (Answers osts) whole
  pub closes : Holds Closes whole
  pub kept : Holds Kept whole
  pub restored : Holds Restored whole
  pub joined : Holds Joined whole
  pub waits : Holds Waits whole
  pub releases : Holds Releases whole
  pub blocks : Holds (Blocks osts) whole

abbrev pub IsOrderly : Trace → Type 0
IsOrderly trace = Orderly trace.osts (reverse trace.entries)
