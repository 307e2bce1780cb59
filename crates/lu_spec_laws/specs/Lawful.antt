-- A trace is lawful where no law is broken at any line.
use Rattle.std.specs.Prelude.{ℕ, reverse}
use Rattle.lu_trace.specs.declared.traces.Trace.{Trace}
use Rattle.lu_spec_laws.specs.Words.Pasts.{Past}
use Rattle.lu_spec_laws.specs.Holds.{Holds}
use Rattle.lu_spec_laws.specs.Laws.Messages.{Messages}
use Rattle.lu_spec_laws.specs.Laws.Locks.{Locks}
use Rattle.lu_spec_laws.specs.Laws.Silent.{Silent}
use Rattle.lu_spec_laws.specs.Laws.Acts.{Acts}
use Rattle.lu_spec_laws.specs.Laws.Recovery.{Recovery}
use Rattle.lu_spec_laws.specs.Laws.History.{History}
use Rattle.lu_spec_laws.specs.Laws.Glimpse.{Glimpse}

-- over a number of object storage targets and all lines, the newest first
pub record Lawful (osts : ℕ) (whole : Past) : Type 0 where
  pub messages : Holds Messages whole
  pub locks : Holds (Locks osts) whole
  pub silent : Holds Silent whole
  pub acts : Holds (Acts whole) whole
  pub recovery : Holds (Recovery osts whole) whole
  pub history : Holds (History osts whole) whole
  pub glimpse : Holds (Glimpse osts whole) whole

abbrev pub IsLawful : Trace → Type 0
IsLawful trace = Lawful trace.osts (reverse trace.entries)
