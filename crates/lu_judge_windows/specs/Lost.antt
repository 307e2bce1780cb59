-- What closes lost in a whole trace.
use Rattle.lu_spec_laws.specs.Words.Pasts.{Past}
use Rattle.lu_judge_windows.specs.declared.wholes.Lost.{Lost}
use Rattle.lu_judge_windows.specs.Losses.{ShowsLosses}

pub record ShowsLost (t : Lost) (whole : Past) : Type 0 where
  pub losses : ShowsLosses t.losses whole
