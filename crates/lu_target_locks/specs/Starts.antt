-- Which of two write locks starts later.
use Rattle.std.specs.Prelude.{Option, Some, None}
use Rattle.lu_base.specs.declared.locks.Lock.{Lock}
use Rattle.lu_spec_target.specs.Glimpses.{higher}

-- what was found in the locks before, and in those behind
abbrev pub joined : Option Lock → Option Lock → Option Lock
joined None behind = behind
joined (Some l) behind = higher l behind
