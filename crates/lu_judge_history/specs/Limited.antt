-- Lines that keep the limits of well formed traces.
use Rattle.std.specs.Prelude.{[], ◌∷◌}
use Rattle.lu_trace.specs.WellFormed.{IsLine}
use Rattle.lu_spec_laws.specs.Words.Pasts.{Past}

abbrev pub Limited : Past → Type 0
Limited [] = Unit {0}
Limited (l ∷ past) = IsLine l × Limited past
