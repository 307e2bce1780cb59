-- Well formed lines and operations, whose ranges of bytes end at offsets that there are.
use Rattle.std.specs.Prelude.{Option, Some, None, [], ◌∷◌}
use Rattle.lu_msg.specs.declared.operations.Op.{Op}
use Rattle.lu_trace.specs.WellFormed.{IsOp, IsLine}
use Rattle.lu_spec_laws.specs.Words.Pasts.{Past}

abbrev pub IsFormed : Option Op → Type 0
IsFormed None = Unit {0}
IsFormed (Some o) = IsOp o

-- each line of a past
abbrev pub AreFormed : Past → Type 0
AreFormed [] = Unit {0}
AreFormed (l ∷ past) = IsLine l × AreFormed past
