-- Turns of targets.
use Rattle.std.specs.Prelude.{ℕ}
use Rattle.lu_base.specs.declared.ids.At.{At}
use Rattle.lu_base.specs.declared.ids.Node.TheVariants.{Target}
use Rattle.lu_trace.specs.declared.entries.Entry.{Entry}
use Rattle.lu_trace.specs.declared.entries.Line.{Line}

-- of this stamp and target
abbrev pub turn_at : ℕ → ℕ → At
turn_at s t = record { stamp = record { 0 = s }; node = Target t }

abbrev pub line_at : ℕ → ℕ → Entry → Line
line_at s t e = record { at = turn_at s t; entry = e }
