-- A law is a condition on a single line: on the lines before it, the newest first, the line itself, and the lines after it,
-- the next first.
use Rattle.std.specs.Prelude.{List, [], ◌∷◌}
use Rattle.lu_trace.specs.declared.entries.Line.{Line}
use Rattle.lu_spec_laws.specs.Words.Pasts.{Past}

-- it holds at every line of the past, which these later lines follow
abbrev pub HoldsBefore : (Past → Line → List Line → Type 0) → List Line → Past → Type 0
HoldsBefore law later [] = Unit {0}
HoldsBefore law later (l ∷ past) = law past l later × HoldsBefore law (l ∷ later) past

-- it holds at every line of the whole trace
abbrev pub Holds : (Past → Line → List Line → Type 0) → Past → Type 0
Holds law whole = HoldsBefore law [] whole
