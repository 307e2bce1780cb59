-- The first line of a trace that breaks a law.
use Rattle.std.specs.Prelude.{ℕ, ◌+◌, ◌<◌, List, length, take, drop, reverse, slice_index_or, Option, Some, None}
use Rattle.lu_trace.specs.declared.entries.Line.{Line}
use Rattle.lu_spec_laws.specs.Words.Pasts.{Past}

-- what a law may speak of beside the lines around a line: the number of object storage targets, and all lines of the trace,
-- the newest first
pub record About : Type 0 where
  pub osts : ℕ
  pub whole : Past

-- the lines before the one at this place, from 0, the newest first
abbrev pub before : List Line → ℕ → Past
before lines place = reverse (take place lines)

-- the law at the line of this place
abbrev pub HoldsAt : (Past → Line → List Line → Type 0) → List Line → ℕ → Type 0
HoldsAt law lines place = (d : Line) → law (before lines place) (slice_index_or lines place d) (drop (place + 1) lines)

-- it holds at each line before that place
abbrev pub HoldsBelow : (Past → Line → List Line → Type 0) → List Line → ℕ → Type 0
HoldsBelow law lines place = (k : ℕ) → k < place → HoldsAt law lines k

-- the line at this place breaks the law
abbrev pub BreaksAt : (Past → Line → List Line → Type 0) → List Line → ℕ → Type 0
BreaksAt law lines place = (d : Line) → ¬ law (before lines place) (slice_index_or lines place d) (drop (place + 1) lines)

-- the line at this place breaks the law, and no line before it does; with no place, no line does
abbrev pub IsFirst : (Past → Line → List Line → Type 0) → List Line → Option ℕ → Type 0
IsFirst law lines None = HoldsBelow law lines (length lines)
IsFirst law lines (Some place) = (place < length lines) × HoldsBelow law lines place × BreaksAt law lines place
