-- The turns in which the disk of a target fails, and that a table shows them.
use Rattle.std.specs.Prelude.{◌≡◌, ℕ, Bool, ◌==◌, ◌&&◌, ◌||◌, List}
use Rattle.std.specs.HashSet.{contains_by}
use Rattle.lu_base.specs.declared.ids.At.{At}
use Rattle.lu_trace.specs.declared.entries.Line.{Line}
use Rattle.lu_spec_laws.specs.Words.Pasts.{Past}
use Rattle.lu_spec_laws.specs.Words.Scopes.{any_in, any_later}
use Rattle.lu_spec_laws.specs.Words.Lost.{is_fail}
use Rattle.lu_judge_recovery.specs.Turns.{turn_at}
use Rattle.lu_judge_recovery.specs.declared.failing.Failing.{Failing}

abbrev pub is_failing : Failing → ℕ → ℕ → Bool
is_failing f s t = contains_by (λ k. s == k.0 && t == k.1) f.turns

abbrev pub ShowsFailing : Failing → Past → Type 0
ShowsFailing f past = (s t : ℕ) → is_failing f s t ≡ any_in is_fail (turn_at s t) past

-- the disk fails in the turn: before this line, or later
abbrev pub fails : At → Past → List Line → Bool
fails at past later = any_in is_fail at past || any_later is_fail at later
