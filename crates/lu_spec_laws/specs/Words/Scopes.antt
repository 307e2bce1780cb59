-- The lines of one target and those of one turn: what the last of them says, and whether any of them says so; of a
-- turn also its later lines.
use Rattle.std.specs.Prelude.{ℕ, Bool, ◌&&◌, Option, Some, None, List, [], ◌∷◌}
use Rattle.std.specs.List.{list_any}
use Rattle.std.specs.Bool.{then_some}
use Rattle.lu_base.specs.declared.ids.At.{At}
use Rattle.lu_trace.specs.declared.entries.Entry.{Entry}
use Rattle.lu_trace.specs.declared.entries.Line.{Line}
use Rattle.lu_spec_laws.specs.Words.Pasts.{Past, is_target, same_turn, or_else, newest, some_line}

-- what is said counts where the line is one of these
abbrev pub only_here : {A : Type 0} → Option A → Bool → Option A
only_here None here = None
only_here (Some a) here = then_some here a

-- ---- of a target

abbrev pub last_at : {A : Type 0} → (Entry → Option A) → ℕ → Past → Option A
last_at says t past = newest (λ before (l : Line). only_here (says l.entry) (is_target t l.at.node)) past

abbrev pub any_at : (Entry → Bool) → ℕ → Past → Bool
any_at says t past = some_line (λ before (l : Line). says l.entry && is_target t l.at.node) past

-- ---- of a turn

abbrev pub last_in : {A : Type 0} → (Entry → Option A) → At → Past → Option A
last_in says at past = newest (λ before (l : Line). only_here (says l.entry) (same_turn l.at at)) past

abbrev pub any_in : (Entry → Bool) → At → Past → Bool
any_in says at past = some_line (λ before (l : Line). says l.entry && same_turn l.at at) past

abbrev pub next_in : {A : Type 0} → (Entry → Option A) → At → List Line → Option A
next_in says at [] = None
next_in says at (l ∷ later) = or_else (only_here (says l.entry) (same_turn l.at at)) (next_in says at later)

abbrev pub any_later : (Entry → Bool) → At → List Line → Bool
any_later says at later = list_any (λ (l : Line). says l.entry && same_turn l.at at) later
