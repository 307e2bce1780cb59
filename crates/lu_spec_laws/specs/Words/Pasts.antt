-- A past: the lines of a trace up to some line, the newest first. Tests on nodes and turns; turns stand in the
-- order of their stamps, and at one stamp clients stand before targets, each by their numbers.
use Rattle.std.specs.Prelude.{◌≡◌, ℕ, ◌<◌, ◌≤◌, Bool, true, false, ◌==◌, ◌&&◌, ◌||◌, ◌⊎◌, Option, Some, None, List, [], ◌∷◌}
use Rattle.lu_base.specs.declared.ids.At.{At}
use Rattle.lu_base.specs.declared.ids.Node.{Node}
use Rattle.lu_base.specs.declared.ids.Node.TheVariants.{Client, Target}
use Rattle.lu_trace.specs.declared.entries.Line.{Line}
use Rattle.lu_trace.specs.declared.entries.Entry.TheVariants.{Die}

abbrev pub Past : Type 0
Past = List Line

abbrev pub is_client : ℕ → Node → Bool
is_client c (Client d) = d == c
is_client c (Target t) = false

abbrev pub is_target : ℕ → Node → Bool
is_target t (Client c) = false
is_target t (Target u) = u == t

-- the node is some target
abbrev pub is_some_target : Node → Bool
is_some_target (Client c) = false
is_some_target (Target t) = true

abbrev pub same_node : Node → Node → Bool
same_node a (Client c) = is_client c a
same_node a (Target t) = is_target t a

abbrev pub same_turn : At → At → Bool
same_turn a b = a.stamp.0 == b.stamp.0 && same_node a.node b.node

-- the node is the other one or stands before it
abbrev pub NodeUpTo : Node → Node → Type 0
NodeUpTo (Client c) (Client d) = c ≤ d
NodeUpTo (Client c) (Target t) = Unit {0}
NodeUpTo (Target t) (Client c) = ⊥
NodeUpTo (Target t) (Target u) = t ≤ u

-- the turn is the other one or stands before it
abbrev pub UpTo : At → At → Type 0
UpTo a b = (a.stamp.0 < b.stamp.0) ⊎ ((a.stamp.0 ≡ b.stamp.0) × NodeUpTo a.node b.node)

-- ---- the two ways to ask a past

abbrev pub or_else : {A : Type 0} → Option A → Option A → Option A
or_else (Some a) later = Some a
or_else None later = later

-- what the newest line that says something says; of a line the lines before it are known
abbrev pub newest : {A : Type 0} → (Past → Line → Option A) → Past → Option A
newest says [] = None
newest says (l ∷ past) = or_else (says past l) (newest says past)

-- whether any line says so
abbrev pub some_line : (Past → Line → Bool) → Past → Bool
some_line says [] = false
some_line says (l ∷ past) = says past l || some_line says past

-- ---- the dead

abbrev pub dies : ℕ → Past → Line → Bool
dies c past l = elim l.entry [ Die ↦ is_client c l.at.node | _ ↦ false ]

-- the client died
abbrev pub has_died : ℕ → Past → Bool
has_died c past = some_line (dies c) past
