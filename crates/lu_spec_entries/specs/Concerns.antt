-- What concerns one target is a story of its own: the target's lines, and a client's, but those about other targets.
use Rattle.std.specs.Prelude.{ℕ, Bool, true, false, List, [], ◌∷◌, ◌==◌, if◌then◌else◌}
use Rattle.lu_base.specs.declared.ids.Node.{Node}
use Rattle.lu_base.specs.declared.ids.Node.TheVariants.{Client, Target}
use Rattle.lu_spec_entries.specs.Words.{Entry, Send, Take, Heard, Hold, Drop, Peek, Queues, Flies, Knows, Serves, Settles, Unmarks, Learns}
use Rattle.lu_spec_entries.specs.Words.{Pins, Unpins, Marks, Line, is_target}

-- of a client's entry: whether it is about this target, or about all
abbrev pub is_about : ℕ → Entry → Bool
is_about t (Send to message) = is_target t to
is_about t (Take number from message) = is_target t from
is_about t (Heard u flight reply) = t == u
is_about t (Hold u lock marked size seen) = t == u
is_about t (Drop u lock) = t == u
is_about t (Peek u cookie size) = t == u
is_about t (Queues u queued) = t == u
is_about t (Flies u flight) = t == u
is_about t (Knows u boot) = t == u
is_about t (Serves u boot) = t == u
is_about t (Settles u to) = t == u
is_about t (Pins name) = t == name.target.0
is_about t (Unpins name) = t == name.target.0
is_about t (Marks name) = t == name.target.0
is_about t (Unmarks u) = t == u
is_about t (Learns u op answer locks) = t == u
is_about t _ = true

abbrev pub concerns : ℕ → Node → Entry → Bool
concerns t (Target u) e = t == u
concerns t (Client c) e = is_about t e

abbrev pub only : ℕ → List Line → List Line
only t [] = []
only t (l ∷ past) = if concerns t l.at.node l.entry then l ∷ only t past else only t past

-- a turn's entries that concern the target
abbrev pub about : ℕ → Node → List Entry → List Entry
about t node [] = []
about t node (e ∷ es) = if concerns t node e then e ∷ about t node es else about t node es
