-- The law of messages is decided.
use Rattle.std.proofs.Common.{ℕ, List, [], ◌∷◌}
use Rattle.lu_base.specs.declared.ids.At.{At}
use Rattle.lu_base.specs.declared.ids.Node.{Node}
use Rattle.lu_base.specs.declared.ids.Node.TheVariants.{Client, Target}
use Rattle.lu_trace.specs.declared.entries.Entry.{Entry}
use Rattle.lu_trace.specs.declared.entries.Entry.TheVariants.{Begin, Send, Take, Told}
use Rattle.lu_trace.specs.declared.entries.Line.{Line}
use Rattle.lu_spec_laws.specs.Words.Pasts.{Past, NodeUpTo, UpTo}
use Rattle.lu_spec_laws.specs.Laws.Messages.{Follows, Lives, IsFree, IsOpen, Passes, MessagesAt, Messages}
use Rattle.lu_spec_laws.proofs.Decides.{Decided, nothing, never, like, both, three, either, numbers, up_to, below, is_true, is_false}

abbrev pub decide_node_up_to : (a b : Node) → Decided (NodeUpTo a b)
decide_node_up_to (Client c) (Client d) = up_to c d
decide_node_up_to (Client c) (Target t) = nothing
decide_node_up_to (Target t) (Client c) = never
decide_node_up_to (Target t) (Target u) = up_to t u

-- the turn is the other one or stands before it
abbrev pub decide_up_to : (a b : At) → Decided (UpTo a b)
decide_up_to a b = either (below a.stamp.0 b.stamp.0) (both (numbers a.stamp.0 b.stamp.0) (decide_node_up_to a.node b.node))

abbrev decide_follows : (past : Past) (at : At) → Decided (Follows past at)
decide_follows [] at = nothing
decide_follows (l ∷ past) at = decide_up_to l.at at

abbrev decide_lives : (past : Past) (node : Node) → Decided (Lives past node)
decide_lives past (Client c) = is_false _
decide_lives past (Target t) = nothing

abbrev decide_free : (past : Past) (node : Node) (slot : ℕ) → Decided (IsFree past node slot)
decide_free past (Client c) slot = is_false _
decide_free past (Target t) slot = never

abbrev decide_open : (past : Past) (node : Node) (slot : ℕ) → Decided (IsOpen past node slot)
decide_open past (Client c) slot = is_true _
decide_open past (Target t) slot = never

abbrev decide_passes : (past : Past) (at : At) (said : Entry) → Decided (Passes past at said)
decide_passes past at (Send number to message) = numbers _ _
decide_passes past at (Take n) = is_true _
decide_passes past at (Begin slot call) = decide_free past at.node slot
decide_passes past at (Told slot turn answer) = decide_open past at.node slot
decide_passes past at _ = nothing

abbrev pub decide_messages : (past : Past) (l : Line) (later : List Line) → Decided (Messages past l later)
decide_messages past l later =
    like (λ t. record { order = t.0; living = t.1; passes = t.2 }) (λ (r : MessagesAt past l.at l.entry). (r.order, r.living, r.passes))
    (three (decide_follows past l.at) (decide_lives past l.at.node) (decide_passes past l.at l.entry))
