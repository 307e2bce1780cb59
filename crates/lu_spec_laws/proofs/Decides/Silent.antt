-- The law of silent repeats is decided.
use Rattle.std.proofs.Common.{ℕ, List}
use Rattle.lu_base.specs.declared.ids.At.{At}
use Rattle.lu_base.specs.declared.ids.Node.{Node}
use Rattle.lu_base.specs.declared.ids.Node.TheVariants.{Client, Target}
use Rattle.lu_msg.specs.declared.calls.Call.{Call}
use Rattle.lu_trace.specs.declared.entries.Entry.{Entry}
use Rattle.lu_trace.specs.declared.entries.Entry.TheVariants.{Begin}
use Rattle.lu_trace.specs.declared.entries.Line.{Line}
use Rattle.lu_spec_laws.specs.Words.Pasts.{Past}
use Rattle.lu_spec_laws.specs.Laws.Silent.{BegunBy, SilentAt, Silent}
use Rattle.lu_spec_laws.proofs.Decides.{Decided, nothing, is_true, when}

abbrev pub decide_begun :
    (past : Past) (at : At) (later : List Line) (node : Node) (slot : ℕ) (call : Call)
    → Decided (BegunBy past at later node slot call)
decide_begun past at later (Client c) slot call = when _ (is_true _)
decide_begun past at later (Target t) slot call = nothing

abbrev pub decide_at :
    (past : Past) (at : At) (later : List Line) (said : Entry)
    → Decided (SilentAt past at later said)
decide_at past at later (Begin slot call) = decide_begun past at later at.node slot call
decide_at past at later _ = nothing

abbrev pub decide_silent : (past : Past) (l : Line) (later : List Line) → Decided (Silent past l later)
decide_silent past l later = decide_at past l.at later l.entry
