-- Law of silent repeats. A lookup, list, layout, stat or read whose answer the life knows is told in the turn of its
-- begin, and no message is sent before that (this project's profile).
use Rattle.std.specs.Prelude.{◌≡◌, ℕ, Bool, true, false, ◌==◌, ◌&&◌, if◌then◌else◌, List, [], ◌∷◌}
use Rattle.lu_base.specs.declared.ids.At.{At}
use Rattle.lu_base.specs.declared.ids.Node.{Node}
use Rattle.lu_base.specs.declared.ids.Node.TheVariants.{Client, Target}
use Rattle.lu_msg.specs.declared.calls.Call.{Call}
use Rattle.lu_trace.specs.declared.entries.Entry.{Entry}
use Rattle.lu_trace.specs.declared.entries.Entry.TheVariants.{Begin, Send, Told}
use Rattle.lu_trace.specs.declared.entries.Line.{Line}
use Rattle.lu_spec_laws.specs.Words.Pasts.{Past, same_turn}
use Rattle.lu_spec_laws.specs.Words.Lives.{who_is}
use Rattle.lu_spec_laws.specs.Words.Repeats.{is_repeat}

-- a later line of this turn tells the slot, and no message is sent in it before that
abbrev pub is_told_silently : ℕ → At → List Line → Bool
is_told_silently slot at [] = false
is_told_silently slot at (l ∷ later) =
    elim l.entry [
      | Told other turn answer ↦ if same_turn l.at at && other == slot then true else is_told_silently slot at later
      | Send number to message ↦ if same_turn l.at at then false else is_told_silently slot at later
      | _ ↦ is_told_silently slot at later
    ]

abbrev pub BegunBy : Past → At → List Line → Node → ℕ → Call → Type 0
BegunBy past at later (Client c) slot call =
    is_repeat (who_is c past) past call ≡ true → is_told_silently slot at later ≡ true
BegunBy past at later (Target t) slot call = Unit {0}

abbrev pub SilentAt : Past → At → List Line → Entry → Type 0
SilentAt past at later (Begin slot call) = BegunBy past at later at.node slot call
SilentAt past at later _ = Unit {0}

abbrev pub Silent : Past → Line → List Line → Type 0
Silent past l later = SilentAt past l.at later l.entry
