-- The messages that come to a target, what it took since its last boot, and whether a turn closed its window (Lustre
-- Operations Manual, recovery).
use Rattle.std.specs.Prelude.{ℕ, Bool, false, if◌then◌else◌, Option, Some, None, List, [], ◌∷◌}
use Rattle.lu_base.specs.declared.ids.At.{At}
use Rattle.lu_base.specs.declared.ids.Node.{Node}
use Rattle.lu_msg.specs.declared.messages.Message.{Message}
use Rattle.lu_trace.specs.declared.entries.Entry.TheVariants.{Take, Boot, Close}
use Rattle.lu_trace.specs.declared.entries.Line.{Line}
use Rattle.lu_spec_laws.specs.Words.Pasts.{Past, is_target, same_turn, some_line}
use Rattle.lu_spec_laws.specs.Words.Sends.{message_of}

-- the message of that number, where that node is the target
abbrev pub comes_to : ℕ → Past → Node → ℕ → Option Message
comes_to t past node n = if is_target t node then message_of past n else None

abbrev pub closes : At → Past → Line → Bool
closes at past l = elim l.entry [ Close ↦ same_turn l.at at | _ ↦ false ]

abbrev pub has_closed : Past → At → Bool
has_closed past at = some_line (closes at) past

abbrev pub with_message : Option Message → List Message → List Message
with_message None messages = messages
with_message (Some message) messages = message ∷ messages

-- the newest first
abbrev pub since_boot : ℕ → Past → List Message
since_boot t [] = []
since_boot t (l ∷ past) =
    elim l.entry [
      | Take n ↦ with_message (comes_to t past l.at.node n) (since_boot t past)
      | Boot b ↦ if is_target t l.at.node then [] else since_boot t past
      | _ ↦ since_boot t past
    ]
