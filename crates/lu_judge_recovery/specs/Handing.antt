-- The life that a line of a target may bring back.
use Rattle.std.specs.Prelude.{ℕ, Bool, false, Option, Some, None, List}
use Rattle.lu_base.specs.declared.ids.Who.{Who}
use Rattle.lu_msg.specs.declared.messages.Message.{Message}
use Rattle.lu_msg.specs.declared.messages.Message.TheVariants as message
use Rattle.lu_trace.specs.declared.entries.Entry.{Entry}
use Rattle.lu_trace.specs.declared.entries.Entry.TheVariants.{Take, Joined}
use Rattle.lu_trace.specs.declared.entries.Line.{Line}
use Rattle.lu_spec_machine.specs.Tree.{same_life}
use Rattle.lu_spec_laws.specs.Words.Pasts.{Past}
use Rattle.lu_spec_laws.specs.Words.Sends.{message_of}
use Rattle.lu_spec_laws.specs.Laws.Recovery.{BringsBack}

-- whose message hands something in, or asks to join
abbrev pub handing : Message → Option Who
handing (message.Replay r) = Some r.who
handing (message.Lock r) = Some r.who
handing (message.Word who boot replays locks seen) = Some who
handing (message.Join who boot) = Some who
handing _ = None

abbrev pub handing_of : Option Message → Option Who
handing_of None = None
handing_of (Some m) = handing m

abbrev pub named : Past → Entry → Option Who
named past (Joined who) = Some who
named past (Take n) = handing_of (message_of past n)
named past _ = None

abbrev pub is_named : Option Who → Who → Bool
is_named None who = false
is_named (Some other) who = same_life other who

-- what the law asks of the life that the line may bring back
abbrev pub BringsNamed : ℕ → Past → Line → List Line → Option Who → Type 0
BringsNamed t past l later None = Unit {0}
BringsNamed t past l later (Some who) = BringsBack t past l later who
