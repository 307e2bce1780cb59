-- A `joined` life asked to join in this turn, or since the target's last boot where this turn closed its window. It is
-- newer than the last life of its client that had a slot there, and that one was evicted (Lustre Operations Manual,
-- recovery).
use Rattle.std.specs.Prelude.{◌≡◌, ℕ, ◌<◌, Bool, true, false, ◌==◌, ◌&&◌, if◌then◌else◌, Option, Some, None, unwrap_or, List, map}
use Rattle.std.specs.List.{list_any}
use Rattle.lu_base.specs.declared.ids.At.{At}
use Rattle.lu_base.specs.declared.ids.Node.{Node}
use Rattle.lu_base.specs.declared.ids.Node.TheVariants.{Client, Target}
use Rattle.lu_base.specs.declared.ids.Who.{Who}
use Rattle.lu_msg.specs.declared.messages.Message.{Message}
use Rattle.lu_msg.specs.declared.messages.Message.TheVariants.{Join}
use Rattle.lu_trace.specs.declared.entries.Entry.{Entry}
use Rattle.lu_trace.specs.declared.entries.Entry.TheVariants as entry
use Rattle.lu_trace.specs.declared.entries.Line.{Line}
use Rattle.lu_spec_machine.specs.Tree.{same_life}
use Rattle.lu_spec_laws.specs.Words.Pasts.{Past, is_target, newest}
use Rattle.lu_spec_laws.specs.Words.Sends.{Sending, taken}
use Rattle.lu_spec_laws.specs.Words.Lives.{is_evicted}
use Rattle.lu_spec_laws.specs.Words.Boots.{boot}
use Rattle.lu_spec_laws.specs.Order.Handed.{has_closed, since_boot}

abbrev pub is_join : ℕ → Who → Message → Bool
is_join b who (Join other known) = known == b && same_life other who
is_join b who _ = false

-- where the turn closed the window, what was taken since the boot
abbrev pub counted : Past → At → ℕ → List Message
counted past at t =
    if has_closed past at then since_boot t past else map {A = Sending} {B = Message} (λ s. s.message) (taken past at)

abbrev pub has_asked : Past → At → ℕ → Who → Bool
has_asked past at t who = list_any (is_join (boot t past) who) (counted past at t)

abbrev pub joins_as : ℕ → ℕ → Past → Line → Option ℕ
joins_as t c past l =
    elim l.entry [
      | entry.Joined who ↦ if is_target t l.at.node && who.client == c then Some who.life else None
      | _ ↦ None
    ]

-- the life of the client that joined last, or 1
abbrev pub last_life : ℕ → ℕ → Past → ℕ
last_life t c past = unwrap_or (newest (joins_as t c) past) 1

pub record JoinedAt (past : Past) (at : At) (t : ℕ) (who : Who) : Type 0 where
  pub asked : has_asked past at t who ≡ true
  pub newer : last_life t who.client past < who.life
  pub free : is_evicted t past (record { client = who.client; life = last_life t who.client past }) ≡ true

abbrev pub JoinedBy : Past → At → Node → Who → Type 0
JoinedBy past at (Target t) who = JoinedAt past at t who
JoinedBy past at (Client c) who = ⊥

abbrev pub JoinsAt : Past → At → Entry → Type 0
JoinsAt past at (entry.Joined who) = JoinedBy past at at.node who
JoinsAt past at _ = Unit {0}

abbrev pub Joined : Past → Line → List Line → Type 0
Joined past l later = JoinsAt past l.at l.entry
