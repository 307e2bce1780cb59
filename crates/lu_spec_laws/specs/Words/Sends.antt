-- The messages of a past: those sent, by their numbers, and what a turn took.
use Rattle.std.specs.Prelude.{ℕ, suc, Bool, true, false, ◌==◌, ◌&&◌, if◌then◌else◌, Option, Some, None, List, [], ◌∷◌}
use Rattle.lu_base.specs.declared.ids.At.{At}
use Rattle.lu_base.specs.declared.ids.Node.{Node}
use Rattle.std.specs.Option.{option_map}
use Rattle.lu_base.specs.declared.ids.Who.{Who}
use Rattle.lu_msg.specs.declared.messages.Message.{Message}
use Rattle.lu_msg.specs.declared.messages.Message.TheVariants.{Reply, Grant}
use Rattle.lu_msg.specs.declared.messages.Reply.{Reply as ReplyOf}
use Rattle.lu_msg.specs.declared.messages.GrantNotice.{GrantNotice}
use Rattle.lu_spec_machine.specs.Tree.{same_life}
use Rattle.lu_trace.specs.declared.entries.Entry.TheVariants.{Send, Take}
use Rattle.lu_trace.specs.declared.entries.Line.{Line}
use Rattle.lu_spec_laws.specs.Words.Pasts.{Past, is_target, same_node, same_turn, or_else, newest}

-- how many were sent
abbrev pub sends : Past → ℕ
sends [] = 0
sends (l ∷ past) = elim l.entry [ Send number to message ↦ suc (sends past) | _ ↦ sends past ]

-- a message on its way
pub record Sending : Type 0 where
  pub from : Node
  pub to : Node
  pub message : Message

abbrev pub sends_it : ℕ → Past → Line → Option Sending
sends_it n past l =
    elim l.entry [
      | Send number to message ↦ if number == n then Some (record { from = l.at.node; to = to; message = message }) else None
      | _ ↦ None
    ]

-- the message of that number: the last one sent so far
abbrev pub sending : Past → ℕ → Option Sending
sending past n = newest (sends_it n) past

abbrev pub message_of : Past → ℕ → Option Message
message_of past n = option_map (λ s. s.message) (sending past n)

abbrev pub goes_to : Node → Option Sending → Bool
goes_to node None = false
goes_to node (Some s) = same_node s.to node

-- the message of that number was sent to that node
abbrev pub is_sent_to : Past → ℕ → Node → Bool
is_sent_to past n node = goes_to node (sending past n)

-- ---- what a turn took

abbrev pub with_taken : Option Sending → List Sending → List Sending
with_taken None taken = taken
with_taken (Some s) taken = s ∷ taken

-- the messages that it took so far, the last one first: in a run at most one
abbrev pub taken : Past → At → List Sending
taken [] at = []
taken (l ∷ past) at =
    elim l.entry [ Take n ↦ if same_turn l.at at then with_taken (sending past n) (taken past at) else taken past at | _ ↦ taken past at ]

-- of several messages any that fits
abbrev pub first_fit : {A : Type 0} → (Sending → Option A) → List Sending → Option A
first_fit fits [] = None
first_fit fits (s ∷ taken) = or_else (fits s) (first_fit fits taken)

abbrev pub as_reply : ℕ → Who → ℕ → Node → Message → Option ReplyOf
as_reply t who x from (Reply r) = if is_target t from && (same_life r.who who && r.xid.0 == x) then Some r else None
as_reply t who x from _ = None

-- the target's reply to that life's request, where the turn took it
abbrev pub reply_in : Past → At → ℕ → Who → ℕ → Option ReplyOf
reply_in past at t who x = first_fit (λ s. as_reply t who x s.from s.message) (taken past at)

abbrev pub as_grant : ℕ → Who → ℕ → Node → Message → Option GrantNotice
as_grant t who cookie from (Grant g) = if is_target t from && (same_life g.who who && g.cookie.0 == cookie) then Some g else None
as_grant t who cookie from _ = None

-- the target's grant of that lock to that life, where the turn took it
abbrev pub grant_in : Past → At → ℕ → Who → ℕ → Option GrantNotice
grant_in past at t who cookie = first_fit (λ s. as_grant t who cookie s.from s.message) (taken past at)
