-- The clients of a trace: those up to the greatest number that a line of it names (this project's profile).
use Rattle.std.specs.Prelude.{ℕ, suc, max, [], ◌∷◌}
use Rattle.lu_base.specs.declared.ids.Node.{Node}
use Rattle.lu_base.specs.declared.ids.Node.TheVariants.{Client, Target}
use Rattle.lu_base.specs.declared.ids.Who.{Who}
use Rattle.lu_msg.specs.declared.messages.Message.{Message}
use Rattle.lu_msg.specs.declared.messages.Message.TheVariants as message
use Rattle.lu_trace.specs.declared.entries.Entry.{Entry}
use Rattle.lu_trace.specs.declared.entries.Entry.TheVariants as entry
use Rattle.lu_trace.specs.declared.entries.Line.{Line}
use Rattle.lu_spec_laws.specs.Words.Pasts.{Past}

-- ---- how many clients a trace has at least that names this: one more than the greatest number in it, or none

abbrev pub node_clients : Node → ℕ
node_clients (Client c) = suc c
node_clients (Target t) = 0

abbrev pub life_clients : Who → ℕ
life_clients who = suc who.client

abbrev pub message_clients : Message → ℕ
message_clients (message.Request r) = life_clients r.who
message_clients (message.Cancel who boot cookie) = life_clients who
message_clients (message.Where who boot cookie) = life_clients who
message_clients (message.Replay r) = life_clients r.who
message_clients (message.Lock r) = life_clients r.who
message_clients (message.Word who boot replays locks seen) = life_clients who
message_clients (message.Join who boot) = life_clients who
message_clients (message.Size s) = max (life_clients s.who) (life_clients s.for_who)
message_clients (message.Up boot) = 0
message_clients (message.Reply r) = max (life_clients r.who) (node_clients r.at.node)
message_clients (message.Grant g) = life_clients g.who
message_clients (message.Block who boot cookie) = life_clients who
message_clients (message.Ask who boot cookie for_who xid) = max (life_clients who) (life_clients for_who)
message_clients (message.Ready who boot committed) = life_clients who
message_clients (message.Evicted who boot) = life_clients who

abbrev pub entry_clients : Entry → ℕ
entry_clients (entry.Send number to m) = max (node_clients to) (message_clients m)
entry_clients (entry.Told slot at answer) = node_clients at.node
entry_clients (entry.Life who) = life_clients who
entry_clients (entry.Act who xid answer) = life_clients who
entry_clients (entry.Txn number who xid seen answer) = life_clients who
entry_clients (entry.Grant lock) = life_clients lock.ask.who
entry_clients (entry.Wait lock) = life_clients lock.ask.who
entry_clients (entry.Back who) = life_clients who
entry_clients (entry.Restore lock) = life_clients lock.ask.who
entry_clients (entry.Evict who cause) = life_clients who
entry_clients (entry.Joined who) = life_clients who
entry_clients _ = 0

abbrev pub clients_step : Line → ℕ → ℕ
clients_step l old = max old (max (node_clients l.at.node) (entry_clients l.entry))

-- how many clients the trace has
abbrev pub clients : Past → ℕ
clients [] = 0
clients (l ∷ past) = clients_step l (clients past)
