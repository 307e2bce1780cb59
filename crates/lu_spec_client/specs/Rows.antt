-- A client's turn: the event first, then the slots as far as they go, then the held locks, then what may be sent. A busy
-- turn and a death are one line (this project's profile).
use Rattle.std.specs.Prelude.{ℕ, List, [], ◌∷◌, Option, Some, None}
use Rattle.lu_base.specs.declared.ids.At.{At}
use Rattle.lu_base.specs.declared.ids.Node.{Node}
use Rattle.lu_msg.specs.declared.calls.Call.{Call}
use Rattle.lu_msg.specs.declared.messages.Message.{Message}
use Rattle.lu_spec_entries.specs.Carried.{Running}
use Rattle.lu_spec_entries.specs.Words.{Entry, Take, Tick, Busy, Die}
use Rattle.lu_spec_client.specs.Calls.{call_on}
use Rattle.lu_spec_client.specs.States.{Client, Limits, follow}
use Rattle.lu_spec_client.specs.Slots.{begins, slots_go}
use Rattle.lu_spec_client.specs.Locks.{trims, locks_go}
use Rattle.lu_spec_client.specs.Sending.{sends_all}
use Rattle.lu_spec_client.specs.Recovery.{ticks}
use Rattle.lu_spec_client.specs.Messages.{comes_by}

-- What happens to a client: its user begins a call on a slot, a message comes under its number, its time goes on, it dies.
pub data Event : Type 0 where
  Begins : (slot : ℕ) (call : Call) → Event
  Comes : (number : ℕ) (from : Node) (message : Message) → Event
  Ticks : Event
  Dies : Event

-- what comes after the event: five passes over the slots are enough, since four slots have at most four closes that wait
abbrev pub rests : Limits → At → Client → List Entry
rests limits at k =
    follow (slots_go 5 at k) (λ k. follow (trims limits k) (λ k. follow (locks_go limits k) (λ k. sends_all limits k.who 0 k.imports) k) k)
    k

-- where the slot has a call that isn't told it is busy
abbrev pub row_call : Limits → At → ℕ → Call → Client → Option Running → List Entry
row_call limits at slot c k None = follow (begins at slot c k) (rests limits at) k
row_call limits at slot c k (Some running) = Busy slot ∷ []

abbrev pub row_takes : Limits → At → ℕ → Node → Message → Client → List Entry
row_takes limits at n from m k = follow (Take n from m ∷ comes_by at from m k) (rests limits at) k

abbrev pub row_tick : Limits → At → Client → List Entry
row_tick limits at k = follow (Tick ∷ ticks 0 k.imports k) (rests limits at) k

abbrev pub row_dies : List Entry
row_dies = Die ∷ []

abbrev pub row : Limits → At → Event → Client → List Entry
row limits at (Begins slot c) k = row_call limits at slot c k (call_on slot k.calls)
row limits at (Comes n from m) k = row_takes limits at n from m k
row limits at Ticks k = row_tick limits at k
row limits at Dies k = row_dies
