-- What an import sends next.
use Rattle.std.specs.Prelude.{◌≡◌, ℕ, List, [], ◌∷◌}
use Rattle.lu_base.specs.declared.ids.Node.TheVariants.{Target}
use Rattle.lu_base.specs.declared.ids.Who.{Who}
use Rattle.lu_msg.specs.declared.messages.Message.{Message}
use Rattle.lu_spec_entries.specs.Carried.{Queued, Flight}
use Rattle.lu_spec_entries.specs.Words.{Entry, Flies, Send}
use Rattle.lu_spec_client.specs.Imports.{Import, import_after}
use Rattle.lu_spec_client.specs.Sending.{next_flight, sends_request, flies, sends_to}
use Rattle.lu_spec_client.specs.States.{Limits}

-- The front of the queue is sent as this message: the operation that waited, the request that it becomes, the import after
-- it; and the rows send it first, and then what that import sends.
pub record SendsFront (limits : Limits) (who : Who) (t : ℕ) (old new : Import) (m : Message) : Type 0 where
  pub front : Queued
  pub flight : Flight
  pub waits : old.queue ≡ front ∷ new.queue
  pub next : flight ≡ next_flight old.last old.flights front
  pub sends : Send (Target t) m ≡ sends_request who old.boot t flight
  pub shows : new ≡ import_after old (Flies t flight)
  pub rows : sends_to limits who t old ≡ Flies t flight ∷ Send (Target t) m ∷ sends_to limits who t new

-- The entries of sending the front of the queue, none where nothing waits.
abbrev pub front_on : Who → ℕ → Import → List Queued → List Entry
front_on who t i [] = []
front_on who t i (q ∷ queue) = flies who i.boot t (next_flight i.last i.flights q) []

abbrev pub front_sent : Who → ℕ → Import → List Entry
front_sent who t i = front_on who t i i.queue
