-- What one client prints at given events, turn by turn, from the start of a run.
use Rattle.std.specs.Prelude.{ℕ, List, [], ◌∷◌, Option, Some, None}
use Rattle.lu_base.specs.declared.ids.At.{At}
use Rattle.lu_base.specs.declared.ids.Node.TheVariants as node
use Rattle.lu_trace.specs.declared.entries.Entry.{Entry as PrintedEntry}
use Rattle.lu_spec_entries.specs.Words.{Entry}
use Rattle.lu_spec_entries.specs.Printed.{printed_entry}
use Rattle.lu_spec_client.specs.States.{Client, Limits, started, turn}
use Rattle.lu_spec_client.specs.Rows.{Event, row}

-- an event and the stamp of its turn
pub record Happens : Type 0 where
  pub stamp : ℕ
  pub event : Event

abbrev pub turn_at : ℕ → ℕ → At
turn_at c stamp = record { stamp = record { 0 = stamp }; node = node.Client c }

abbrev pub shown : Option PrintedEntry → List PrintedEntry → List PrintedEntry
shown None more = more
shown (Some e) more = e ∷ more

-- messages that are sent have number 0
abbrev pub printed_of : List Entry → List PrintedEntry
printed_of [] = []
printed_of (e ∷ es) = shown (printed_entry 0 e) (printed_of es)

abbrev pub played_on : Limits → ℕ → Client → List Happens → List (List PrintedEntry)
played_on limits c k [] = []
played_on limits c k (h ∷ more) =
    printed_of (row limits (turn_at c h.stamp) h.event k) ∷ played_on limits c (turn k (row limits (turn_at c h.stamp) h.event k)) more

abbrev pub played : Limits → ℕ → List Happens → List (List PrintedEntry)
played limits c events = played_on limits c (started limits c) events
