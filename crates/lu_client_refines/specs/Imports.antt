-- What an import of a client shows of the state that the rows read, and what a client keeps of each of its imports.
use Rattle.std.specs.Prelude.{◌≡◌, ℕ, suc, List, [], ◌∷◌, map}
use Rattle.lu_base.specs.declared.ids.Who.{Who}
use Rattle.lu_import.specs.declared.requests.Waiting.{Waiting}
use Rattle.lu_import.specs.declared.requests.InFlight.{InFlight}
use Rattle.lu_import.specs.declared.recovery.Standing.{Standing}
use Rattle.lu_import.specs.declared.recovery.Standing.TheVariants.{Joining, Recovering, Serving}
use Rattle.lu_import.specs.Kept.{Replay, KeptState}
use Rattle.lu_import.specs.Imports.{ImportState, IsSound}
use Rattle.lu_spec_entries.specs.Carried.{Queued, Flight}
use Rattle.lu_spec_client.specs.Imports as row
use Rattle.lu_spec_client.specs.States.{Limits}

-- An operation that waits to be sent.
abbrev pub waiting_of : Waiting → Queued
waiting_of w = record { slot = w.slot; op = w.op }

-- A request in flight.
abbrev pub flight_of : InFlight → Flight
flight_of f = record { xid = f.xid.0; tag = f.tag; op = f.op; slot = f.slot }

-- How the life stands at the target.
abbrev pub standing_of : Standing → row.Standing
standing_of Joining = row.Joining
standing_of Recovering = row.Recovering
standing_of Serving = row.Serving

-- A request that is told again in a recovery.
abbrev pub replay_of : Replay → row.Replay
replay_of r = record { txn = r.txn; xid = r.xid; tag = r.tag; seen = r.seen; op = r.op }

-- What is kept for the target's next recovery.
abbrev pub kept_of : KeptState → row.Kept
kept_of k = record { committed = k.committed; seen = k.seen; replays = map replay_of k.replays }

-- All of an import.
abbrev pub import_of_state : ImportState → row.Import
import_of_state i =
    record {
      boot = i.boot;
      standing = standing_of i.standing;
      last = i.last;
      queue = map waiting_of i.queue;
      flights = map flight_of i.in_flight;
      kept = kept_of i.kept;
    }

-- The imports of a client, target by target.
abbrev pub imports_of : List ImportState → List row.Import
imports_of is = map import_of_state is

-- An import is that of this target and life, with the run's limit of requests in flight, and is sound.
pub record IsOne (limits : Limits) (who : Who) (t : ℕ) (i : ImportState) : Type 0 where
  pub target : i.target.0 ≡ t
  pub life : i.who ≡ who
  pub flight : i.flight ≡ limits.flight
  pub sound : IsSound i

-- The imports of the targets from this one on.
abbrev pub AreImports : Limits → Who → ℕ → List ImportState → Type 0
AreImports limits who t [] = Unit
AreImports limits who t (i ∷ is) = IsOne limits who t i × AreImports limits who (suc t) is

-- These numbers were told already: a lock that tells them is no change of what is kept.
abbrev pub WasTold : List ℕ → row.Kept → Type 0
WasTold seen k = row.settled 0 (record k { seen = row.with_numbers seen k.seen }) ≡ k
