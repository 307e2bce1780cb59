-- A client as its steps see it: the limits of its run, what its rows read of it, and whether it is spent.
use Rattle.std.specs.Prelude.{◌≡◌, ℕ, ◌+◌, ◌<◌, ◌≤◌, Bool, false, List, length, map, slice_set, Option}
use Rattle.lu_base.specs.declared.ids.At.{At}
use Rattle.lu_base.specs.declared.ids.Node.TheVariants as node
use Rattle.lu_base.specs.declared.ids.Stamp.{Stamp}
use Rattle.lu_base.specs.declared.ids.Who.{Who}
use Rattle.lu_call.specs.declared.nexts.Binding.{Binding}
use Rattle.lu_call.specs.Views.{file_of}
use Rattle.lu_client_store.specs.Stored.{StoreState}
use Rattle.lu_import.specs.Imports.{ImportState}
use Rattle.lu_msg.specs.Limits.{slot_count, tag_count}
use Rattle.lu_trace.specs.Turns.{Making}
use Rattle.lu_spec_entries.specs.Carried.{Running}
use Rattle.lu_spec_entries.specs.Words.{Entry}
use Rattle.lu_spec_client.specs.Calls.{Bound}
use Rattle.lu_spec_client.specs.Imports.{Import, import_of}
use Rattle.lu_spec_client.specs.States.{Client, Limits, started}
use Rattle.lu_client_refines.specs.Goes.{Goes, Leads}
use Rattle.lu_client_refines.specs.Imports.{imports_of, AreImports}

pub record ClientState : Type 0 where
  pub limits : Limits
  pub client : Client
  pub spent : Bool

-- a client of this number before its first turn
abbrev pub first_client : Limits → ℕ → ClientState
first_client limits c = record { limits = limits; client = started limits c; spent = false }

-- a turn of the client
abbrev pub turn_of : Stamp → ClientState → At
turn_of stamp c = record { stamp = stamp; node = node.Client c.client.who.client }

-- ---- a client of which one part is another

abbrev pub with_handles : List Bound → ClientState → ClientState
with_handles handles c = record c { client = record c.client { handles = handles } }

abbrev pub with_call : ℕ → Option Running → ClientState → ClientState
with_call slot call c = record c { client = record c.client { calls = slice_set c.client.calls slot call } }

abbrev pub with_imports : List Import → ClientState → ClientState
with_imports imports c = record c { client = record c.client { imports = imports } }

-- what it holds and knows
abbrev pub stored_of : ClientState → StoreState
stored_of c = record { unused = c.limits.unused; facts = c.client.facts; store = c.client.store }

abbrev pub with_store : StoreState → ClientState → ClientState
with_store s c = record c { limits = record c.limits { unused = s.unused }; client = record c.client { facts = s.facts; store = s.store } }

-- No target was asked more requests.
pub record AsksNoMore (old new : List Import) : Type 0 where
  pub last : (t : ℕ) → (import_of t new).last ≤ (import_of t old).last

-- ---- how a client is kept

abbrev pub bound_of : Binding → Bound
bound_of b = record { handle = b.handle; file = file_of b.file }

abbrev pub limits_of : ℕ → ℕ → ℕ → StoreState → Limits
limits_of osts flight dirty store = record { osts = osts; flight = flight; dirty = dirty; unused = store.unused }

abbrev pub client_of : Who → List Binding → List (Option Running) → List ImportState → StoreState → Client
client_of who handles calls imports store =
    record {
      who = who;
      handles = map bound_of handles;
      calls = calls;
      imports = imports_of imports;
      facts = store.facts;
      store = store.store;
    }

-- all of it
abbrev pub state_of : ℕ → ℕ → ℕ → Who → List Binding → List (Option Running) → List ImportState → StoreState → Bool → ClientState
state_of osts flight dirty who handles calls imports store spent =
    record { limits = limits_of osts flight dirty store; client = client_of who handles calls imports store; spent = spent }

-- What always holds of the parts: four slots; up to eight object storage targets; an import for each target, of this life, with
-- the run's limit of requests in flight, which is 1 to 8.
pub record AreKept (osts flight dirty : ℕ) (who : Who) (calls : List (Option Running)) (imports : List ImportState) (store : StoreState) :
    Type 0 where
  pub slots : length calls ≡ slot_count
  pub targets : length imports ≡ osts + 1
  pub few : osts ≤ 8
  pub least : 0 < flight
  pub most : flight ≤ tag_count
  pub kept : AreImports (limits_of osts flight dirty store) who 0 imports

-- ---- a part of a turn

-- It goes as this row has it: it gave what the row's entries give after what was given before, and the client is as they leave
-- it; the limits of its run stay, and whether it is spent.
pub record Makes (row : Client → List Entry) (old new : ClientState) (before after : Making) : Type 0 where
  pub goes : Goes row old.client new.client before after
  pub limits : new.limits ≡ old.limits
  pub spent : new.spent ≡ old.spent

-- In the middle of a row: what is left of it comes to what the whole comes to from the first client; the limits stay, and
-- whether the client is spent.
pub record Remains (whole left : Client → List Entry) (first now : ClientState) (before making : Making) : Type 0 where
  pub leads : Leads whole left first.client now.client before making
  pub limits : now.limits ≡ first.limits
  pub spent : now.spent ≡ first.spent
