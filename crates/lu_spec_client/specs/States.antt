-- A client as its rows read it: after a past, and after its own entries. The state is a record of fields, and what an entry
-- makes of it is the record of their steps.
use Rattle.std.specs.Prelude.{ℕ, zero, suc, ◌+◌, List, [], ◌∷◌, ◌++◌, map, Option}
use Rattle.std.specs.List.{range_with_len}
use Rattle.lu_base.specs.declared.ids.Who.{Who}
use Rattle.lu_base.specs.declared.locks.Resource.{Resource}
use Rattle.lu_held.specs.declared.locks.HeldLock.{HeldLock}
use Rattle.lu_spec_entries.specs.Carried.{Running}
use Rattle.lu_spec_entries.specs.Words.{Entry, Line}
use Rattle.lu_spec_client.specs.Bytes.{Bytes}
use Rattle.lu_spec_client.specs.Patches.{Patch}
use Rattle.lu_spec_client.specs.Imports.{Import, first_import, imports_after, import_at}
use Rattle.lu_spec_client.specs.Calls.{Bound, first_life, life_after, life_at, no_calls, calls_after, calls_at, handles_after, handles_at}
use Rattle.lu_spec_client.specs.Facts.{Fact, facts_after, facts_at}
use Rattle.lu_spec_client.specs.Caches.{Note, held_after, held_at, bytes_after, known_bytes_at, sizes_after, sizes_at, shown_after}
use Rattle.lu_spec_client.specs.Caches.{shown_at, patches_after, patches_at}

-- The numbers of a run that a client knows: object storage targets, how many of its requests may be in flight at one
-- target, above how many dirty bytes it writes back, and how many locks that are neither pinned nor marked it keeps.
pub record Limits : Type 0 where
  pub osts : ℕ
  pub flight : ℕ
  pub dirty : ℕ
  pub unused : ℕ

-- What a call on bytes reads and changes: the held locks, what is known of objects, and the client's own changes.
pub record Store : Type 0 where
  pub held : List HeldLock
  pub bytes : List (Resource × Bytes)
  pub sizes : List Note
  pub shown : List Note
  pub patches : List (Resource × Patch)

-- Its life, its handles, its calls by slot, what it knows of each target from 0 on, what it knows of names, and its store.
pub record Client : Type 0 where
  pub who : Who
  pub handles : List Bound
  pub calls : List (Option Running)
  pub imports : List Import
  pub facts : List Fact
  pub store : Store

-- ---- after its own entries

abbrev pub store_after : Store → Entry → Store
store_after s e =
    record {
      held = held_after s.held e;
      bytes = bytes_after s.bytes e;
      sizes = sizes_after s.sizes e;
      shown = shown_after s.shown e;
      patches = patches_after s.patches e;
    }

abbrev pub store_turn : Store → List Entry → Store
store_turn s [] = s
store_turn s (e ∷ es) = store_turn (store_after s e) es

-- what follows reads the store as these entries left it
abbrev pub follow_store : List Entry → (Store → List Entry) → Store → List Entry
follow_store es next s = es ++ next (store_turn s es)

abbrev pub after : Client → Entry → Client
after k e =
    record {
      who = life_after k.who e;
      handles = handles_after k.handles e;
      calls = calls_after k.calls e;
      imports = imports_after k.imports e;
      facts = facts_after k.facts e;
      store = store_after k.store e;
    }

abbrev pub turn : Client → List Entry → Client
turn k [] = k
turn k (e ∷ es) = turn (after k e) es

-- what follows reads the client as these entries left it
abbrev pub follow : List Entry → (Client → List Entry) → Client → List Entry
follow es next k = es ++ next (turn k es)

-- ---- at the start of a run, and after a past

abbrev pub empty_store : Store
empty_store = record { held = []; bytes = []; sizes = []; shown = []; patches = [] }

abbrev pub first_imports : ℕ → List Import
first_imports zero = []
first_imports (suc n) = first_import ∷ first_imports n

-- life 1, which each target serves in boot 1
abbrev pub started : Limits → ℕ → Client
started limits c =
    record {
      who = first_life c;
      handles = [];
      calls = no_calls;
      imports = first_imports (limits.osts + 1);
      facts = [];
      store =
          empty_store;
    }

abbrev pub store_at : ℕ → List Line → Store
store_at c past =
    record {
      held = held_at c past;
      bytes = known_bytes_at c past;
      sizes = sizes_at c past;
      shown = shown_at c past;
      patches = patches_at c past;
    }

abbrev pub client_at : Limits → ℕ → List Line → Client
client_at limits c past =
    record {
      who = life_at c past;
      handles = handles_at c past;
      calls = calls_at c past;
      imports = map (λ t. import_at c t past) (range_with_len 0 (limits.osts + 1));
      facts = facts_at c past;
      store = store_at c past;
    }
