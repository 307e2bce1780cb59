-- What a list of entries makes of each part of a client, and which entries leave a part as it is.
use Rattle.std.specs.Prelude.{ℕ, suc, Bool, true, false, not, ◌==◌, ◌&&◌, ◌||◌, List, [], ◌∷◌, Option, Some, None, fold}
use Rattle.lu_base.specs.declared.ids.Who.{Who}
use Rattle.lu_base.specs.declared.locks.Resource.{Resource}
use Rattle.lu_held.specs.declared.locks.HeldLock.{HeldLock}
use Rattle.lu_spec_entries.specs.Carried.{Running}
use Rattle.lu_spec_entries.specs.Words.{Entry, Begin, Heard, Hold, Life, Told, Queues, Flies, Knows, Serves, Settles, Stands}
use Rattle.lu_spec_client.specs.Bytes.{Bytes}
use Rattle.lu_spec_client.specs.Patches.{Patch}
use Rattle.lu_spec_client.specs.Imports.{Import, import_after, imports_after}
use Rattle.lu_spec_client.specs.Calls.{Bound, reads_life, reads_call, reads_handles, life_after, calls_after, call_after, handles_after}
use Rattle.lu_spec_client.specs.Facts.{Fact, reads_facts, facts_after}
use Rattle.lu_spec_client.specs.Caches.{Note, reads_held, reads_bytes, reads_sizes, reads_shown, reads_patches, held_after, bytes_after}
use Rattle.lu_spec_client.specs.Caches.{sizes_after, shown_after, patches_after}

-- ---- after a list of entries

abbrev pub life_turn : Who → List Entry → Who
life_turn who es = fold life_after who es

abbrev pub handles_turn : List Bound → List Entry → List Bound
handles_turn handles es = fold handles_after handles es

abbrev pub calls_turn : List (Option Running) → List Entry → List (Option Running)
calls_turn calls es = fold calls_after calls es

-- the call on one slot
abbrev pub call_turn : ℕ → Option Running → List Entry → Option Running
call_turn slot call es = fold (call_after slot) call es

abbrev pub imports_turn : List Import → List Entry → List Import
imports_turn imports es = fold imports_after imports es

-- that of one target, by entries that are about it
abbrev pub import_turn : Import → List Entry → Import
import_turn i es = fold import_after i es

abbrev pub facts_turn : List Fact → List Entry → List Fact
facts_turn facts es = fold facts_after facts es

abbrev pub held_turn : List HeldLock → List Entry → List HeldLock
held_turn held es = fold held_after held es

abbrev pub bytes_turn : List (Resource × Bytes) → List Entry → List (Resource × Bytes)
bytes_turn bytes es = fold bytes_after bytes es

abbrev pub sizes_turn : List Note → List Entry → List Note
sizes_turn sizes es = fold sizes_after sizes es

abbrev pub shown_turn : List Note → List Entry → List Note
shown_turn shown es = fold shown_after shown es

abbrev pub patches_turn : List (Resource × Patch) → List Entry → List (Resource × Patch)
patches_turn patches es = fold patches_after patches es

-- ---- which entries a part reads

-- an import
abbrev pub reads_import : Entry → Bool
reads_import (Heard target flight reply) = true
reads_import (Hold target lock marked size seen) = true
reads_import (Life who) = true
reads_import (Queues target queued) = true
reads_import (Flies target flight) = true
reads_import (Knows target boot) = true
reads_import (Serves target boot) = true
reads_import (Settles target to) = true
reads_import _ = false

-- any part of the store
abbrev pub reads_store : Entry → Bool
reads_store e = reads_held e || reads_bytes e || reads_sizes e || reads_shown e || reads_patches e

-- any part but the imports, the calls, the handles, the store
abbrev pub reads_beside_imports : Entry → Bool
reads_beside_imports e = reads_life e || reads_handles e || reads_call e || reads_facts e || reads_store e

abbrev pub reads_beside_calls : Entry → Bool
reads_beside_calls e = reads_life e || reads_handles e || reads_import e || reads_facts e || reads_store e

abbrev pub reads_beside_handles : Entry → Bool
reads_beside_handles e = reads_life e || reads_call e || reads_import e || reads_facts e || reads_store e

abbrev pub reads_beside_store : Entry → Bool
reads_beside_store e = reads_life e || reads_handles e || reads_call e || reads_import e || reads_facts e

-- none of these entries is read
abbrev pub none_read : (Entry → Bool) → List Entry → Bool
none_read reads [] = true
none_read reads (e ∷ es) = not (reads e) && none_read reads es

-- ---- which entries change one alone

-- the entry changes the import of this target alone, or none
abbrev pub is_at : ℕ → Entry → Bool
is_at t (Heard u flight reply) = u == t
is_at t (Hold u lock marked size seen) = u == t
is_at t (Queues u queued) = u == t
is_at t (Flies u flight) = u == t
is_at t (Knows u boot) = u == t
is_at t (Serves u boot) = u == t
is_at t (Settles u to) = u == t
is_at t (Life who) = false
is_at t _ = true

abbrev pub all_at : ℕ → List Entry → Bool
all_at t [] = true
all_at t (e ∷ es) = is_at t e && all_at t es

-- whether a request serves the call on this slot, or none
abbrev pub serves_slot : ℕ → Option ℕ → Bool
serves_slot slot None = true
serves_slot slot (Some served) = served == slot

-- the entry changes the call on this slot alone, or none
abbrev pub is_on : ℕ → Entry → Bool
is_on slot (Begin s running) = s == slot
is_on slot (Stands s running) = s == slot
is_on slot (Told s at answer work) = s == slot
is_on slot (Queues target queued) = serves_slot slot queued.slot
is_on slot (Heard target flight reply) = serves_slot slot flight.slot
is_on slot _ = true

abbrev pub all_on : ℕ → List Entry → Bool
all_on slot [] = true
all_on slot (e ∷ es) = is_on slot e && all_on slot es

-- Each call after entries of its own, slot by slot from this one on.
abbrev pub calls_each : (ℕ → Option Running → List Entry) → ℕ → List (Option Running) → List (Option Running)
calls_each own slot [] = []
calls_each own slot (call ∷ calls) = call_turn slot call (own slot call) ∷ calls_each own (suc slot) calls
