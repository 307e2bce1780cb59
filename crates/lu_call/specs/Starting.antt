-- A call by itself: what its client's rows look at where it is the client's only call.
use Rattle.std.specs.Prelude.{ℕ, nat_lt, ◌&&◌, [], ◌∷◌, Bool, true, false, List, map, Option, Some, None}
use Rattle.lu_base.specs.declared.ids.At.{At}
use Rattle.lu_base.specs.declared.ids.Cookie.{Cookie}
use Rattle.lu_msg.specs.declared.answers.Answer.{Answer}
use Rattle.lu_msg.specs.declared.answers.Answer.TheVariants as answer
use Rattle.lu_msg.specs.declared.calls.Call.{Call}
use Rattle.lu_msg.specs.declared.calls.Call.TheVariants as call
use Rattle.lu_held.specs.declared.names.LockName.{LockName}
use Rattle.lu_spec_entries.specs.Carried.{HandleFile, Kind, Narrow, Writes, Cuts, Glimpses, Work, Running}
use Rattle.lu_spec_entries.specs.Words.{Entry}
use Rattle.lu_spec_client.specs.Calls.{first_life}
use Rattle.lu_spec_client.specs.Known.{name_of}
use Rattle.lu_spec_client.specs.Slots.{is_close}
use Rattle.lu_spec_client.specs.Starts.{count_on, starts_close, starts_bytes, starts_flush, starts_glimpse, starts_names, names_op}
use Rattle.lu_spec_client.specs.States.{Client, Store}
use Rattle.lu_client_store.specs.Stored.{StoreState}

-- A call reads no more of its client than the calls, what is known of names, and the store. A close that others
-- on its open keep waiting isn't let go on.
abbrev pub alone : Running → StoreState → Client
alone r s =
    record {
      who = first_life 0;
      handles = [];
      calls = Some r ∷ [];
      imports = [];
      facts = s.facts;
      store = s.store;
    }

-- another call is on the open of this file
abbrev pub is_shared : List (Option Running) → Option HandleFile → Bool
is_shared calls None = false
is_shared calls (Some f) = nat_lt 1 (count_on f.number.0 calls)

-- a close that hasn't asked waits for the others on its open
abbrev pub is_kept_waiting : List (Option Running) → Running → Bool
is_kept_waiting calls r = is_close r.call r.asking && is_shared calls r.file

-- the names of the metadata target's locks with these cookies
abbrev pub names_with : List Cookie → List LockName
names_with cookies = map name_of cookies

-- a path leads to a file, by what is known
abbrev pub is_file : Option Answer → Bool
is_file (Some (answer.File fid)) = true
is_file _ = false

-- ---- on a handle

-- what a call by itself does first: one on a handle, or one that always asks the metadata target
abbrev pub starts_on_handle : At → ℕ → Call → Running → Store → List Entry
starts_on_handle at slot (call.Close h) r s = starts_close slot (Some r ∷ []) r.file
starts_on_handle at slot (call.Read h p n) r s = starts_bytes at slot (Narrow p n) r s r.file
starts_on_handle at slot (call.Write h p bs) r s = starts_bytes at slot (Writes p bs) r s r.file
starts_on_handle at slot (call.Cut h n) r s = starts_bytes at slot (Cuts n) r s r.file
starts_on_handle at slot (call.Flush h) r s = starts_flush at slot r s r.file
starts_on_handle at slot (call.Glimpse h) r s = starts_glimpse at slot r s r.file
starts_on_handle at slot c r s = starts_names slot (names_op c)

-- ---- a glimpse

-- its sizes so far
abbrev pub sizes_of : Kind → List ℕ
sizes_of (Glimpses sizes) = sizes
sizes_of _ = []

-- it has these
abbrev pub glimpsing : List ℕ → Work → Work
glimpsing sizes w = record w { kind = Glimpses sizes }
