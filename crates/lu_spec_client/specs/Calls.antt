-- A client's life and death, its calls by slot, and its handles (POSIX.1, open files: a handle belongs to one life).
use Rattle.std.specs.Prelude.{ℕ, zero, suc, Bool, true, false, not, ◌==◌, if◌then◌else◌, List, [], ◌∷◌, filter, Option, Some, None}
use Rattle.lu_base.specs.declared.ids.Who.{Who}
use Rattle.lu_spec_entries.specs.Carried.{HandleFile, Asking, Asked, Answered, Running}
use Rattle.lu_spec_entries.specs.Words.{Entry, Begin, Heard, Told, Life, Die, Queues, Stands, Binds, Unbinds, Line}
use Rattle.lu_spec_entries.specs.Fields.{at_client}

-- ---- its life, and its death

abbrev pub reads_life : Entry → Bool
reads_life (Life who) = true
reads_life _ = false

abbrev pub life_after : Who → Entry → Who
life_after who (Life next) = next
life_after who _ = who

abbrev pub first_life : ℕ → Who
first_life c = record { client = c; life = 1 }

abbrev pub life_at : ℕ → List Line → Who
life_at c past = at_client reads_life life_after (first_life c) c past

abbrev pub reads_death : Entry → Bool
reads_death Die = true
reads_death _ = false

abbrev pub death_after : Bool → Entry → Bool
death_after dead Die = true
death_after dead _ = dead

-- a dead client makes no more turns
abbrev pub is_dead : ℕ → List Line → Bool
is_dead c past = at_client reads_death death_after false c past

-- ---- the call on a slot that isn't told

abbrev pub asks : Asking → Option Running → Option Running
asks asking None = None
asks asking (Some r) = Some (record r { asking = asking })

-- what a request that is queued or heard makes of the call that it serves, if any
abbrev pub asks_for : Option ℕ → ℕ → Asking → Option Running → Option Running
asks_for None slot asking call = call
asks_for (Some served) slot asking call = if served == slot then asks asking call else call

abbrev pub reads_call : Entry → Bool
reads_call (Begin slot running) = true
reads_call (Stands slot running) = true
reads_call (Queues target queued) = true
reads_call (Heard target flight reply) = true
reads_call (Told slot at answer work) = true
reads_call _ = false

abbrev pub call_after : ℕ → Option Running → Entry → Option Running
call_after slot call (Begin s running) = if s == slot then Some running else call
call_after slot call (Stands s running) = if s == slot then Some running else call
call_after slot call (Queues target queued) = asks_for queued.slot slot Asked call
call_after slot call (Heard target flight reply) = asks_for flight.slot slot (Answered target reply) call
call_after slot call (Told s at answer work) = if s == slot then None else call
call_after slot call _ = call

abbrev pub call_at : ℕ → ℕ → List Line → Option Running
call_at c slot past = at_client reads_call (call_after slot) None c past

-- its four slots
abbrev pub calls_at : ℕ → List Line → List (Option Running)
calls_at c past = call_at c 0 past ∷ call_at c 1 past ∷ call_at c 2 past ∷ call_at c 3 past ∷ []

abbrev pub no_calls : List (Option Running)
no_calls = None ∷ None ∷ None ∷ None ∷ []

abbrev pub call_on : ℕ → List (Option Running) → Option Running
call_on slot [] = None
call_on zero (call ∷ calls) = call
call_on (suc slot) (call ∷ calls) = call_on slot calls

-- on all slots, from this one on
abbrev pub calls_from : ℕ → List (Option Running) → Entry → List (Option Running)
calls_from slot [] e = []
calls_from slot (call ∷ calls) e = call_after slot call e ∷ calls_from (suc slot) calls e

abbrev pub calls_after : List (Option Running) → Entry → List (Option Running)
calls_after calls e = calls_from 0 calls e

-- ---- handles

-- The file that a handle is bound to.
pub record Bound : Type 0 where
  pub handle : ℕ
  pub file : HandleFile

abbrev pub unbound : ℕ → List Bound → List Bound
unbound h handles = filter (λ (b : Bound). not (b.handle == h)) handles

abbrev pub reads_handles : Entry → Bool
reads_handles (Binds handle file) = true
reads_handles (Unbinds handle) = true
reads_handles (Life who) = true
reads_handles _ = false

abbrev pub handles_after : List Bound → Entry → List Bound
handles_after handles (Binds h file) = record { handle = h; file = file } ∷ handles
handles_after handles (Unbinds h) = unbound h handles
handles_after handles (Life who) = []
handles_after handles _ = handles

abbrev pub handles_at : ℕ → List Line → List Bound
handles_at c past = at_client reads_handles handles_after [] c past

abbrev pub file_of : ℕ → List Bound → Option HandleFile
file_of h [] = None
file_of h (b ∷ handles) = if b.handle == h then Some b.file else file_of h handles
