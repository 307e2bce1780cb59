-- What a turn makes of a client: its own changes it as the entries say, and the turn of another node leaves it. The number
-- under which a message comes changes nothing.
use Rattle.std.proofs.Common.{◌≡◌, ℕ, zero, suc, ◌+◌, ◌&&◌, if◌then◌else◌, Bool, true, false, List, [], ◌∷◌, ◌++◌, map, Option, refl, sym}
use Rattle.std.proofs.Common.{ap, ◌∙◌, add-one}
use Rattle.std.specs.List.{range_with_len}
use Rattle.lu_base.specs.declared.ids.At.{At}
use Rattle.lu_base.specs.declared.ids.Node.{Node}
use Rattle.lu_msg.specs.declared.messages.Message.{Message}
use Rattle.lu_spec_entries.specs.Carried.{Running}
use Rattle.lu_spec_entries.specs.Concerns.{is_about}
use Rattle.lu_spec_entries.specs.Fields.{on}
use Rattle.lu_spec_entries.specs.Words.{Entry, Take, Tick, Die, Line, line, with_turn, is_client}
use Rattle.lu_spec_client.specs.Imports.{Import, reads_known, known_after, reads_standing, standing_after, reads_last, last_after}
use Rattle.lu_spec_client.specs.Imports.{reads_queue, queue_after, reads_flights, flights_after, reads_kept, kept_after, first_import}
use Rattle.lu_spec_client.specs.Imports.{import_after, imports_from, imports_after, import_at}
use Rattle.lu_spec_client.specs.Calls.{reads_life, life_after, reads_handles, handles_after, reads_call, call_after, call_at, calls_from}
use Rattle.lu_spec_client.specs.Calls.{is_dead}
use Rattle.lu_spec_client.specs.Facts.{reads_facts, facts_after}
use Rattle.lu_spec_client.specs.Caches.{reads_held, held_after, reads_bytes, bytes_after, reads_sizes, sizes_after, reads_shown}
use Rattle.lu_spec_client.specs.Caches.{shown_after, reads_patches, patches_after}
use Rattle.lu_spec_client.specs.Messages.{comes_by}
use Rattle.lu_spec_client.specs.Rows.{Comes, rests, row}
use Rattle.lu_spec_client.specs.States.{Limits, Client, after, turn, follow, first_imports, started, client_at}

-- ---- at the start of a run

imports_first : (c from n : ℕ) → map (λ t. import_at c t []) (range_with_len from n) ≡ first_imports n
imports_first c from zero = refl
imports_first c from (suc n) = ap (λ (is : List Import). first_import ∷ is) (imports_first c (from + 1) n)

pub client_first : (limits : Limits) (c : ℕ) → client_at limits c [] ≡ started limits c
client_first limits c = ap (λ (is : List Import). record (started limits c) { imports = is }) (imports_first c 0 (limits.osts + 1))

-- ---- one target's import after a line, by whether it is the client's and about the target

abbrev import_step : Bool → Import → Entry → Import
import_step mine i e =
    record {
      boot = on (reads_known e) mine (known_after i.boot e) i.boot;
      standing = on (reads_standing e) mine (standing_after i.standing e) i.standing;
      last = on (reads_last e) mine (last_after i.last e) i.last;
      queue = on (reads_queue e) mine (queue_after i.queue e) i.queue;
      flights = on (reads_flights e) mine (flights_after i.flights e) i.flights;
      kept = on (reads_kept e) mine (kept_after i.kept e) i.kept;
    }

import_stepped : (mine : Bool) (i : Import) (e : Entry) → import_step mine i e ≡ (if mine then import_after i e else i)
import_stepped true i Tick = refl
import_stepped false i Tick = refl
import_stepped true i e = refl
import_stepped false i e = refl

module _ (c : ℕ) (past : List Line) (at : At) (e : Entry) where
  abbrev before : ℕ → Import
  before t = import_at c t past

  abbrev behind : ℕ → Import
  behind t = import_at c t (line at e ∷ past)

  imports_line : is_client c at.node ≡ true → (t n : ℕ) → map behind (range_with_len t n)
      ≡ imports_from t (map before (range_with_len t n)) e
  imports_line mine t zero = refl
  imports_line mine t (suc n) =
      let one : behind t ≡ (if is_about t e then import_after (before t) e else before t) =
      ap (λ (own : Bool). import_step (own && is_about t e) (before t) e) mine ∙ import_stepped (is_about t e) (before t) e in
      let others : map behind (range_with_len (t + 1) n) ≡ imports_from (suc t) (map before (range_with_len (t + 1) n)) e =
      imports_line mine (t + 1) n ∙ ap (λ (u : ℕ). imports_from u (map before (range_with_len (t + 1) n)) e) (add-one t) in
      ap (λ (i : Import). i ∷ map behind (range_with_len (t + 1) n)) one
      ∙ ap (λ (is : List Import). (if is_about t e then import_after (before t) e else before t) ∷ is) others

  imports_left : is_client c at.node ≡ false → (t n : ℕ) → map behind (range_with_len t n) ≡ map before (range_with_len t n)
  imports_left other t zero = refl
  imports_left other t (suc n) =
      let one : behind t ≡ before t = ap (λ (own : Bool). import_step (own && is_about t e) (before t) e) other
      ∙ import_stepped false (before t) e in
      ap (λ (i : Import). i ∷ map behind (range_with_len (t + 1) n)) one
      ∙ ap (λ (is : List Import). before t ∷ is) (imports_left other (t + 1) n)

-- ---- the client after a line, by whether it is its own

module _ (limits : Limits) (c : ℕ) (past : List Line) (at : At) where
  abbrev now : Client
  now = client_at limits c past

  abbrev call_step : Bool → Entry → ℕ → Option Running
  call_step mine e slot = on (reads_call e) mine (call_after slot (call_at c slot past) e) (call_at c slot past)

  abbrev step : Bool → Entry → List Import → Client
  step mine e imports =
      record {
        who = on (reads_life e) mine (life_after now.who e) now.who;
        handles = on (reads_handles e) mine (handles_after now.handles e) now.handles;
        calls = call_step mine e 0 ∷ call_step mine e 1 ∷ call_step mine e 2 ∷ call_step mine e 3 ∷ [];
        imports = imports;
        facts = on (reads_facts e) mine (facts_after now.facts e) now.facts;
        store =
            record {
              held = on (reads_held e) mine (held_after now.store.held e) now.store.held;
              bytes = on (reads_bytes e) mine (bytes_after now.store.bytes e) now.store.bytes;
              sizes = on (reads_sizes e) mine (sizes_after now.store.sizes e) now.store.sizes;
              shown = on (reads_shown e) mine (shown_after now.store.shown e) now.store.shown;
              patches = on (reads_patches e) mine (patches_after now.store.patches e) now.store.patches;
            };
      }

  step_own : (e : Entry) (imports : List Import) → step true e imports ≡ record (after now e) { imports = imports }
  step_own Tick imports = refl
  step_own e imports = refl

  step_other : (e : Entry) (imports : List Import) → step false e imports ≡ record now { imports = imports }
  step_other Tick imports = refl
  step_other e imports = refl

  abbrev imports_next : Entry → List Import
  imports_next e = map (λ t. import_at c t (line at e ∷ past)) (range_with_len 0 (limits.osts + 1))

  pub client_line : (e : Entry) → is_client c at.node ≡ true → client_at limits c (line at e ∷ past) ≡ after now e
  client_line e mine =
      ap (λ (own : Bool). step own e (imports_next e)) mine
      ∙ step_own e (imports_next e)
      ∙ ap (λ (is : List Import). record (after now e) { imports = is }) (imports_line c past at e mine 0 (limits.osts + 1))

  pub client_left : (e : Entry) → is_client c at.node ≡ false → client_at limits c (line at e ∷ past) ≡ now
  client_left e other =
      ap (λ (own : Bool). step own e (imports_next e)) other
      ∙ step_other e (imports_next e)
      ∙ ap (λ (is : List Import). record now { imports = is }) (imports_left c past at e other 0 (limits.osts + 1))

-- ---- after a turn

pub client_own : (limits : Limits) (c : ℕ) (past : List Line) (at : At) (es : List Entry) → is_client c at.node ≡ true
    → client_at limits c (with_turn at es past) ≡ turn (client_at limits c past) es
client_own limits c past at [] mine = refl
client_own limits c past at (e ∷ es) mine = client_own limits c (line at e ∷ past) at es mine
    ∙ ap (λ (j : Client). turn j es) (client_line limits c past at e mine)

pub client_other : (limits : Limits) (c : ℕ) (past : List Line) (at : At) (es : List Entry) → is_client c at.node ≡ false
    → client_at limits c (with_turn at es past) ≡ client_at limits c past
client_other limits c past at [] other = refl
client_other limits c past at (e ∷ es) other = client_other limits c (line at e ∷ past) at es other ∙ client_left limits c past at e other

-- ---- whether it is dead

pub dead_other : (c : ℕ) (past : List Line) (at : At) (es : List Entry) → is_client c at.node ≡ false → is_dead c (with_turn at es past)
    ≡ is_dead c past
dead_other c past at [] other = refl
dead_other c past at (e ∷ es) other = dead_other c (line at e ∷ past) at es other ∙ by e
  where
    by : (e : Entry) → is_dead c (line at e ∷ past) ≡ is_dead c past
    by Die = rw other refl
    by e = refl

pub dead_dies : (c : ℕ) (past : List Line) (at : At) → is_client c at.node ≡ true → is_dead c (with_turn at (Die ∷ []) past) ≡ true
dead_dies c past at mine = rw mine refl

-- ---- the number of a message

calls_taken : (n slot : ℕ) (from : Node) (m : Message) (calls : List (Option Running)) → calls_from slot calls (Take n from m) ≡ calls
calls_taken n slot from m [] = refl
calls_taken n slot from m (call ∷ calls) = ap (λ (more : List (Option Running)). call ∷ more) (calls_taken n (suc slot) from m calls)

imports_taken : (n t : ℕ) (from : Node) (m : Message) (imports : List Import) → imports_from t imports (Take n from m) ≡ imports
imports_taken n t from m [] = refl
imports_taken n t from m (i ∷ imports) = by (is_about t (Take n from m)) (imports_taken n (suc t) from m imports)
  where
    by : (about : Bool) → imports_from (suc t) imports (Take n from m) ≡ imports → (if about then import_after i (Take n from m) else i)
        ∷ imports_from (suc t) imports (Take n from m) ≡ i ∷ imports
    by true rest = ap (λ (more : List Import). i ∷ more) rest
    by false rest = ap (λ (more : List Import). i ∷ more) rest

-- what is taken changes nothing by itself
pub client_taken : (n : ℕ) (from : Node) (m : Message) (k : Client) → after k (Take n from m) ≡ k
client_taken n from m k =
    ap (λ (calls : List (Option Running)). record k { calls = calls; imports = imports_after k.imports (Take n from m) })
    (calls_taken n 0 from m k.calls)
    ∙ ap (λ (imports : List Import). record k { imports = imports }) (imports_taken n 0 from m k.imports)

module _ (limits : Limits) (at : At) (from : Node) (m : Message) (k : Client) where
  -- what comes of a message after its first line
  abbrev pub comes_rest : List Entry
  comes_rest = follow (comes_by at from m k) (rests limits at) k

  pub comes_row : (n : ℕ) → row limits at (Comes n from m) k ≡ Take n from m ∷ comes_rest
  comes_row n = ap (λ (j : Client). Take n from m ∷ comes_by at from m k ++ rests limits at (turn j (comes_by at from m k)))
      (client_taken n from m k)

  pub comes_turn : (n : ℕ) → turn k (row limits at (Comes n from m) k) ≡ turn k comes_rest
  comes_turn n = ap (turn k) (comes_row n) ∙ ap (λ (j : Client). turn j comes_rest) (client_taken n from m k)

  pub comes_same : (n : ℕ) → turn k (row limits at (Comes n from m) k) ≡ turn k (row limits at (Comes 0 from m) k)
  comes_same n = comes_turn n ∙ sym (comes_turn 0)
