-- What a list of entries makes of a client is the record of what it makes of each part, and a part is left by entries that it
-- doesn't read.
use Rattle.std.proofs.Common.{◌≡◌, ℕ, suc, Bool, true, false, not, ◌&&◌, ◌||◌, if◌then◌else◌, List, [], ◌∷◌, ◌++◌, fold, Option, refl, sym}
use Rattle.std.proofs.Common.{ap, ◌∙◌}
use Rattle.lu_base.specs.declared.ids.Who.{Who}
use Rattle.lu_base.specs.declared.locks.Resource.{Resource}
use Rattle.lu_held.specs.declared.locks.HeldLock.{HeldLock}
use Rattle.lu_spec_entries.specs.Carried.{Running}
use Rattle.lu_spec_entries.specs.Words.{Entry, Begin, Heard, Hold, Drop, Life, Told, Queues, Flies, Knows, Serves, Settles, Stands, Binds}
use Rattle.lu_spec_entries.specs.Words.{Unbinds, Pins, Unpins, Marks, Unmarks, Learns, Changes, WritesBack, Acks, Fills, Zeroes, Grown}
use Rattle.lu_spec_entries.specs.Words.{Shows}
use Rattle.lu_spec_client.specs.Bytes.{Bytes}
use Rattle.lu_spec_client.specs.Patches.{Patch}
use Rattle.lu_spec_client.specs.Imports.{Import, import_after, imports_from, imports_after}
use Rattle.lu_spec_client.specs.Calls.{Bound, reads_life, life_after, reads_call, call_after, calls_from, calls_after, reads_handles}
use Rattle.lu_spec_client.specs.Calls.{handles_after}
use Rattle.lu_spec_client.specs.Facts.{Fact, reads_facts, facts_after}
use Rattle.lu_spec_client.specs.Caches.{Note, reads_held, held_after, reads_bytes, bytes_after, reads_sizes, sizes_after, reads_shown}
use Rattle.lu_spec_client.specs.Caches.{shown_after, reads_patches, patches_after}
use Rattle.lu_spec_client.specs.States.{Store, store_after, store_turn, Client, after, turn}
use Rattle.lu_client_refines.specs.Turns.{life_turn, handles_turn, calls_turn, imports_turn, facts_turn, held_turn, bytes_turn, sizes_turn}
use Rattle.lu_client_refines.specs.Turns.{shown_turn, patches_turn, reads_import, reads_store, reads_beside_imports, reads_beside_calls}
use Rattle.lu_client_refines.specs.Turns.{reads_beside_handles, reads_beside_store, none_read}

-- ---- one list after another

-- the client
pub turn_more : (k : Client) (es fs : List Entry) → turn k (es ++ fs) ≡ turn (turn k es) fs
turn_more k [] fs = refl
turn_more k (e ∷ es) fs = turn_more (after k e) es fs

-- the store
pub store_more : (s : Store) (es fs : List Entry) → store_turn s (es ++ fs) ≡ store_turn (store_turn s es) fs
store_more s [] fs = refl
store_more s (e ∷ es) fs = store_more (store_after s e) es fs

-- a part, as one of the words in specs/Turns.antt
pub part_more : {A : Type 0} (step : A → Entry → A) (x : A) (es fs : List Entry) → fold step x (es ++ fs) ≡ fold step (fold step x es) fs
part_more step x [] fs = refl
part_more step x (e ∷ es) fs = part_more step (step x e) es fs

-- ---- part by part

-- the store
pub store_turns : (s : Store) (es : List Entry) → store_turn s es
    ≡ record {
      held = held_turn s.held es;
      bytes = bytes_turn s.bytes es;
      sizes = sizes_turn s.sizes es;
      shown = shown_turn s.shown es;
      patches = patches_turn s.patches es;
    }
store_turns s [] = refl
store_turns s (e ∷ es) = store_turns (store_after s e) es

-- the client
pub turns : (k : Client) (es : List Entry) → turn k es ≡ record {
  who = life_turn k.who es;
  handles = handles_turn k.handles es;
  calls = calls_turn k.calls es;
  imports = imports_turn k.imports es;
  facts = facts_turn k.facts es;
  store = store_turn k.store es;
}
turns k [] = refl
turns k (e ∷ es) = turns (after k e) es

-- a client is as entries leave it where each of its parts is
pub turned : (old new : Client) (es : List Entry) → new.who ≡ life_turn old.who es → new.handles ≡ handles_turn old.handles es → new.calls
    ≡ calls_turn old.calls es → new.imports ≡ imports_turn old.imports es → new.facts ≡ facts_turn old.facts es → new.store
    ≡ store_turn old.store es → new ≡ turn old es
turned old new es who handles calls imports facts store =
    ap (λ (x : Who). record new { who = x }) who
    ∙ ap (λ (x : List Bound). record new { who = life_turn old.who es; handles = x }) handles
    ∙ ap (λ (x : List (Option Running)). record new { who = life_turn old.who es; handles = handles_turn old.handles es; calls = x }) calls
    ∙ ap (λ (x : List Import). record {
      who = life_turn old.who es;
      handles = handles_turn old.handles es;
      calls = calls_turn old.calls es;
      imports = x;
      facts = new.facts;
      store = new.store;
    }) imports
    ∙ ap (λ (x : List Fact). record {
      who = life_turn old.who es;
      handles = handles_turn old.handles es;
      calls = calls_turn old.calls es;
      imports = imports_turn old.imports es;
      facts = x;
      store = new.store;
    }) facts
    ∙ ap (λ (x : Store). record {
      who = life_turn old.who es;
      handles = handles_turn old.handles es;
      calls = calls_turn old.calls es;
      imports = imports_turn old.imports es;
      facts = facts_turn old.facts es;
      store = x;
    }) store
    ∙ sym (turns old es)

-- a store is as entries leave it where each of its parts is
pub store_turned : (old new : Store) (es : List Entry) → new.held ≡ held_turn old.held es → new.bytes ≡ bytes_turn old.bytes es → new.sizes
    ≡ sizes_turn old.sizes es → new.shown ≡ shown_turn old.shown es → new.patches ≡ patches_turn old.patches es → new ≡ store_turn old es
store_turned old new es held bytes sizes shown patches =
    ap (λ (x : List HeldLock). record new { held = x }) held
    ∙ ap (λ (x : List (Resource × Bytes)). record new { held = held_turn old.held es; bytes = x }) bytes
    ∙ ap (λ (x : List Note). record new { held = held_turn old.held es; bytes = bytes_turn old.bytes es; sizes = x }) sizes
    ∙ ap (λ (x : List Note). record {
      held = held_turn old.held es;
      bytes = bytes_turn old.bytes es;
      sizes = sizes_turn old.sizes es;
      shown = x;
      patches = new.patches;
    }) shown
    ∙ ap (λ (x : List (Resource × Patch)). record {
      held = held_turn old.held es;
      bytes = bytes_turn old.bytes es;
      sizes =
          sizes_turn old.sizes es;
      shown = shown_turn old.shown es;
      patches = x;
    }) patches
    ∙ sym (store_turns old es)

-- ---- an entry that a part doesn't read leaves it

-- the life
pub life_stays : (who : Who) (e : Entry) → reads_life e ≡ false → life_after who e ≡ who
life_stays who (Life next) unread = absurd (cc)
life_stays who _ unread = refl

-- the handles
pub handles_stay : (handles : List Bound) (e : Entry) → reads_handles e ≡ false → handles_after handles e ≡ handles
handles_stay handles (Binds handle file) unread = absurd (cc)
handles_stay handles (Unbinds handle) unread = absurd (cc)
handles_stay handles (Life who) unread = absurd (cc)
handles_stay handles _ unread = refl

-- the call on one slot
pub call_stays : (slot : ℕ) (call : Option Running) (e : Entry) → reads_call e ≡ false → call_after slot call e ≡ call
call_stays slot call (Begin s running) unread = absurd (cc)
call_stays slot call (Stands s running) unread = absurd (cc)
call_stays slot call (Queues target queued) unread = absurd (cc)
call_stays slot call (Heard target flight reply) unread = absurd (cc)
call_stays slot call (Told s at answer work) unread = absurd (cc)
call_stays slot call _ unread = refl

calls_stay_from : (slot : ℕ) (calls : List (Option Running)) (e : Entry) → reads_call e ≡ false → calls_from slot calls e ≡ calls
calls_stay_from slot [] e unread = refl
calls_stay_from slot (call ∷ calls) e unread =
    ap (λ (o : Option Running). o ∷ calls_from (suc slot) calls e) (call_stays slot call e unread)
    ∙ ap (λ (os : List (Option Running)). call ∷ os) (calls_stay_from (suc slot) calls e unread)

-- all calls
pub calls_stay : (calls : List (Option Running)) (e : Entry) → reads_call e ≡ false → calls_after calls e ≡ calls
calls_stay calls e unread = calls_stay_from 0 calls e unread

-- one target's import
pub import_stays : (i : Import) (e : Entry) → reads_import e ≡ false → import_after i e ≡ i
import_stays i (Heard target flight reply) unread = absurd (cc)
import_stays i (Hold target lock marked size seen) unread = absurd (cc)
import_stays i (Life who) unread = absurd (cc)
import_stays i (Queues target queued) unread = absurd (cc)
import_stays i (Flies target flight) unread = absurd (cc)
import_stays i (Knows target boot) unread = absurd (cc)
import_stays i (Serves target boot) unread = absurd (cc)
import_stays i (Settles target to) unread = absurd (cc)
import_stays i _ unread = refl

both_same : {A : Type 0} (test : Bool) (x y : A) → x ≡ y → (if test then x else y) ≡ y
both_same true x y same = same
both_same false x y same = refl

imports_stay_from : (t : ℕ) (imports : List Import) (e : Entry) → reads_import e ≡ false → imports_from t imports e ≡ imports
imports_stay_from t [] e unread = refl
imports_stay_from t (i ∷ imports) e unread =
    ap (λ (j : Import). j ∷ imports_from (suc t) imports e) (both_same _ (import_after i e) i (import_stays i e unread))
    ∙ ap (λ (is : List Import). i ∷ is) (imports_stay_from (suc t) imports e unread)

-- all imports
pub imports_stay : (imports : List Import) (e : Entry) → reads_import e ≡ false → imports_after imports e ≡ imports
imports_stay imports e unread = imports_stay_from 0 imports e unread

-- the facts
pub facts_stay : (facts : List Fact) (e : Entry) → reads_facts e ≡ false → facts_after facts e ≡ facts
facts_stay facts (Learns target op answer locks) unread = absurd (cc)
facts_stay facts (Drop target lock) unread = absurd (cc)
facts_stay facts (Life who) unread = absurd (cc)
facts_stay facts _ unread = refl

-- the held locks
pub held_stays : (held : List HeldLock) (e : Entry) → reads_held e ≡ false → held_after held e ≡ held
held_stays held (Heard target flight reply) unread = absurd (cc)
held_stays held (Hold target lock marked size seen) unread = absurd (cc)
held_stays held (Drop target lock) unread = absurd (cc)
held_stays held (Pins name) unread = absurd (cc)
held_stays held (Unpins name) unread = absurd (cc)
held_stays held (Marks name) unread = absurd (cc)
held_stays held (Unmarks target) unread = absurd (cc)
held_stays held _ unread = refl

-- the bytes that are known
pub bytes_stay : (bytes : List (Resource × Bytes)) (e : Entry) → reads_bytes e ≡ false → bytes_after bytes e ≡ bytes
bytes_stay bytes (Fills resource offset bs) unread = absurd (cc)
bytes_stay bytes (Zeroes resource size) unread = absurd (cc)
bytes_stay bytes (Drop target lock) unread = absurd (cc)
bytes_stay bytes (Life who) unread = absurd (cc)
bytes_stay bytes _ unread = refl

-- the sizes under locks
pub sizes_stay : (sizes : List Note) (e : Entry) → reads_sizes e ≡ false → sizes_after sizes e ≡ sizes
sizes_stay sizes (Hold target lock marked size seen) unread = absurd (cc)
sizes_stay sizes (Drop target lock) unread = absurd (cc)
sizes_stay sizes (Grown resource change) unread = absurd (cc)
sizes_stay sizes (Life who) unread = absurd (cc)
sizes_stay sizes _ unread = refl

-- what was shown under locks
pub shown_stays : (shown : List Note) (e : Entry) → reads_shown e ≡ false → shown_after shown e ≡ shown
shown_stays shown (Shows resource cookie last) unread = absurd (cc)
shown_stays shown (Drop target lock) unread = absurd (cc)
shown_stays shown (Life who) unread = absurd (cc)
shown_stays shown _ unread = refl

-- the client's own changes
pub patches_stay : (patches : List (Resource × Patch)) (e : Entry) → reads_patches e ≡ false → patches_after patches e ≡ patches
patches_stay patches (Changes resource change) unread = absurd (cc)
patches_stay patches (WritesBack resource change) unread = absurd (cc)
patches_stay patches (Acks resource) unread = absurd (cc)
patches_stay patches (Life who) unread = absurd (cc)
patches_stay patches _ unread = refl

-- ---- and so does a list of such entries

-- no entry of a list is read: not the first, and none of the others
pub none_left : (read : Bool) (rest : Bool) → (not read && rest) ≡ true → (read ≡ false) × (rest ≡ true)
none_left true rest all = absurd (cc)
none_left false rest all = (refl, all)

-- whatever the part is
pub part_stays : {A : Type 0} (reads : Entry → Bool) (step : A → Entry → A) → ((x : A) (e : Entry) → reads e ≡ false → step x e ≡ x)
    → (x : A) (es : List Entry) → none_read reads es ≡ true → fold step x es ≡ x
part_stays reads step stays x [] all = refl
part_stays reads step stays x (e ∷ es) all =
    let h : (reads e ≡ false) × (none_read reads es ≡ true) = none_left (reads e) (none_read reads es) all in
    ap (λ y. fold step y es) (stays x e h.0) ∙ part_stays reads step stays x es h.1

-- two lists, one after the other
pub none_more : (reads : Entry → Bool) (es fs : List Entry) → none_read reads es ≡ true → none_read reads fs ≡ true
    → none_read reads (es ++ fs) ≡ true
none_more reads [] fs one two = two
none_more reads (e ∷ es) fs one two =
    let h : (reads e ≡ false) × (none_read reads es ≡ true) = none_left (reads e) (none_read reads es) one in
    rw h.0 (none_more reads es fs h.1 two)

-- the life
pub life_quiet : (who : Who) (es : List Entry) → none_read reads_life es ≡ true → life_turn who es ≡ who
life_quiet who es all = part_stays reads_life life_after life_stays who es all

-- the handles
pub handles_quiet : (handles : List Bound) (es : List Entry) → none_read reads_handles es ≡ true → handles_turn handles es ≡ handles
handles_quiet handles es all = part_stays reads_handles handles_after handles_stay handles es all

-- the calls
pub calls_quiet : (calls : List (Option Running)) (es : List Entry) → none_read reads_call es ≡ true → calls_turn calls es ≡ calls
calls_quiet calls es all = part_stays reads_call calls_after calls_stay calls es all

-- the imports
pub imports_quiet : (imports : List Import) (es : List Entry) → none_read reads_import es ≡ true → imports_turn imports es ≡ imports
imports_quiet imports es all = part_stays reads_import imports_after imports_stay imports es all

-- the facts
pub facts_quiet : (facts : List Fact) (es : List Entry) → none_read reads_facts es ≡ true → facts_turn facts es ≡ facts
facts_quiet facts es all = part_stays reads_facts facts_after facts_stay facts es all

-- the held locks
pub held_quiet : (held : List HeldLock) (es : List Entry) → none_read reads_held es ≡ true → held_turn held es ≡ held
held_quiet held es all = part_stays reads_held held_after held_stays held es all

-- the bytes that are known
pub bytes_quiet : (bytes : List (Resource × Bytes)) (es : List Entry) → none_read reads_bytes es ≡ true → bytes_turn bytes es ≡ bytes
bytes_quiet bytes es all = part_stays reads_bytes bytes_after bytes_stay bytes es all

-- the sizes under locks
pub sizes_quiet : (sizes : List Note) (es : List Entry) → none_read reads_sizes es ≡ true → sizes_turn sizes es ≡ sizes
sizes_quiet sizes es all = part_stays reads_sizes sizes_after sizes_stay sizes es all

-- what was shown under locks
pub shown_quiet : (shown : List Note) (es : List Entry) → none_read reads_shown es ≡ true → shown_turn shown es ≡ shown
shown_quiet shown es all = part_stays reads_shown shown_after shown_stays shown es all

-- the client's own changes
pub patches_quiet : (patches : List (Resource × Patch)) (es : List Entry) → none_read reads_patches es ≡ true → patches_turn patches es
    ≡ patches
patches_quiet patches es all = part_stays reads_patches patches_after patches_stay patches es all

-- ---- the whole store

no_part : (a b c d e : Bool) → (a || b || c || d || e) ≡ false → (a ≡ false) × (b ≡ false) × (c ≡ false) × (d ≡ false) × (e ≡ false)
no_part false false false false e none = (refl, refl, refl, refl, none)
no_part false false false true e none = absurd (cc)
no_part false false true d e none = absurd (cc)
no_part false true c d e none = absurd (cc)
no_part true b c d e none = absurd (cc)

-- by an entry
pub store_stays : (s : Store) (e : Entry) → reads_store e ≡ false → store_after s e ≡ s
store_stays s e unread =
    let no_one = no_part (reads_held e) (reads_bytes e) (reads_sizes e) (reads_shown e) (reads_patches e) unread in
    ap (λ (x : List HeldLock). record (store_after s e) { held = x }) (held_stays s.held e no_one.0)
    ∙ ap (λ (x : List (Resource × Bytes)). record (store_after s e) { held = s.held; bytes = x }) (bytes_stay s.bytes e no_one.1)
    ∙ ap (λ (x : List Note). record s { sizes = x; shown = (store_after s e).shown; patches = (store_after s e).patches })
    (sizes_stay s.sizes e no_one.2)
    ∙ ap (λ (x : List Note). record s { shown = x; patches = (store_after s e).patches }) (shown_stays s.shown e no_one.3)
    ∙ ap (λ (x : List (Resource × Patch)). record s { patches = x }) (patches_stay s.patches e no_one.4)

-- by a list of entries
pub store_quiet : (s : Store) (es : List Entry) → none_read reads_store es ≡ true → store_turn s es ≡ s
store_quiet s [] all = refl
store_quiet s (e ∷ es) all =
    let h : (reads_store e ≡ false) × (none_read reads_store es ≡ true) = none_left (reads_store e) (none_read reads_store es) all in
    ap (λ (x : Store). store_turn x es) (store_stays s e h.0) ∙ store_quiet s es h.1

-- ---- entries that one part alone reads

none_either : (a b : Entry → Bool) (es : List Entry) → none_read (λ e. a e || b e) es ≡ true → (none_read a es ≡ true)
    × (none_read b es ≡ true)
none_either a b [] all = (refl, refl)
none_either a b (e ∷ es) all =
    let h : ((a e || b e) ≡ false) × (none_read (λ e. a e || b e) es ≡ true) = none_left (a e || b e) (none_read (λ e. a e || b e) es) all
    in
    let rest : (none_read a es ≡ true) × (none_read b es ≡ true) = none_either a b es h.1 in
    let here : (a e ≡ false) × (b e ≡ false) = neither (a e) (b e) h.0 in
    (rw here.0 rest.0, rw here.1 rest.1)
  where
    neither : (x y : Bool) → (x || y) ≡ false → (x ≡ false) × (y ≡ false)
    neither true y none = absurd (cc)
    neither false y none = (refl, none)

none_five : (a b c d f : Entry → Bool) (es : List Entry) → none_read (λ e. a e || b e || c e || d e || f e) es ≡ true
    → (none_read a es ≡ true) × (none_read b es ≡ true) × (none_read c es ≡ true) × (none_read d es ≡ true) × (none_read f es ≡ true)
none_five a b c d f es all =
    let four = none_either (λ e. a e || b e || c e || d e) f es all in
    let three = none_either (λ e. a e || b e || c e) d es four.0 in
    let two = none_either (λ e. a e || b e) c es three.0 in
    let one = none_either a b es two.0 in
    (one.0, one.1, two.1, three.1, four.1)

-- the imports
pub turned_imports : (k : Client) (imports : List Import) (es : List Entry) → none_read reads_beside_imports es ≡ true → imports
    ≡ imports_turn k.imports es → record k { imports = imports } ≡ turn k es
turned_imports k imports es all is =
    let h = none_five reads_life reads_handles reads_call reads_facts reads_store es all in
    turned k (record k { imports = imports }) es (sym (life_quiet k.who es h.0)) (sym (handles_quiet k.handles es h.1))
    (sym (calls_quiet k.calls es h.2)) is (sym (facts_quiet k.facts es h.3)) (sym (store_quiet k.store es h.4))

-- the calls
pub turned_calls : (k : Client) (calls : List (Option Running)) (es : List Entry) → none_read reads_beside_calls es ≡ true → calls
    ≡ calls_turn k.calls es → record k { calls = calls } ≡ turn k es
turned_calls k calls es all is =
    let h = none_five reads_life reads_handles reads_import reads_facts reads_store es all in
    turned k (record k { calls = calls }) es (sym (life_quiet k.who es h.0)) (sym (handles_quiet k.handles es h.1)) is
    (sym (imports_quiet k.imports es h.2)) (sym (facts_quiet k.facts es h.3)) (sym (store_quiet k.store es h.4))

-- the handles
pub turned_handles : (k : Client) (handles : List Bound) (es : List Entry) → none_read reads_beside_handles es ≡ true → handles
    ≡ handles_turn k.handles es → record k { handles = handles } ≡ turn k es
turned_handles k handles es all is =
    let h = none_five reads_life reads_call reads_import reads_facts reads_store es all in
    turned k (record k { handles = handles }) es (sym (life_quiet k.who es h.0)) is (sym (calls_quiet k.calls es h.1))
    (sym (imports_quiet k.imports es h.2)) (sym (facts_quiet k.facts es h.3)) (sym (store_quiet k.store es h.4))

-- the store
pub turned_store : (k : Client) (store : Store) (es : List Entry) → none_read reads_beside_store es ≡ true → store ≡ store_turn k.store es
    → record k { store = store } ≡ turn k es
turned_store k store es all is =
    let h = none_five reads_life reads_handles reads_call reads_import reads_facts es all in
    turned k (record k { store = store }) es (sym (life_quiet k.who es h.0)) (sym (handles_quiet k.handles es h.1))
    (sym (calls_quiet k.calls es h.2)) (sym (imports_quiet k.imports es h.3)) (sym (facts_quiet k.facts es h.4)) is

-- store and facts
pub turned_kept : (k : Client) (facts : List Fact) (store : Store) (es : List Entry) → none_read reads_life es ≡ true
    → none_read reads_handles es ≡ true → none_read reads_call es ≡ true → none_read reads_import es ≡ true → facts ≡ facts_turn k.facts es
    → store ≡ store_turn k.store es → record k { facts = facts; store = store } ≡ turn k es
turned_kept k facts store es life handles calls imports is kept =
    turned k (record k { facts = facts; store = store }) es (sym (life_quiet k.who es life)) (sym (handles_quiet k.handles es handles))
    (sym (calls_quiet k.calls es calls)) (sym (imports_quiet k.imports es imports)) is kept
