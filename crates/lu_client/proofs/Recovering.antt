-- A target is up again, or doesn't serve the life yet: what its import answers is what the rows tell, and what the client
-- forgets before are marks.
use Rattle.std.proofs.Common.{◌≡◌, ℕ, ◌+◌, ◌<◌, ◌≤◌, Bool, true, false, nat_lt, List, [], ◌∷◌, ◌++◌, length, get_or, Option, Result, Ok}
use Rattle.std.proofs.Common.{Err, OnOk, OnErr, refl, sym, ap, subst, ◌∙◌, arith}
use Rattle.std.specs.Prelude.{slice_set}
use Rattle.std.proofs.lemmas.Bool.Decides.{nat_tests}
use Rattle.std.proofs.lemmas.List.{length-map, length-set, set-get_or}
use Rattle.lu_base.specs.declared.faults.Memory.{Memory}
use Rattle.lu_base.specs.declared.ids.Who.{Who}
use Rattle.lu_base.specs.declared.locks.Lock.{Lock}
use Rattle.lu_call.specs.declared.nexts.Binding.{Binding}
use Rattle.lu_msg.specs.declared.messages.Post.{Post}
use Rattle.lu_trace.specs.Turns.{Making}
use Rattle.lu_import.specs.declared.recovery.Standing.{Standing as OwnStanding}
use Rattle.lu_import.specs.declared.recovery.Standing.TheVariants as own_standing
use Rattle.lu_import.specs.Imports as own
use Rattle.lu_import.specs.Imports.{ImportState, IsSound, reconnecting}
use Rattle.lu_call.specs.Turning.{call_turn}
use Rattle.lu_spec_entries.specs.Carried.{Running}
use Rattle.lu_spec_entries.specs.Given.{giving}
use Rattle.lu_spec_entries.specs.Words.{Entry, Knows, Unmarks}
use Rattle.lu_spec_client.specs.Calls.{call_on}
use Rattle.lu_spec_client.specs.Imports.{Import, Standing, Joining, Recovering, Serving, interrupted, is_serving, import_after}
use Rattle.lu_spec_client.specs.Imports.{imports_after, import_of}
use Rattle.lu_spec_client.specs.Messages.{up_heard}
use Rattle.lu_spec_client.specs.Recovery.{up, held_of, forgets_stage, on_calls}
use Rattle.lu_spec_client.specs.States.{Client, Limits, after, store_after}
use Rattle.lu_client_store.specs.Stored.{StoreState, stored_after}
use Rattle.lu_client_refines.specs.Imports.{standing_of, import_of_state, imports_of, IsOne}
use Rattle.lu_client_refines.specs.Posts.{posted}
use Rattle.lu_client_refines.specs.Prints.{prints}
use Rattle.lu_client_refines.specs.Rounds.{ticks_one}
use Rattle.lu_client_refines.specs.Telling.{locks_of, forgets}
use Rattle.lu_client_refines.specs.Turns.{none_read, all_on, reads_beside_calls}
use Rattle.lu_client_refines.proofs.Follow.{goes_posts}
use Rattle.lu_client_refines.proofs.Lists.{self}
use Rattle.lu_client_refines.proofs.Recovering.{up_shown, up_known, up_one}
use Rattle.lu_client_refines.proofs.Slots.{forgets_own, forgets_unread}
use Rattle.lu_client_refines.proofs.Targets.{import_of_at, import_of_set, imports_only, imports_shown, one_of}
use Rattle.lu_client_refines.proofs.Turns.{turned_imports, turned_store, calls_stay}
use Rattle.lu_client_refines.proofs.Whole.{boot_known, serving_known, up_row, tick_telling}
use Rattle.lu_client.specs.Clients.{ClientState, AreKept, Makes, limits_of, state_of, stored_of, with_call, with_imports, with_store}
use Rattle.lu_client.specs.Recovering.{IsUp, IsTold, ForgetsOn, is_joining, forgets_row, forgets_one, forgets_left}
use Rattle.lu_client.proofs.Going.{same_call}
use Rattle.lu_client.proofs.Keeping.{kept_import}
use Rattle.lu_client.proofs.Making.{makes_nothing, makes_then, makes_as, makes_on, makes_mark, remains_first, remains_step, remains_end}
use Rattle.lu_client.proofs.Slotwise.{on_marked, on_step, on_done, marks_slots}

-- ---- what the import answers

-- it stays that of its target and life
pub reconnected_one : (limits : Limits) (who : Who) (t boot : ℕ) (old new : ImportState) (result : Result (List Post) Memory)
    → IsOne limits who t old → IsSound new → OnOk result (new ≡ own.up boot old) → OnErr result (new ≡ old) → IsOne limits who t new
reconnected_one limits who t boot old new (Ok posts) one sound up same = up_one limits who t boot old new up sound one
reconnected_one limits who t boot old new (Err e) one sound up same = subst (IsOne limits who t) (sym same) one

module _ (osts flight dirty : ℕ) (who : Who) (handles : List Binding) (calls : List (Option Running)) (store : StoreState)
    (spent : Bool) where
  abbrev shown : List ImportState → ClientState
  shown imports = state_of osts flight dirty who handles calls imports store spent

  abbrev limits : Limits
  limits = limits_of osts flight dirty store

  module _ (t boot : ℕ) (imports : List ImportState) (old new : ImportState) (kept : AreKept osts flight dirty who calls imports store)
      (inside : t < length imports) (is : old ≡ get_or imports t old) where
    here : import_of t (imports_of imports) ≡ import_of_state old
    here = import_of_at t imports old inside ∙ ap import_of_state (sym is)

    one : IsOne limits who t old
    one = subst (IsOne limits who t) (sym is) (one_of limits who t imports old kept.kept inside)

    -- the client keeps what always holds of it
    pub reconnect_keeps : (result : Result (List Post) Memory) → IsSound new → OnOk result (new ≡ own.up boot old)
        → OnErr result (new ≡ old) → AreKept osts flight dirty who calls (slice_set imports t new) store
    reconnect_keeps result sound up same = kept_import kept t new (reconnected_one limits who t boot old new result one sound up same)

    same_put : new ≡ old → shown (slice_set imports t new) ≡ shown imports
    same_put same = ap (λ (i : ImportState). shown (slice_set imports t i)) (same ∙ is) ∙ ap shown (set-get_or imports t old)

    within : t < length (imports_of imports)
    within = let count : length (imports_of imports) ≡ length imports = length-map imports import_of_state in omega (arith, inside, count)

    module _ (posts : List Post) (up : new ≡ own.up boot old) (sends : posts
        ≡ reconnecting boot (locks_of (held_of t store.store.held)) old) where
      -- in a boot above the known one
      came : nat_lt (import_of t (imports_of imports)).boot boot ≡ true
          → IsUp t boot posts (shown imports) (shown (slice_set imports t new))
      came above =
          let e : Entry = Knows t boot in
          let later : nat_lt old.boot boot ≡ true = ap (λ (b : ℕ). nat_lt b boot)
          (sym (boot_known limits t (shown imports).client old one here)) ∙ above in
          record {
            row =
                up_row limits t (shown imports).client old one here boot posts within later sends
                ∙ ap (λ (i : Import). e ∷ forgets t calls (interrupted i.standing) ++ posted posts) (sym here);
            shows = ap (λ (rows : List Import). with_imports rows (shown imports))
                (imports_shown t imports new old (e ∷ []) inside (rw (self t) refl)
                (up_shown t boot old new later up ∙ ap (λ (i : ImportState). import_after (import_of_state i) e) is));
          }

      -- in the known one, where the target doesn't serve the life
      stood : boot ≡ (import_of t (imports_of imports)).boot → is_serving (import_of t (imports_of imports)).standing ≡ false
          → IsTold t posts (shown imports) (shown (slice_set imports t new))
      stood same waits =
          let known : boot ≡ old.boot = same ∙ boot_known limits t (shown imports).client old one here in
          record {
            row = tick_telling limits t (shown imports).client old one here boot posts
                (sym (serving_known limits t (shown imports).client old one here) ∙ waits) known sends;
            stays = same_put (up_known boot old new known up);
          }

    -- the same of the client as it is seen
    module _ (c : ClientState) (shows : shown imports ≡ c) (locks : List Lock) (posts : List Post)
        (told : locks ≡ locks_of (held_of t c.client.store.held)) (up : new ≡ own.up boot old)
        (sends : posts ≡ reconnecting boot locks old) where
      held : posts ≡ reconnecting boot (locks_of (held_of t store.store.held)) old
      held = sends ∙ ap (λ (ls : List Lock). reconnecting boot ls old)
          (told ∙ ap (λ (s : ClientState). locks_of (held_of t s.client.store.held)) (sym shows))

      pub reconnect_came : nat_lt (import_of t c.client.imports).boot boot ≡ true → IsUp t boot posts c (shown (slice_set imports t new))
      reconnect_came =
          subst (λ (s : ClientState). nat_lt (import_of t s.client.imports).boot boot ≡ true
          → IsUp t boot posts s (shown (slice_set imports t new))) shows (came posts up held)

      pub reconnect_stood : boot ≡ (import_of t c.client.imports).boot → is_serving (import_of t c.client.imports).standing ≡ false
          → IsTold t posts c (shown (slice_set imports t new))
      reconnect_stood =
          subst (λ (s : ClientState). boot ≡ (import_of t s.client.imports).boot → is_serving (import_of t s.client.imports).standing
          ≡ false → IsTold t posts s (shown (slice_set imports t new))) shows (stood posts up held)

-- ---- how the life stands there

-- as the import says it
pub joining_is : (t : ℕ) (imports : List ImportState) (i : ImportState) → t < length imports → i ≡ get_or imports t i
    → is_joining (import_of t (imports_of imports)).standing ≡ is_joining (standing_of i.standing)
joining_is t imports i inside item = ap (λ (row : Import). is_joining row.standing)
    (import_of_at t imports i inside ∙ ap import_of_state (sym item))

pub not_joining : (standing : OwnStanding) → (standing ≡ own_standing.Joining → ⊥) → is_joining (standing_of standing) ≡ false
not_joining own_standing.Joining other = absurd (other refl)
not_joining own_standing.Recovering other = refl
not_joining own_standing.Serving other = refl

-- ---- what is sent

-- these messages were sent, and nothing has changed
pub posts_went : (c : ClientState) (before after : Making) (posts : List Post) → after ≡ giving before (posted posts)
    → Makes (λ k. posted posts) c c before after
posts_went c before after posts gives = record { goes = goes_posts c.client before after posts gives; limits = refl; spent = refl }

-- a target that doesn't serve the life was told again
pub told_again : (t : ℕ) (posts : List Post) (old new : ClientState) (before after : Making) → IsTold t posts old new → after
    ≡ giving before (posted posts) → Makes (ticks_one t) old new before after
told_again t posts old new before after told gives =
    subst (λ (s : ClientState). Makes (ticks_one t) old s before after) (sym told.stays)
    (makes_as {row = λ k. posted posts} (sym told.row) (posts_went old before after posts gives))

-- ---- what is forgotten

forgets_joining : (t : ℕ) (calls : List (Option Running)) (standing : Standing) → is_joining standing ≡ true → forgets t calls standing ≡ []
forgets_joining t calls Joining joining = refl
forgets_joining t calls Recovering joining = absurd (cc)
forgets_joining t calls Serving joining = absurd (cc)

forgets_other : (t : ℕ) (calls : List (Option Running)) (standing : Standing) → is_joining standing ≡ false → forgets t calls standing
    ≡ Unmarks t ∷ on_calls (forgets_stage t) 0 calls
forgets_other t calls Joining joined = absurd (cc)
forgets_other t calls Recovering joined = refl
forgets_other t calls Serving joined = refl

-- a life that is joining forgets nothing
pub forgot_nothing : (t : ℕ) (c : ClientState) (m : Making) → is_joining (import_of t c.client.imports).standing ≡ true
    → Makes (forgets_row t) c c m m
forgot_nothing t c m joining = makes_as (sym (forgets_joining t c.client.calls (import_of t c.client.imports).standing joining))
    (makes_nothing c m)

-- the marks of the target's locks are gone
unmarked : (t : ℕ) (old new : ClientState) (m : Making) → new ≡ with_store (stored_after (stored_of old) (Unmarks t)) old
    → Makes (λ k. Unmarks t ∷ []) old new m m
unmarked t old new m shows =
    makes_mark (Unmarks t) refl refl
    (ap (λ (c : ClientState). c.client) shows ∙ turned_store old.client (store_after old.client.store (Unmarks t)) (Unmarks t ∷ []) refl
    refl)
    (ap (λ (c : ClientState). c.limits) shows)
    (ap (λ (c : ClientState). c.spent) shows)

-- so are the asks that wait there
pub forgot : (t : ℕ) (old middle new : ClientState) (m : Making) → is_joining (import_of t old.client.imports).standing ≡ false → middle
    ≡ with_store (stored_after (stored_of old) (Unmarks t)) old → Makes (λ k. on_calls (forgets_stage t) 0 k.calls) middle new m m
    → Makes (forgets_row t) old new m m
forgot t old middle new m joined shows asks =
    makes_as
    (ap (λ (calls : List (Option Running)). Unmarks t ∷ on_calls (forgets_stage t) 0 calls) (calls_stay old.client.calls (Unmarks t) refl)
    ∙ sym (forgets_other t old.client.calls (import_of t old.client.imports).standing joined))
    (makes_then {one = λ k. Unmarks t ∷ []} {two = λ k. on_calls (forgets_stage t) 0 k.calls} (unmarked t old middle m shows) asks)

-- ---- asks that wait

forgets_mine : (t slot : ℕ) (r : Running) → all_on slot (forgets_stage t slot r r.stage) ≡ true
forgets_mine t slot r = forgets_own t slot r r.stage

forgets_quiet : (t slot : ℕ) (r : Running) → none_read reads_beside_calls (forgets_stage t slot r r.stage) ≡ true
forgets_quiet t slot r = forgets_unread reads_beside_calls (λ s running. refl) t slot r r.stage

forgets_marks : (t slot : ℕ) (r : Running) → none_read prints (forgets_stage t slot r r.stage) ≡ true
forgets_marks t slot r = forgets_unread prints (λ s running. refl) t slot r r.stage

-- the call on a slot, if any, forgot what it waits for there
pub ask_forgotten : (t slot : ℕ) (c : ClientState) (left : Option Running) → slot < length c.client.calls
    → call_turn slot (call_on slot c.client.calls) (forgets_one t slot c.client) ≡ left → (making : Making)
    → Makes (forgets_one t slot) c (with_call slot left c) making making
ask_forgotten t slot c left inside stood making =
    on_marked (forgets_stage t) (forgets_mine t) (forgets_quiet t) (forgets_marks t) slot c (with_call slot left c) inside making
    (ap (λ (call : Option Running). with_call slot call c) (sym stood
    ∙ same_call slot (call_on slot c.client.calls) (forgets_one t slot c.client)))

-- none did yet
pub asks_begun : (t : ℕ) (c : ClientState) → ForgetsOn t 0 c c
asks_begun t c = record { remains = λ making. remains_first (λ k. on_calls (forgets_stage t) 0 k.calls) c making; slots = refl }

-- one slot's did
pub asks_next : (t slot : ℕ) (first now next : ClientState) → slot < length now.client.calls → ForgetsOn t slot first now
    → ((making : Making) → Makes (forgets_one t slot) now next making making) → ForgetsOn t (slot + 1) first next
asks_next t slot first now next inside so_far makes =
    record {
      remains = λ making. remains_step {rest = forgets_left t (slot + 1)}
          (on_step (forgets_stage t) (forgets_mine t) (forgets_quiet t) slot now.client inside) (so_far.remains making) (makes making);
      slots = marks_slots makes ∙ so_far.slots;
    }

-- all of them
pub asks_ended : (t slot : ℕ) (first now : ClientState) → length now.client.calls ≤ slot → ForgetsOn t slot first now → (making : Making)
    → Makes (λ k. on_calls (forgets_stage t) 0 k.calls) first now making making
asks_ended t slot first now past so_far making = remains_end (on_done (forgets_stage t) slot now.client past) (so_far.remains making)

-- ---- the target is up

-- a boot is above the known one, or it isn't
pub is_later : (known boot : ℕ) → known < boot → nat_lt known boot ≡ true
is_later known boot above = grind (arith, nat_tests)

pub is_known : (known boot : ℕ) → boot ≤ known → nat_lt known boot ≡ false
is_known known boot below = grind (arith, nat_tests)

module _ (t boot : ℕ) (old : ClientState) (before : Making) where
  abbrev row : Client → List Entry
  row k = up_heard t boot k (nat_lt (import_of t k.imports).boot boot)

  -- in a boot that isn't above the known one
  pub came_late : nat_lt (import_of t old.client.imports).boot boot ≡ false → Makes row old old before before
  came_late known = makes_as (sym (ap (up_heard t boot old.client) known)) (makes_nothing old before)

  module _ (posts : List Post) (middle new : ClientState) (inside : t < length old.client.imports) (up : IsUp t boot posts old middle) where
    abbrev e : Entry
    e = Knows t boot

    abbrev known : Import
    known = import_of t old.client.imports

    knows : Makes (λ k. e ∷ []) old middle before before
    knows =
        makes_mark e refl refl
        (ap (λ (c : ClientState). c.client) up.shows ∙ turned_imports old.client (imports_after old.client.imports e) (e ∷ []) refl refl)
        (ap (λ (c : ClientState). c.limits) up.shows)
        (ap (λ (c : ClientState). c.spent) up.shows)

    -- how the life stands there then
    next : import_of t middle.client.imports ≡ import_after known e
    next =
        ap (λ (c : ClientState). import_of t c.client.imports) up.shows
        ∙ ap (import_of t) (imports_only t old.client.imports e (λ u. refl))
        ∙ import_of_set t old.client.imports (import_after known e) inside

    forgotten : forgets_row t middle.client ≡ forgets t old.client.calls (interrupted known.standing)
    forgotten =
        ap (λ (i : Import). forgets t middle.client.calls i.standing) next
        ∙ ap (λ (c : ClientState). forgets t c.client.calls (interrupted known.standing)) up.shows

    -- the client has as many targets
    pub still_inside : t < length middle.client.imports
    still_inside =
        let same : middle.client.imports ≡ slice_set old.client.imports t (import_after known e) =
        ap (λ (c : ClientState). c.client.imports) up.shows ∙ imports_only t old.client.imports e (λ u. refl) in
        subst (λ (n : ℕ). t < n) (sym (ap length same ∙ length-set old.client.imports t (import_after known e))) inside

    -- it was told what the client has
    pub came_up : (after : Making) → nat_lt known.boot boot ≡ true → Makes (forgets_row t) middle new before before → after
        ≡ giving before (posted posts) → Makes row old new before after
    came_up after above forgot gives =
        let es : List Entry = forgets t old.client.calls (interrupted known.standing) in
        makes_as {row = λ k. e ∷ es ++ posted posts} (sym (ap (up_heard t boot old.client) above ∙ up.row))
        (makes_on {e = e} {es = es ++ posted posts} knows (makes_then {one = λ k. es} {two = λ k. posted posts}
        (makes_as {row = forgets_row t} {other = λ k. es} forgotten forgot) (posts_went new before after posts gives)))
