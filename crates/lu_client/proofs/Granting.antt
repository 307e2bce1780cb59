-- A lock that waited is granted: the call that waits for it is found and goes on, the lock is held, and what the grant tells of
-- its target's transactions is kept, all as the rows have it.
use Rattle.std.proofs.Common.{◌≡◌, ℕ, zero, suc, ◌+◌, ◌<◌, ◌≤◌, ◌^◌, ◌==◌, nat_le, if◌then◌else◌, Bool, true, false, not, List, [], ◌∷◌}
use Rattle.std.proofs.Common.{length, get_or, Option, Some, None, refl, sym, ap, subst, ◌∙◌, arith}
use Rattle.std.specs.Prelude.{position, slice_set, Result, Ok, Err, OnOk, OnErr, IfNone}
use Rattle.std.specs.List.{position_from}
use Rattle.std.proofs.lemmas.Bool.{eqb-true}
use Rattle.std.proofs.lemmas.Bool.Decides.{nat_tests}
use Rattle.std.proofs.lemmas.Iterator.Adapters.{position_from-zero}
use Rattle.lu_base.specs.declared.faults.Memory.{Memory}
use Rattle.lu_base.specs.declared.ids.Cookie.{Cookie}
use Rattle.lu_base.specs.declared.ids.Who.{Who}
use Rattle.lu_base.specs.declared.locks.Lock.{Lock}
use Rattle.lu_call.specs.declared.hearing.CameLock.{CameLock}
use Rattle.lu_call.specs.Hearing.{comes_by_grant}
use Rattle.lu_import.specs.Imports.{ImportState, IsSound}
use Rattle.lu_import.specs.Kept as own
use Rattle.lu_held.specs.declared.names.LockName.{LockName}
use Rattle.lu_held.specs.Held.{is_held}
use Rattle.lu_held.specs.Locks.{named}
use Rattle.lu_msg.specs.declared.messages.GrantNotice.{GrantNotice}
use Rattle.lu_trace.specs.declared.entries.Entry.TheVariants as printed
use Rattle.lu_trace.specs.Turns.{Making, with_line}
use Rattle.lu_spec_entries.specs.Carried.{Stage, Waits, Running}
use Rattle.lu_spec_entries.specs.Words.{Entry, Hold, Settles, Stands}
use Rattle.lu_spec_client.specs.Calls.{call_on, calls_after}
use Rattle.lu_spec_client.specs.Messages.{granted_as, granted, lock_granted, on_running, on_slot, is_present, is_waiter, waiter, waits_for}
use Rattle.lu_spec_client.specs.States.{Client, Limits, turn}
use Rattle.lu_client_store.specs.Stored.{stored_after}
use Rattle.lu_client_refines.specs.Goes.{Goes}
use Rattle.lu_client_refines.specs.Imports.{import_of_state, imports_of, IsOne}
use Rattle.lu_client_refines.specs.Turns.{calls_turn, import_turn, imports_turn}
use Rattle.lu_client_refines.proofs.Follow.{goes_as, goes_marks, goes_note, goes_on}
use Rattle.lu_client_refines.proofs.Imports.{noted_one, noted_shown}
use Rattle.lu_client_refines.proofs.Lists.{self, both_true}
use Rattle.lu_client_refines.proofs.Slots.{calls_stand}
use Rattle.lu_client_refines.proofs.Targets.{imports_shown}
use Rattle.lu_client_refines.proofs.Turns.{turned, calls_stay, imports_stay}
use Rattle.lu_client.specs.Callbacks.{GrantGoes, IsGranted, IsUnmet}
use Rattle.lu_client.specs.Clients.{ClientState, stored_of, with_call, with_imports, with_store, Makes}
use Rattle.lu_client.specs.Comings.{may_grant, may_hold}
use Rattle.lu_client.proofs.SlotMarks.{same_call}

-- ---- the slot whose call waits

waiter_from : (name : LockName) (slot : ℕ) (calls : List (Option Running)) → waiter name slot calls
    ≡ position_from (is_waiter name) slot calls
waiter_from name slot [] = refl
waiter_from name slot (call ∷ calls) = ap (λ (o : Option ℕ). if is_waiter name call then Some slot else o)
    (waiter_from name (slot + 1) calls)

-- it is the first whose call waits
pub waiter_is : (name : LockName) (calls : List (Option Running)) → position (is_waiter name) calls ≡ waiter name 0 calls
waiter_is name calls = position_from-zero (is_waiter name) calls ∙ sym (waiter_from name 0 calls)

-- so many slots after a first one
abbrev Found : LockName → ℕ → List (Option Running) → ℕ → Type 0
Found name first calls slot = (k : ℕ) × (slot ≡ first + k) × (k < length calls) × (is_waiter name (call_on k calls) ≡ true)

found : (name : LockName) (first : ℕ) (calls : List (Option Running)) (slot : ℕ) → waiter name first calls ≡ Some slot
    → Found name first calls slot
found name first [] slot is = absurd (cc)
found name first (call ∷ calls) slot is = by (is_waiter name call) refl is (found name (first + 1) calls slot) where
  by : (here : Bool) → is_waiter name call ≡ here → (if here then Some first else waiter name (first + 1) calls) ≡ Some slot
      → (waiter name (first + 1) calls ≡ Some slot → Found name (first + 1) calls slot) → Found name first (call ∷ calls) slot
  by true here some rest = let same : first ≡ slot = cc in (0, omega (arith, same), omega arith, here)
  by false here some rest =
      let later : Found name (first + 1) calls slot = rest some in
      let at : slot ≡ first + 1 + later.0 = later.1 in
      let inside : later.0 < length calls = later.2 in
      (suc later.0, omega (arith, at), omega (arith, inside), later.3)

-- its call waits
pub found_waits : (name : LockName) (calls : List (Option Running)) (slot : ℕ) → waiter name 0 calls ≡ Some slot → (slot < length calls)
    × (is_waiter name (call_on slot calls) ≡ true)
found_waits name calls slot is =
    let it : Found name 0 calls slot = found name 0 calls slot is in
    let at : slot ≡ 0 + it.0 = it.1 in
    let same : it.0 ≡ slot = omega (arith, at) in
    subst (λ (k : ℕ). (k < length calls) × (is_waiter name (call_on k calls) ≡ true)) same (it.2, it.3)

-- so it is one of the client's slots
pub waits_inside : (name : LockName) (slot : ℕ) (calls : List (Option Running)) → is_waiter name (call_on slot calls) ≡ true
    → slot < length calls
waits_inside name slot [] waits = absurd (cc)
waits_inside name zero (call ∷ calls) waits = omega arith
waits_inside name (suc slot) (call ∷ calls) waits = let rest : slot < length calls = waits_inside name slot calls waits
    in omega (arith, rest)

-- ---- the lock that comes

abbrev cookie_at : ℕ → Cookie
cookie_at n = record { 0 = n }

-- the lock that is held first
abbrev first_held : Lock → List Entry → Lock
first_held d (Hold t l marked size seen ∷ es) = l
first_held d es = d

-- it has the name that the call waited for
came_named : (name : LockName) (t slot : ℕ) (g : GrantNotice) (call next : Running) (came : CameLock) (stage : Stage)
    → lock_granted t g slot call stage ≡ comes_by_grant t g slot next (Some came)
    → waits_for name stage ≡ true → came.lock.cookie ≡ name.cookie
came_named name t slot g call next came (Waits w target l marked) row waits =
    let same : granted_as l g.extent ≡ came.lock = ap (first_held came.lock) row in
    let two : (target.0 == name.target.0 ≡ true) × (l.cookie.0 == name.cookie.0 ≡ true) =
    both_true (target.0 == name.target.0) (l.cookie.0 == name.cookie.0) waits in
    ap (λ (x : Lock). x.cookie) (sym same) ∙ ap cookie_at (eqb-true l.cookie.0 name.cookie.0 two.1)
came_named name t slot g call next came stage row waits = absurd (cc)

-- the call on the slot goes on with it
pub goes_with : (t slot : ℕ) (g : GrantNotice) (old new : ClientState) (call next : Running) (came : CameLock)
    → call_on slot old.client.calls ≡ Some call
    → lock_granted t g slot call call.stage ≡ comes_by_grant t g slot next (Some came) → new ≡ with_call slot (Some next) old
    → IsGranted t g slot old new came
goes_with t slot g old new call next came was row shows =
    record {
      next = next;
      row = ap (on_running (lock_granted t g) slot) was ∙ row;
      cookie = λ name waits. came_named name t slot g call next came call.stage row
          (subst (λ (c : Option Running). is_waiter name c ≡ true) was waits);
      shows = shows;
    }

-- or it waits for none
pub goes_without : (t slot : ℕ) (g : GrantNotice) (old new : ClientState) (call next : Running) → slot < length old.client.calls
    → call_on slot old.client.calls ≡ Some call
    → lock_granted t g slot call call.stage ≡ comes_by_grant t g slot next None → next ≡ call → new ≡ with_call slot (Some next) old
    → IsUnmet t g slot old new
goes_without t slot g old new call next inside was row same shows =
    record {
      row = ap (on_running (lock_granted t g) slot) was ∙ row;
      stays = shows ∙ ap (λ (r : Running). with_call slot (Some r) old) same ∙ same_call slot old (Some call) inside was;
    }

-- or there is none
pub no_call_goes : (t slot : ℕ) (g : GrantNotice) (old new : ClientState) → slot < length old.client.calls → call_on slot old.client.calls
    ≡ None → new ≡ with_call slot None old → IsUnmet t g slot old new
no_call_goes t slot g old new inside none shows =
    record { row = ap (on_running (lock_granted t g) slot) none; stays = shows ∙ same_call slot old None inside none }

-- all that may come of it
pub grant_goes : (t slot : ℕ) (g : GrantNotice) (old : ClientState) (call next : Running) (result : Option CameLock)
    → slot < length old.client.calls → call_on slot old.client.calls ≡ Some call
    → lock_granted t g slot call call.stage ≡ comes_by_grant t g slot next result → IfNone result (next ≡ call)
    → GrantGoes t g slot old (with_call slot (Some next) old) result
grant_goes t slot g old call next None inside was row same = goes_without t slot g old (with_call slot (Some next) old) call next inside was
    row same refl
grant_goes t slot g old call next (Some came) inside was row same =
    goes_with t slot g old (with_call slot (Some next) old) call next came was row refl

-- the lock isn't held yet
pub still_absent : (t slot : ℕ) (g : GrantNotice) (old gone : ClientState) (came : CameLock) → IsGranted t g slot old gone came
    → is_waiter (named (record { 0 = t }) g.cookie) (call_on slot old.client.calls) ≡ true
    → is_held (named (record { 0 = t }) g.cookie) old.client.store.held ≡ false
    → is_held (named (record { 0 = t }) came.lock.cookie) gone.client.store.held ≡ false
still_absent t slot g old gone came goes waits absent =
    ap (λ (c : ClientState). is_held (named (record { 0 = t }) came.lock.cookie) c.client.store.held) goes.shows
    ∙ ap (λ (cookie : Cookie). is_held (named (record { 0 = t }) cookie) old.client.store.held)
    (goes.cookie (named (record { 0 = t }) g.cookie) waits)
    ∙ absent

-- ---- what a grant tells of transactions

-- the import keeps it, or memory ran out
pub noted_keeps : (limits : Limits) (who : Who) (t : ℕ) (r : Result (Unit {0}) Memory) (old new : ImportState) (n : ℕ) (seen : List ℕ)
    → OnOk r (new ≡ record old { kept = own.noted n seen old.kept }) → OnErr r (new ≡ old) → IsSound new → IsOne limits who t old
    → IsOne limits who t new
noted_keeps limits who t (Ok u) old new n seen noted kept sound one = noted_one limits who t old new n seen noted sound one
noted_keeps limits who t (Err e) old new n seen noted kept sound one = subst (IsOne limits who t) (sym kept) one

-- it is that of its target after the lock came and what is committed was told
pub noted_imports : (t : ℕ) (is : List ImportState) (old new : ImportState) (l : Lock) (marked : Bool) (size : Option ℕ) (n : ℕ)
    (seen : List ℕ) → t < length is → old ≡ get_or is t old → new ≡ record old { kept = own.noted n seen old.kept }
    → imports_of (slice_set is t new) ≡ imports_turn (imports_of is) (Hold t l marked size seen ∷ Settles t n ∷ [])
noted_imports t is old new l marked size n seen inside at noted =
    let es : List Entry = Hold t l marked size seen ∷ Settles t n ∷ [] in
    imports_shown t is new old es inside (rw (self t) refl)
    (noted_shown t old new l marked size n seen noted ∙ ap (λ (i : ImportState). import_turn (import_of_state i) es) at)

-- ---- all of a grant

module _ (t slot : ℕ) (g : GrantNotice) (old gone held new : ClientState) (came : CameLock) (before after : Making)
    (goes : IsGranted t g slot old gone came) where
  abbrev hold : Entry
  hold = Hold t came.lock came.marked (Some g.size) g.seen

  abbrev settle : Entry
  settle = Settles t g.committed.0

  abbrev stand : Entry
  stand = Stands slot goes.next

  abbrev es : List Entry
  es = hold ∷ settle ∷ stand ∷ []

  -- the client at the end
  abbrev final : ClientState
  final = with_imports (imports_turn old.client.imports (hold ∷ settle ∷ []))
      (with_store (stored_after (stored_of old) hold) (with_call slot (Some goes.next) old))

  ends : held ≡ with_store (stored_after (stored_of gone) hold) gone → new
      ≡ with_imports (imports_turn held.client.imports (hold ∷ settle ∷ [])) held → new ≡ final
  ends holds notes =
      notes
      ∙ ap (λ (c : ClientState). with_imports (imports_turn c.client.imports (hold ∷ settle ∷ [])) c) holds
      ∙ ap (λ (c : ClientState). with_imports (imports_turn c.client.imports (hold ∷ settle ∷ []))
      (with_store (stored_after (stored_of c) hold) c)) goes.shows

  calls_end : slice_set old.client.calls slot (Some goes.next) ≡ calls_turn old.client.calls es
  calls_end =
      sym (ap (λ (cs : List (Option Running)). calls_after (calls_after cs settle) stand) (calls_stay old.client.calls hold refl)
      ∙ ap (λ (cs : List (Option Running)). calls_after cs stand) (calls_stay old.client.calls settle refl)
      ∙ calls_stand slot old.client.calls goes.next)

  final_shows : final.client ≡ turn old.client es
  final_shows = turned old.client final.client es refl refl calls_end
      (sym (imports_stay (imports_turn old.client.imports (hold ∷ settle ∷ [])) stand refl)) refl refl

  pub grant_made : held ≡ with_store (stored_after (stored_of gone) hold) gone → new
      ≡ with_imports (imports_turn held.client.imports (hold ∷ settle ∷ [])) held
      → after.step ≡ with_line before.at before.step (printed.Hold (record { 0 = t }) came.lock.cookie) → after.at ≡ before.at
      → Makes (λ k. on_slot (lock_granted t g) (Some slot) k) old new before after
  grant_made holds notes line at =
      let is : new ≡ final = ends holds notes in
      let mid : Client = turn old.client (hold ∷ []) in
      let first : Goes (λ k. hold ∷ []) old.client mid before after =
      goes_note old.client mid before after (printed.Hold (record { 0 = t }) came.lock.cookie) hold refl refl line at refl in
      let rest : Goes (λ k. settle ∷ stand ∷ []) mid final.client after after =
      goes_marks mid final.client after (settle ∷ stand ∷ []) refl final_shows in
      let all : Goes (λ k. es) old.client final.client before after =
      goes_on hold (settle ∷ stand ∷ []) old.client mid final.client before after after first rest in
      subst (λ (c : ClientState). Makes (λ k. on_slot (lock_granted t g) (Some slot) k) old c before after) (sym is)
      (record {
        goes = goes_as (λ k. es) (λ k. on_slot (lock_granted t g) (Some slot) k) old.client final.client before after (sym goes.row)
            all;
        limits = refl;
        spent = refl;
      })

-- ---- what may be granted

-- the lock isn't held, and the size is that of a file
pub may_be_held : (t slot : ℕ) (g : GrantNotice) (k : Client) → may_grant t g k ≡ true → is_present g.who g.boot t k ≡ true
    → waiter (named (record { 0 = t }) g.cookie) 0 k.calls ≡ Some slot
    → (is_held (named (record { 0 = t }) g.cookie) k.store.held ≡ false) × (g.size ≤ 2 ^ 40)
may_be_held t slot g k may present waits =
    let when : (if true then may_hold t g k (waiter (named (record { 0 = t }) g.cookie) 0 k.calls) else true) ≡ true =
    subst (λ (b : Bool). (if b then may_hold t g k (waiter (named (record { 0 = t }) g.cookie) 0 k.calls) else true) ≡ true) present may in
    let so : may_hold t g k (Some slot) ≡ true = subst (λ (o : Option ℕ). may_hold t g k o ≡ true) waits when in
    let two = both_true (not (is_held (named (record { 0 = t }) g.cookie) k.store.held)) (nat_le g.size (2 ^ 40)) so in
    (grind (arith, two.0), grind (arith, nat_tests, two.1))

-- ---- the row of a grant

-- for another life or boot it does nothing
pub granted_absent : (t : ℕ) (g : GrantNotice) (k : Client) → is_present g.who g.boot t k ≡ false
    → granted t g k (is_present g.who g.boot t k) ≡ []
granted_absent t g k absent = ap (granted t g k) absent

-- nor where no call waits
pub granted_unasked : (t : ℕ) (g : GrantNotice) (k : Client) → is_present g.who g.boot t k ≡ true
    → waiter (named (record { 0 = t }) g.cookie) 0 k.calls ≡ None → granted t g k (is_present g.who g.boot t k) ≡ []
granted_unasked t g k present none = ap (granted t g k) present ∙ ap (λ (o : Option ℕ). on_slot (lock_granted t g) o k) none

-- else it is what the call on that slot does
pub granted_on : (t slot : ℕ) (g : GrantNotice) (k : Client) → is_present g.who g.boot t k ≡ true
    → waiter (named (record { 0 = t }) g.cookie) 0 k.calls ≡ Some slot
    → on_slot (lock_granted t g) (Some slot) k ≡ granted t g k (is_present g.who g.boot t k)
granted_on t slot g k present waits = ap (λ (o : Option ℕ). on_slot (lock_granted t g) o k) (sym waits) ∙ sym (ap (granted t g k) present)
