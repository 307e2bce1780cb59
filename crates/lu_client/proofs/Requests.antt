-- The request that a reply answers: whether there is one, and that it isn't in flight any more.
use Rattle.std.proofs.Common.{◌≡◌, ℕ, suc, ◌<◌, ◌≤◌, Bool, true, false, ◌&&◌, if◌then◌else◌, List, [], ◌∷◌, length, map, get_or, Option}
use Rattle.std.proofs.Common.{Some, None, is_some, Result, Ok, Err, IfOk, OnErr, refl, sym, ap, subst, ◌∙◌}
use Rattle.std.specs.Prelude.{option_map, slice_set}
use Rattle.std.proofs.lemmas.List.{set_past}
use Rattle.lu_base.specs.declared.faults.Memory.{Memory}
use Rattle.lu_base.specs.declared.ids.Who.{Who}
use Rattle.lu_call.specs.declared.nexts.Binding.{Binding}
use Rattle.lu_client_store.specs.Stored.{StoreState}
use Rattle.lu_import.specs.declared.requests.InFlight.{InFlight}
use Rattle.lu_import.specs.InFlights.{request_of}
use Rattle.lu_import.specs.Imports as own
use Rattle.lu_import.specs.Imports.{ImportState, IsSound}
use Rattle.lu_msg.specs.declared.messages.Reply.{Reply as ReplyTo}
use Rattle.lu_trace.specs.Turns.{Making}
use Rattle.lu_spec_entries.specs.Carried.{Flight, Running}
use Rattle.lu_spec_entries.specs.Words.{Heard}
use Rattle.lu_spec_client.specs.Calls.{call_on, call_after, calls_from, calls_after}
use Rattle.lu_spec_client.specs.Imports.{Import, import_after, imports_after, import_of}
use Rattle.lu_spec_client.specs.Messages.{find_flight, hears, is_present, replied}
use Rattle.lu_spec_client.specs.States.{Client}
use Rattle.lu_client_refines.specs.Imports.{flight_of, import_of_state, imports_of, IsOne}
use Rattle.lu_client_refines.proofs.Hearing.{found_is, hear_shown, hear_one}
use Rattle.lu_client_refines.proofs.Lists.{self}
use Rattle.lu_client_refines.proofs.Slots.{calls_at, call_on_get}
use Rattle.lu_client_refines.proofs.Targets.{import_of_at, imports_only, one_of}
use Rattle.lu_client_refines.proofs.Whole.{hears_present}
use Rattle.lu_client.specs.declared.replies.Asked.{Asked}
use Rattle.lu_client.specs.Clients.{ClientState, AreKept, Makes, limits_of, state_of, with_imports}
use Rattle.lu_client.specs.Replies.{answered, asked_of}
use Rattle.lu_client.proofs.Keeping.{kept_import}
use Rattle.lu_client.proofs.Making.{makes_nothing, makes_as}
use Rattle.lu_client.proofs.Nexts.{import_put}

-- ---- the request that is answered

-- the row, by that request
pub replied_is : (t : ℕ) (r : ReplyTo) (k : Client) → replied t r k (is_present r.who r.boot t k) ≡ hears t r k (answered t r k)
replied_is t r k = by (is_present r.who r.boot t k) where
  by : (present : Bool) → replied t r k present ≡ hears t r k (if present then find_flight r.xid.0 (import_of t k.imports).flights
      else None)
  by true = refl
  by false = refl

-- there is none
none_asked : (o : Option Flight) → option_map asked_of o ≡ None → o ≡ None
none_asked None none = refl
none_asked (Some f) none = absurd (cc)

pub nothing_heard : (t : ℕ) (r : ReplyTo) (c : ClientState) (making : Making) → option_map asked_of (answered t r c.client) ≡ None
    → Makes (λ k. replied t r k (is_present r.who r.boot t k)) c c making making
nothing_heard t r c making none =
    makes_as (sym (replied_is t r c.client ∙ ap (hears t r c.client) (none_asked (answered t r c.client) none))) (makes_nothing c making)

-- A request is in flight that asks this, and the reply answers it.
pub record IsAnswered (t : ℕ) (r : ReplyTo) (k : Client) (a : Asked) : Type 0 where
  pub flight : Flight
  pub found : answered t r k ≡ Some flight
  pub asks : asked_of flight ≡ a

pub is_answered : (t : ℕ) (r : ReplyTo) (k : Client) (a : Asked) → option_map asked_of (answered t r k) ≡ Some a → IsAnswered t r k a
is_answered t r k a some = by (answered t r k) refl some where
  by : (o : Option Flight) → answered t r k ≡ o → option_map asked_of o ≡ Some a → IsAnswered t r k a
  by None e s = absurd (cc)
  by (Some f) e s = let same : asked_of f ≡ a = cc in record { flight = f; found = e; asks = same }

-- it is of this life and boot
pub is_found : (t : ℕ) (r : ReplyTo) (k : Client) (f : Flight) → answered t r k ≡ Some f
    → (is_present r.who r.boot t k ≡ true) × (find_flight r.xid.0 (import_of t k.imports).flights ≡ Some f)
is_found t r k f some = by (is_present r.who r.boot t k) some where
  by : (present : Bool) → (if present then find_flight r.xid.0 (import_of t k.imports).flights else None) ≡ Some f
      → (present ≡ true) × (find_flight r.xid.0 (import_of t k.imports).flights ≡ Some f)
  by true e = (refl, e)
  by false e = absurd (cc)

-- ---- as the import finds it

-- a reply of another life or boot
pub absent_asks : (t : ℕ) (r : ReplyTo) (k : Client) → is_present r.who r.boot t k ≡ false → None ≡ option_map asked_of (answered t r k)
absent_asks t r k absent = rw absent refl

found_answers : (t : ℕ) (r : ReplyTo) (k : Client) (i : ImportState) → import_of t k.imports ≡ import_of_state i
    → is_present r.who r.boot t k ≡ true → answered t r k ≡ option_map flight_of (request_of r.xid.0 i.in_flight)
found_answers t r k i known present =
    ap (λ (here : Bool). if here then find_flight r.xid.0 (import_of t k.imports).flights else None) present
    ∙ ap (λ (j : Import). find_flight r.xid.0 j.flights) known
    ∙ found_is r.xid.0 i.in_flight

-- one to no request
pub none_asks : (t : ℕ) (r : ReplyTo) (k : Client) (i : ImportState) → import_of t k.imports ≡ import_of_state i
    → is_present r.who r.boot t k ≡ true → request_of r.xid.0 i.in_flight ≡ None
    → None ≡ option_map asked_of (answered t r k)
none_asks t r k i known present none =
    sym (ap (option_map asked_of) (found_answers t r k i known present ∙ ap (option_map flight_of) none))

-- one to this request
pub some_asks : (t : ℕ) (r : ReplyTo) (k : Client) (i : ImportState) (request : InFlight) → import_of t k.imports ≡ import_of_state i
    → is_present r.who r.boot t k ≡ true → request_of r.xid.0 i.in_flight ≡ Some request
    → Some (record { slot = request.slot; op = request.op }) ≡ option_map asked_of (answered t r k)
some_asks t r k i request known present some =
    sym (ap (option_map asked_of) (found_answers t r k i known present ∙ ap (option_map flight_of) some))

-- ---- it isn't in flight any more

-- The request of a flight.
record IsRequest (number : ℕ) (requests : List InFlight) (f : Flight) : Type 0 where
  pub request : InFlight
  pub some : request_of number requests ≡ Some request
  pub same : flight_of request ≡ f

is_request : (number : ℕ) (requests : List InFlight) (f : Flight) → find_flight number (map flight_of requests) ≡ Some f
    → IsRequest number requests f
is_request number requests f found = by (request_of number requests) refl (sym (found_is number requests) ∙ found) where
  by : (o : Option InFlight) → request_of number requests ≡ o → option_map flight_of o ≡ Some f → IsRequest number requests f
  by None e s = absurd (cc)
  by (Some request) e s = let same : flight_of request ≡ f = cc in record { request = request; some = e; same = same }

module _ (osts flight dirty : ℕ) (who : Who) (handles : List Binding) (calls : List (Option Running)) (store : StoreState)
    (spent : Bool) where
  abbrev shown : List ImportState → ClientState
  shown imports = state_of osts flight dirty who handles calls imports store spent

  module _ (t : ℕ) (imports : List ImportState) (old new : ImportState) (kept : AreKept osts flight dirty who calls imports store)
      (inside : t < length imports) (is : old ≡ get_or imports t old) (r : ReplyTo) where
    known : import_of t (imports_of imports) ≡ import_of_state old
    known = import_of_at t imports old inside ∙ ap import_of_state (sym is)

    one : IsOne (limits_of osts flight dirty store) who t old
    one = subst (IsOne (limits_of osts flight dirty store) who t) (sym is)
        (one_of (limits_of osts flight dirty store) who t imports old kept.kept inside)

    one_after : (result : Result Bool Memory) → IfOk result (λ ended. new ≡ (if ended then own.heard old r else old))
        → OnErr result (new ≡ old) → IsSound new → IsOne (limits_of osts flight dirty store) who t new
    one_after (Ok ended) heard same sound = hear_one (limits_of osts flight dirty store) who t old new r ended heard sound one
    one_after (Err e) heard same sound = subst (IsOne (limits_of osts flight dirty store) who t) (sym same) one

    -- the client keeps what always holds of it
    pub ended_keeps : (result : Result Bool Memory) → IfOk result (λ ended. new ≡ (if ended then own.heard old r else old))
        → OnErr result (new ≡ old) → IsSound new → AreKept osts flight dirty who calls (slice_set imports t new) store
    ended_keeps result heard same sound = kept_import kept t new (one_after result heard same sound)

    import_so : (ended : Bool) (f : Flight) → ended ≡ own.hears old r → new ≡ (if ended then own.heard old r else old)
        → answered t r (shown imports).client ≡ Some f
        → import_of_state new ≡ import_after (import_of t (imports_of imports)) (Heard t f r)
    import_so ended f hears_it heard some =
        let p = is_found t r (shown imports).client f some in
        let found : find_flight r.xid.0 (import_of_state old).flights ≡ Some f =
        ap (λ (i : Import). find_flight r.xid.0 i.flights) (sym known) ∙ p.1 in
        let q : IsRequest r.xid.0 old.in_flight f = is_request r.xid.0 old.in_flight f found in
        let both : (is_present r.who r.boot t (shown imports).client
        && is_some (find_flight r.xid.0 (import_of t (imports_of imports)).flights)) ≡ true = rw (p.0, p.1) refl in
        hear_shown t old new r q.request ended q.some (hears_it
        ∙ hears_present (limits_of osts flight dirty store) t (shown imports).client old one known r ∙ both) heard
        ∙ ap (λ (i : Import). import_after i (Heard t (flight_of q.request) r)) (sym known)
        ∙ ap (λ (g : Flight). import_after (import_of t (imports_of imports)) (Heard t g r)) q.same

    -- and shows that the request isn't in flight any more
    pub ended_shown : (c : ClientState) → shown imports ≡ c → (ended : Bool) → ended ≡ own.hears old r → new
        ≡ (if ended then own.heard old r else old) → (f : Flight) → answered t r c.client ≡ Some f
        → shown (slice_set imports t new) ≡ with_imports (imports_after c.client.imports (Heard t f r)) c
    ended_shown c shows ended hears_it heard f some =
        let some_so : answered t r (shown imports).client ≡ Some f = ap (λ (s : ClientState). answered t r s.client) shows ∙ some in
        let rows : List Import = imports_of imports in
        import_put osts flight dirty who handles calls store spent t imports new
        ∙ ap (λ (i : Import). with_imports (slice_set rows t i) (shown imports)) (import_so ended f hears_it heard some_so)
        ∙ ap (λ (is : List Import). with_imports is (shown imports)) (sym (imports_only t rows (Heard t f r) (λ u. refl)))
        ∙ ap (λ (s : ClientState). with_imports (imports_after s.client.imports (Heard t f r)) s) shows

-- ---- its call is told

-- it is a write-back: no call asked it
pub none_told : (t : ℕ) (f : Flight) (r : ReplyTo) (calls : List (Option Running)) → f.slot ≡ None → calls_after calls (Heard t f r) ≡ calls
none_told t f r calls serves = from 0 calls where
  here : (slot : ℕ) (call : Option Running) → call_after slot call (Heard t f r) ≡ call
  here slot call = rw serves refl

  from : (slot : ℕ) (calls : List (Option Running)) → calls_from slot calls (Heard t f r) ≡ calls
  from slot [] = refl
  from slot (call ∷ calls) = ap (λ (o : Option Running). o ∷ calls_from (suc slot) calls (Heard t f r)) (here slot call)
      ∙ ap (λ (os : List (Option Running)). call ∷ os) (from (suc slot) calls)

on_its_slot : (t slot : ℕ) (f : Flight) (r : ReplyTo) (calls : List (Option Running)) → f.slot ≡ Some slot → calls_after calls (Heard t f r)
    ≡ slice_set calls slot (call_after slot (call_on slot calls) (Heard t f r))
on_its_slot t slot f r calls serves = calls_at slot calls (Heard t f r) (rw (serves, self slot) refl)

-- there is no such slot
pub past_told : (t slot : ℕ) (f : Flight) (r : ReplyTo) (calls : List (Option Running)) → f.slot ≡ Some slot → length calls ≤ slot
    → calls_after calls (Heard t f r) ≡ calls
past_told t slot f r calls serves past = on_its_slot t slot f r calls serves
    ∙ set_past calls slot (call_after slot (call_on slot calls) (Heard t f r)) past

-- no call is on the slot any more
pub free_told : (t slot : ℕ) (f : Flight) (r : ReplyTo) → f.slot ≡ Some slot → None ≡ call_after slot None (Heard t f r)
free_told t slot f r serves = rw (serves, self slot) refl

-- the call on the slot, if any, is as the reply leaves it
pub slot_told : (t slot : ℕ) (f : Flight) (r : ReplyTo) (calls : List (Option Running)) (old new : Option Running) → f.slot ≡ Some slot
    → slot < length calls → old ≡ get_or calls slot old → new ≡ call_after slot old (Heard t f r)
    → slice_set calls slot new ≡ calls_after calls (Heard t f r)
slot_told t slot f r calls old new serves inside is told =
    ap (slice_set calls slot) (told ∙ ap (λ (call : Option Running). call_after slot call (Heard t f r))
    (is ∙ sym (call_on_get slot calls old inside)))
    ∙ sym (on_its_slot t slot f r calls serves)
