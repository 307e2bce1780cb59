-- A reply that an import hears is one that the rows hear, and it leaves what they leave.
use Rattle.std.proofs.Common.{◌≡◌, ℕ, Bool, true, false, not, cond, ◌==◌, ◌&&◌, ◌||◌, if◌then◌else◌, List, [], ◌∷◌, map, Option, Some, None}
use Rattle.std.proofs.Common.{is_some, refl, sym, ap, ◌∙◌}
use Rattle.std.specs.Option.{option_map}
use Rattle.std.proofs.lemmas.Bool.{eqb-true}
use Rattle.lu_base.specs.declared.ids.Who.{Who}
use Rattle.lu_base.specs.declared.locks.Lock.{Lock}
use Rattle.lu_msg.specs.declared.messages.Reply.{Reply as ReplyTo}
use Rattle.lu_import.specs.declared.requests.InFlight.{InFlight}
use Rattle.lu_import.specs.InFlights.{request_of, has_number, without}
use Rattle.lu_import.specs.Kept as own
use Rattle.lu_import.specs.Imports.{ImportState, IsSound, hears, heard}
use Rattle.lu_spec_entries.specs.Carried.{Flight}
use Rattle.lu_spec_entries.specs.Words.{Heard, Hold, same_life}
use Rattle.lu_spec_client.specs.Imports.{Import, Kept, import_after, kept_after, without_flight, with_reply}
use Rattle.lu_spec_client.specs.Messages.{find_flight, holds}
use Rattle.lu_spec_client.specs.States.{Limits}
use Rattle.lu_client_refines.specs.Imports.{flight_of, import_of_state, IsOne, WasTold}
use Rattle.lu_client_refines.specs.Turns.{import_turn}
use Rattle.lu_client_refines.proofs.Imports.{stays_one}
use Rattle.lu_client_refines.proofs.Kept.{taught_is, told_twice, hold_quiet}

-- ---- a request and its flight

-- the request of a number, as the rows find it
pub found_is : (number : ℕ) (requests : List InFlight) → find_flight number (map flight_of requests)
    ≡ option_map flight_of (request_of number requests)
found_is number [] = refl
found_is number (request ∷ requests) = by (request.xid.0 == number) (found_is number requests) where
  by : (here : Bool) → find_flight number (map flight_of requests) ≡ option_map flight_of (request_of number requests)
      → (if here then Some (flight_of request) else find_flight number (map flight_of requests))
      ≡ option_map flight_of (if here then Some request else request_of number requests)
  by true rest = refl
  by false rest = rest

-- one that is found
pub found_some : (number : ℕ) (i : ImportState) (request : InFlight) → request_of number i.in_flight ≡ Some request
    → find_flight number (import_of_state i).flights ≡ Some (flight_of request)
found_some number i request some = found_is number i.in_flight ∙ ap (option_map flight_of) some

-- one that is not found
pub found_none : (number : ℕ) (i : ImportState) → request_of number i.in_flight ≡ None → find_flight number (import_of_state i).flights
    ≡ None
found_none number i none = found_is number i.in_flight ∙ ap (option_map flight_of) none

-- the request that is found has the number
pub found_number : (number : ℕ) (requests : List InFlight) (found : InFlight) → request_of number requests ≡ Some found → found.xid.0
    ≡ number
found_number number [] found some = absurd (cc)
found_number number (request ∷ requests) found some = by (request.xid.0 == number) refl some (found_number number requests found) where
  by : (here : Bool) → (request.xid.0 == number) ≡ here → (if here then Some request else request_of number requests) ≡ Some found
      → (request_of number requests ≡ Some found → found.xid.0 ≡ number) → found.xid.0 ≡ number
  by true e some rest = let same : request ≡ found = cc in ap (λ (k : InFlight). k.xid.0) (sym same) ∙ eqb-true request.xid.0 number e
  by false e some rest = rest some

number_is : (number : ℕ) (requests : List InFlight) → has_number number requests ≡ is_some (find_flight number (map flight_of requests))
number_is number [] = refl
number_is number (request ∷ requests) = by (request.xid.0 == number) (number_is number requests) where
  by : (here : Bool) → has_number number requests ≡ is_some (find_flight number (map flight_of requests))
      → (here || has_number number requests) ≡ is_some (if here then Some (flight_of request)
      else find_flight number (map flight_of requests))
  by true rest = refl
  by false rest = rest

without_is : (number : ℕ) (requests : List InFlight) → map flight_of (without number requests)
    ≡ without_flight number (map flight_of requests)
without_is number [] = refl
without_is number (request ∷ requests) = by (request.xid.0 == number) (without_is number requests) where
  by : (here : Bool) → map flight_of (without number requests) ≡ without_flight number (map flight_of requests)
      → map flight_of (cond (not here) (request ∷ without number requests) (without number requests))
      ≡ cond (not here) (flight_of request ∷ without_flight number (map flight_of requests))
      (without_flight number (map flight_of requests))
  by true rest = rest
  by false rest = ap (λ (fs : List Flight). flight_of request ∷ fs) rest

-- ---- whether it is heard

-- of this life and boot, and to a request in flight
pub hears_row : (limits : Limits) (who : Who) (t : ℕ) (i : ImportState) (r : ReplyTo) → IsOne limits who t i
    → hears i r ≡ ((same_life r.who who && r.boot == i.boot) && is_some (find_flight r.xid.0 (import_of_state i).flights))
hears_row limits who t i r one =
    by (r.who.client == i.who.client) (r.who.life == i.who.life)
    ∙ ap (λ (flies : Bool). (same_life r.who i.who && r.boot == i.boot) && flies) (number_is r.xid.0 i.in_flight)
    ∙ ap (λ (w : Who). (same_life r.who w && r.boot == i.boot) && is_some (find_flight r.xid.0 (map flight_of i.in_flight))) one.life
  where
    by : (client life : Bool) → (client && life && r.boot == i.boot && has_number r.xid.0 i.in_flight)
        ≡ (((client && life) && r.boot == i.boot) && has_number r.xid.0 i.in_flight)
    by true true = refl
    by true false = refl
    by false life = refl

-- where the life and boot are those, and the request is found
pub hears_found : (limits : Limits) (who : Who) (t : ℕ) (i : ImportState) (r : ReplyTo) (request : InFlight) → IsOne limits who t i
    → (same_life r.who who && r.boot == i.boot) ≡ true → request_of r.xid.0 i.in_flight ≡ Some request → hears i r ≡ true
hears_found limits who t i r request one present some = hears_row limits who t i r one
    ∙ rw (present, found_some r.xid.0 i request some) refl

-- ---- what it leaves

-- the import after the reply to the request that was found
pub heard_shown : (t : ℕ) (old new : ImportState) (r : ReplyTo) (request : InFlight) → request_of r.xid.0 old.in_flight ≡ Some request → new
    ≡ heard old r → import_of_state new ≡ import_after (import_of_state old) (Heard t (flight_of request) r)
heard_shown t old new r request some is =
    let flights : map flight_of (without r.xid.0 old.in_flight) ≡ without_flight request.xid.0 (map flight_of old.in_flight) =
    without_is r.xid.0 old.in_flight ∙ ap (λ (n : ℕ). without_flight n (map flight_of old.in_flight))
    (sym (found_number r.xid.0 old.in_flight request some)) in
    ap import_of_state (is ∙ ap (λ (o : Option InFlight). record old
    { in_flight = without r.xid.0 old.in_flight; kept = own.taught_by o r old.kept }) some)
    ∙ ap (λ (k : Kept). record (import_of_state old) { flights = map flight_of (without r.xid.0 old.in_flight); kept = k })
    (taught_is t request r old.kept)
    ∙ ap (λ (fs : List Flight). record (import_of_state old) {
      flights = fs;
      kept =
          kept_after (import_of_state old).kept (Heard t (flight_of request) r);
    }) flights

-- the same in the form of the call's promise
pub hear_shown : (t : ℕ) (old new : ImportState) (r : ReplyTo) (request : InFlight) (ended : Bool) → request_of r.xid.0 old.in_flight
    ≡ Some request → ended ≡ true → new ≡ (if ended then heard old r else old) → import_of_state new
    ≡ import_after (import_of_state old) (Heard t (flight_of request) r)
hear_shown t old new r request ended some hears_it is = heard_shown t old new r request some (is ∙ rw hears_it refl)

-- it stays that of its target and life
pub hear_one : (limits : Limits) (who : Who) (t : ℕ) (old new : ImportState) (r : ReplyTo) (ended : Bool) → new
    ≡ (if ended then heard old r else old) → IsSound new → IsOne limits who t old → IsOne limits who t new
hear_one limits who t old new r true is sound one =
    stays_one limits who t old new (ap (λ (i : ImportState). i.target) is) (ap (λ (i : ImportState). i.who) is)
    (ap (λ (i : ImportState). i.flight) is) sound one
hear_one limits who t old new r false is sound one =
    stays_one limits who t old new (ap (λ (i : ImportState). i.target) is) (ap (λ (i : ImportState). i.who) is)
    (ap (λ (i : ImportState). i.flight) is) sound one

-- ---- the locks that come with a reply are no change of the import: they tell what the reply has told

-- one
pub hold_shown : (i : Import) (t : ℕ) (f : Flight) (r : ReplyTo) (u : ℕ) (l : Lock) (marked : Bool) (size : Option ℕ)
    → import_after (import_after i (Heard t f r)) (Hold u l marked size r.seen) ≡ import_after i (Heard t f r)
hold_shown i t f r u l marked size = ap (λ (k : Kept). record (import_after i (Heard t f r)) { kept = k })
    (hold_quiet i.kept t f r u l marked size)

-- any number of them
pub holds_shown : (i : Import) (t : ℕ) (f : Flight) (r : ReplyTo) (u : ℕ) (size : Option ℕ) (locks : List Lock)
    → import_turn (import_after i (Heard t f r)) (holds u size r.seen locks) ≡ import_after i (Heard t f r)
holds_shown i t f r u size [] = refl
holds_shown i t f r u size (l ∷ locks) = ap (λ (j : Import). import_turn j (holds u size r.seen locks)) (hold_shown i t f r u l false size)
    ∙ holds_shown i t f r u size locks

-- ---- what was told already

-- after a reply was heard, its numbers were
pub heard_told : (k : Kept) (t : ℕ) (f : Flight) (r : ReplyTo) → WasTold r.seen (kept_after k (Heard t f r))
heard_told k t f r = told_twice r.committed.0 r.seen (record k { replays = with_reply f r k.replays })

-- a lock that tells them leaves the import
pub told_stays : (i : Import) (t : ℕ) (l : Lock) (marked : Bool) (size : Option ℕ) (seen : List ℕ) → WasTold seen i.kept
    → import_after i (Hold t l marked size seen) ≡ i
told_stays i t l marked size seen told = ap (λ (k : Kept). record i { kept = k }) told
