-- What an import sends from the front of its queue is what the rows send, and where it waits they send nothing.
use Rattle.std.proofs.Common.{◌≡◌, ℕ, ◌+◌, ◌<◌, ◌≤◌, Bool, true, false, not, ◌&&◌, ◌||◌, nat_lt, if◌then◌else◌, List, [], ◌∷◌, ◌++◌, length}
use Rattle.std.proofs.Common.{map, inl, inr, refl, sym, ap, ◌∙◌, arith}
use Rattle.std.specs.List.{list_any}
use Rattle.std.proofs.lemmas.List.{length-map, map-append}
use Rattle.std.proofs.lemmas.Bool.Decides.{nat_tests}
use Rattle.lu_base.specs.declared.ids.Node.TheVariants.{Target}
use Rattle.lu_base.specs.declared.ids.TargetId.{TargetId}
use Rattle.lu_base.specs.declared.ids.Who.{Who}
use Rattle.lu_msg.specs.declared.messages.Message.{Message}
use Rattle.lu_msg.specs.declared.messages.Message.TheVariants as message
use Rattle.lu_msg.specs.declared.messages.Request.{Request as RequestOf}
use Rattle.lu_msg.specs.declared.operations.Op.{Op}
use Rattle.lu_import.specs.declared.requests.InFlight.{InFlight}
use Rattle.lu_import.specs.declared.requests.Waiting.{Waiting}
use Rattle.lu_import.specs.declared.recovery.Standing.{Standing}
use Rattle.lu_import.specs.declared.recovery.Standing.TheVariants.{Joining, Recovering, Serving}
use Rattle.lu_import.specs.Imports as own
use Rattle.lu_import.specs.Imports.{ImportState, IsSound, IsSent, Sends, MustWait, FrontWaits}
use Rattle.lu_import.specs.InFlights as flying
use Rattle.lu_import.specs.Objects as objects
use Rattle.lu_spec_entries.specs.Carried.{Flight, Queued}
use Rattle.lu_spec_entries.specs.Words.{Entry, Flies, Send}
use Rattle.lu_spec_client.specs.Imports.{Import, is_serving, import_after, rest}
use Rattle.lu_spec_client.specs.Sending.{object_of, same_object, front_waits, next_flight, sends_request, has_room, flies, sends, sends_to}
use Rattle.lu_spec_client.specs.States.{Limits}
use Rattle.lu_client_refines.specs.Imports.{waiting_of, flight_of, standing_of, import_of_state, IsOne}
use Rattle.lu_client_refines.specs.Sending.{SendsFront, front_on, front_sent}
use Rattle.lu_client_refines.specs.Turns.{import_turn}
use Rattle.lu_client_refines.proofs.Tags.{least_free}
use Rattle.lu_client_refines.proofs.Imports.{stays_one}

-- ---- when the front has to wait

object_is : (o : Op) → object_of o ≡ objects.object o
object_is o = refl

busy_is : (o : Op) (requests : List InFlight) → list_any (λ (f : Flight). same_object (object_of f.op) (object_of o))
    (map flight_of requests) ≡ flying.is_busy requests o
busy_is o [] = refl
busy_is o (request ∷ requests) = ap (λ (b : Bool). objects.same_object request.op o || b) (busy_is o requests)

-- one object, one request, at an object storage target
pub waits_is : (t : ℕ) (target : TargetId) → target.0 ≡ t → (requests : List InFlight) (o : Op) → front_waits t o (map flight_of requests)
    ≡ flying.front_waits target requests o
waits_is t target is requests o = ap (λ (n : ℕ). nat_lt 0 n && list_any (λ (f : Flight). same_object (object_of f.op) (object_of o))
    (map flight_of requests)) (sym is) ∙ ap (λ (b : Bool). nat_lt 0 target.0 && b) (busy_is o requests)

-- whether the target serves the life
pub serving_is : (standing : Standing) → is_serving (standing_of standing) ≡ own.is_serving standing
serving_is Joining = refl
serving_is Recovering = refl
serving_is Serving = refl

-- ---- what the rows send from the front

-- the front, where the target serves the life and there is room
front_row : (limits : Limits) (who : Who) (t : ℕ) (i : Import) (q : Queued) (queue : List Queued) → i.queue ≡ q ∷ queue
    → is_serving i.standing ≡ true → has_room limits t q.op i.flights ≡ true
    → sends_to limits who t i ≡ flies who i.boot t (next_flight i.last i.flights q)
    (sends_to limits who t (import_after i (Flies t (next_flight i.last i.flights q))))
front_row limits who t i q queue waits serving room = rw (serving, waits, room) refl

-- nothing, where the target doesn't
none_served : (limits : Limits) (who : Who) (t : ℕ) (i : Import) → is_serving i.standing ≡ false → sends_to limits who t i ≡ []
none_served limits who t i serving = rw serving refl

-- or where nothing waits
none_waits : (limits : Limits) (who : Who) (t : ℕ) (i : Import) → i.queue ≡ [] → sends_to limits who t i ≡ []
none_waits limits who t i empty = ap (λ (queue : List Queued). if is_serving i.standing
    then sends limits who i.boot t i.last i.flights queue else []) empty ∙ by (is_serving i.standing) where
      by : (serving : Bool) → ◌≡◌ {A = List Entry} (if serving then [] else []) []
      by true = refl
      by false = refl

-- or where the front has no room
none_room : (limits : Limits) (who : Who) (t : ℕ) (i : Import) (q : Queued) (queue : List Queued) → i.queue ≡ q ∷ queue
    → has_room limits t q.op i.flights ≡ false → sends_to limits who t i ≡ []
none_room limits who t i q queue waits room = by (is_serving i.standing) refl where
  by : (serving : Bool) → is_serving i.standing ≡ serving → sends_to limits who t i ≡ []
  by true e = rw (e, waits, room) refl
  by false e = rw e refl

-- ---- the import sends

room_is : (a b : Bool) → a ≡ true → b ≡ false → (a && not b) ≡ true
room_is a b full waits = rw (full, waits) refl

full_is : (a b : Bool) → a ≡ false → (a && b) ≡ false
full_is a b full = rw full refl

waiting_is : (a b : Bool) → b ≡ true → (a && not b) ≡ false
waiting_is true b waits = rw waits refl
waiting_is false b waits = refl

-- whether one more may be in flight
below_limit : (limits : Limits) (who : Who) (t : ℕ) (i : ImportState) → IsOne limits who t i → length i.in_flight < i.flight
    → nat_lt (length (map flight_of i.in_flight)) limits.flight ≡ true
below_limit limits who t i one less = let count : length (map flight_of i.in_flight) ≡ length i.in_flight = length-map i.in_flight flight_of
    in let flight : i.flight ≡ limits.flight = one.flight in grind (arith, nat_tests, less, count, flight)

at_limit : (limits : Limits) (who : Who) (t : ℕ) (i : ImportState) → IsOne limits who t i → i.flight ≤ length i.in_flight
    → nat_lt (length (map flight_of i.in_flight)) limits.flight ≡ false
at_limit limits who t i one most = let count : length (map flight_of i.in_flight) ≡ length i.in_flight = length-map i.in_flight flight_of
    in let flight : i.flight ≡ limits.flight = one.flight in grind (arith, nat_tests, most, count, flight)

-- a request that was sent is that of the rows
sent_front : (limits : Limits) (who : Who) (t : ℕ) (old new : ImportState) (request : RequestOf) → IsOne limits who t old
    → IsSent old new request → SendsFront limits who t (import_of_state old) (import_of_state new) (message.Request request)
sent_front limits who t old new request one sent =
    record {
      front = front;
      flight = flight;
      waits = waits;
      next = next;
      sends = sends_it;
      shows = shows;
      rows =
          front_row limits who t before front (map waiting_of new.queue) waits serving room
          ∙ ap (λ (f : Flight). Flies t f ∷ sends_request who old.boot t f ∷ sends_to limits who t (import_after before (Flies t f)))
          (sym next)
          ∙ ap (λ (e : Entry). Flies t flight ∷ e ∷ sends_to limits who t (import_after before (Flies t flight))) (sym sends_it)
          ∙ ap (λ (i : Import). Flies t flight ∷ Send (Target t) (message.Request request) ∷ sends_to limits who t i) (sym shows);
    }
  where
    before : Import
    before = import_of_state old

    front : Queued
    front = record { slot = sent.slot; op = request.op }

    flight : Flight
    flight = record { xid = request.xid.0; tag = request.tag; op = request.op; slot = sent.slot }

    waits : before.queue ≡ front ∷ map waiting_of new.queue
    waits = ap (map waiting_of) sent.front

    next : flight ≡ next_flight old.last before.flights front
    next =
        ap (λ (n : ℕ). record { xid = n; tag = request.tag; op = request.op; slot = sent.slot }) sent.number
        ∙ ap (λ (tag : ℕ). record { xid = old.last + 1; tag = tag; op = request.op; slot = sent.slot })
        (least_free old.in_flight request.tag sent.tag)

    sends_it : ◌≡◌ {A = Entry} (Send (Target t) (message.Request request)) (sends_request who old.boot t flight)
    sends_it =
        ap (λ (w : Who). Send (Target t) (message.Request (record
        { who = w; boot = request.boot; xid = request.xid; tag = request.tag; op = request.op }))) (sent.who ∙ one.life)
        ∙ ap (λ (boot : ℕ). Send (Target t) (message.Request (record
        { who = who; boot = boot; xid = request.xid; tag = request.tag; op = request.op }))) sent.boot

    shows : import_of_state new ≡ import_after before (Flies t flight)
    shows =
        ap import_of_state sent.after
        ∙ ap (λ (n : ℕ). record before {
          last = n;
          queue = map waiting_of new.queue;
          flights =
              map flight_of (old.in_flight ++ record { xid = request.xid; tag = request.tag; op = request.op; slot = sent.slot } ∷ []);
        })
        (sym sent.number)
        ∙ ap (λ (queue : List Queued). record before {
          last = flight.xid;
          queue = rest queue;
          flights =
              map flight_of (old.in_flight ++ record { xid = request.xid; tag = request.tag; op = request.op; slot = sent.slot } ∷ []);
        })
        (sym waits)
        ∙ ap (λ (flights : List Flight). record before { last = flight.xid; queue = rest before.queue; flights = flights })
        (map-append flight_of old.in_flight (record { xid = request.xid; tag = request.tag; op = request.op; slot = sent.slot } ∷ []))

    serving : is_serving before.standing ≡ true
    serving = serving_is old.standing ∙ sent.serving

    room : has_room limits t front.op before.flights ≡ true
    room = room_is (nat_lt (length before.flights) limits.flight) (front_waits t request.op before.flights)
        (below_limit limits who t old one sent.room) (waits_is t old.target one.target old.in_flight request.op ∙ sent.unblocked)

-- whatever message it is
pub next_front : (limits : Limits) (who : Who) (t : ℕ) (old new : ImportState) (m : Message) → IsOne limits who t old → Sends old new m
    → SendsFront limits who t (import_of_state old) (import_of_state new) m
next_front limits who t old new (message.Request request) one sent = sent_front limits who t old new request one sent
next_front limits who t old new _ one sent = absurd sent

-- it stays that of its target and life
pub next_one : (limits : Limits) (who : Who) (t : ℕ) (old new : ImportState) (m : Message) → Sends old new m → IsSound new
    → IsOne limits who t old → IsOne limits who t new
next_one limits who t old new (message.Request request) sent sound one =
    stays_one limits who t old new (ap (λ (i : ImportState). i.target) sent.after) (ap (λ (i : ImportState). i.who) sent.after)
    (ap (λ (i : ImportState). i.flight) sent.after) sound one
next_one limits who t old new _ sent sound one = absurd sent

-- where an import must wait the rows send nothing
pub waits_row : (limits : Limits) (who : Who) (t : ℕ) (i : ImportState) → IsOne limits who t i → MustWait i
    → sends_to limits who t (import_of_state i) ≡ []
waits_row limits who t i one (inl serving) = none_served limits who t (import_of_state i) (serving_is i.standing ∙ serving)
waits_row limits who t i one (inr (inl full)) = by i.queue refl where
  by : (queue : List Waiting) → i.queue ≡ queue → sends_to limits who t (import_of_state i) ≡ []
  by [] e = none_waits limits who t (import_of_state i) (ap (map waiting_of) e)
  by (w ∷ queue) e = none_room limits who t (import_of_state i) (waiting_of w) (map waiting_of queue) (ap (map waiting_of) e)
      (full_is (nat_lt (length (map flight_of i.in_flight)) limits.flight) (not (front_waits t w.op (map flight_of i.in_flight)))
      (at_limit limits who t i one full))
waits_row limits who t i one (inr (inr (inl empty))) = none_waits limits who t (import_of_state i) (ap (map waiting_of) empty)
waits_row limits who t i one (inr (inr (inr blocked))) = by i.queue refl blocked where
  by : (queue : List Waiting) → i.queue ≡ queue → FrontWaits i queue → sends_to limits who t (import_of_state i) ≡ []
  by [] e waits = absurd waits
  by (w ∷ queue) e waits = none_room limits who t (import_of_state i) (waiting_of w) (map waiting_of queue) (ap (map waiting_of) e)
      (waiting_is (nat_lt (length (map flight_of i.in_flight)) limits.flight) (front_waits t w.op (map flight_of i.in_flight))
      (waits_is t i.target one.target i.in_flight w.op ∙ waits))

-- ---- as at a step of a loop that sends what there is

module _ (limits : Limits) (who : Who) (t : ℕ) (old new : Import) (m : Message) (front : SendsFront limits who t old new m) where
  -- what was sent is the rows' front
  pub front_is : front_sent who t old ≡ Flies t front.flight ∷ Send (Target t) m ∷ []
  front_is =
      ap (front_on who t old) front.waits
      ∙ ap (λ (f : Flight). flies who old.boot t f []) (sym front.next)
      ∙ ap (λ (e : Entry). Flies t front.flight ∷ e ∷ []) (sym front.sends)

  -- and then the rows send what the import sends after it
  pub front_first : sends_to limits who t old ≡ front_sent who t old ++ sends_to limits who t new
  front_first = front.rows ∙ ap (λ (es : List Entry). es ++ sends_to limits who t new) (sym front_is)

  -- the import after it
  pub front_shown : new ≡ import_turn old (front_sent who t old)
  front_shown = front.shows ∙ sym (ap (import_turn old) front_is)

  -- the import after all that is sent is the same from there
  pub front_left : import_turn new (sends_to limits who t new) ≡ import_turn old (sends_to limits who t old)
  front_left = ap (λ (i : Import). import_turn i (sends_to limits who t new)) front.shows ∙ sym (ap (import_turn old) front.rows)
