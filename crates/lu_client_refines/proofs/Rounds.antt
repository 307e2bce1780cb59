-- Rows that go from target to target, as a loop over the targets does them: one target, and then what is left.
use Rattle.std.proofs.Common.{◌≡◌, ℕ, zero, suc, ◌+◌, ◌<◌, ◌≤◌, ◌==◌, Bool, true, false, ◌&&◌, if◌then◌else◌, List, [], ◌∷◌, ◌++◌, length}
use Rattle.std.proofs.Common.{drop, Option, Some, None, refl, sym, ap, ◌∙◌, arith, add-one}
use Rattle.std.specs.Prelude.{slice_set}
use Rattle.std.proofs.lemmas.List.{drop_all}
use Rattle.lu_base.specs.declared.ids.At.{At}
use Rattle.lu_base.specs.declared.ids.Node.{Node}
use Rattle.lu_base.specs.declared.ids.Node.TheVariants.{Target}
use Rattle.lu_base.specs.declared.ids.Who.{Who}
use Rattle.lu_held.specs.declared.locks.HeldLock.{HeldLock}
use Rattle.lu_msg.specs.declared.answers.Answer.{Answer}
use Rattle.lu_msg.specs.declared.answers.Answer.TheVariants as answer
use Rattle.lu_msg.specs.declared.answers.Errno.TheVariants.{EIO}
use Rattle.lu_msg.specs.declared.messages.Message.{Message}
use Rattle.lu_msg.specs.declared.messages.Message.TheVariants as message
use Rattle.lu_spec_entries.specs.Carried.{Flight, Queued, Work, Stage, Waits, Running}
use Rattle.lu_spec_entries.specs.Words.{Entry, Flies, Send, Life, Told}
use Rattle.lu_spec_client.specs.Imports.{Import, Replay, Standing, Joining, Recovering, Serving, imports_from, import_of, is_serving}
use Rattle.lu_spec_client.specs.Calls.{reads_life, reads_call, reads_handles, call_on}
use Rattle.lu_spec_client.specs.Facts.{reads_facts}
use Rattle.lu_spec_client.specs.Recovery.{recovers, replays, lock_replays, word, joins, joins_all, on_call, on_calls, where_stage, ticks_at}
use Rattle.lu_spec_client.specs.Recovery.{ticks, held_of, ends_call, ends_calls}
use Rattle.lu_spec_client.specs.Sending.{resends, request_of, sends_request, has_room, next_flight, sends, sends_to, sends_all}
use Rattle.lu_spec_client.specs.States.{Client, Limits, after, turn, follow}
use Rattle.lu_client_refines.specs.Rounds.{sends_one, sends_left, ticks_one, ticks_left, joins_one, joins_left, wheres_one, wheres_left}
use Rattle.lu_client_refines.specs.Rounds.{ends_one, ends_left, is_send, all_sends}
use Rattle.lu_client_refines.specs.Sending.{SendsFront}
use Rattle.lu_client_refines.specs.Turns.{call_turn, calls_turn, import_turn, none_read, reads_store, reads_beside_calls, all_at, all_on}
use Rattle.lu_client_refines.proofs.Follow.{send_still}
use Rattle.lu_client_refines.proofs.Lists.{self, both_true, drop_past}
use Rattle.lu_client_refines.proofs.Slots.{calls_turn_at, call_told}
use Rattle.lu_client_refines.proofs.Targets.{imports_turn_at, import_of_set}
use Rattle.lu_client_refines.proofs.Turns.{turned, turned_imports, turned_calls, life_quiet, handles_quiet, calls_quiet, facts_quiet}
use Rattle.lu_client_refines.proofs.Turns.{store_quiet}

-- ---- lists from one place on

drop_first : (t : ℕ) (imports : List Import) → t < length imports → drop t imports ≡ import_of t imports ∷ drop (suc t) imports
drop_first t [] inside = absurd (omega arith)
drop_first zero (i ∷ imports) inside = refl
drop_first (suc t) (i ∷ imports) inside = drop_first t imports (omega arith)

-- ---- what is sent is read by imports alone

module _ (reads : Entry → Bool) (t : ℕ) (no_flight : (f : Flight) → reads (Flies t f) ≡ false)
    (no_send : (to : Node) (m : Message) → reads (Send to m) ≡ false) where
  sends_unread : (limits : Limits) (who : Who) (boot last : ℕ) (flights : List Flight) (queue : List Queued)
      → none_read reads (sends limits who boot t last flights queue) ≡ true
  sends_unread limits who boot last flights [] = refl
  sends_unread limits who boot last flights (q ∷ queue) = by (has_room limits t q.op flights)
      (sends_unread limits who boot (last + 1) (flights ++ flight ∷ []) queue) where
        flight : Flight
        flight = next_flight last flights q

        request : Message
        request = message.Request (request_of who boot flight)

        by : (room : Bool) → none_read reads (sends limits who boot t (last + 1) (flights ++ flight ∷ []) queue) ≡ true
            → none_read reads (if room then Flies t flight ∷ Send (Target t) request
            ∷ sends limits who boot t (last + 1) (flights ++ flight ∷ []) queue else []) ≡ true
        by true rest = rw (no_flight flight, no_send (Target t) request) rest
        by false rest = refl

  sends_to_unread : (limits : Limits) (who : Who) (i : Import) → none_read reads (sends_to limits who t i) ≡ true
  sends_to_unread limits who i = by (is_serving i.standing) (sends_unread limits who i.boot i.last i.flights i.queue) where
    by : (serving : Bool) → none_read reads (sends limits who i.boot t i.last i.flights i.queue) ≡ true
        → none_read reads (if serving then sends limits who i.boot t i.last i.flights i.queue else []) ≡ true
    by true rest = rest
    by false rest = refl

sends_at : (limits : Limits) (who : Who) (boot t last : ℕ) (flights : List Flight) (queue : List Queued)
    → all_at t (sends limits who boot t last flights queue) ≡ true
sends_at limits who boot t last flights [] = refl
sends_at limits who boot t last flights (q ∷ queue) = by (has_room limits t q.op flights)
    (sends_at limits who boot t (last + 1) (flights ++ flight ∷ []) queue) where
      flight : Flight
      flight = next_flight last flights q

      by : (room : Bool) → all_at t (sends limits who boot t (last + 1) (flights ++ flight ∷ []) queue) ≡ true
          → all_at t (if room then Flies t flight ∷ sends_request who boot t flight
          ∷ sends limits who boot t (last + 1) (flights ++ flight ∷ []) queue else []) ≡ true
      by true rest = rw (self t) rest
      by false rest = refl

sends_to_at : (limits : Limits) (who : Who) (t : ℕ) (i : Import) → all_at t (sends_to limits who t i) ≡ true
sends_to_at limits who t i = by (is_serving i.standing) (sends_at limits who i.boot t i.last i.flights i.queue) where
  by : (serving : Bool) → all_at t (sends limits who i.boot t i.last i.flights i.queue) ≡ true
      → all_at t (if serving then sends limits who i.boot t i.last i.flights i.queue else []) ≡ true
  by true rest = rest
  by false rest = refl

-- what is sent to one target changes its import alone
pub sent_turn : (limits : Limits) (t : ℕ) (k : Client) → t < length k.imports → turn k (sends_one limits t k)
    ≡ record k { imports = slice_set k.imports t (import_turn (import_of t k.imports) (sends_one limits t k)) }
sent_turn limits t k inside =
    let es : List Entry = sends_to limits k.who t (import_of t k.imports) in
    sym (turned k (record k { imports = slice_set k.imports t (import_turn (import_of t k.imports) es) }) es
    (sym (life_quiet k.who es (sends_to_unread reads_life t (λ f. refl) (λ to m. refl) limits k.who (import_of t k.imports))))
    (sym (handles_quiet k.handles es (sends_to_unread reads_handles t (λ f. refl) (λ to m. refl) limits k.who (import_of t k.imports))))
    (sym (calls_quiet k.calls es (sends_to_unread reads_call t (λ f. refl) (λ to m. refl) limits k.who (import_of t k.imports))))
    (sym (imports_turn_at t k.imports es inside (sends_to_at limits k.who t (import_of t k.imports))))
    (sym (facts_quiet k.facts es (sends_to_unread reads_facts t (λ f. refl) (λ to m. refl) limits k.who (import_of t k.imports))))
    (sym (store_quiet k.store es (sends_to_unread reads_store t (λ f. refl) (λ to m. refl) limits k.who (import_of t k.imports)))))

-- one target, and then what is left
pub sends_step : (limits : Limits) (t : ℕ) (k : Client) → t < length k.imports → sends_left limits t k
    ≡ follow (sends_one limits t k) (sends_left limits (t + 1)) k
sends_step limits t k inside =
    let es : List Entry = sends_one limits t k in
    let next : Import = import_turn (import_of t k.imports) es in
    let left : drop (t + 1) (slice_set k.imports t next) ≡ drop (suc t) k.imports =
    ap (λ (n : ℕ). drop n (slice_set k.imports t next)) (add-one t) ∙ drop_past t k.imports next in
    ap (sends_all limits k.who t) (drop_first t k.imports inside)
    ∙ ap (λ (is : List Import). es ++ sends_all limits k.who (t + 1) is) (sym left)
    ∙ ap (λ (j : Client). es ++ sends_left limits (t + 1) j) (sym (sent_turn limits t k inside))

-- the front of one target's queue was sent
module _ (limits : Limits) (t : ℕ) (k : Client) (new : Import) (m : Message) (inside : t < length k.imports)
    (front : SendsFront limits k.who t (import_of t k.imports) new m) where
  -- the client after it
  pub front_turn : record k { imports = slice_set k.imports t new } ≡ turn k (Flies t front.flight ∷ Send (Target t) m ∷ [])
  front_turn =
      let es : List Entry = Flies t front.flight ∷ Send (Target t) m ∷ [] in
      let all : all_at t es ≡ true = rw (self t) refl in
      turned_imports k (slice_set k.imports t new) es refl (ap (slice_set k.imports t) front.shows
      ∙ sym (imports_turn_at t k.imports es inside all))

  -- what is left to send to that target
  pub front_left_one : sends_one limits t k ≡ follow (Flies t front.flight ∷ Send (Target t) m ∷ []) (sends_one limits t) k
  front_left_one =
      let es : List Entry = Flies t front.flight ∷ Send (Target t) m ∷ [] in
      front.rows
      ∙ ap (λ (i : Import). es ++ sends_to limits k.who t i) (sym (import_of_set t k.imports new inside))
      ∙ ap (λ (j : Client). es ++ sends_one limits t j) front_turn

-- past the last target nothing is left
pub sends_done : (limits : Limits) (t : ℕ) (k : Client) → length k.imports ≤ t → sends_left limits t k ≡ []
sends_done limits t k most = ap (sends_all limits k.who t) (drop_all t k.imports most)

-- all of them
pub sends_whole : (limits : Limits) (k : Client) → sends_left limits 0 k ≡ sends_all limits k.who 0 k.imports
sends_whole limits k = refl

-- ---- messages alone

-- messages alone change nothing of a client
pub sends_still : (k : Client) (es : List Entry) → all_sends es ≡ true → turn k es ≡ k
sends_still k [] all = refl
sends_still k (e ∷ es) all = by e all (λ h. sends_still k es h) where
  by : (e : Entry) → (is_send e && all_sends es) ≡ true → (all_sends es ≡ true → turn k es ≡ k) → turn k (e ∷ es) ≡ k
  by (Send to m) all rest = ap (λ (j : Client). turn j es) (send_still k to m) ∙ rest all
  by e all rest = absurd (cc)

-- two lists, one after the other
pub all_sends_more : (es fs : List Entry) → all_sends es ≡ true → all_sends fs ≡ true → all_sends (es ++ fs) ≡ true
all_sends_more [] fs one two = two
all_sends_more (e ∷ es) fs one two =
    let h : (is_send e ≡ true) × (all_sends es ≡ true) = both_true (is_send e) (all_sends es) one in
    rw h.0 (all_sends_more es fs h.1 two)

resends_sends : (who : Who) (boot t : ℕ) (flights : List Flight) → all_sends (resends who boot t flights) ≡ true
resends_sends who boot t [] = refl
resends_sends who boot t (f ∷ flights) = resends_sends who boot t flights

replays_sends : (who : Who) (boot t : ℕ) (rs : List Replay) → all_sends (replays who boot t rs) ≡ true
replays_sends who boot t [] = refl
replays_sends who boot t (r ∷ rs) = replays_sends who boot t rs

locks_sends : (who : Who) (boot t : ℕ) (held : List HeldLock) → all_sends (lock_replays who boot t held) ≡ true
locks_sends who boot t [] = refl
locks_sends who boot t (h ∷ held) = locks_sends who boot t held

recovers_sends : (t : ℕ) (k : Client) (i : Import) → all_sends (recovers t k i) ≡ true
recovers_sends t k i =
    all_sends_more (replays k.who i.boot t i.kept.replays ++ lock_replays k.who i.boot t (held_of t k.store.held))
    (word k.who i.boot t (length i.kept.replays) (length (held_of t k.store.held)) i.kept.seen ∷ [])
    (all_sends_more (replays k.who i.boot t i.kept.replays) (lock_replays k.who i.boot t (held_of t k.store.held))
    (replays_sends k.who i.boot t i.kept.replays) (locks_sends k.who i.boot t (held_of t k.store.held)))
    refl

where_sends : (who : Who) (boot t slot : ℕ) (r : Running) (stage : Stage) → all_sends (where_stage who boot t slot r stage) ≡ true
where_sends who boot t slot r (Waits w target l marked) = by (target.0 == t) where
  by : (here : Bool) → all_sends (if here then Send (Target t) (message.Where who boot l.cookie) ∷ [] else []) ≡ true
  by true = refl
  by false = refl
where_sends who boot t slot r _ = refl

where_call : (who : Who) (boot t slot : ℕ) (call : Option Running) → all_sends (on_call (where_stage who boot t) slot call) ≡ true
where_call who boot t slot None = refl
where_call who boot t slot (Some r) = where_sends who boot t slot r r.stage

where_calls : (who : Who) (boot t slot : ℕ) (calls : List (Option Running)) → all_sends (on_calls (where_stage who boot t) slot calls)
    ≡ true
where_calls who boot t slot [] = refl
where_calls who boot t slot (call ∷ calls) =
    all_sends_more (on_call (where_stage who boot t) slot call) (on_calls (where_stage who boot t) (slot + 1) calls)
    (where_call who boot t slot call) (where_calls who boot t (slot + 1) calls)

-- ---- a tick

ticks_at_sends : (t : ℕ) (k : Client) (i : Import) (standing : Standing) → all_sends (ticks_at t k i standing) ≡ true
ticks_at_sends t k i Serving = all_sends_more (resends k.who i.boot t i.flights) (on_calls (where_stage k.who i.boot t) 0 k.calls)
    (resends_sends k.who i.boot t i.flights) (where_calls k.who i.boot t 0 k.calls)
ticks_at_sends t k i Recovering = recovers_sends t k i
ticks_at_sends t k i Joining = refl

-- it changes nothing of a client
pub tick_still : (t : ℕ) (k : Client) → turn k (ticks_one t k) ≡ k
tick_still t k = sends_still k (ticks_one t k) (ticks_at_sends t k (import_of t k.imports) (import_of t k.imports).standing)

-- one target, and then what is left
pub ticks_step : (t : ℕ) (k : Client) → t < length k.imports → ticks_left t k ≡ follow (ticks_one t k) (ticks_left (t + 1)) k
ticks_step t k inside =
    ap (λ (is : List Import). ticks t is k) (drop_first t k.imports inside)
    ∙ ap (λ (n : ℕ). ticks_one t k ++ ticks (t + 1) (drop n k.imports) k) (sym (add-one t))
    ∙ ap (λ (j : Client). ticks_one t k ++ ticks_left (t + 1) j) (sym (tick_still t k))

-- past the last target nothing is left
pub ticks_done : (t : ℕ) (k : Client) → length k.imports ≤ t → ticks_left t k ≡ []
ticks_done t k most = ap (λ (is : List Import). ticks t is k) (drop_all t k.imports most)

-- ---- a new life joins

-- to join changes nothing of a client
pub join_still : (t : ℕ) (k : Client) → turn k (joins_one t k) ≡ k
join_still t k = sends_still k (joins_one t k) refl

-- one target, and then what is left
pub joins_step : (t : ℕ) (k : Client) → t < length k.imports → joins_left t k ≡ follow (joins_one t k) (joins_left (t + 1)) k
joins_step t k inside =
    ap (joins_all k.who t) (drop_first t k.imports inside)
    ∙ ap (λ (n : ℕ). joins_one t k ++ joins_all k.who (t + 1) (drop n k.imports)) (sym (add-one t))
    ∙ ap (λ (j : Client). joins_one t k ++ joins_left (t + 1) j) (sym (join_still t k))

-- past the last target nothing is left
pub joins_done : (t : ℕ) (k : Client) → length k.imports ≤ t → joins_left t k ≡ []
joins_done t k most = ap (joins_all k.who t) (drop_all t k.imports most)

boots_stay : (who next : Who) (t n : ℕ) (imports : List Import) → joins_all who t imports
    ≡ joins_all who t (imports_from n imports (Life next))
boots_stay who next t n [] = refl
boots_stay who next t n (i ∷ imports) = ap (λ (es : List Entry). joins who i.boot t ∷ es) (boots_stay who next (t + 1) (suc n) imports)

-- all of them, once the life has begun: the notice teaches no boot
pub joins_whole : (next : Who) (k : Client) → joins_all next 0 k.imports ≡ joins_left 0 (after k (Life next))
joins_whole next k = boots_stay next next 0 0 k.imports

-- ---- from slot to slot

drop_call : (slot : ℕ) (calls : List (Option Running)) → slot < length calls → drop slot calls ≡ call_on slot calls ∷ drop (suc slot) calls
drop_call slot [] inside = absurd (omega arith)
drop_call zero (call ∷ calls) inside = refl
drop_call (suc slot) (call ∷ calls) inside = drop_call slot calls (omega arith)

-- where locks are that calls wait for: one slot, and then what is left
pub wheres_step : (t slot : ℕ) (k : Client) → slot < length k.calls → wheres_left t slot k
    ≡ follow (wheres_one t slot k) (wheres_left t (slot + 1)) k
wheres_step t slot k inside =
    let boot : ℕ = (import_of t k.imports).boot in
    ap (on_calls (where_stage k.who boot t) slot) (drop_call slot k.calls inside)
    ∙ ap (λ (n : ℕ). wheres_one t slot k ++ on_calls (where_stage k.who boot t) (slot + 1) (drop n k.calls)) (sym (add-one slot))
    ∙ ap (λ (j : Client). wheres_one t slot k ++ wheres_left t (slot + 1) j)
    (sym (sends_still k (wheres_one t slot k) (where_call k.who boot t slot (call_on slot k.calls))))

-- past the last slot nothing is left
pub wheres_done : (t slot : ℕ) (k : Client) → length k.calls ≤ slot → wheres_left t slot k ≡ []
wheres_done t slot k most = ap (on_calls (where_stage k.who (import_of t k.imports).boot t) slot) (drop_all slot k.calls most)

ends_own : (at : At) (slot : ℕ) (call : Option Running) → all_on slot (ends_call at slot call) ≡ true
ends_own at slot None = refl
ends_own at slot (Some r) = rw (self slot) refl

ends_unread : (reads : Entry → Bool) → ((s : ℕ) (at : At) (answer : Answer) (work : Option Work) → reads (Told s at answer work) ≡ false)
    → (at : At) (slot : ℕ) (call : Option Running) → none_read reads (ends_call at slot call) ≡ true
ends_unread reads none at slot None = refl
ends_unread reads none at slot (Some r) = rw (none slot at (answer.Refused EIO) None) refl

ends_calls_turn : (at : At) (slot : ℕ) (calls : List (Option Running)) → slot < length calls
    → calls_turn calls (ends_call at slot (call_on slot calls)) ≡ slice_set calls slot None
ends_calls_turn at slot calls inside =
    calls_turn_at slot calls (ends_call at slot (call_on slot calls)) inside (ends_own at slot (call_on slot calls))
    ∙ ap (slice_set calls slot) (by (call_on slot calls))
  where
    by : (call : Option Running) → call_turn slot call (ends_call at slot call) ≡ None
    by None = refl
    by (Some r) = call_told slot (Some r) at (answer.Refused EIO) None

-- an evicted life's call on one slot ends
pub ended_turn : (at : At) (slot : ℕ) (k : Client) → slot < length k.calls → record k { calls = slice_set k.calls slot None }
    ≡ turn k (ends_one at slot k)
ended_turn at slot k inside = turned_calls k (slice_set k.calls slot None) (ends_one at slot k)
    (ends_unread reads_beside_calls (λ s at a w. refl) at slot (call_on slot k.calls)) (sym (ends_calls_turn at slot k.calls inside))

-- one slot, and then what is left
pub ends_step : (at : At) (slot : ℕ) (k : Client) → slot < length k.calls → ends_left at slot k
    ≡ follow (ends_one at slot k) (ends_left at (slot + 1)) k
ends_step at slot k inside =
    let left : drop (slot + 1) (slice_set k.calls slot None) ≡ drop (suc slot) k.calls =
    ap (λ (n : ℕ). drop n (slice_set k.calls slot None)) (add-one slot) ∙ drop_past slot k.calls None in
    ap (ends_calls at slot) (drop_call slot k.calls inside)
    ∙ ap (λ (calls : List (Option Running)). ends_one at slot k ++ ends_calls at (slot + 1) calls) (sym left)
    ∙ ap (λ (j : Client). ends_one at slot k ++ ends_left at (slot + 1) j) (ended_turn at slot k inside)

-- past the last slot nothing is left
pub ends_done : (at : At) (slot : ℕ) (k : Client) → length k.calls ≤ slot → ends_left at slot k ≡ []
ends_done at slot k most = ap (ends_calls at slot) (drop_all slot k.calls most)
