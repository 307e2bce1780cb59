-- Which entries ask a target nothing more: all but those that send a request first.
use Rattle.std.proofs.Common.{◌≡◌, ℕ, zero, suc, ◌+◌, ◌≤◌, ◌==◌, nat_lt, Bool, true, false, ◌&&◌, if◌then◌else◌, List, [], ◌∷◌, ◌++◌, drop}
use Rattle.std.proofs.Common.{filter, reverse, Option, Some, None, refl, sym, ap, subst, ◌∙◌, arith}
use Rattle.lu_base.specs.declared.ids.At.{At}
use Rattle.lu_base.specs.declared.ids.Cookie.{Cookie}
use Rattle.lu_base.specs.declared.ids.Node.TheVariants.{Target}
use Rattle.lu_base.specs.declared.ids.Who.{Who}
use Rattle.lu_base.specs.declared.locks.Lock.{Lock}
use Rattle.lu_base.specs.declared.locks.Policy.{Policy}
use Rattle.lu_base.specs.declared.locks.Policy.TheVariants.{Range}
use Rattle.lu_base.specs.declared.locks.Resource.{Resource}
use Rattle.lu_held.specs.declared.locks.HeldLock.{HeldLock}
use Rattle.lu_held.specs.declared.names.LockName.{LockName}
use Rattle.lu_held.specs.Locks.{named, is_free}
use Rattle.lu_held.specs.Held.{in_order, is_held}
use Rattle.lu_spec_machine.specs.Fits.{answer_fits}
use Rattle.lu_msg.specs.declared.answers.Answer.{Answer}
use Rattle.lu_msg.specs.declared.answers.Answer.TheVariants as answer
use Rattle.lu_msg.specs.declared.calls.Call.{Call}
use Rattle.lu_msg.specs.declared.calls.Call.TheVariants as call
use Rattle.lu_msg.specs.declared.messages.GrantNotice.{GrantNotice}
use Rattle.lu_msg.specs.declared.messages.Message.{Message}
use Rattle.lu_msg.specs.declared.messages.Message.TheVariants as message
use Rattle.lu_msg.specs.declared.messages.Reply.{Reply as ReplyTo}
use Rattle.lu_msg.specs.declared.operations.Op.{Op}
use Rattle.lu_msg.specs.declared.operations.Op.TheVariants as op
use Rattle.lu_held.specs.declared.locks.Use.{Use}
use Rattle.lu_spec_entries.specs.declared.changes.Flush.{Flush}
use Rattle.lu_spec_entries.specs.Carried.{HandleFile, Flight, Work, Stage, Enqueued, Waits, Gets, Running}
use Rattle.lu_spec_entries.specs.Words.{Entry, Heard, Drop, Flies, Knows, Life, Send}
use Rattle.lu_spec_entries.specs.Concerns.{is_about}
use Rattle.lu_spec_client.specs.Calls.{call_on}
use Rattle.lu_spec_client.specs.Caches.{brought, patch_at}
use Rattle.lu_spec_client.specs.Imports.{Import, Replay, Kept, Standing, Joining, Recovering, Serving, last_after, import_after}
use Rattle.lu_spec_client.specs.Imports.{imports_from, imports_after, import_of, is_serving}
use Rattle.lu_spec_client.specs.Locks as locks
use Rattle.lu_spec_client.specs.Messages as heard
use Rattle.lu_spec_client.specs.Patches.{Patch, in_flight}
use Rattle.lu_spec_client.specs.Recovery as again
use Rattle.lu_spec_client.specs.Sending.{resends}
use Rattle.lu_spec_client.specs.Slots.{begins, begins_on, begins_open, begins_close}
use Rattle.lu_spec_client.specs.States.{Client, Limits, after, turn}
use Rattle.lu_spec_client.specs.WriteBack.{flush_under}
use Rattle.lu_trace.specs.Turns.{Making}
use Rattle.lu_client_refines.specs.Turns.{imports_turn, none_read}
use Rattle.lu_client_refines.proofs.Slots.{calls_unread, forgets_unread, looks_unread}
use Rattle.lu_client_refines.proofs.Turns.{turns, none_left, none_more}
use Rattle.lu_client.specs.Clients.{ClientState, AsksNoMore, Makes}

-- ---- one entry

-- a request is sent for the first time
abbrev pub is_flight : Entry → Bool
is_flight (Flies target flight) = true
is_flight _ = false

last_stays : (n : ℕ) (e : Entry) → is_flight e ≡ false → last_after n e ≤ n
last_stays n (Flies target flight) none = absurd (cc)
last_stays n (Life who) none = omega arith
last_stays n _ none = omega arith

stays_from : (n u : ℕ) (imports : List Import) (e : Entry) → is_flight e ≡ false
    → (import_of u (imports_from n imports e)).last ≤ (import_of u imports).last
stays_from n u [] e none = omega arith
stays_from n zero (i ∷ imports) e none = by (is_about n e) where
  by : (here : Bool) → (if here then import_after i e else i).last ≤ i.last
  by true = last_stays i.last e none
  by false = omega arith
stays_from n (suc u) (i ∷ imports) e none = stays_from (suc n) u imports e none

-- ---- entries

asks_on : (t : ℕ) (imports : List Import) (es : List Entry) → none_read is_flight es ≡ true
    → (import_of t (imports_turn imports es)).last ≤ (import_of t imports).last
asks_on t imports [] none = omega arith
asks_on t imports (e ∷ es) none =
    let h : (is_flight e ≡ false) × (none_read is_flight es ≡ true) = none_left (is_flight e) (none_read is_flight es) none in
    let here : (import_of t (imports_after imports e)).last ≤ (import_of t imports).last = stays_from 0 t imports e h.0 in
    let rest : (import_of t (imports_turn (imports_after imports e) es)).last ≤ (import_of t (imports_after imports e)).last =
    asks_on t (imports_after imports e) es h.1 in
    omega arith

pub asks_none : (imports : List Import) (es : List Entry) → none_read is_flight es ≡ true → AsksNoMore imports (imports_turn imports es)
asks_none imports es none = record { last = λ t. asks_on t imports es none }

-- a part of a turn with such entries alone
pub makes_asks : {row : Client → List Entry} {old new : ClientState} {before after : Making} → Makes row old new before after
    → none_read is_flight (row old.client) ≡ true → AsksNoMore old.client.imports new.client.imports
makes_asks {row = row} {old = old} {new = new} makes none =
    let shown : new.client.imports ≡ imports_turn old.client.imports (row old.client) =
    ap (λ (k : Client). k.imports) (makes.goes.shows ∙ turns old.client (row old.client)) in
    subst (AsksNoMore old.client.imports) (sym shown) (asks_none old.client.imports (row old.client) none)

pub asks_then : {one two three : List Import} → AsksNoMore one two → AsksNoMore two three → AsksNoMore one three
asks_then {one = one} {two = two} {three = three} first next =
    record {
      last = λ t.
          let a : (import_of t two).last ≤ (import_of t one).last = first.last t in
          let b : (import_of t three).last ≤ (import_of t two).last = next.last t in
          omega arith;
    }

pub asks_nothing : (imports : List Import) → AsksNoMore imports imports
asks_nothing imports = record { last = λ t. omega arith }

-- ---- a call begins

begins_on_unasked : (at : At) (slot : ℕ) (c : Call) (f : Option HandleFile) → none_read is_flight (begins_on at slot c f) ≡ true
begins_on_unasked at slot c None = refl
begins_on_unasked at slot c (Some f) = refl

begins_open_unasked : (at : At) (slot : ℕ) (c : Call) (bad : Bool) → none_read is_flight (begins_open at slot c bad) ≡ true
begins_open_unasked at slot c true = refl
begins_open_unasked at slot c false = refl

begins_close_unasked : (at : At) (slot h : ℕ) (f : Option HandleFile) → none_read is_flight (begins_close at slot h f) ≡ true
begins_close_unasked at slot h None = refl
begins_close_unasked at slot h (Some f) = refl

pub begins_unasked : (at : At) (slot : ℕ) (c : Call) (k : Client) → none_read is_flight (begins at slot c k) ≡ true
begins_unasked at slot (call.Open h path) k = begins_open_unasked at slot (call.Open h path) _
begins_unasked at slot (call.Close h) k = begins_close_unasked at slot h _
begins_unasked at slot (call.Read h p n) k = begins_on_unasked at slot (call.Read h p n) _
begins_unasked at slot (call.Write h p bs) k = begins_on_unasked at slot (call.Write h p bs) _
begins_unasked at slot (call.Cut h n) k = begins_on_unasked at slot (call.Cut h n) _
begins_unasked at slot (call.Flush h) k = begins_on_unasked at slot (call.Flush h) _
begins_unasked at slot (call.Glimpse h) k = begins_on_unasked at slot (call.Glimpse h) _
begins_unasked at slot _ k = refl

-- ---- the held locks

marks_unasked : (held : List HeldLock) → none_read is_flight (locks.marks_of held) ≡ true
marks_unasked [] = refl
marks_unasked (h ∷ held) = marks_unasked held

pub trims_unasked : (limits : Limits) (k : Client) → none_read is_flight (locks.trims limits k) ≡ true
trims_unasked limits k = marks_unasked (reverse (drop limits.unused (filter is_free k.store.held)))

writes_next_unasked : (h : HeldLock) (flush : Option Flush) → none_read is_flight (locks.writes_next h flush) ≡ true
writes_next_unasked h None = refl
writes_next_unasked h (Some flush) = refl

writes_unasked : (h : HeldLock) (p : Patch) → none_read is_flight (locks.writes_under h p) ≡ true
writes_unasked h p = by (in_flight p) where
  by : (busy : Bool) → none_read is_flight (if busy then [] else locks.writes_next h (flush_under p h.lock.ask.mode h.lock.ask.policy))
      ≡ true
  by true = refl
  by false = writes_next_unasked h (flush_under p h.lock.ask.mode h.lock.ask.policy)

gives_up_unasked : (who : Who) (h : HeldLock) (i : Import) → none_read is_flight (locks.gives_up who h i) ≡ true
gives_up_unasked who h i = by (locks.is_called h && is_serving i.standing) where
  by : (goes : Bool) → none_read is_flight (if goes then Drop h.target.0 h.lock
      ∷ Send (Target h.target.0) (message.Cancel who i.boot h.lock.cookie) ∷ [] else []) ≡ true
  by true = refl
  by false = refl

visits_unasked : (over : Bool) (h : HeldLock) (k : Client) → none_read is_flight (locks.visits over h k) ≡ true
visits_unasked over h k = by (locks.must_write over h h.lock.ask.mode h.lock.ask.policy (patch_at h.lock.resource k.store.patches)) where
  by : (must : Bool) → none_read is_flight (if must then locks.writes_under h (patch_at h.lock.resource k.store.patches)
      else locks.gives_up k.who h (import_of h.target.0 k.imports)) ≡ true
  by true = writes_unasked h (patch_at h.lock.resource k.store.patches)
  by false = gives_up_unasked k.who h (import_of h.target.0 k.imports)

visits_all_unasked : (over : Bool) (held : List HeldLock) (k : Client) → none_read is_flight (locks.visits_all over held k) ≡ true
visits_all_unasked over [] k = refl
visits_all_unasked over (h ∷ held) k =
    none_more is_flight (locks.visits over h k) (locks.visits_all over held (turn k (locks.visits over h k))) (visits_unasked over h k)
    (visits_all_unasked over held (turn k (locks.visits over h k)))

pub locks_unasked : (limits : Limits) (k : Client) → none_read is_flight (locks.locks_go limits k) ≡ true
locks_unasked limits k = visits_all_unasked (nat_lt limits.dirty (locks.dirty_total k.store.patches)) (in_order k.store.held) k

-- ---- what is told again

resends_unasked : (who : Who) (boot t : ℕ) (flights : List Flight) → none_read is_flight (resends who boot t flights) ≡ true
resends_unasked who boot t [] = refl
resends_unasked who boot t (f ∷ flights) = resends_unasked who boot t flights

replays_unasked : (who : Who) (boot t : ℕ) (rs : List Replay) → none_read is_flight (again.replays who boot t rs) ≡ true
replays_unasked who boot t [] = refl
replays_unasked who boot t (r ∷ rs) = replays_unasked who boot t rs

lock_replays_unasked : (who : Who) (boot t : ℕ) (held : List HeldLock) → none_read is_flight (again.lock_replays who boot t held) ≡ true
lock_replays_unasked who boot t [] = refl
lock_replays_unasked who boot t (h ∷ held) = lock_replays_unasked who boot t held

tells_unasked : (who : Who) (boot t : ℕ) (kept : Kept) (held : List HeldLock) → none_read is_flight (again.tells_all who boot t kept held)
    ≡ true
tells_unasked who boot t kept held =
    none_more is_flight (again.replays who boot t kept.replays ++ again.lock_replays who boot t held) _
    (none_more is_flight (again.replays who boot t kept.replays) (again.lock_replays who boot t held)
    (replays_unasked who boot t kept.replays) (lock_replays_unasked who boot t held)) refl

where_unasked : (who : Who) (boot t slot : ℕ) (r : Running) (stage : Stage)
    → none_read is_flight (again.where_stage who boot t slot r stage) ≡ true
where_unasked who boot t slot r (Waits w target l marked) = by (target.0 == t) where
  by : (here : Bool) → none_read is_flight (if here then Send (Target t) (message.Where who boot l.cookie) ∷ [] else []) ≡ true
  by true = refl
  by false = refl
where_unasked who boot t slot r _ = refl

ticks_at_unasked : (t : ℕ) (k : Client) (i : Import) (s : Standing) → none_read is_flight (again.ticks_at t k i s) ≡ true
ticks_at_unasked t k i Serving =
    none_more is_flight (resends k.who i.boot t i.flights) _ (resends_unasked k.who i.boot t i.flights)
    (calls_unread is_flight (again.where_stage k.who i.boot t) (λ slot r. where_unasked k.who i.boot t slot r r.stage) 0 k.calls)
ticks_at_unasked t k i Recovering = tells_unasked k.who i.boot t i.kept (again.held_of t k.store.held)
ticks_at_unasked t k i Joining = refl

pub ticks_unasked : (t : ℕ) (imports : List Import) (k : Client) → none_read is_flight (again.ticks t imports k) ≡ true
ticks_unasked t [] k = refl
ticks_unasked t (i ∷ imports) k =
    none_more is_flight (again.ticks_at t k i i.standing) (again.ticks (t + 1) imports k) (ticks_at_unasked t k i i.standing)
    (ticks_unasked (t + 1) imports k)

-- ---- what a message brings about

on_slot_unasked : (stands : ℕ → Running → Stage → List Entry) → ((slot : ℕ) (r : Running) (stage : Stage)
    → none_read is_flight (stands slot r stage) ≡ true) → (slot : Option ℕ) (k : Client) → none_read is_flight (heard.on_slot stands slot k)
    ≡ true
on_slot_unasked stands none None k = refl
on_slot_unasked stands none (Some slot) k = by (call_on slot k.calls) where
  by : (call : Option Running) → none_read is_flight (heard.on_running stands slot call) ≡ true
  by None = refl
  by (Some r) = none slot r r.stage

lock_heard_unasked : (who : Who) (slot : ℕ) (r : Running) (w : Work) (a : Answer) (ls : List Lock) (wants : List Use)
    → none_read is_flight (heard.lock_heard who slot r w a ls wants) ≡ true
lock_heard_unasked who slot r w a (l ∷ ls) wants = refl
lock_heard_unasked who slot r w (answer.Waiting cookie) [] (wanted ∷ left) = refl
lock_heard_unasked who slot r w _ [] _ = refl

enqueue_unasked : (who : Who) (a : Answer) (ls : List Lock) (slot : ℕ) (r : Running) (stage : Stage)
    → none_read is_flight (heard.enqueue_heard who a ls slot r stage) ≡ true
enqueue_unasked who a ls slot r (Enqueued w) = lock_heard_unasked who slot r w a ls w.left
enqueue_unasked who a ls slot r _ = refl

looks_again_unasked : (slot : ℕ) (r : Running) (stage : Stage) → none_read is_flight (heard.looks_again slot r stage) ≡ true
looks_again_unasked slot r (Gets w) = refl
looks_again_unasked slot r _ = refl

shows_unasked : (resource : Resource) (cookie : Cookie) (page : ℕ) (bs : List ℕ) → none_read is_flight (heard.shows resource cookie page bs)
    ≡ true
shows_unasked resource cookie page [] = refl
shows_unasked resource cookie page (b ∷ bs) = refl

page_under_unasked : (resource : Resource) (cookie : Cookie) (page : ℕ) (bs : List ℕ) (policy : Policy)
    → none_read is_flight (heard.page_under resource cookie page bs policy) ≡ true
page_under_unasked resource cookie page bs (Range extent) = none_more is_flight (heard.shows resource cookie page bs) _
    (shows_unasked resource cookie page bs) refl
page_under_unasked resource cookie page bs _ = refl

page_unasked : (resource : Resource) (cookie : Cookie) (page : ℕ) (bs : List ℕ) (l : Option Lock)
    → none_read is_flight (heard.page_heard resource cookie page bs l) ≡ true
page_unasked resource cookie page bs None = refl
page_unasked resource cookie page bs (Some l) = page_under_unasked resource cookie page bs l.ask.policy

heeds_unasked : (t : ℕ) (f : Flight) (o : Op) (r : ReplyTo) (a : Answer) (k : Client) → none_read is_flight (heard.heeds t f o r a k) ≡ true
heeds_unasked t f (op.Enqueue resource mode extent) r a k = on_slot_unasked (heard.enqueue_heard k.who a (brought f.op r))
    (enqueue_unasked k.who a (brought f.op r)) f.slot k
heeds_unasked t f (op.Get resource cookie page) r (answer.Content bs) k =
    none_more is_flight (heard.page_heard resource cookie page bs (heard.held_as (named (record { 0 = t }) cookie) k.store.held)) _
    (page_unasked resource cookie page bs _)
    (on_slot_unasked heard.looks_again looks_again_unasked f.slot k)
heeds_unasked t f (op.Put resource cookie at bs) r answer.Done k = refl
heeds_unasked t f (op.Cut resource cookie n) r answer.Done k = refl
heeds_unasked t f _ r _ k = refl

holds_unasked : (t : ℕ) (size : Option ℕ) (seen : List ℕ) (ls : List Lock) → none_read is_flight (heard.holds t size seen ls) ≡ true
holds_unasked t size seen [] = refl
holds_unasked t size seen (l ∷ ls) = holds_unasked t size seen ls

learns_unasked : (t : ℕ) (o : Op) (a : Answer) (ls : List Lock) → none_read is_flight (heard.learns t o a ls) ≡ true
learns_unasked t o a [] = refl
learns_unasked t o a (l ∷ ls) = refl

hears_unasked : (t : ℕ) (r : ReplyTo) (k : Client) (f : Option Flight) → none_read is_flight (heard.hears t r k f) ≡ true
hears_unasked t r k None = refl
hears_unasked t r k (Some f) = by (answer_fits f.op r.answer) where
  by : (fits : Bool) → none_read is_flight (heard.hears_fitting t r f k fits) ≡ true
  by true =
      none_more is_flight (Heard t f r ∷ heard.holds t (heard.size_with r.answer) r.seen (brought f.op r)
      ++ heard.learns t f.op r.answer r.locks) _
      (none_more is_flight (heard.holds t (heard.size_with r.answer) r.seen (brought f.op r)) _
      (holds_unasked t (heard.size_with r.answer) r.seen (brought f.op r)) (learns_unasked t f.op r.answer r.locks))
      (heeds_unasked t f f.op r r.answer _)
  by false = refl

replied_unasked : (t : ℕ) (r : ReplyTo) (k : Client) (present : Bool) → none_read is_flight (heard.replied t r k present) ≡ true
replied_unasked t r k true = hears_unasked t r k _
replied_unasked t r k false = refl

lock_granted_unasked : (t : ℕ) (g : GrantNotice) (slot : ℕ) (r : Running) (stage : Stage)
    → none_read is_flight (heard.lock_granted t g slot r stage) ≡ true
lock_granted_unasked t g slot r (Waits w target l marked) = refl
lock_granted_unasked t g slot r _ = refl

granted_unasked : (t : ℕ) (g : GrantNotice) (k : Client) (present : Bool) → none_read is_flight (heard.granted t g k present) ≡ true
granted_unasked t g k true = on_slot_unasked (heard.lock_granted t g) (lock_granted_unasked t g) _ k
granted_unasked t g k false = refl

lock_blocked_unasked : (slot : ℕ) (r : Running) (stage : Stage) → none_read is_flight (heard.lock_blocked slot r stage) ≡ true
lock_blocked_unasked slot r (Waits w target l marked) = refl
lock_blocked_unasked slot r _ = refl

cancels_unasked : (who : Who) (name : LockName) (boot : ℕ) (flights : List Flight)
    → none_read is_flight (heard.cancels_unknown who name boot flights) ≡ true
cancels_unasked who name boot [] = refl
cancels_unasked who name boot (f ∷ flights) = refl

waiting_unasked : (name : LockName) (k : Client) (slot : Option ℕ) → none_read is_flight (heard.blocked_waiting name k slot) ≡ true
waiting_unasked name k (Some slot) = on_slot_unasked heard.lock_blocked lock_blocked_unasked (Some slot) k
waiting_unasked name k None = cancels_unasked k.who name _ _

blocked_unasked : (name : LockName) (k : Client) (ours : Bool) → none_read is_flight (heard.blocked name k ours) ≡ true
blocked_unasked name k true = by (is_held name k.store.held) where
  by : (held : Bool) → none_read is_flight (heard.blocked_held name k held) ≡ true
  by true = refl
  by false = waiting_unasked name k _
blocked_unasked name k false = refl

peeks_unasked : (at : At) (t : ℕ) (a : heard.Question) (who : Who) (boot : ℕ) (size : Option ℕ)
    → none_read is_flight (heard.peeks at t a who boot size) ≡ true
peeks_unasked at t a who boot None = refl
peeks_unasked at t a who boot (Some size) = refl

asked_unasked : (at : At) (t : ℕ) (a : heard.Question) (k : Client) (ours : Bool) → none_read is_flight (heard.asked at t a k ours) ≡ true
asked_unasked at t a k true = peeks_unasked at t a k.who _ _
asked_unasked at t a k false = refl

comes_up_unasked : (t : ℕ) (k : Client) (i : Import) (s : Standing) → none_read is_flight (again.comes_up t k i s) ≡ true
comes_up_unasked t k i Joining = refl
comes_up_unasked t k i _ =
    none_more is_flight (again.on_calls (again.forgets_stage t) 0 k.calls) _
    (calls_unread is_flight (again.forgets_stage t) (λ slot r. forgets_unread is_flight (λ s r. refl) t slot r r.stage) 0 k.calls)
    (tells_unasked k.who i.boot t i.kept (again.held_of t k.store.held))

up_unasked : (t boot : ℕ) (k : Client) (later : Bool) → none_read is_flight (heard.up_heard t boot k later) ≡ true
up_unasked t boot k true =
    let next : Client = after k (Knows t boot) in
    comes_up_unasked t next (import_of t next.imports) (import_of t next.imports).standing
up_unasked t boot k false = refl

ready_unasked : (t boot committed : ℕ) (k : Client) (present : Bool) → none_read is_flight (heard.ready_heard t boot committed k present)
    ≡ true
ready_unasked t boot committed k true =
    none_more is_flight (resends k.who (import_of t k.imports).boot t (import_of t k.imports).flights) _
    (resends_unasked k.who (import_of t k.imports).boot t (import_of t k.imports).flights)
    (calls_unread is_flight (again.looks_stage t) (λ slot r. looks_unread is_flight (λ s r. refl) t slot r r.stage) 0 k.calls)
ready_unasked t boot committed k false = refl

ends_unasked : (at : At) (slot : ℕ) (calls : List (Option Running)) → none_read is_flight (again.ends_calls at slot calls) ≡ true
ends_unasked at slot [] = refl
ends_unasked at slot (None ∷ calls) = ends_unasked at (slot + 1) calls
ends_unasked at slot (Some r ∷ calls) = ends_unasked at (slot + 1) calls

drops_unasked : (held : List HeldLock) → none_read is_flight (again.drops_all held) ≡ true
drops_unasked [] = refl
drops_unasked (h ∷ held) = drops_unasked held

joins_unasked : (who : Who) (t : ℕ) (imports : List Import) → none_read is_flight (again.joins_all who t imports) ≡ true
joins_unasked who t [] = refl
joins_unasked who t (i ∷ imports) = joins_unasked who (t + 1) imports

evicted_unasked : (at : At) (k : Client) (ours : Bool) → none_read is_flight (heard.evicted_heard at k ours) ≡ true
evicted_unasked at k true =
    none_more is_flight (again.ends_calls at 0 k.calls ++ again.drops_all (in_order k.store.held)) _
    (none_more is_flight (again.ends_calls at 0 k.calls) (again.drops_all (in_order k.store.held)) (ends_unasked at 0 k.calls)
    (drops_unasked (in_order k.store.held)))
    (joins_unasked (again.next_life k.who) 0 k.imports)
evicted_unasked at k false = refl

pub comes_unasked : (at : At) (t : ℕ) (m : Message) (k : Client) → none_read is_flight (heard.comes_from at t m k) ≡ true
comes_unasked at t (message.Reply r) k = replied_unasked t r k _
comes_unasked at t (message.Grant g) k = granted_unasked t g k _
comes_unasked at t (message.Block who boot cookie) k = blocked_unasked _ k _
comes_unasked at t (message.Ask who boot cookie for_who xid) k = asked_unasked at t _ k _
comes_unasked at t (message.Up boot) k = up_unasked t boot k _
comes_unasked at t (message.Ready who boot committed) k = ready_unasked t boot committed.0 k _
comes_unasked at t (message.Evicted who boot) k = evicted_unasked at k _
comes_unasked at t _ k = refl
