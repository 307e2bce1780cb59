-- A client's row: where it stood so before, all its lines are covered, and it stands so after them.
use Rattle.std.proofs.Common.{◌≡◌, ℕ, zero, suc, ◌+◌, ◌≤◌, Bool, true, false, List, [], ◌∷◌, ◌++◌, length, Option, Some, None, arith}
use Rattle.std.specs.Prelude.{nat_eq, nat_lt, ◌&&◌, ◌||◌, is_some, filter, drop, reverse}
use Rattle.std.specs.List.{list_any}
use Rattle.std.proofs.lemmas.Bool.{cond_both}
use Rattle.lu_base.specs.declared.ids.At.{At}
use Rattle.lu_base.specs.declared.ids.Cookie.{Cookie}
use Rattle.lu_base.specs.declared.ids.Node.{Node}
use Rattle.lu_base.specs.declared.ids.Node.TheVariants.{Client as FromClient, Target}
use Rattle.lu_base.specs.declared.ids.Who.{Who}
use Rattle.lu_base.specs.declared.locks.Lock.{Lock}
use Rattle.lu_base.specs.declared.locks.Policy.{Policy}
use Rattle.lu_base.specs.declared.locks.Policy.TheVariants.{Range}
use Rattle.lu_base.specs.declared.locks.Resource.{Resource}
use Rattle.lu_msg.specs.declared.answers.Answer.{Answer}
use Rattle.lu_msg.specs.declared.answers.Answer.TheVariants as told
use Rattle.lu_msg.specs.declared.calls.Call.{Call}
use Rattle.lu_msg.specs.declared.calls.Call.TheVariants as call
use Rattle.lu_msg.specs.declared.messages.GrantNotice.{GrantNotice}
use Rattle.lu_msg.specs.declared.messages.Message.{Message}
use Rattle.lu_msg.specs.declared.messages.Message.TheVariants as message
use Rattle.lu_msg.specs.declared.messages.Reply.{Reply as ReplyTo}
use Rattle.lu_msg.specs.declared.operations.Op.{Op}
use Rattle.lu_msg.specs.declared.operations.Op.TheVariants as op
use Rattle.lu_held.specs.declared.names.LockName.{LockName}
use Rattle.lu_held.specs.declared.locks.HeldLock.{HeldLock}
use Rattle.lu_held.specs.declared.locks.Use.{Use}
use Rattle.lu_held.specs.Locks.{is_free, named}
use Rattle.lu_held.specs.Held.{is_held, in_order}
use Rattle.lu_spec_machine.specs.Fits.{answer_fits}
use Rattle.lu_spec_machine.proofs.Footprints.{every_one}
use Rattle.lu_trace.specs.WellFormed.{IsCall}
use Rattle.lu_spec_entries.specs.declared.changes.Flush.{Flush}
use Rattle.lu_spec_entries.specs.declared.changes.Flush.TheVariants.{Put, Cut}
use Rattle.lu_spec_entries.specs.Carried.{HandleFile, Queued, Flight, Work, Stage, Looks, Enqueued, Waits, Came, Forgotten, Gets, Running}
use Rattle.lu_spec_entries.specs.Words.{Entry, Send, Take, Tick, Heard, Drop, Life, Stands, Knows, same_life}
use Rattle.lu_spec_client.specs.Advances.{at_stage}
use Rattle.lu_spec_client.specs.Caches.{brought, patch_at}
use Rattle.lu_spec_client.specs.Calls.{call_on, file_of}
use Rattle.lu_spec_client.specs.Imports.{Standing, Joining, Recovering, Serving, Replay, Import, import_of, is_serving}
use Rattle.lu_spec_client.specs.Locks.{marks_of, trims, must_write, gives_up, writes_next, writes_under, visits_with, visits, visits_all}
use Rattle.lu_spec_client.specs.Locks.{locks_go, dirty_total, is_called}
use Rattle.lu_spec_client.specs.Messages.{Question, on_running, on_slot, holds, learns, lock_heard, enqueue_heard, looks_again, shows}
use Rattle.lu_spec_client.specs.Messages.{held_as, page_under, page_heard, heeds, hears_flight, hears_fitting, find_flight, hears, replied}
use Rattle.lu_spec_client.specs.Messages.{waiter, lock_granted, granted, lock_blocked, cancels_unknown, blocked_waiting, blocked_held}
use Rattle.lu_spec_client.specs.Messages.{blocked, size_held, peeks, asked, is_present, size_with, up_heard, ready_heard, evicted_heard}
use Rattle.lu_spec_client.specs.Messages.{comes_by}
use Rattle.lu_spec_client.specs.Patches.{Patch, in_flight}
use Rattle.lu_spec_client.specs.Recovery.{replays, lock_replays, held_of, word, recovers, forgets_stage, looks_stage, is_left_at}
use Rattle.lu_spec_client.specs.Recovery.{where_stage, on_calls, comes_up, ends_calls, drops_all, next_life, joins_all, ticks, ticks_at}
use Rattle.lu_spec_client.specs.Rows.{Event, Begins, Comes, Ticks, Dies, rests, row_call, row}
use Rattle.lu_spec_client.specs.Sending.{resends, flies, sends, sends_to, sends_all, has_room, next_flight}
use Rattle.lu_spec_client.specs.Slots.{opens, refuses, begins_open, begins_close, begins_on, begins, slots_go}
use Rattle.lu_spec_client.specs.States.{Client, Limits, follow}
use Rattle.lu_spec_client.specs.Stripes.{stripes}
use Rattle.lu_spec_client.specs.WriteBack.{flush_under}
use Rattle.lu_proof_scenes.proofs.Every.{Every, every_both}
use Rattle.lu_proof_scenes.proofs.Asking.{IsOrdered, IsNode}
use Rattle.lu_proof_scenes.proofs.Clients.{AllCalm, FileCalm, AnswerCalm, IsLow, UseCalm, WorkCalm, StageCalm, RunningCalm, CallCalm}
use Rattle.lu_proof_scenes.proofs.Clients.{StandsCalm, ImportCalm, Calm, follow_calm, on_calm}
use Rattle.lu_proof_scenes.proofs.ClientSlots.{file_calm, more_calm, stands_calm, slots_calm}

-- what may come to such a client
abbrev pub MessageCalm : Type 0 → (osts : ℕ) → Node → Message → Type 0
MessageCalm MayAsk osts from (message.Reply r) = AnswerCalm r.answer
MessageCalm MayAsk osts from (message.Grant g) = Unit {0}
MessageCalm MayAsk osts from (message.Block who boot cookie) = Unit {0}
MessageCalm MayAsk osts from (message.Ask who boot cookie for_who xid) = IsNode osts from
MessageCalm MayAsk osts from (message.Up boot) = MayAsk × IsNode osts from
MessageCalm MayAsk osts from (message.Ready who boot committed) = MayAsk
MessageCalm MayAsk osts from (message.Evicted who boot) = MayAsk
MessageCalm MayAsk osts from _ = ⊥

abbrev pub EventCalm : (Call → Type 0) → Type 0 → (osts : ℕ) → Event → Type 0
EventCalm P MayAsk osts (Begins slot c) = P c × IsCall c
EventCalm P MayAsk osts (Comes n from m) = MessageCalm MayAsk osts from m
EventCalm P MayAsk osts Ticks = Unit {0}
EventCalm P MayAsk osts Dies = Unit {0}

module _ (P : Call → Type 0) (MayAsk : Type 0) (osts : ℕ) where
  abbrev All : List Entry → Type 0
  All es = AllCalm P MayAsk osts es

  -- ---- held locks

  marks_calm : (held : List HeldLock) → All (marks_of held)
  marks_calm [] = tt
  marks_calm (h ∷ held) = (tt, marks_calm held)

  trims_calm : (limits : Limits) (k : Client) → All (trims limits k)
  trims_calm limits k = marks_calm (reverse (drop limits.unused (filter is_free k.store.held)))

  gives_calm : (who : Who) (h : HeldLock) (i : Import) → All (gives_up who h i)
  gives_calm who h i =
      cond_both (is_called h && is_serving i.standing) (Drop h.target.0 h.lock
      ∷ Send (Target h.target.0) (message.Cancel who i.boot h.lock.cookie) ∷ []) [] All (λ t. (tt, (tt, tt))) (λ t. tt)

  next_calm : (h : HeldLock) (o : Option Flush) → All (writes_next h o)
  next_calm h None = tt
  next_calm h (Some (Put at bs)) = (tt, (tt, tt))
  next_calm h (Some (Cut n)) = (tt, (tt, tt))

  writes_under_calm : (h : HeldLock) (p : Patch) → All (writes_under h p)
  writes_under_calm h p = cond_both (in_flight p) [] (writes_next h (flush_under p h.lock.ask.mode h.lock.ask.policy)) All (λ t. tt)
      (λ t. next_calm h (flush_under p h.lock.ask.mode h.lock.ask.policy))

  visit_calm : (over : Bool) (h : HeldLock) (p : Patch) (k : Client) → All (visits_with over h p k)
  visit_calm over h p k =
      cond_both (must_write over h h.lock.ask.mode h.lock.ask.policy p) (writes_under h p)
      (gives_up k.who h (import_of h.target.0 k.imports)) All (λ t. writes_under_calm h p)
      (λ t. gives_calm k.who h (import_of h.target.0 k.imports))

  visits_calm : (over : Bool) (held : List HeldLock) (k : Client) → Calm MayAsk osts k → All (visits_all over held k)
  visits_calm over [] k h = tt
  visits_calm over (g ∷ held) k h =
      follow_calm P MayAsk osts (visits over g k) (visits_all over held) k h
      (visit_calm over g (patch_at g.lock.resource k.store.patches) k) (λ j c. visits_calm over held j c)

  locks_calm : (limits : Limits) (k : Client) → Calm MayAsk osts k → All (locks_go limits k)
  locks_calm limits k h = visits_calm (nat_lt limits.dirty (dirty_total k.store.patches)) (in_order k.store.held) k h

  -- ---- sending

  sends_calm : (limits : Limits) (who : Who) (boot t last : ℕ) (flights : List Flight) (queue : List Queued) → t ≤ osts
      → Every (λ (q : Queued). IsOrdered q.op) queue → All (sends limits who boot t last flights queue)
  sends_calm limits who boot t last flights [] one c = tt
  sends_calm limits who boot t last flights (q ∷ queue) one c =
      let f = next_flight last flights q in
      let more = sends limits who boot t (last + 1) (flights ++ f ∷ []) queue in
      cond_both (has_room limits t q.op flights) (flies who boot t f more) [] All
      (λ r. (c.0, ((one, c.0), sends_calm limits who boot t (last + 1) (flights ++ f ∷ []) queue one c.1))) (λ r. tt)

  all_sent_calm : (limits : Limits) (who : Who) (t : ℕ) (imports : List Import) → t + length imports ≤ osts + 1
      → Every (ImportCalm MayAsk) imports → All (sends_all limits who t imports)
  all_sent_calm limits who t [] few c = tt
  all_sent_calm limits who t (i ∷ imports) few c =
      more_calm P MayAsk osts (sends_to limits who t i) (sends_all limits who (t + 1) imports)
      (cond_both (is_serving i.standing) (sends limits who i.boot t i.last i.flights i.queue) [] All
      (λ s. sends_calm limits who i.boot t i.last i.flights i.queue (omega (arith, few)) c.0.queue) (λ s. tt))
      (all_sent_calm limits who (t + 1) imports (omega (arith, few)) c.1)

  pub rests_calm : (limits : Limits) (at : At) (k : Client) → Calm MayAsk osts k → All (rests limits at k)
  rests_calm limits at k h =
      follow_calm P MayAsk osts (slots_go 5 at k) (λ j. follow (trims limits j)
      (λ j. follow (locks_go limits j) (λ j. sends_all limits j.who 0 j.imports) j) j) k h (slots_calm P MayAsk osts 5 at k h)
      (λ j c. follow_calm P MayAsk osts (trims limits j) (λ j. follow (locks_go limits j) (λ j. sends_all limits j.who 0 j.imports) j) j c
      (trims_calm limits j)
      (λ i b. follow_calm P MayAsk osts (locks_go limits i) (λ j. sends_all limits j.who 0 j.imports) i b (locks_calm limits i b)
      (λ g a. let few = a.targets in all_sent_calm limits g.who 0 g.imports (omega (arith, few)) a.imports)))

  -- ---- a message comes

  holds_calm : (t : ℕ) (size : Option ℕ) (seen : List ℕ) (locks : List Lock) → All (holds t size seen locks)
  holds_calm t size seen [] = tt
  holds_calm t size seen (l ∷ locks) = (tt, holds_calm t size seen locks)

  learns_calm : (t : ℕ) (o : Op) (a : Answer) (locks : List Lock) → AnswerCalm a → All (learns t o a locks)
  learns_calm t o a [] fine = tt
  learns_calm t o a (l ∷ locks) fine = (fine, tt)

  -- what holds of the call on a slot, whatever stage it is in
  on_slot_calm : (stands : ℕ → Running → Stage → List Entry) → ((slot : ℕ) (r : Running) (stage : Stage) → StageCalm stage → RunningCalm r
      → All (stands slot r stage)) → (slot : Option ℕ) (k : Client) → Calm MayAsk osts k
      → All (on_slot stands slot k)
  on_slot_calm stands each None k h = tt
  on_slot_calm stands each (Some slot) k h = by (call_on slot k.calls) (on_calm slot k.calls h.calls)
    where
      by : (o : Option Running) → CallCalm o → All (on_running stands slot o)
      by None c = tt
      by (Some r) c = each slot r r.stage c.stage c

  -- the lock that was asked for came, or waits
  got_calm : (who : Who) (slot : ℕ) (r : Running) (w : Work) (a : Answer) (locks : List Lock) (wants : List Use) → Every UseCalm wants
      → WorkCalm w → RunningCalm r → All (lock_heard who slot r w a locks wants)
  got_calm who slot r w a (l ∷ locks) wants uses work c = (stands_calm P MayAsk osts r (Came w l) work c, tt)
  got_calm who slot r w (told.Waiting cookie) [] (wanted ∷ left) uses work c =
      (stands_calm P MayAsk osts r (Waits w wanted.target _ false) (uses.0.0, work) c, tt)
  got_calm who slot r w a [] wants uses work c = tt

  enqueued_calm : (who : Who) (a : Answer) (locks : List Lock) (slot : ℕ) (r : Running) (stage : Stage) → StageCalm stage → RunningCalm r
      → All (enqueue_heard who a locks slot r stage)
  enqueued_calm who a locks slot r (Enqueued w) is c = got_calm who slot r w a locks w.left is.left is c
  enqueued_calm who a locks slot r stage is c = tt

  again_calm : (slot : ℕ) (r : Running) (stage : Stage) → StageCalm stage → RunningCalm r → All (looks_again slot r stage)
  again_calm slot r (Gets w) is c = (stands_calm P MayAsk osts r (Looks w) is c, tt)
  again_calm slot r stage is c = tt

  -- a page came
  shows_calm : (resource : Resource) (cookie : Cookie) (page : ℕ) (bs : List ℕ) → All (shows resource cookie page bs)
  shows_calm resource cookie page [] = tt
  shows_calm resource cookie page (b ∷ bs) = (tt, tt)

  page_calm : (resource : Resource) (cookie : Cookie) (page : ℕ) (bs : List ℕ) (o : Option Lock)
      → All (page_heard resource cookie page bs o)
  page_calm resource cookie page bs None = tt
  page_calm resource cookie page bs (Some l) = by l.ask.policy
    where
      by : (p : Policy) → All (page_under resource cookie page bs p)
      by (Range extent) = more_calm P MayAsk osts (shows resource cookie page bs) _ (shows_calm resource cookie page bs) (tt, tt)
      by p = tt

  heeds_calm : (t : ℕ) (f : Flight) (o : Op) (r : ReplyTo) (a : Answer) (k : Client) → Calm MayAsk osts k → All (heeds t f o r a k)
  heeds_calm t f (op.Enqueue resource mode extent) r a k h = on_slot_calm (enqueue_heard k.who a (brought f.op r))
      (λ slot q stage is c. enqueued_calm k.who a (brought f.op r) slot q stage is c) f.slot k h
  heeds_calm t f (op.Get resource cookie page) r (told.Content bs) k h =
      more_calm P MayAsk osts (page_heard resource cookie page bs (held_as (named (record { 0 = t }) cookie) k.store.held))
      (on_slot looks_again f.slot k)
      (page_calm resource cookie page bs (held_as (named (record { 0 = t }) cookie) k.store.held))
      (on_slot_calm looks_again again_calm f.slot k h)
  heeds_calm t f (op.Put resource cookie at bs) r told.Done k h = (tt, (tt, (tt, tt)))
  heeds_calm t f (op.Cut resource cookie n) r told.Done k h = (tt, (tt, (tt, tt)))
  heeds_calm t f o r a k h = tt

  flight_calm : (t : ℕ) (r : ReplyTo) (f : Flight) (k : Client) → AnswerCalm r.answer → Calm MayAsk osts k → All (hears_flight t r f k)
  flight_calm t r f k fine h =
      let held = holds t (size_with r.answer) r.seen (brought f.op r) in
      let known = learns t f.op r.answer r.locks in
      follow_calm P MayAsk osts (Heard t f r ∷ held ++ known) (heeds t f f.op r r.answer) k h (
        fine,
        more_calm P MayAsk osts held known (holds_calm t (size_with r.answer) r.seen (brought f.op r))
            (learns_calm t f.op r.answer r.locks fine),
      )
      (λ j c. heeds_calm t f f.op r r.answer j c)

  reply_calm : (t : ℕ) (r : ReplyTo) (k : Client) (present : Bool) → AnswerCalm r.answer → Calm MayAsk osts k → All (replied t r k present)
  reply_calm t r k false fine h = tt
  reply_calm t r k true fine h = by (find_flight r.xid.0 (import_of t k.imports).flights)
    where
      fit : (f : Flight) (b : Bool) → All (hears_fitting t r f k b)
      fit f true = flight_calm t r f k fine h
      fit f false = tt

      by : (o : Option Flight) → All (hears t r k o)
      by None = tt
      by (Some f) = fit f (answer_fits f.op r.answer)

  -- a lock that waited comes
  given_calm : (t : ℕ) (g : GrantNotice) (slot : ℕ) (r : Running) (stage : Stage) → StageCalm stage → RunningCalm r
      → All (lock_granted t g slot r stage)
  given_calm t g slot r (Waits w target l marked) is c = (tt, (tt, (stands_calm P MayAsk osts r (Came w _) is.1 c, tt)))
  given_calm t g slot r stage is c = tt

  grant_calm : (t : ℕ) (g : GrantNotice) (k : Client) (mine : Bool) → Calm MayAsk osts k → All (granted t g k mine)
  grant_calm t g k false h = tt
  grant_calm t g k true h = on_slot_calm (lock_granted t g) (given_calm t g) (waiter (named (record { 0 = t }) g.cookie) 0 k.calls) k h

  -- one is called back
  marked_calm : (slot : ℕ) (r : Running) (stage : Stage) → StageCalm stage → RunningCalm r → All (lock_blocked slot r stage)
  marked_calm slot r (Waits w target l marked) is c = (stands_calm P MayAsk osts r (Waits w target l true) is c, tt)
  marked_calm slot r stage is c = tt

  unknown_calm : (who : Who) (name : LockName) (boot : ℕ) (flights : List Flight) → All (cancels_unknown who name boot flights)
  unknown_calm who name boot [] = (tt, tt)
  unknown_calm who name boot (f ∷ flights) = tt

  block_calm : (name : LockName) (k : Client) (mine : Bool) → Calm MayAsk osts k → All (blocked name k mine)
  block_calm name k false h = tt
  block_calm name k true h = by (is_held name k.store.held)
    where
      waiting : (o : Option ℕ) → All (blocked_waiting name k o)
      waiting (Some slot) = on_slot_calm lock_blocked marked_calm (Some slot) k h
      waiting None = unknown_calm k.who name (import_of name.target.0 k.imports).boot (import_of name.target.0 k.imports).flights

      by : (b : Bool) → All (blocked_held name k b)
      by true = (tt, tt)
      by false = waiting (waiter name 0 k.calls)

  -- a glimpse of another client
  peeks_calm : (at : At) (t : ℕ) (q : Question) (who : Who) (boot : ℕ) (size : Option ℕ) → t ≤ osts → All (peeks at t q who boot size)
  peeks_calm at t q who boot None one = (one, tt)
  peeks_calm at t q who boot (Some size) one = (tt, (one, tt))

  asked_calm : (at : At) (t : ℕ) (q : Question) (k : Client) (mine : Bool) → t ≤ osts → All (asked at t q k mine)
  asked_calm at t q k false one = tt
  asked_calm at t q k true one = peeks_calm at t q k.who (import_of t k.imports).boot
      (size_held k.store (held_as (named (record { 0 = t }) q.cookie) k.store.held)) one

  -- ---- recovery

  -- what is in flight is sent again, and where the locks are that calls wait for
  resends_calm : (who : Who) (boot t : ℕ) (flights : List Flight) → Every (λ (f : Flight). (t ≤ osts) × IsOrdered f.op) flights
      → All (resends who boot t flights)
  resends_calm who boot t [] one = tt
  resends_calm who boot t (f ∷ flights) one = (one.0, resends_calm who boot t flights one.1)

  sent_calm : (t : ℕ) (flights : List Flight) → Every (λ (f : Flight). t ≤ osts) flights → Every (λ (f : Flight). IsOrdered f.op) flights
      → Every (λ (f : Flight). (t ≤ osts) × IsOrdered f.op) flights
  sent_calm t flights one asked = every_both (λ (f : Flight). t ≤ osts) (λ (f : Flight). IsOrdered f.op) flights one asked

  -- nothing is in flight at a target that isn't there
  flights_there : (n t u : ℕ) (imports : List Import) → n + t ≡ u → n + length imports ≤ osts + 1
      → Every (λ (f : Flight). u ≤ osts) (import_of t imports).flights
  flights_there n t u [] e few = tt
  flights_there n zero u (i ∷ imports) e few = every_one (λ (f : Flight). u ≤ osts) i.flights (λ f. omega (arith, e, few))
  flights_there n (suc t) u (i ∷ imports) e few = flights_there (suc n) t u imports (omega (arith, e)) (omega (arith, few))

  flights_calm : (t : ℕ) (imports : List Import) → Every (ImportCalm MayAsk) imports
      → Every (λ (f : Flight). IsOrdered f.op) (import_of t imports).flights
  flights_calm t [] c = tt
  flights_calm zero (i ∷ imports) c = c.0.flights
  flights_calm (suc t) (i ∷ imports) c = flights_calm t imports c.1

  -- each call, slot by slot
  on_calls_calm : (stands : ℕ → Running → Stage → List Entry) → ((slot : ℕ) (r : Running) (stage : Stage) → StageCalm stage → RunningCalm r
      → All (stands slot r stage)) → (slot : ℕ) (calls : List (Option Running))
      → Every CallCalm calls → All (on_calls stands slot calls)
  on_calls_calm stands each slot [] c = tt
  on_calls_calm stands each slot (None ∷ calls) c = on_calls_calm stands each (slot + 1) calls c.1
  on_calls_calm stands each slot (Some r ∷ calls) c =
      more_calm P MayAsk osts (stands slot r r.stage) (on_calls stands (slot + 1) calls) (each slot r r.stage c.0.stage c.0)
      (on_calls_calm stands each (slot + 1) calls c.1)

  where_calm : (who : Who) (boot t : ℕ) → t ≤ osts → (slot : ℕ) (r : Running) (stage : Stage) → StageCalm stage → RunningCalm r
      → All (where_stage who boot t slot r stage)
  where_calm who boot t one slot r (Waits w target l marked) is c =
      cond_both (nat_eq target.0 t) (Send (Target t) (message.Where who boot l.cookie) ∷ []) [] All (λ e. (one, tt)) (λ e. tt)
  where_calm who boot t one slot r stage is c = tt

  looks_calm : (t slot : ℕ) (r : Running) (stage : Stage) → StageCalm stage → RunningCalm r → All (looks_stage t slot r stage)
  looks_calm t slot r (Forgotten w) is c = cond_both (is_left_at t w.left) (Stands slot (at_stage r (Looks w)) ∷ []) [] All
      (λ e. (stands_calm P MayAsk osts r (Looks w) is c, tt)) (λ e. tt)
  looks_calm t slot r stage is c = tt

  -- a target serves the life: what is in flight is sent again, and what was forgotten is looked for again
  ready_calm : (t boot committed : ℕ) (k : Client) (mine : Bool) → MayAsk → Calm MayAsk osts k → All (ready_heard t boot committed k mine)
  ready_calm t boot committed k false may h = tt
  ready_calm t boot committed k true may h =
      let i = import_of t k.imports in (
        may,
        (
          tt,
          more_calm P MayAsk osts (resends k.who i.boot t i.flights) (on_calls (looks_stage t) 0 k.calls)
              (resends_calm k.who i.boot t i.flights (sent_calm t i.flights
              (let few = h.targets in flights_there 0 t t k.imports (omega arith) (omega (arith, few)))
              (flights_calm t k.imports h.imports)))
              (on_calls_calm (looks_stage t) (looks_calm t) 0 k.calls h.calls),
        ),
      )

  -- a target is up again: the life tells it what it has, or asks to be served; what waits for a lock there is forgotten
  forgets_calm : (t slot : ℕ) (r : Running) (stage : Stage) → StageCalm stage → RunningCalm r → All (forgets_stage t slot r stage)
  forgets_calm t slot r (Waits w target l marked) is c = cond_both (nat_eq target.0 t) (Stands slot (at_stage r (Forgotten w)) ∷ []) [] All
      (λ e. (stands_calm P MayAsk osts r (Forgotten w) is.1 c, tt)) (λ e. tt)
  forgets_calm t slot r stage is c = tt

  replays_calm : (who : Who) (boot t : ℕ) (rs : List Replay) → MayAsk → t ≤ osts → All (replays who boot t rs)
  replays_calm who boot t [] may one = tt
  replays_calm who boot t (r ∷ rs) may one = ((may, one), replays_calm who boot t rs may one)

  locks_told_calm : (who : Who) (boot t : ℕ) (held : List HeldLock) → MayAsk → t ≤ osts → All (lock_replays who boot t held)
  locks_told_calm who boot t [] may one = tt
  locks_told_calm who boot t (h ∷ held) may one = ((may, one), locks_told_calm who boot t held may one)

  recovers_calm : (t : ℕ) (k : Client) (i : Import) → MayAsk → t ≤ osts → All (recovers t k i)
  recovers_calm t k i may one =
      let held : List HeldLock = held_of t k.store.held in
      let last : List Entry = word k.who i.boot t (length i.kept.replays) (length held) i.kept.seen ∷ [] in
      let first : List Entry = replays k.who i.boot t i.kept.replays in
      more_calm P MayAsk osts (first ++ lock_replays k.who i.boot t held) last
      (more_calm P MayAsk osts first (lock_replays k.who i.boot t held) (replays_calm k.who i.boot t i.kept.replays may one)
      (locks_told_calm k.who i.boot t held may one))
      ((may, one), tt)

  comes_up_calm : (t : ℕ) (k : Client) (i : Import) (s : Standing) → MayAsk → t ≤ osts → Calm MayAsk osts k → All (comes_up t k i s)
  comes_up_calm t k i Joining may one h = ((may, one), tt)
  comes_up_calm t k i Recovering may one h = (
    tt,
    more_calm P MayAsk osts (on_calls (forgets_stage t) 0 k.calls) (recovers t k i)
        (on_calls_calm (forgets_stage t) (forgets_calm t) 0 k.calls h.calls) (recovers_calm t k i may one),
  )
  comes_up_calm t k i Serving may one h = (
    tt,
    more_calm P MayAsk osts (on_calls (forgets_stage t) 0 k.calls) (recovers t k i)
        (on_calls_calm (forgets_stage t) (forgets_calm t) 0 k.calls h.calls) (recovers_calm t k i may one),
  )

  up_calm : (t boot : ℕ) (k : Client) (newer : Bool) → MayAsk → t ≤ osts → Calm MayAsk osts k → All (up_heard t boot k newer)
  up_calm t boot k false may one h = tt
  up_calm t boot k true may one h =
      follow_calm P MayAsk osts (Knows t boot ∷ []) (λ j. comes_up t j (import_of t j.imports) (import_of t j.imports).standing) k h
      (may, tt)
      (λ j c. comes_up_calm t j (import_of t j.imports) (import_of t j.imports).standing may one c)

  -- the life is over: its calls end, its locks go, and the next one asks to be served
  ends_calm : (at : At) (slot : ℕ) (calls : List (Option Running)) → All (ends_calls at slot calls)
  ends_calm at slot [] = tt
  ends_calm at slot (None ∷ calls) = ends_calm at (slot + 1) calls
  ends_calm at slot (Some r ∷ calls) = (tt, ends_calm at (slot + 1) calls)

  drops_calm : (held : List HeldLock) → All (drops_all held)
  drops_calm [] = tt
  drops_calm (h ∷ held) = (tt, drops_calm held)

  joins_calm : (who : Who) (t : ℕ) (imports : List Import) → t + length imports ≤ osts + 1 → MayAsk → All (joins_all who t imports)
  joins_calm who t [] few may = tt
  joins_calm who t (i ∷ imports) few may = ((may, omega (arith, few)), joins_calm who (t + 1) imports (omega (arith, few)) may)

  evicted_calm : (at : At) (k : Client) (mine : Bool) → MayAsk → Calm MayAsk osts k → All (evicted_heard at k mine)
  evicted_calm at k false may h = tt
  evicted_calm at k true may h =
      let few = h.targets in
      let rest = Life (next_life k.who) ∷ joins_all (next_life k.who) 0 k.imports in
      more_calm P MayAsk osts (ends_calls at 0 k.calls ++ drops_all (in_order k.store.held)) rest
      (more_calm P MayAsk osts (ends_calls at 0 k.calls) (drops_all (in_order k.store.held)) (ends_calm at 0 k.calls)
      (drops_calm (in_order k.store.held)))
      (may, joins_calm (next_life k.who) 0 k.imports (omega (arith, few)) may)

  comes_calm : (at : At) (from : Node) (m : Message) (k : Client) → MessageCalm MayAsk osts from m → Calm MayAsk osts k
      → All (comes_by at from m k)
  comes_calm at (FromClient c) m k is h = tt
  comes_calm at (Target t) (message.Reply r) k is h = reply_calm t r k (is_present r.who r.boot t k) is h
  comes_calm at (Target t) (message.Grant g) k is h = grant_calm t g k (is_present g.who g.boot t k) h
  comes_calm at (Target t) (message.Block who boot cookie) k is h = block_calm (named (record { 0 = t }) cookie) k (same_life who k.who) h
  comes_calm at (Target t) (message.Ask who boot cookie for_who xid) k is h =
      asked_calm at t (record { cookie = cookie; for_who = for_who; xid = xid }) k (same_life who k.who) is
  comes_calm at (Target t) (message.Up boot) k is h = up_calm t boot k (nat_lt (import_of t k.imports).boot boot) is.0 is.1 h
  comes_calm at (Target t) (message.Ready who boot committed) k is h = ready_calm t boot committed.0 k (is_present who boot t k) is h
  comes_calm at (Target t) (message.Evicted who boot) k is h = evicted_calm at k (same_life who k.who) is h
  comes_calm at (Target t) m k is h = absurd is

  -- ---- time goes on

  -- where the life isn't served it asks to be, or tells what it has
  tick_calm : (t : ℕ) (k : Client) (i : Import) (s : Standing) → t ≤ osts → Every (λ (f : Flight). IsOrdered f.op) i.flights
      → StandsCalm MayAsk s → Calm MayAsk osts k → All (ticks_at t k i s)
  tick_calm t k i Serving one asked stands h =
      more_calm P MayAsk osts (resends k.who i.boot t i.flights) (on_calls (where_stage k.who i.boot t) 0 k.calls)
      (resends_calm k.who i.boot t i.flights (sent_calm t i.flights (every_one (λ (f : Flight). t ≤ osts) i.flights (λ f. one)) asked))
      (on_calls_calm (where_stage k.who i.boot t) (where_calm k.who i.boot t one) 0 k.calls h.calls)
  tick_calm t k i Joining one asked stands h = ((stands, one), tt)
  tick_calm t k i Recovering one asked stands h = recovers_calm t k i stands one

  ticks_calm : (t : ℕ) (imports : List Import) (k : Client) → t + length imports ≤ osts + 1 → Every (ImportCalm MayAsk) imports
      → Calm MayAsk osts k → All (ticks t imports k)
  ticks_calm t [] k few is h = tt
  ticks_calm t (i ∷ imports) k few is h =
      more_calm P MayAsk osts (ticks_at t k i i.standing) (ticks (t + 1) imports k)
      (tick_calm t k i i.standing (omega (arith, few)) is.0.flights is.0.stands h)
      (ticks_calm (t + 1) imports k (omega (arith, few)) is.1 h)

  -- ---- a call begins

  refuses_calm : (at : At) (slot : ℕ) (c : Call) → P c → IsLow c → All (refuses at slot c)
  refuses_calm at slot c p low = ((record { stage = tt; asking = tt; file = tt; low = low }, p), (tt, tt))

  open_calm : (at : At) (slot h : ℕ) (path : List (List ℕ)) (bad : Bool) → P (call.Open h path)
      → All (begins_open at slot (call.Open h path) bad)
  open_calm at slot h path true p = refuses_calm at slot (call.Open h path) p tt
  open_calm at slot h path false p = ((record { stage = tt; asking = tt; file = tt; low = tt }, p), tt)

  begins_close_calm : (at : At) (slot h : ℕ) (file : Option HandleFile) → P (call.Close h) → FileCalm file
      → All (begins_close at slot h file)
  begins_close_calm at slot h None p on = refuses_calm at slot (call.Close h) p tt
  begins_close_calm at slot h (Some f) p on = ((record { stage = tt; asking = tt; file = on; low = tt }, p), (tt, tt))

  begins_on_calm : (at : At) (slot : ℕ) (c : Call) (file : Option HandleFile) → P c → IsLow c → FileCalm file
      → All (begins_on at slot c file)
  begins_on_calm at slot c None p low on = refuses_calm at slot c p low
  begins_on_calm at slot c (Some f) p low on = ((record { stage = tt; asking = tt; file = on; low = low }, p), tt)

  pub begins_calm : (at : At) (slot : ℕ) (c : Call) (k : Client) → P c → IsCall c → Calm MayAsk osts k → All (begins at slot c k)
  begins_calm at slot (call.Open h path) k p fits calm = open_calm at slot h path
      (is_some (file_of h k.handles) || list_any (opens h) k.calls) p
  begins_calm at slot (call.Close h) k p fits calm = begins_close_calm at slot h (file_of h k.handles) p
      (file_calm h k.handles calm.handles)
  begins_calm at slot (call.Flush h) k p fits calm = begins_on_calm at slot (call.Flush h) (file_of h k.handles) p tt
      (file_calm h k.handles calm.handles)
  begins_calm at slot (call.Glimpse h) k p fits calm = begins_on_calm at slot (call.Glimpse h) (file_of h k.handles) p tt
      (file_calm h k.handles calm.handles)
  begins_calm at slot (call.Read h x n) k p fits calm = begins_on_calm at slot (call.Read h x n) (file_of h k.handles) p
      (let low = fits.3 in omega (arith, low)) (file_calm h k.handles calm.handles)
  begins_calm at slot (call.Write h x bs) k p fits calm = begins_on_calm at slot (call.Write h x bs) (file_of h k.handles) p tt
      (file_calm h k.handles calm.handles)
  begins_calm at slot (call.Cut h n) k p fits calm = begins_on_calm at slot (call.Cut h n) (file_of h k.handles) p fits.1
      (file_calm h k.handles calm.handles)
  begins_calm at slot (call.Create path None) k p fits calm = ((record { stage = tt; asking = tt; file = tt; low = tt }, p), tt)
  begins_calm at slot (call.Create path (Some stripes)) k p fits calm = ((record { stage = tt; asking = tt; file = tt; low = tt }, p), tt)
  begins_calm at slot (call.Lookup path) k p fits calm = ((record { stage = tt; asking = tt; file = tt; low = tt }, p), tt)
  begins_calm at slot (call.Stat path) k p fits calm = ((record { stage = tt; asking = tt; file = tt; low = tt }, p), tt)
  begins_calm at slot (call.List path) k p fits calm = ((record { stage = tt; asking = tt; file = tt; low = tt }, p), tt)
  begins_calm at slot (call.Layout path) k p fits calm = ((record { stage = tt; asking = tt; file = tt; low = tt }, p), tt)
  begins_calm at slot (call.Mkdir path) k p fits calm = ((record { stage = tt; asking = tt; file = tt; low = tt }, p), tt)
  begins_calm at slot (call.Link old new) k p fits calm = ((record { stage = tt; asking = tt; file = tt; low = tt }, p), tt)
  begins_calm at slot (call.Unlink path) k p fits calm = ((record { stage = tt; asking = tt; file = tt; low = tt }, p), tt)
  begins_calm at slot (call.Rmdir path) k p fits calm = ((record { stage = tt; asking = tt; file = tt; low = tt }, p), tt)
  begins_calm at slot (call.Rename old new) k p fits calm = ((record { stage = tt; asking = tt; file = tt; low = tt }, p), tt)
  begins_calm at slot (call.Chmod path mode) k p fits calm = ((record { stage = tt; asking = tt; file = tt; low = tt }, p), tt)

  -- ---- the row

  pub row_calm : (limits : Limits) (at : At) (event : Event) (k : Client) → EventCalm P MayAsk osts event → Calm MayAsk osts k
      → All (row limits at event k)
  row_calm limits at (Begins slot c) k is h = by (call_on slot k.calls)
    where
      by : (o : Option Running) → All (row_call limits at slot c k o)
      by None = follow_calm P MayAsk osts (begins at slot c k) (rests limits at) k h (begins_calm at slot c k is.0 is.1 h)
          (λ j i. rests_calm limits at j i)
      by (Some r) = (tt, tt)
  row_calm limits at (Comes n from m) k is h =
      follow_calm P MayAsk osts (Take n from m ∷ comes_by at from m k) (rests limits at) k h (tt, comes_calm at from m k is h)
      (λ j i. rests_calm limits at j i)
  row_calm limits at Ticks k is h =
      follow_calm P MayAsk osts (Tick ∷ ticks 0 k.imports k) (rests limits at) k h
      (tt, ticks_calm 0 k.imports k (let few = h.targets in omega (arith, few)) h.imports h) (λ j i. rests_calm limits at j i)
  row_calm limits at Dies k is h = (tt, tt)
