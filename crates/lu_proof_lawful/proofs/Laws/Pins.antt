-- In each covered run the locks that a call has pinned are held, after each line: turn by turn the pins of each client are counted.
use Rattle.std.proofs.Common.{◌≡◌, ℕ, zero, suc, ◌+◌, ◌<◌, ◌≤◌, Bool, true, false, List, [], ◌∷◌, ◌++◌, ◌⊎◌, inl, inr, ⊎_elim, Option, Some}
use Rattle.std.proofs.Common.{None, refl, sym, subst, ap, ◌∙◌, arith}
use Rattle.std.specs.Prelude.{nat_eq, nat_lt, ◌||◌, if◌then◌else◌, is_some, length}
use Rattle.std.specs.List.{list_any}
use Rattle.std.proofs.lemmas.Bool.{eqb-true}
use Rattle.std.proofs.lemmas.Bool.Decides.{nat_tests}
use Rattle.lu_base.specs.declared.ids.At.{At}
use Rattle.lu_base.specs.declared.ids.Node.{Node}
use Rattle.lu_base.specs.declared.ids.Node.TheVariants.{Client, Target}
use Rattle.lu_base.specs.declared.ids.Stamp.{Stamp}
use Rattle.lu_base.specs.declared.ids.Who.{Who}
use Rattle.lu_msg.specs.declared.answers.Answer.TheVariants as answer
use Rattle.lu_msg.specs.declared.answers.Errno.TheVariants.{EIO, EBADF}
use Rattle.lu_msg.specs.declared.calls.Call.{Call}
use Rattle.lu_msg.specs.declared.calls.Call.TheVariants as call
use Rattle.lu_msg.specs.declared.messages.GrantNotice.{GrantNotice}
use Rattle.lu_msg.specs.declared.messages.Message.{Message}
use Rattle.lu_msg.specs.declared.messages.Message.TheVariants as message
use Rattle.lu_msg.specs.declared.messages.Reply.{Reply as ReplyTo}
use Rattle.lu_held.specs.declared.locks.HeldLock.{HeldLock}
use Rattle.lu_held.specs.declared.names.LockName.{LockName}
use Rattle.lu_held.specs.Held.{is_held, in_order}
use Rattle.lu_held.specs.Locks.{named}
use Rattle.lu_spec_machine.specs.Fits.{answer_fits}
use Rattle.lu_spec_entries.specs.Carried.{HandleFile, Flight, Stage, Plain, Bad, Looks, Waits, Forgotten, Running}
use Rattle.lu_spec_entries.specs.Words.{Entry, Send, Take, Tick, Begin, Busy, Told, Heard, Marks, Drop, Life, Die, Knows, Unmarks, Serves}
use Rattle.lu_spec_entries.specs.Words.{Settles, Stands, Unbinds, Line, line, with_turn, same_life}
use Rattle.lu_spec_entries.specs.Fields.{on}
use Rattle.lu_spec_entries.specs.Sent.{Sent}
use Rattle.lu_spec_client.specs.Advances.{at_stage}
use Rattle.lu_spec_client.specs.Caches.{brought, held_at}
use Rattle.lu_spec_client.specs.Calls.{call_on, calls_after, file_of}
use Rattle.lu_spec_client.specs.Imports.{Standing, Joining, Recovering, Serving, Import, Replay, import_of}
use Rattle.lu_spec_client.specs.Messages.{size_with, held_as as of_name, holds, learns, heeds, on_running, on_slot, hears_flight}
use Rattle.lu_spec_client.specs.Messages.{hears_fitting, hears, replied, find_flight, lock_granted, granted, lock_blocked, waiter}
use Rattle.lu_spec_client.specs.Messages.{cancels_unknown, blocked_waiting, blocked_held, blocked, size_held, Question, peeks, asked}
use Rattle.lu_spec_client.specs.Messages.{up_heard, ready_heard, evicted_heard, is_present, comes_from, comes_by}
use Rattle.lu_spec_client.specs.Recovery.{replays, lock_replays, held_of, word, recovers, forgets_stage, looks_stage, on_call, on_calls}
use Rattle.lu_spec_client.specs.Recovery.{is_left_at, comes_up, up, ready, ends_call, ends_calls, drops_all, next_life, joins_all, evicted}
use Rattle.lu_spec_client.specs.Recovery.{where_stage, ticks_at, ticks}
use Rattle.lu_spec_client.specs.Rows as client
use Rattle.lu_spec_client.specs.Rows.{rests, row_call}
use Rattle.lu_spec_client.specs.Sending.{resends}
use Rattle.lu_spec_client.specs.Slots.{begun, begins_on, begins_close, opens, begins_open, begins, slots_go}
use Rattle.lu_spec_client.specs.States.{Client as ClientState, follow, after, turn as turn_of}
use Rattle.lu_spec_target.specs.Rows as target
use Rattle.lu_proof_lawful.specs.Covered.Calls.{call_at, calls_at}
use Rattle.lu_proof_lawful.specs.Covered.Heads.{Head}
use Rattle.lu_proof_lawful.specs.Covered.Imports.{flights_at}
use Rattle.lu_spec_run.specs.Heads as table
use Rattle.lu_spec_run.specs.Runs.{limits_of, client_of, MeetsClient}
use Rattle.lu_proof_run.proofs.Clients.{client_own}
use Rattle.lu_proof_lawful.proofs.Preconditions.Guards.{In}
use Rattle.lu_proof_lawful.proofs.Preconditions.Grown.{Grown}
use Rattle.lu_proof_lawful.proofs.Preconditions.Lists.{self, turn, turn_more}
use Rattle.lu_proof_lawful.proofs.Preconditions.Only.{sent_was}
use Rattle.lu_proof_lawful.proofs.Preconditions.Parts.{flights_now}
use Rattle.lu_proof_lawful.proofs.Preconditions.Turns.{covered_head}
use Rattle.lu_proof_lawful.proofs.Preconditions.Covers.{EntriesCovered}
use Rattle.lu_proof_lawful.proofs.Preconditions.ClientLines.{IsSimple, IsLock, IsBytes, asked_parts, flights_asked, ComesTo, comes_to}
use Rattle.lu_proof_lawful.proofs.Preconditions.ClientLines.{was_there}
use Rattle.lu_proof_lawful.proofs.Preconditions.ClientGood.{call_line, followed}
use Rattle.lu_proof_lawful.proofs.Preconditions.ClientStarts.{Starts}
use Rattle.lu_proof_lawful.proofs.Preconditions.ClientReplies.{reply_after}
use Rattle.lu_proof_lawful.proofs.Preconditions.ClientGrants.{grant_after}
use Rattle.lu_proof_lawful.proofs.Preconditions.Obey.{stands}
use Rattle.lu_proof_lawful.proofs.Preconditions.PinsCount.{names_on, RoomOf}
use Rattle.lu_proof_lawful.proofs.Preconditions.PinsSteps.{Fit, fit_told, fit_begun, fit_light, AllLight, fit_lights, lights_more}
use Rattle.lu_proof_lawful.proofs.Preconditions.PinsSlots.{NotCame, goes_then, slots_fit, drop_fit, tail, tail_fit}
use Rattle.lu_proof_lawful.proofs.Preconditions.Ends.{grown_under}
use Rattle.lu_proof_lawful.proofs.Laws.PinsEvents.{call_on_is, heard_hears, holds_hears, learns_light, stand_fit, CameAt, came_at}
use Rattle.lu_proof_lawful.proofs.Laws.PinsEvents.{heeds_fit, granted_fit}

turn_calls : (es : List Entry) (j k : ClientState) → j.calls ≡ k.calls → (turn_of j es).calls ≡ (turn_of k es).calls
turn_calls [] j k same = same
turn_calls (e ∷ es) j k same = turn_calls es (after j e) (after k e) (ap (λ cs. calls_after cs e) same)

module _ (head : table.Head) (c : ℕ) (stamp : Stamp) where
  abbrev at : At
  at = turn stamp (Client c)

  abbrev few : Head
  few = covered_head head

  abbrev Light : List Entry → Type 0
  Light es = AllLight head c stamp es

  abbrev Goes : List Entry → List Line → Type 0
  Goes es p = EntriesCovered es → Fit c (with_turn at es p)

  -- ---- lines that leave the pins

  on_call_light : (f : ℕ → Running → Stage → List Entry) → ((slot : ℕ) (r : Running) (x : Stage) → Light (f slot r x))
      → (slot : ℕ) (x : Option Running) → Light (on_call f slot x)
  on_call_light f light slot None = tt
  on_call_light f light slot (Some r) = light slot r r.stage

  on_calls_light : (f : ℕ → Running → Stage → List Entry) → ((slot : ℕ) (r : Running) (x : Stage) → Light (f slot r x))
      → (n : ℕ) (calls : List (Option Running)) → Light (on_calls f n calls)
  on_calls_light f light n [] = tt
  on_calls_light f light n (x ∷ calls) = lights_more head c stamp (on_call f n x) (on_calls f (n + 1) calls) (on_call_light f light n x)
      (on_calls_light f light (n + 1) calls)

  where_light : (who : Who) (boot t slot : ℕ) (r : Running) (x : Stage) → Light (where_stage who boot t slot r x)
  where_light who boot t slot r (Waits w target l marked) = by (nat_eq target.0 t)
    where
      by : (b : Bool) → Light (if b then Send (Target t) (message.Where who boot l.cookie) ∷ [] else [])
      by true = (tt, tt)
      by false = tt
  where_light who boot t slot r x = tt

  replays_light : (who : Who) (boot t : ℕ) (rs : List Replay) → Light (replays who boot t rs)
  replays_light who boot t [] = tt
  replays_light who boot t (r ∷ rs) = (tt, replays_light who boot t rs)

  locks_light : (who : Who) (boot t : ℕ) (hs : List HeldLock) → Light (lock_replays who boot t hs)
  locks_light who boot t [] = tt
  locks_light who boot t (h ∷ hs) = (tt, locks_light who boot t hs)

  recovers_light : (t : ℕ) (k : ClientState) (i : Import) → Light (recovers t k i)
  recovers_light t k i =
      let hs = held_of t k.store.held in
      let last = word k.who i.boot t (length i.kept.replays) (length hs) i.kept.seen in
      lights_more head c stamp (replays k.who i.boot t i.kept.replays ++ lock_replays k.who i.boot t hs) (last ∷ [])
      (lights_more head c stamp (replays k.who i.boot t i.kept.replays) (lock_replays k.who i.boot t hs)
      (replays_light k.who i.boot t i.kept.replays) (locks_light k.who i.boot t hs)) (tt, tt)

  resends_light : (who : Who) (boot t : ℕ) (fs : List Flight) → Light (resends who boot t fs)
  resends_light who boot t [] = tt
  resends_light who boot t (f ∷ fs) = (tt, resends_light who boot t fs)

  joins_light : (who : Who) (t : ℕ) (is : List Import) → Light (joins_all who t is)
  joins_light who t [] = tt
  joins_light who t (i ∷ is) = (tt, joins_light who (t + 1) is)

  ticks_at_light : (t : ℕ) (k : ClientState) (i : Import) (x : Standing) → Light (ticks_at t k i x)
  ticks_at_light t k i Serving =
      lights_more head c stamp (resends k.who i.boot t i.flights) (on_calls (where_stage k.who i.boot t) 0 k.calls)
      (resends_light k.who i.boot t i.flights)
      (on_calls_light (where_stage k.who i.boot t) (where_light k.who i.boot t) 0 k.calls)
  ticks_at_light t k i Recovering = recovers_light t k i
  ticks_at_light t k i Joining = (tt, tt)

  ticks_light : (t : ℕ) (is : List Import) (k : ClientState) → Light (ticks t is k)
  ticks_light t [] k = tt
  ticks_light t (i ∷ is) k = lights_more head c stamp (ticks_at t k i i.standing) (ticks (t + 1) is k) (ticks_at_light t k i i.standing)
      (ticks_light (t + 1) is k)

  -- ---- calls that stand elsewhere, with all that they have pinned

  -- each of these stands there, or stays
  abbrev Moves : (ℕ → Running → Stage → List Entry) → Type 0
  Moves f = (slot : ℕ) (r : Running) (x : Stage) → (f slot r x ≡ [])
      ⊎ ((y : Stage) × (f slot r x ≡ Stands slot (at_stage r y) ∷ [])
      × ((held : List HeldLock) (names : List LockName) → RoomOf held names x → RoomOf held names y))

  forgets_moves : (t : ℕ) → Moves (forgets_stage t)
  forgets_moves t slot r (Waits w target l marked) = by (nat_eq target.0 t) refl
    where
      by : (b : Bool) → nat_eq target.0 t ≡ b → (forgets_stage t slot r (Waits w target l marked) ≡ [])
          ⊎ ((y : Stage) × (forgets_stage t slot r (Waits w target l marked) ≡ Stands slot (at_stage r y) ∷ [])
          × ((held : List HeldLock) (names : List LockName) → RoomOf held names (Waits w target l marked) → RoomOf held names y))
      by true e = inr (Forgotten w, rw e refl, λ held names room. room)
      by false e = inl (rw e refl)
  forgets_moves t slot r x = inl refl

  looks_moves : (t : ℕ) → Moves (looks_stage t)
  looks_moves t slot r (Forgotten w) = by (is_left_at t w.left) refl
    where
      by : (b : Bool) → is_left_at t w.left ≡ b → (looks_stage t slot r (Forgotten w) ≡ [])
          ⊎ ((y : Stage) × (looks_stage t slot r (Forgotten w) ≡ Stands slot (at_stage r y) ∷ [])
          × ((held : List HeldLock) (names : List LockName) → RoomOf held names (Forgotten w) → RoomOf held names y))
      by true e = inr (Looks w, rw e refl, λ held names room. room)
      by false e = inl (rw e refl)
  looks_moves t slot r x = inl refl

  -- and no other call
  record Moved (slot : ℕ) (p q : List Line) : Type 0 where
    fit : Fit c q
    others : (s : ℕ) → nat_eq slot s ≡ false → call_at c s q ≡ call_at c s p

  call_moved : (f : ℕ → Running → Stage → List Entry) → Moves f → (slot : ℕ) (x : Option Running) (p : List Line) → slot < 4
      → call_at c slot p ≡ x → Fit c p → Moved slot p (with_turn at (on_call f slot x) p)
  call_moved f moves slot None p small is fit = record { fit = fit; others = λ s n. refl }
  call_moved f moves slot (Some r) p small is fit = by (moves slot r r.stage)
    where
      by : (f slot r r.stage ≡ []) ⊎ ((y : Stage) × (f slot r r.stage ≡ Stands slot (at_stage r y) ∷ [])
          × ((held : List HeldLock) (names : List LockName) → RoomOf held names r.stage → RoomOf held names y))
          → Moved slot p (with_turn at (f slot r r.stage) p)
      by (inl none) = subst (λ (es : List Entry). Moved slot p (with_turn at es p)) (sym none) (record { fit = fit; others = λ s n. refl })
      by (inr y) =
          subst (λ (es : List Entry). Moved slot p (with_turn at es p)) (sym y.1) (record {
            fit = stand_fit head c stamp slot r y.0 p small is (y.2 (held_at c p) r.pins) fit;
            others = λ s n. call_line head c stamp s p (Stands slot (at_stage r y.0))
                ∙ ap (λ (b : Bool). if b then Some (at_stage r y.0) else call_at c s p) n;
          })

  calls_fit : (f : ℕ → Running → Stage → List Entry) → Moves f → (p : List Line) → Fit c p
      → Fit c (with_turn at (on_calls f 0 (calls_at c p)) p)
  calls_fit f moves p fit = subst (Fit c) (sym all) m3.fit
    where
      e0 : List Entry
      e0 = on_call f 0 (call_at c 0 p)

      e1 : List Entry
      e1 = on_call f 1 (call_at c 1 p)

      e2 : List Entry
      e2 = on_call f 2 (call_at c 2 p)

      e3 : List Entry
      e3 = on_call f 3 (call_at c 3 p)

      p1 : List Line
      p1 = with_turn at e0 p

      p2 : List Line
      p2 = with_turn at e1 p1

      p3 : List Line
      p3 = with_turn at e2 p2

      p4 : List Line
      p4 = with_turn at e3 p3

      all : with_turn at (on_calls f 0 (calls_at c p)) p ≡ p4
      all = turn_more at e0 (e1 ++ (e2 ++ (e3 ++ []))) p ∙ turn_more at e1 (e2 ++ (e3 ++ [])) p1 ∙ turn_more at e2 (e3 ++ []) p2
          ∙ turn_more at e3 [] p3

      m0 : Moved 0 p p1
      m0 = call_moved f moves 0 (call_at c 0 p) p (omega arith) refl fit

      m1 : Moved 1 p1 p2
      m1 = call_moved f moves 1 (call_at c 1 p) p1 (omega arith) (m0.others 1 refl) m0.fit

      m2 : Moved 2 p2 p3
      m2 = call_moved f moves 2 (call_at c 2 p) p2 (omega arith) (m1.others 2 refl ∙ m0.others 2 refl) m1.fit

      m3 : Moved 3 p3 p4
      m3 = call_moved f moves 3 (call_at c 3 p) p3 (omega arith) (m2.others 3 refl ∙ m1.others 3 refl ∙ m0.others 3 refl) m2.fit

  -- a target is up again
  up_fit : (t boot : ℕ) (p : List Line) → Fit c p → Fit c (with_turn at (up t boot (client_of head c p)) p)
  up_fit t boot p fit = by (import_of t j.imports) (import_of t j.imports).standing
    where
      j : ClientState
      j = turn_of (client_of head c p) (Knows t boot ∷ [])

      p1 : List Line
      p1 = line at (Knows t boot) ∷ p

      p2 : List Line
      p2 = line at (Unmarks t) ∷ p1

      fit1 : Fit c p1
      fit1 = fit_light head c stamp p (Knows t boot) tt fit

      forgets : (i : Import) → Fit c (with_turn at (on_calls (forgets_stage t) 0 (calls_at c p2) ++ recovers t j i) p2)
      forgets i =
          let es = on_calls (forgets_stage t) 0 (calls_at c p2) in
          subst (Fit c) (sym (turn_more at es (recovers t j i) p2))
          (fit_lights head c stamp (recovers t j i) (with_turn at es p2) (recovers_light t j i)
          (calls_fit (forgets_stage t) (forgets_moves t) p2 (fit_light head c stamp p1 (Unmarks t) tt fit1)))

      by : (i : Import) (x : Standing) → Fit c (with_turn at (comes_up t j i x) p1)
      by i Joining = fit_light head c stamp p1 (Send (Target t) (message.Join j.who i.boot)) tt fit1
      by i Serving = forgets i
      by i Recovering = forgets i

  -- a target serves the life
  resends_calls : (who : Who) (boot t : ℕ) (fs : List Flight) (p : List Line) (s : ℕ) → call_at c s (with_turn at (resends who boot t fs) p)
      ≡ call_at c s p
  resends_calls who boot t [] p s = refl
  resends_calls who boot t (f ∷ fs) p s = resends_calls who boot t fs _ s

  ready_fit : (t boot committed : ℕ) (p : List Line) → Fit c p → Fit c (with_turn at (ready t boot committed (client_of head c p)) p)
  ready_fit t boot committed p fit =
      subst (Fit c) (sym (turn_more at es (on_calls (looks_stage t) 0 (calls_at c p)) p2))
      (subst (λ (cs : List (Option Running)). Fit c (with_turn at (on_calls (looks_stage t) 0 cs) q)) calls
      (calls_fit (looks_stage t) (looks_moves t) q (fit_lights head c stamp es p2 (resends_light k.who i.boot t i.flights)
      (fit_light head c stamp _ (Settles t committed) tt (fit_light head c stamp p (Serves t boot) tt fit)))))
    where
      k : ClientState
      k = client_of head c p

      i : Import
      i = import_of t k.imports

      es : List Entry
      es = resends k.who i.boot t i.flights

      p2 : List Line
      p2 = line at (Settles t committed) ∷ line at (Serves t boot) ∷ p

      q : List Line
      q = with_turn at es p2

      same : (s : ℕ) → call_at c s q ≡ call_at c s p
      same s = resends_calls k.who i.boot t i.flights p2 s

      calls : calls_at c q ≡ calls_at c p
      calls = rw (same 0, same 1, same 2, same 3) refl

  -- ---- a lock is called back

  cancels_light : (who : Who) (name : LockName) (boot : ℕ) (fs : List Flight) → Light (cancels_unknown who name boot fs)
  cancels_light who name boot [] = (tt, tt)
  cancels_light who name boot (f ∷ fs) = tt

  called_moves : Moves lock_blocked
  called_moves slot r (Waits w target l marked) = inr (Waits w target l true, refl, λ held names room. room)
  called_moves slot r x = inl refl

  blocked_fit : (name : LockName) (b : Bool) (p : List Line) → Fit c p → Fit c (with_turn at (blocked name (client_of head c p) b) p)
  blocked_fit name false p fit = fit
  blocked_fit name true p fit = by (is_held name k.store.held)
    where
      k : ClientState
      k = client_of head c p

      running : (slot : ℕ) (x : Option Running) → call_on slot (calls_at c p) ≡ x → Fit c (with_turn at (on_running lock_blocked slot x) p)
      running slot None e = fit
      running slot (Some r) e = let on = call_on_is c slot p r e in (call_moved lock_blocked called_moves slot (Some r) p on.0 on.1 fit).fit

      waits : (o : Option ℕ) → Fit c (with_turn at (blocked_waiting name k o) p)
      waits (Some slot) = running slot (call_on slot (calls_at c p)) refl
      waits None =
          let i = import_of name.target.0 k.imports in
          fit_lights head c stamp (cancels_unknown k.who name i.boot i.flights) p (cancels_light k.who name i.boot i.flights) fit

      by : (b : Bool) → Fit c (with_turn at (blocked_held name k b) p)
      by true = fit_light head c stamp p (Marks name) tt fit
      by false = waits (waiter name 0 k.calls)

  -- ---- another client asks how long an object is

  asked_light : (t : ℕ) (a : Question) (k : ClientState) (b : Bool) → Light (asked at t a k b)
  asked_light t a k false = tt
  asked_light t a k true = by (size_held k.store (of_name (named (record { 0 = t }) a.cookie) k.store.held))
    where
      by : (o : Option ℕ) → Light (peeks at t a k.who (import_of t k.imports).boot o)
      by None = (tt, tt)
      by (Some size) = (tt, (tt, tt))

  -- ---- an eviction

  end_fit : (slot : ℕ) (x : Option Running) (p : List Line) → Fit c p → Fit c (with_turn at (ends_call at slot x) p)
  end_fit slot None p fit = fit
  end_fit slot (Some r) p fit = fit_told head c stamp p slot at (answer.Refused EIO) None fit

  end_calls : (slot : ℕ) (x : Option Running) (p : List Line) → call_at c slot p ≡ x → (s : ℕ)
      → call_at c s (with_turn at (ends_call at slot x) p) ≡ (if nat_eq slot s then None else call_at c s p)
  end_calls slot None p is s = by (nat_eq slot s) refl
    where
      by : (b : Bool) → nat_eq slot s ≡ b → call_at c s p ≡ (if b then None else call_at c s p)
      by true e = ap (λ (u : ℕ). call_at c u p) (sym (eqb-true slot s e)) ∙ is
      by false e = refl
  end_calls slot (Some r) p is s = call_line head c stamp s p (Told slot at (answer.Refused EIO) None)

  drops_fit : (hs : List HeldLock) (p : List Line) → ((s : ℕ) → call_at c s p ≡ None) → Fit c p → Fit c (with_turn at (drops_all hs) p)
  drops_fit [] p none fit = fit
  drops_fit (h ∷ hs) p none fit =
      drops_fit hs (line at (Drop h.target.0 h.lock) ∷ p) none
      (drop_fit head c stamp p h.target.0 h.lock fit (λ s. subst NotCame (sym (none s)) tt)
      (λ s i. subst (λ (x : Option Running). In (named (record { 0 = h.target.0 }) h.lock.cookie) (names_on x)) (none s) i))

  evicted_fit : (k : ClientState) (p : List Line) → k.calls ≡ calls_at c p → ((s : ℕ) → 4 ≤ s → call_at c s p ≡ None) → Fit c p
      → Fit c (with_turn at (evicted at k) p)
  evicted_fit k p same low fit =
      subst (λ (cs : List (Option Running)). Fit c (with_turn at ((ends_calls at 0 cs ++ drops_all hs) ++ last) p)) (sym same)
      (subst (Fit c)
      (sym (turn_more at (ends_calls at 0 (calls_at c p) ++ drops_all hs) last p
      ∙ ap (λ (q : List Line). with_turn at last q) (turn_more at (ends_calls at 0 (calls_at c p)) (drops_all hs) p)
      ∙ ap (λ (q : List Line). with_turn at last (with_turn at (drops_all hs) q)) all))
      (fit_lights head c stamp last (with_turn at (drops_all hs) p4) (tt, joins_light (next_life k.who) 0 k.imports)
      (drops_fit hs p4 none (end_fit 3 (call_at c 3 p) p3 (end_fit 2 (call_at c 2 p) p2
      (end_fit 1 (call_at c 1 p) p1 (end_fit 0 (call_at c 0 p) p fit)))))))
    where
      hs : List HeldLock
      hs = in_order k.store.held

      last : List Entry
      last = Life (next_life k.who) ∷ joins_all (next_life k.who) 0 k.imports

      e0 : List Entry
      e0 = ends_call at 0 (call_at c 0 p)

      e1 : List Entry
      e1 = ends_call at 1 (call_at c 1 p)

      e2 : List Entry
      e2 = ends_call at 2 (call_at c 2 p)

      e3 : List Entry
      e3 = ends_call at 3 (call_at c 3 p)

      p1 : List Line
      p1 = with_turn at e0 p

      p2 : List Line
      p2 = with_turn at e1 p1

      p3 : List Line
      p3 = with_turn at e2 p2

      p4 : List Line
      p4 = with_turn at e3 p3

      all : with_turn at (ends_calls at 0 (calls_at c p)) p ≡ p4
      all = turn_more at e0 (e1 ++ (e2 ++ (e3 ++ []))) p ∙ turn_more at e1 (e2 ++ (e3 ++ [])) p1 ∙ turn_more at e2 (e3 ++ []) p2
          ∙ turn_more at e3 [] p3

      c0 : (s : ℕ) → call_at c s p1 ≡ (if nat_eq 0 s then None else call_at c s p)
      c0 = end_calls 0 (call_at c 0 p) p refl

      c1 : (s : ℕ) → call_at c s p2 ≡ (if nat_eq 1 s then None else call_at c s p1)
      c1 = end_calls 1 (call_at c 1 p) p1 (c0 1)

      c2 : (s : ℕ) → call_at c s p3 ≡ (if nat_eq 2 s then None else call_at c s p2)
      c2 = end_calls 2 (call_at c 2 p) p2 (c1 2 ∙ c0 2)

      c3 : (s : ℕ) → call_at c s p4 ≡ (if nat_eq 3 s then None else call_at c s p3)
      c3 = end_calls 3 (call_at c 3 p) p3 (c2 3 ∙ c1 3 ∙ c0 3)

      apart : (slot s : ℕ) → slot < 4 → 4 ≤ s → nat_eq slot s ≡ false
      apart slot s small above = grind (arith, nat_tests)

      other : (slot s : ℕ) (x y : Option Running) → slot < 4 → 4 ≤ s → (if nat_eq slot s then x else y) ≡ y
      other slot s x y small above = ap (λ (b : Bool). if b then x else y) (apart slot s small above)

      high : (s : ℕ) → 4 ≤ s → call_at c s p4 ≡ None
      high s above =
          c3 s ∙ other 3 s None (call_at c s p3) (omega arith) above ∙ c2 s ∙ other 2 s None (call_at c s p2) (omega arith) above ∙ c1 s
          ∙ other 1 s None (call_at c s p1) (omega arith) above
          ∙ c0 s ∙ other 0 s None (call_at c s p) (omega arith) above ∙ low s above

      none : (s : ℕ) → call_at c s p4 ≡ None
      none zero = c3 0 ∙ c2 0 ∙ c1 0 ∙ c0 0
      none (suc zero) = c3 1 ∙ c2 1 ∙ c1 1
      none (suc (suc zero)) = c3 2 ∙ c2 2
      none (suc (suc (suc zero))) = c3 3
      none (suc (suc (suc (suc s)))) = high (suc (suc (suc (suc s)))) (omega arith)

  -- ---- a reply

  module _ (p : List Line) (n t : ℕ) (r : ReplyTo) (fit : Fit c (line at (Take n (Target t) (message.Reply r)) ∷ p))
      (came : (s : ℕ) → NotCame (call_at c s p)) where
    abbrev k : ClientState
    k = client_of head c p

    abbrev p1 : List Line
    p1 = line at (Take n (Target t) (message.Reply r)) ∷ p

    abbrev Hearing : List Entry → Type 0
    Hearing es = Grown few (with_turn at es p1) → CameAt head c stamp (with_turn at es p1) → Fit c (with_turn at es p1)

    flight_fit : (f : Flight) → Hearing (hears_flight t r f k)
    flight_fit f g at_end = subst (Fit c) (sym so) (heeds_fit head c stamp t f f.op r j p4 calls asked fit4
        (subst (CameAt head c stamp) so at_end))
      where
        shows : List Entry
        shows = holds t (size_with r.answer) r.seen (brought f.op r)

        told : List Entry
        told = learns t f.op r.answer r.locks

        es : List Entry
        es = Heard t f r ∷ shows ++ told

        j : ClientState
        j = turn_of k es

        heeding : List Entry
        heeding = heeds t f f.op r r.answer j

        p2 : List Line
        p2 = line at (Heard t f r) ∷ p1

        p3 : List Line
        p3 = with_turn at shows p2

        p4 : List Line
        p4 = with_turn at told p3

        first : with_turn at es p1 ≡ p4
        first = turn_more at shows told p2

        so : with_turn at (hears_flight t r f k) p1 ≡ with_turn at heeding p4
        so = turn_more at es heeding p1 ∙ ap (λ (q : List Line). with_turn at heeding q) first

        g4 : Grown few p4
        g4 = grown_under few at heeding p4 (subst (Grown few) so g)

        g3 : Grown few p3
        g3 = grown_under few at told p3 g4

        g2 : Grown few p2
        g2 = grown_under few at shows p2 g3

        fit4 : Fit c p4
        fit4 =
            fit_lights head c stamp told p3 (learns_light head c stamp t f.op r.answer r.locks)
            (holds_hears head c stamp t (size_with r.answer) r.seen (brought f.op r) (brought f.op r) p2 (λ l i. i) g3
            (heard_hears head c stamp p1 t f r g2 fit came)).fit

        calls : j.calls ≡ calls_at c p4
        calls = turn_calls es k (client_of head c p1) refl ∙ ap (λ (i : ClientState). i.calls)
            (sym (client_own (limits_of head) c p1 at es (self c))) ∙ ap (calls_at c) first

        flying : In f (flights_at c t p1)
        flying = subst (λ (fs : List Flight). In f fs) (sym (flights_now few c t p1 g2.1)) (g2.0.of t (self t)).flying

        asked : IsSimple f.op ⊎ IsLock f.op ⊎ IsBytes f.op
        asked = ⊎_elim (λ (s : IsSimple f.op). inl s) (λ (l : (0 < t) × (IsLock f.op ⊎ IsBytes f.op)). inr l.1)
            (asked_parts t f.op (flights_asked few c t p1 g2.1 f flying))

    reply_fit : Hearing (comes_by at (Target t) (message.Reply r) k)
    reply_fit = by_life (is_present r.who r.boot t k)
      where
        by_fit : (f : Flight) (b : Bool) → Hearing (hears_fitting t r f k b)
        by_fit f false g at_end = fit
        by_fit f true g at_end = flight_fit f g at_end

        by_flight : (o : Option Flight) → Hearing (hears t r k o)
        by_flight None g at_end = fit
        by_flight (Some f) g at_end = by_fit f (answer_fits f.op r.answer) g at_end

        by_life : (b : Bool) → Hearing (replied t r k b)
        by_life false g at_end = fit
        by_life true g at_end = by_flight (find_flight r.xid.0 (import_of t k.imports).flights) g at_end

  -- ---- what begins a turn

  pub record Start (p : List Line) : Type 0 where
    pub fit : Fit c p
    pub starts : Starts head c stamp p
    pub came : (s : ℕ) → NotCame (call_at c s p)
    pub low : (s : ℕ) → 4 ≤ s → call_at c s p ≡ None

  takes_fit : (p : List Line) (n : ℕ) (from : Node) (m : Message) → Start p → Sent p n from (Client c) m
      → Grown few (with_turn at (comes_by at from m (client_of head c p)) (line at (Take n from m) ∷ p))
      → Fit c (with_turn at (comes_by at from m (client_of head c p)) (line at (Take n from m) ∷ p))
  takes_fit p n (Client d) m s sent g = absurd (comes_to few p (Client d) c m s.starts.grown (sent_was p n (Client d) (Client c) m sent))
  takes_fit p n (Target t) m s sent g = by m sent g (comes_to few p (Target t) c m s.starts.grown
      (sent_was p n (Target t) (Client c) m sent))
    where
      k : ClientState
      k = client_of head c p

      taken : Message → List Line
      taken x = line at (Take n (Target t) x) ∷ p

      took : (x : Message) → Fit c (taken x)
      took x = fit_light head c stamp p (Take n (Target t) x) tt s.fit

      there : (x : Message) → Sent p n (Target t) (Client c) x → t ≤ head.osts
      there x sent = was_there head.osts t (Client c) x p s.starts.there (sent_was p n (Target t) (Client c) x sent)

      -- a lock that waited is granted
      grants : (g : GrantNotice) (b : Bool) → Grown few (with_turn at (granted t g k b) (taken (message.Grant g)))
          → CameAt head c stamp (with_turn at (granted t g k b) (taken (message.Grant g)))
          → Fit c (with_turn at (granted t g k b) (taken (message.Grant g)))
      grants g false gr came = took (message.Grant g)
      grants g true gr came = on (waiter (named (record { 0 = t }) g.cookie) 0 k.calls) gr came
        where
          calls : (slot : ℕ) (x : Option Running) → call_on slot (calls_at c p) ≡ x
              → Grown few (with_turn at (on_running (lock_granted t g) slot x) (taken (message.Grant g)))
              → CameAt head c stamp (with_turn at (on_running (lock_granted t g) slot x) (taken (message.Grant g)))
              → Fit c (with_turn at (on_running (lock_granted t g) slot x) (taken (message.Grant g)))
          calls slot None e gr came = took (message.Grant g)
          calls slot (Some r) e gr came = granted_fit head c stamp p n t g slot r (call_on_is c slot p r e) s.came (took (message.Grant g))
              gr came

          on : (o : Option ℕ) → Grown few (with_turn at (on_slot (lock_granted t g) o k) (taken (message.Grant g)))
              → CameAt head c stamp (with_turn at (on_slot (lock_granted t g) o k) (taken (message.Grant g)))
              → Fit c (with_turn at (on_slot (lock_granted t g) o k) (taken (message.Grant g)))
          on None gr came = took (message.Grant g)
          on (Some slot) gr came = calls slot (call_on slot (calls_at c p)) refl gr came

      by : (x : Message) → Sent p n (Target t) (Client c) x → Grown few (with_turn at (comes_from at t x k) (taken x))
          → ComesTo (Target t) x → Fit c (with_turn at (comes_from at t x k) (taken x))
      by (message.Reply r) sent g to = reply_fit p n t r (took (message.Reply r)) s.came g
          (came_at head c stamp _ (reply_after head c stamp p n t r s.starts (there (message.Reply r) sent) sent).0)
      by (message.Grant g) sent gr to = grants g (is_present g.who g.boot t k) gr
          (came_at head c stamp _ (grant_after head c stamp p n t g s.starts (there (message.Grant g) sent) sent).0)
      by (message.Block who boot cookie) sent g to = blocked_fit (named (record { 0 = t }) cookie) (same_life who k.who)
          (taken (message.Block who boot cookie)) (took (message.Block who boot cookie))
      by (message.Ask who boot cookie for_who xid) sent g to =
          let a : Question = record { cookie = cookie; for_who = for_who; xid = xid } in
          fit_lights head c stamp (asked at t a k (same_life who k.who)) (taken (message.Ask who boot cookie for_who xid))
          (asked_light t a k (same_life who k.who)) (took (message.Ask who boot cookie for_who xid))
      by (message.Up boot) sent g to = ups (nat_lt (import_of t k.imports).boot boot)
        where
          ups : (b : Bool) → Fit c (with_turn at (up_heard t boot k b) (taken (message.Up boot)))
          ups true = up_fit t boot (taken (message.Up boot)) (took (message.Up boot))
          ups false = took (message.Up boot)
      by (message.Ready who boot committed) sent g to = readies (is_present who boot t k)
        where
          readies : (b : Bool) → Fit c (with_turn at (ready_heard t boot committed.0 k b) (taken (message.Ready who boot committed)))
          readies true = ready_fit t boot committed.0 (taken (message.Ready who boot committed)) (took (message.Ready who boot committed))
          readies false = took (message.Ready who boot committed)
      by (message.Evicted who boot) sent g to = ends (same_life who k.who)
        where
          ends : (b : Bool) → Fit c (with_turn at (evicted_heard at k b) (taken (message.Evicted who boot)))
          ends true = evicted_fit k (taken (message.Evicted who boot)) refl s.low (took (message.Evicted who boot))
          ends false = took (message.Evicted who boot)
      by x sent g to = absurd to

  -- ---- a call begins

  begins_fit : (slot : ℕ) (x : Call) (p : List Line) → Fit c p → Fit c (with_turn at (begins at slot x (client_of head c p)) p)
  begins_fit slot x p fit = by x
    where
      k : ClientState
      k = client_of head c p

      begun_bad : (y : Call) → Fit c (line at (Told slot at (answer.Refused EBADF) None) ∷ line at (Begin slot (begun at y None Bad)) ∷ p)
      begun_bad y = fit_told head c stamp (line at (Begin slot (begun at y None Bad)) ∷ p) slot at (answer.Refused EBADF) None
          (fit_begun head c stamp p slot y None true fit)

      plain : (y : Call) (f : Option HandleFile) → Fit c (line at (Begin slot (begun at y f Plain)) ∷ p)
      plain y f = fit_begun head c stamp p slot y f false fit

      opens_fit : (y : Call) (b : Bool) → Fit c (with_turn at (begins_open at slot y b) p)
      opens_fit y true = begun_bad y
      opens_fit y false = plain y None

      close_fit : (h : ℕ) (f : Option HandleFile) → Fit c (with_turn at (begins_close at slot h f) p)
      close_fit h None = begun_bad (call.Close h)
      close_fit h (Some f) = fit_light head c stamp (line at (Begin slot (begun at (call.Close h) (Some f) Plain)) ∷ p) (Unbinds h) tt
          (plain (call.Close h) (Some f))

      file_fit : (y : Call) (f : Option HandleFile) → Fit c (with_turn at (begins_on at slot y f) p)
      file_fit y None = begun_bad y
      file_fit y (Some f) = plain y (Some f)

      by : (x : Call) → Fit c (with_turn at (begins at slot x k) p)
      by (call.Open h path) = opens_fit (call.Open h path) (is_some (file_of h k.handles) || list_any (opens h) k.calls)
      by (call.Close h) = close_fit h (file_of h k.handles)
      by (call.Read h o n) = file_fit (call.Read h o n) (file_of h k.handles)
      by (call.Write h o bs) = file_fit (call.Write h o bs) (file_of h k.handles)
      by (call.Cut h n) = file_fit (call.Cut h n) (file_of h k.handles)
      by (call.Flush h) = file_fit (call.Flush h) (file_of h k.handles)
      by (call.Glimpse h) = file_fit (call.Glimpse h) (file_of h k.handles)
      by x = plain x None

  -- ---- a turn

  -- no call has just got a lock, and none is on a slot that there isn't
  pub record Waits4 (q : List Line) : Type 0 where
    pub came : (s : ℕ) → NotCame (call_at c s q)
    pub low : (s : ℕ) → 4 ≤ s → call_at c s q ≡ None

  rests_fit : (p : List Line) → Fit c p → Waits4 (with_turn at (rests (limits_of head) at (client_of head c p)) p)
      → Goes (rests (limits_of head) at (client_of head c p)) p
  rests_fit p fit after =
      let es = slots_go 5 at (client_of head c p) in
      let q = with_turn at es p in
      let so = followed head c stamp es (tail head c stamp) p in
      goes_then head c stamp (Fit c) es (tail head c stamp) p (slots_fit head c stamp 5 p fit)
      (λ f. tail_fit head c stamp q f (subst Waits4 so after).came (subst Waits4 so after).low)

  event_then : (es : List Entry) (p : List Line) → Goes es p → Waits4
      (with_turn at (follow es (rests (limits_of head) at) (client_of head c p)) p)
      → Goes (follow es (rests (limits_of head) at) (client_of head c p)) p
  event_then es p first after =
      goes_then head c stamp (Fit c) es (rests (limits_of head) at) p first
      (λ f. rests_fit (with_turn at es p) f (subst Waits4 (followed head c stamp es (rests (limits_of head) at) p) after))

  pub client_fit : (p : List Line) (event : client.Event) → Start p → MeetsClient head p c event
      → Grown few (with_turn at (client.row (limits_of head) at event (client_of head c p)) p)
      → Waits4 (with_turn at (client.row (limits_of head) at event (client_of head c p)) p)
      → Goes (client.row (limits_of head) at event (client_of head c p)) p
  client_fit p (client.Begins slot x) s meets g after = by (call_on slot (calls_at c p)) after
    where
      by : (o : Option Running) → Waits4 (with_turn at (row_call (limits_of head) at slot x (client_of head c p) o) p)
          → Goes (row_call (limits_of head) at slot x (client_of head c p) o) p
      by None after = event_then (begins at slot x (client_of head c p)) p (λ covered. begins_fit slot x p s.fit) after
      by (Some r) after = λ covered. fit_light head c stamp p (Busy slot) tt s.fit
  client_fit p (client.Comes n from m) s meets g after =
      let es = comes_by at from m (client_of head c p) in
      event_then (Take n from m ∷ es) p
      (λ covered. takes_fit p n from m s meets.1 (grown_under few at
      (rests (limits_of head) at (turn_of (client_of head c p) (Take n from m ∷ es))) (with_turn at (Take n from m ∷ es) p)
      (subst (Grown few) (turn_more at (Take n from m ∷ es) (rests (limits_of head) at (turn_of (client_of head c p) (Take n from m ∷ es)))
      p) g))) after
  client_fit p client.Ticks s meets g after =
      let es = ticks 0 (client_of head c p).imports (client_of head c p) in
      event_then (Tick ∷ es) p (λ covered. fit_lights head c stamp (Tick ∷ es) p
      (tt, ticks_light 0 (client_of head c p).imports (client_of head c p)) s.fit) after
  client_fit p client.Dies s meets g after = λ covered. fit_light head c stamp p Die tt s.fit
