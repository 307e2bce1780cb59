-- What a turn leaves of the locks that a client waits for, event by event, and a turn of another node. A reply tells to wait for one, its
-- grant
-- brings it; of a target that is up again none is waited for any more, nor after a life.
use Rattle.std.proofs.Common.{◌≡◌, ℕ, zero, suc, ◌+◌, ◌-◌, ◌<◌, ◌≤◌, Bool, true, false, List, [], ◌∷◌, ◌++◌, ◌⊎◌, inl, inr, ⊎_elim, Option}
use Rattle.std.proofs.Common.{Some, None, refl, sym, subst, ap, ◌∙◌, arith}
use Rattle.std.specs.Prelude.{nat_eq, ◌&&◌, if◌then◌else◌}
use Rattle.std.proofs.lemmas.Bool.{cond-true, eqb-true, and_parts}
use Rattle.std.proofs.lemmas.Bool.Decides.{nat_tests}
use Rattle.lu_base.specs.declared.ids.At.{At}
use Rattle.lu_base.specs.declared.ids.Node.{Node}
use Rattle.lu_base.specs.declared.ids.Node.TheVariants.{Client, Target}
use Rattle.lu_base.specs.declared.ids.Stamp.{Stamp}
use Rattle.lu_base.specs.declared.ids.Who.{Who}
use Rattle.lu_base.specs.declared.locks.Lock.{Lock}
use Rattle.lu_msg.specs.declared.calls.Call.{Call}
use Rattle.lu_msg.specs.declared.messages.GrantNotice.{GrantNotice}
use Rattle.lu_msg.specs.declared.messages.Message.{Message}
use Rattle.lu_held.specs.declared.locks.HeldLock.{HeldLock}
use Rattle.lu_held.specs.declared.names.LockName.{LockName}
use Rattle.lu_held.specs.Locks.{named}
use Rattle.lu_held.specs.Held.{in_order, is_held}
use Rattle.lu_spec_entries.specs.Carried.{Flight, Stage, Looks, Waits, Came, Forgotten, Running}
use Rattle.lu_spec_entries.specs.Words.{Entry, Stands, Heard, Hold, Knows, Life, Serves, Settles, Marks, Unmarks, Take, Tick, Busy, Acks}
use Rattle.lu_spec_entries.specs.Words.{Fills, Zeroes, Grown as Grows, Shows, Line, line, with_turn, is_client}
use Rattle.lu_spec_entries.specs.Fields.{on}
use Rattle.lu_spec_entries.specs.Concerns.{concerns, only}
use Rattle.lu_spec_client.specs.Advances.{at_stage}
use Rattle.lu_spec_client.specs.Caches.{held_at}
use Rattle.lu_spec_client.specs.Calls.{call_after, call_on, reads_call, reads_life, life_after}
use Rattle.lu_spec_client.specs.Imports.{Import, import_of}
use Rattle.lu_spec_client.specs.Messages.{Question, waits_for, is_waiter, waiter, granted_as, lock_granted, granted, lock_blocked}
use Rattle.lu_spec_client.specs.Messages.{cancels_unknown, blocked_waiting, blocked_held, blocked, asked, on_running, on_slot, up_heard}
use Rattle.lu_spec_client.specs.Messages.{ready_heard, evicted_heard}
use Rattle.lu_spec_client.specs.Recovery.{recovers, joins, joins_all, forgets_stage, is_left_at, looks_stage, on_calls, comes_up, up, ready}
use Rattle.lu_spec_client.specs.Recovery.{ends_calls, drops_all, next_life, evicted, ticks}
use Rattle.lu_spec_client.specs.Rows.{rests, row_call, row_tick, row_dies}
use Rattle.lu_spec_client.specs.Sending.{resends}
use Rattle.lu_spec_client.specs.Slots.{begins}
use Rattle.lu_spec_client.specs.States.{Client as ClientState}
use Rattle.lu_proof_lawful.specs.Covered.Calls.{call_at, calls_at, life_at}
use Rattle.lu_proof_lawful.specs.Covered.ClientStates.{life_of, is_own, brings_cookie, awaits_of}
use Rattle.lu_proof_lawful.specs.Covered.Imports.{Standing, Joining, Recovering, Serving, interrupted, standing_at}
use Rattle.lu_proof_lawful.specs.Covered.Heads.{Head}
use Rattle.lu_spec_run.specs.Heads as table
use Rattle.lu_spec_run.specs.Runs.{limits_of, client_of}
use Rattle.lu_proof_lawful.proofs.Preconditions.HeedMarks.{heeds_marks, marks_left}
use Rattle.lu_proof_lawful.proofs.Preconditions.Guards.{marks_of, LifeOk}
use Rattle.lu_proof_lawful.proofs.Preconditions.Grown.{Grown}
use Rattle.lu_proof_lawful.proofs.Preconditions.Lists.{self, turn, turn_more, own_self}
use Rattle.lu_proof_lawful.proofs.Preconditions.Parts.{rise_of, not_other, life_client, life_is_of, standing_is}
use Rattle.lu_proof_lawful.proofs.Preconditions.Only.{grown_of}
use Rattle.lu_proof_lawful.proofs.Preconditions.Ends.{grown_under}
use Rattle.lu_proof_lawful.proofs.Preconditions.ClientLines.{on_other}
use Rattle.lu_proof_lawful.proofs.Preconditions.ClientGood.{the_head, call_line, followed}
use Rattle.lu_proof_lawful.proofs.Preconditions.ClientRests.{import_there}
use Rattle.lu_proof_lawful.proofs.Preconditions.Awaits.{lock_named, one_of, waiting_for, Awaits, count_same, no_wait, NoWait, awaits_new}
use Rattle.lu_proof_lawful.proofs.Preconditions.Awaits.{joins_fresh}
use Rattle.lu_proof_lawful.proofs.Preconditions.AwaitsRows.{AllOf, AllPlain, same_awaits, plains_waiter, plains_await, slot_waiter}
use Rattle.lu_proof_lawful.proofs.Preconditions.AwaitsRows.{slot_awaits, Lets, lets_more, rests_let, begins_let}
use Rattle.lu_proof_lawful.proofs.Preconditions.AwaitsQuiet.{apart_from, nat_symm, resends_plain, recovers_plain, joins_plain, ticks_plain}
use Rattle.lu_proof_lawful.proofs.Preconditions.AwaitsQuiet.{asked_plain, AllQuiet, quiet_more, quiet_turn}

-- ---- one call more that waits, or one less

pub counts_one : (name : LockName) (c slot : ℕ) (p q : List Line) → slot < 4
    → ((s : ℕ) → nat_eq slot s ≡ false → is_waiter name (call_at c s q) ≡ is_waiter name (call_at c s p))
    → waiting_for name (calls_at c q) + one_of (is_waiter name (call_at c slot p))
    ≡ waiting_for name (calls_at c p) + one_of (is_waiter name (call_at c slot q))
counts_one name c zero p q small same =
    let a = same 1 refl in
    let b = same 2 refl in
    let d = same 3 refl in
    let x = λ (s : ℕ). one_of (is_waiter name (call_at c s q)) in
    let y = λ (s : ℕ). one_of (is_waiter name (call_at c s p)) in
    let e : x 1 ≡ y 1 = ap one_of a in
    let f : x 2 ≡ y 2 = ap one_of b in
    let g : x 3 ≡ y 3 = ap one_of d in
    omega (arith, e, f, g)
counts_one name c (suc zero) p q small same =
    let x = λ (s : ℕ). one_of (is_waiter name (call_at c s q)) in
    let y = λ (s : ℕ). one_of (is_waiter name (call_at c s p)) in
    let e : x 0 ≡ y 0 = ap one_of (same 0 refl) in
    let f : x 2 ≡ y 2 = ap one_of (same 2 refl) in
    let g : x 3 ≡ y 3 = ap one_of (same 3 refl) in
    omega (arith, e, f, g)
counts_one name c (suc (suc zero)) p q small same =
    let x = λ (s : ℕ). one_of (is_waiter name (call_at c s q)) in
    let y = λ (s : ℕ). one_of (is_waiter name (call_at c s p)) in
    let e : x 0 ≡ y 0 = ap one_of (same 0 refl) in
    let f : x 1 ≡ y 1 = ap one_of (same 1 refl) in
    let g : x 3 ≡ y 3 = ap one_of (same 3 refl) in
    omega (arith, e, f, g)
counts_one name c (suc (suc (suc zero))) p q small same =
    let x = λ (s : ℕ). one_of (is_waiter name (call_at c s q)) in
    let y = λ (s : ℕ). one_of (is_waiter name (call_at c s p)) in
    let e : x 0 ≡ y 0 = ap one_of (same 0 refl) in
    let f : x 1 ≡ y 1 = ap one_of (same 1 refl) in
    let g : x 2 ≡ y 2 = ap one_of (same 2 refl) in
    omega (arith, e, f, g)
counts_one name c (suc (suc (suc (suc slot)))) p q small same = absurd (omega (arith, small))

-- the call that a slot's list has is on it
pub call_there : (c slot : ℕ) (p : List Line) (r : Running) → call_on slot (calls_at c p) ≡ Some r → (slot < 4)
    × (call_at c slot p ≡ Some r)
call_there c zero p r e = (omega arith, e)
call_there c (suc zero) p r e = (omega arith, e)
call_there c (suc (suc zero)) p r e = (omega arith, e)
call_there c (suc (suc (suc zero))) p r e = (omega arith, e)
call_there c (suc (suc (suc (suc slot)))) p r e = absurd (cc)

-- the call that is found waits for that lock
waiter_from : (name : LockName) (calls : List (Option Running)) (from slot : ℕ) → waiter name from calls ≡ Some slot → (i : ℕ)
    × (slot ≡ from + i) × (is_waiter name (call_on i calls) ≡ true)
waiter_from name [] from slot e = absurd (cc)
waiter_from name (x ∷ calls) from slot e = by (is_waiter name x) refl e (waiter_from name calls (from + 1) slot)
  where
    by : (b : Bool) → is_waiter name x ≡ b → (if b then Some from else waiter name (from + 1) calls) ≡ Some slot
        → (waiter name (from + 1) calls ≡ Some slot → (i : ℕ) × (slot ≡ (from + 1) + i) × (is_waiter name (call_on i calls) ≡ true))
        → (i : ℕ) × (slot ≡ from + i) × (is_waiter name (call_on i (x ∷ calls)) ≡ true)
    by true w e more = (0, let q : from ≡ slot = cc in omega (arith, q), w)
    by false w e more = let m = more e in let q = m.1 in (suc m.0, omega (arith, q), m.2)

pub waiter_is : (name : LockName) (calls : List (Option Running)) (slot : ℕ) → waiter name 0 calls ≡ Some slot
    → is_waiter name (call_on slot calls) ≡ true
waiter_is name calls slot e =
    let m = waiter_from name calls 0 slot e in
    let q = m.1 in
    subst (λ (s : ℕ). is_waiter name (call_on s calls) ≡ true) (let r : m.0 ≡ slot = omega (arith, q) in r) m.2

-- and where none is, none waits for it
waiter_none : (name : LockName) (calls : List (Option Running)) (from : ℕ) → waiter name from calls ≡ None → waiting_for name calls ≡ 0
waiter_none name [] from e = refl
waiter_none name (x ∷ calls) from e = by (is_waiter name x) e (waiter_none name calls (from + 1))
  where
    by : (b : Bool) → (if b then Some from else waiter name (from + 1) calls) ≡ None
        → (waiter name (from + 1) calls ≡ None → waiting_for name calls ≡ 0) → one_of b + waiting_for name calls ≡ 0
    by true e more = absurd (cc)
    by false e more = let m = more e in omega (arith, m)

pub none_waits : (name : LockName) (calls : List (Option Running)) → waiter name 0 calls ≡ None → waiting_for name calls ≡ 0
none_waits name calls e = waiter_none name calls 0 e

module _ (head : table.Head) (c : ℕ) (stamp : Stamp) where
  abbrev at : At
  at = turn stamp (Client c)

  -- ---- a call begins, time goes on, it dies, a message is only taken

  pub call_awaits : (slot : ℕ) (x : Call) (p : List Line) (o : Option Running) → call_at c slot p ≡ o → Awaits c p
      → Awaits c (with_turn at (row_call (limits_of head) at slot x (client_of head c p) o) p)
  call_awaits slot x p (Some r) e a = plains_await head c stamp (Busy slot ∷ []) p (tt, tt) a
  call_awaits slot x p None e a = subst (Awaits c) (sym (followed head c stamp (begins at slot x (client_of head c p))
      (rests (limits_of head) at) p)) (rests_let head c stamp (with_turn at (begins at slot x (client_of head c p)) p)
      (begins_let head c stamp slot x p e a))

  pub tick_awaits : Lets head c stamp (row_tick (limits_of head) at)
  tick_awaits p a =
      let ticked = λ (k : ClientState). Tick ∷ ticks 0 k.imports k in
      lets_more head c stamp ticked (rests (limits_of head) at)
      (λ q b. plains_await head c stamp (ticked (client_of head c q)) q
      (tt, ticks_plain 0 (client_of head c q).imports (client_of head c q)) b) (rests_let head c stamp) p a

  pub death_awaits : (p : List Line) → Awaits c p → Awaits c (with_turn at row_dies p)
  death_awaits p a = plains_await head c stamp row_dies p (tt, tt) a

  pub took_awaits : (p : List Line) (n : ℕ) (from : Node) (m : Message) → Awaits c p → Awaits c (line at (Take n from m) ∷ p)
  took_awaits p n from m a = plains_await head c stamp (Take n from m ∷ []) p (tt, tt) a

  pub asked_awaits : (t : ℕ) (q : Question) (k : ClientState) (b : Bool) (p : List Line) → Awaits c p
      → Awaits c (with_turn at (asked at t q k b) p)
  asked_awaits t q k b p a = plains_await head c stamp (asked at t q k b) p (asked_plain at t q k b) a

  -- ---- a target serves the life: what was forgotten is looked for anew

  looks_of : (t slot : ℕ) (r : Running) (x : Stage) → (AllOf slot (looks_stage t slot r x) × NoWait x) ⊎ (looks_stage t slot r x ≡ [])
  looks_of t slot r (Forgotten w) = by (is_left_at t w.left)
    where
      by : (b : Bool) → (AllOf slot (if b then Stands slot (at_stage r (Looks w)) ∷ [] else []) × Unit {0})
          ⊎ ((if b then Stands slot (at_stage r (Looks w)) ∷ [] else []) ≡ [])
      by true = inl (((refl, tt), tt), tt)
      by false = inr refl
  looks_of t slot r x = inr refl

  -- each of these calls waits where the one on its slot does
  abbrev SameAt : ℕ → List (Option Running) → List Line → Type 0
  SameAt slot [] p = Unit {0}
  SameAt slot (x ∷ xs) p = ((name : LockName) → is_waiter name (call_at c slot p) ≡ is_waiter name x) × SameAt (slot + 1) xs p

  same_more : (slot : ℕ) (xs : List (Option Running)) (p q : List Line)
      → ((name : LockName) (s : ℕ) → is_waiter name (call_at c s q) ≡ is_waiter name (call_at c s p)) → SameAt slot xs p → SameAt slot xs q
  same_more slot [] p q same a = tt
  same_more slot (x ∷ xs) p q same a = (λ name. same name slot ∙ a.0 name, same_more (slot + 1) xs p q same a.1)

  looks_await : (t slot : ℕ) (calls : List (Option Running)) (p : List Line) → SameAt slot calls p → Awaits c p
      → Awaits c (with_turn at (on_calls (looks_stage t) slot calls) p)
  looks_await t slot [] p s a = a
  looks_await t slot (None ∷ calls) p s a = looks_await t (slot + 1) calls p s.1 a
  looks_await t slot (Some r ∷ calls) p s a = by (looks_of t slot r r.stage) (λ q b d. looks_await t (slot + 1) calls q b d)
    where
      es : List Entry
      es = looks_stage t slot r r.stage

      more : List Entry
      more = on_calls (looks_stage t) (slot + 1) calls

      by : (AllOf slot es × NoWait r.stage) ⊎ (es ≡ []) → ((q : List Line) → SameAt (slot + 1) calls q → Awaits c q
          → Awaits c (with_turn at more q)) → Awaits c (with_turn at (es ++ more) p)
      by (inr none) rest = subst (λ (fs : List Entry). Awaits c (with_turn at (fs ++ more) p)) (sym none) (rest p s.1 a)
      by (inl o) rest =
          let free = λ (name : LockName). s.0 name ∙ no_wait name r.stage o.1 in
          let q = with_turn at es p in
          subst (Awaits c) (sym (turn_more at es more p))
          (rest q (same_more (slot + 1) calls p q (slot_waiter head c stamp slot es p o.0 free) s.1)
          (slot_awaits head c stamp slot es p o.0 free a))

  pub ready_awaits : (t boot committed : ℕ) (p : List Line) → Awaits c p
      → Awaits c (with_turn at (ready t boot committed (client_of head c p)) p)
  ready_awaits t boot committed p a =
      let k = client_of head c p in
      let first = Serves t boot ∷ Settles t committed ∷ resends k.who (import_of t k.imports).boot t (import_of t k.imports).flights in
      let plain : AllPlain first = (tt, (tt, resends_plain k.who (import_of t k.imports).boot t (import_of t k.imports).flights)) in
      let q = with_turn at first p in
      let same : SameAt 0 (calls_at c p) p = (λ name. refl, (λ name. refl, (λ name. refl, (λ name. refl, tt)))) in
      subst (Awaits c) (sym (turn_more at first (on_calls (looks_stage t) 0 k.calls) p))
      (looks_await t 0 (calls_at c p) q (same_more 0 (calls_at c p) p q (plains_waiter head c stamp first p plain) same)
      (plains_await head c stamp first p plain a))

  -- ---- a target is up again: what waits there is forgotten

  abbrev forgot : Bool → Bool → Bool
  forgot own old = if own then false else old

  twice : (own old : Bool) → forgot own (forgot own old) ≡ forgot own old
  twice true old = refl
  twice false old = refl

  module _ (t : ℕ) (name : LockName) where
    abbrev own : Bool
    own = nat_eq name.target.0 t

    abbrev waits_at : List Line → ℕ → Bool
    waits_at p s = is_waiter name (call_at c s p)

    abbrev Weak : (p q : List Line) → Type 0
    Weak p q = (s : ℕ) → (waits_at q s ≡ waits_at p s) ⊎ (waits_at q s ≡ forgot own (waits_at p s))

    abbrev Done : (p q : List Line) → ℕ → Type 0
    Done p q s = waits_at q s ≡ forgot own (waits_at p s)

    abbrev AllDone : (p q : List Line) → ℕ → List (Option Running) → Type 0
    AllDone p q slot [] = Unit {0}
    AllDone p q slot (x ∷ xs) = Done p q slot × AllDone p q (slot + 1) xs

    -- one of them
    forgets_one : (slot : ℕ) (r : Running) (x : Stage) (p : List Line) → waits_at p slot ≡ waits_for name x
        → Weak p (with_turn at (forgets_stage t slot r x) p) × Done p (with_turn at (forgets_stage t slot r x) p) slot
    forgets_one slot r (Waits w target l marked) p e = by (nat_eq target.0 t) refl
      where
        -- of another lock it wasn't, and this one goes
        old : nat_eq target.0 t ≡ true → forgot own (waits_at p slot) ≡ false
        old there = own_or own refl
          where
            own_or : (b : Bool) → own ≡ b → forgot b (waits_at p slot) ≡ false
            own_or true q = refl
            own_or false q = e ∙ ap (λ (b : Bool). b && nat_eq l.cookie.0 name.cookie.0) (apart_from target.0 name.target.0 t there q)

        stays : nat_eq target.0 t ≡ false → waits_at p slot ≡ forgot own (waits_at p slot)
        stays other = own_or own refl
          where
            own_or : (b : Bool) → own ≡ b → waits_at p slot ≡ forgot b (waits_at p slot)
            own_or false q = refl
            own_or true q = e ∙ ap (λ (b : Bool). b && nat_eq l.cookie.0 name.cookie.0)
                (ap (nat_eq target.0) (eqb-true name.target.0 t q) ∙ other)

        one : List Entry
        one = Stands slot (at_stage r (Forgotten w)) ∷ []

        put : (s : ℕ) (b : Bool) → nat_eq slot s ≡ b → nat_eq target.0 t ≡ true
            → (is_waiter name (if b then Some (at_stage r (Forgotten w)) else call_at c s p) ≡ waits_at p s)
            ⊎ (is_waiter name (if b then Some (at_stage r (Forgotten w)) else call_at c s p) ≡ forgot own (waits_at p s))
        put s true q there = inr (sym (ap (λ (u : ℕ). forgot own (waits_at p u)) (sym (eqb-true slot s q)) ∙ old there))
        put s false q there = inl refl

        by : (b : Bool) → nat_eq target.0 t ≡ b → Weak p (with_turn at (if b then one else []) p)
            × Done p (with_turn at (if b then one else []) p) slot
        by true there = (
          λ s. subst (λ (x : Option Running). (is_waiter name x ≡ waits_at p s) ⊎ (is_waiter name x ≡ forgot own (waits_at p s)))
              (sym (call_line head c stamp s p (Stands slot (at_stage r (Forgotten w))))) (put s (nat_eq slot s) refl there),
          ap (is_waiter name) (call_line head c stamp slot p (Stands slot (at_stage r (Forgotten w)))
              ∙ ap (λ (b : Bool). if b then Some (at_stage r (Forgotten w)) else call_at c slot p) (self slot)) ∙ sym (old there),
        )
        by false other = (λ s. inl refl, stays other)
    forgets_one slot r x p e = (λ s. inl refl, e ∙ sym (ap (forgot own) e ∙ none own))
      where
        none : (b : Bool) → forgot b false ≡ false
        none true = refl
        none false = refl

  -- the calls on the slots after it stay
  forgets_past : (t slot : ℕ) (r : Running) (x : Stage) (p : List Line) (s : ℕ) → slot < s
      → call_at c s (with_turn at (forgets_stage t slot r x) p) ≡ call_at c s p
  forgets_past t slot r (Waits w target l marked) p s lt = by (nat_eq target.0 t)
    where
      after : nat_eq slot s ≡ false
      after = grind (arith, nat_tests, lt)

      by : (b : Bool) → call_at c s (with_turn at (if b then Stands slot (at_stage r (Forgotten w)) ∷ [] else []) p) ≡ call_at c s p
      by true = call_line head c stamp s p (Stands slot (at_stage r (Forgotten w)))
          ∙ ap (λ (b : Bool). if b then Some (at_stage r (Forgotten w)) else call_at c s p) after
      by false = refl
  forgets_past t slot r x p s lt = refl

  same_past : (slot from : ℕ) (xs : List (Option Running)) (p q : List Line) → slot < from
      → ((s : ℕ) → slot < s → call_at c s q ≡ call_at c s p) → SameAt from xs p → SameAt from xs q
  same_past slot from [] p q lt same a = tt
  same_past slot from (x ∷ xs) p q lt same a = (
    λ name. ap (is_waiter name) (same from lt) ∙ a.0 name,
    same_past slot (from + 1) xs p q (omega (arith, lt)) same a.1,
  )

  -- all of them
  never : (b : Bool) → forgot b false ≡ false
  never true = refl
  never false = refl

  forgets_all : (t : ℕ) (name : LockName) (slot : ℕ) (calls : List (Option Running)) (p : List Line) → SameAt slot calls p
      → Weak t name p (with_turn at (on_calls (forgets_stage t) slot calls) p)
      × AllDone t name p (with_turn at (on_calls (forgets_stage t) slot calls) p) slot calls
  forgets_all t name slot [] p s = (λ u. inl refl, tt)
  forgets_all t name slot (None ∷ calls) p s =
      let more = forgets_all t name (slot + 1) calls p s.1 in
      (more.0, (⊎_elim (λ e. e ∙ s.0 name ∙ sym (ap (forgot (own t name)) (s.0 name) ∙ never (own t name))) (λ e. e) (more.0 slot), more.1))
  forgets_all t name slot (Some r ∷ calls) p s =
      let es = forgets_stage t slot r r.stage in
      let more = on_calls (forgets_stage t) (slot + 1) calls in
      let q = with_turn at es p in
      let one = forgets_one t name slot r r.stage p (s.0 name) in
      let rest = forgets_all t name (slot + 1) calls q (same_past slot (slot + 1) calls p q (omega arith) (forgets_past t slot r r.stage p)
      s.1) in
      subst (λ (z : List Line). Weak t name p z × AllDone t name p z slot (Some r ∷ calls)) (sym (turn_more at es more p))
      (both q (with_turn at more q) one rest)
    where
      -- what was done first, and then what is left
      at_last : (q z : List Line) (u : ℕ) → Weak t name p q → Done t name q z u → Done t name p z u
      at_last q z u first e = ⊎_elim (λ k. e ∙ ap (forgot (own t name)) k)
          (λ k. e ∙ ap (forgot (own t name)) k ∙ twice (own t name) (waits_at t name p u)) (first u)

      dones : (q z : List Line) → Weak t name p q → (from : ℕ) (xs : List (Option Running)) → AllDone t name q z from xs
          → AllDone t name p z from xs
      dones q z first from [] d = tt
      dones q z first from (x ∷ xs) d = (at_last q z from first d.0, dones q z first (from + 1) xs d.1)

      both : (q z : List Line) → Weak t name p q × Done t name p q slot → Weak t name q z × AllDone t name q z (slot + 1) calls
          → Weak t name p z × AllDone t name p z slot (Some r ∷ calls)
      both q z one rest = (
        λ u. ⊎_elim (λ k. ⊎_elim (λ j. inl (k ∙ j)) (λ j. inr (k ∙ j)) (one.0 u)) (λ k. inr (at_last q z u one.0 k)) (rest.0 u),
        (⊎_elim (λ k. k ∙ one.1) (λ k. at_last q z slot one.0 k) (rest.0 slot), dones q z one.0 (slot + 1) calls rest.1),
      )

  forgets_quiet : (t slot : ℕ) (calls : List (Option Running)) → AllQuiet (on_calls (forgets_stage t) slot calls)
  forgets_quiet t slot [] = tt
  forgets_quiet t slot (None ∷ calls) = forgets_quiet t (slot + 1) calls
  forgets_quiet t slot (Some r ∷ calls) = quiet_more (forgets_stage t slot r r.stage) (on_calls (forgets_stage t) (slot + 1) calls)
      (one r.stage) (forgets_quiet t (slot + 1) calls)
    where
      one : (x : Stage) → AllQuiet (forgets_stage t slot r x)
      one (Waits w target l marked) = by (nat_eq target.0 t)
        where
          by : (b : Bool) → AllQuiet (if b then Stands slot (at_stage r (Forgotten w)) ∷ [] else [])
          by true = (tt, tt)
          by false = tt
      one x = tt

  -- none waits there, and elsewhere as many do as before
  forgets_count : (t : ℕ) (name : LockName) (p : List Line) → waiting_for name
      (calls_at c (with_turn at (on_calls (forgets_stage t) 0 (calls_at c p)) p))
      ≡ (if own t name then 0 else waiting_for name (calls_at c p))
  forgets_count t name p =
      let d = (forgets_all t name 0 (calls_at c p) p (λ name. refl, (λ name. refl, (λ name. refl, (λ name. refl, tt))))).1 in
      rw (d.0, d.1.0, d.1.1.0, d.1.1.1.0) (by (own t name))
    where
      by : (b : Bool) → one_of (forgot b (waits_at t name p 0)) +
          (one_of (forgot b (waits_at t name p 1)) + (one_of (forgot b (waits_at t name p 2)) +
          (one_of (forgot b (waits_at t name p 3)) + 0))) ≡ (if b then 0 else waiting_for name (calls_at c p))
      by true = refl
      by false = refl

  -- of a target that is up again, none waits for anything of this life
  knows_awaits : (t boot k u : ℕ) (p : List Line) → awaits_of (life_at c p) k (only u (line at (Knows t boot) ∷ p))
      ≡ (if nat_eq u t then 0 else awaits_of (life_at c p) k (only u p))
  knows_awaits t boot k u p = by (nat_eq u t)
    where
      W : Who
      W = life_at c p

      mine : is_own W (only u p) (Client c) ≡ true
      mine = ap (λ (w : Who). is_own w (only u p) (Client c)) (life_is_of c u p) ∙ own_self (only u p) c

      by : (b : Bool) → awaits_of W k (if b then line at (Knows t boot) ∷ only u p else only u p)
          ≡ (if b then 0 else awaits_of W k (only u p))
      by true = ap (λ (b : Bool). if b then 0 else awaits_of W k (only u p)) mine
      by false = refl

  up_awaits : (t boot : ℕ) (p : List Line) → t ≤ head.osts → Grown (the_head head c stamp) p → Awaits c p
      → Awaits c (with_turn at (up t boot (client_of head c p)) p)
  up_awaits t boot p le g a = subst (Awaits c) (sym (followed head c stamp (Knows t boot ∷ [])
      (λ k. comes_up t k (import_of t k.imports) (import_of t k.imports).standing) p))
      (by (import_of t (client_of head c p1).imports).standing (ap (λ (i : Import). i.standing) (import_there head c stamp p1 t le)))
    where
      p1 : List Line
      p1 = line at (Knows t boot) ∷ p

      -- a life that joins there waits for nothing
      joins_there : standing_at c t p1 ≡ Joining → (k : ℕ) → awaits_of (life_at c p) k (only t p) ≡ 0
      joins_there e k = ap (λ (w : Who). awaits_of w k (only t p)) (life_is_of c t p)
          ∙ (joins_fresh (the_head head c stamp) c (only t p) (grown_of (the_head head c stamp) t p g)
          (sym (standing_is c t p) ∙ was (standing_at c t p) (sym now ∙ e))).1 k
        where
          now : standing_at c t p1 ≡ interrupted (standing_at c t p)
          now = ap (λ (b : Bool). on true (b && nat_eq t t) (interrupted (standing_at c t p)) (standing_at c t p)) (self c)
              ∙ ap (λ (b : Bool). if b then interrupted (standing_at c t p) else standing_at c t p) (self t)

          was : (x : Standing) → interrupted x ≡ Joining → x ≡ Joining
          was Joining q = refl
          was x q = absurd (cc)

      known : standing_at c t p1 ≡ Joining → Awaits c p1
      known e = record { counts = λ u k. knows_awaits t boot k u p ∙ by u k (nat_eq u t) refl; marks = a.marks }
        where
          by : (u k : ℕ) (b : Bool) → nat_eq u t ≡ b → (if b then 0 else awaits_of (life_at c p) k (only u p))
              ≡ waiting_for (lock_named u k) (calls_at c p)
          by u k false q = a.counts u k
          by u k true q = sym (subst (λ (v : ℕ). awaits_of (life_at c p) k (only v p) ≡ 0) (sym (eqb-true u t q)) (joins_there e k))
              ∙ a.counts u k

      rows : List Entry
      rows = Unmarks t ∷ on_calls (forgets_stage t) 0 (calls_at c p1)

      p3 : List Line
      p3 = with_turn at rows p1

      forgotten : Awaits c p3
      forgotten =
          let q = quiet_turn c at rows p1 (tt, forgets_quiet t 0 (calls_at c p1)) in
          record {
            counts = λ u k.
                ap (λ (w : Who). awaits_of w k (only u p3)) q.life
                ∙ q.awaits (life_at c p) k u
                ∙ knows_awaits t boot k u p
                ∙ ap (λ (n : ℕ). if nat_eq u t then 0 else n) (a.counts u k)
                ∙ sym (forgets_count t (lock_named u k) (line at (Unmarks t) ∷ p1));
            marks = q.marks a.marks;
          }

      recovered : Awaits c (with_turn at (rows ++ recovers t (client_of head c p1) (import_of t (client_of head c p1).imports)) p1)
      recovered =
          let more = recovers t (client_of head c p1) (import_of t (client_of head c p1).imports) in
          subst (Awaits c) (sym (turn_more at rows more p1)) (plains_await head c stamp more p3
          (recovers_plain t (client_of head c p1) (import_of t (client_of head c p1).imports)) forgotten)

      by : (st : Standing) → st ≡ standing_at c t p1 → Awaits c
          (with_turn at (comes_up t (client_of head c p1) (import_of t (client_of head c p1).imports) st) p1)
      by Joining e = plains_await head c stamp (joins (life_at c p) (import_of t (client_of head c p1).imports).boot t ∷ []) p1 (tt, tt)
          (known (sym e))
      by Recovering e = recovered
      by Serving e = recovered

  pub up_heard_awaits : (t boot : ℕ) (p : List Line) (b : Bool) → t ≤ head.osts → Grown (the_head head c stamp) p → Awaits c p
      → Awaits c (with_turn at (up_heard t boot (client_of head c p) b) p)
  up_heard_awaits t boot p true le g a = up_awaits t boot p le g a
  up_heard_awaits t boot p false le g a = a

  pub ready_heard_awaits : (t boot committed : ℕ) (p : List Line) (b : Bool) → Awaits c p
      → Awaits c (with_turn at (ready_heard t boot committed (client_of head c p) b) p)
  ready_heard_awaits t boot committed p true a = ready_awaits t boot committed p a
  ready_heard_awaits t boot committed p false a = a

  -- ---- a life ends, with all that it waits for

  ends_quiet : (slot : ℕ) (calls : List (Option Running)) → AllQuiet (ends_calls at slot calls)
  ends_quiet slot [] = tt
  ends_quiet slot (None ∷ calls) = ends_quiet (slot + 1) calls
  ends_quiet slot (Some r ∷ calls) = (tt, ends_quiet (slot + 1) calls)

  drops_quiet : (hs : List HeldLock) → AllQuiet (drops_all hs)
  drops_quiet [] = tt
  drops_quiet (h ∷ hs) = (tt, drops_quiet hs)

  life_awaits : (who : Who) (q : List Line) → Grown (the_head head c stamp) (line at (Life who) ∷ q) → marks_of c q ≡ []
      → Awaits c (line at (Life who) ∷ q)
  life_awaits who q g none = record {
    counts = λ u k. ap (λ (w : Who). awaits_of w k (only u q)) now ∙ new u k
        ∙ sym (idle (lock_named u k));
    marks = none;
  }
    where
      ok : LifeOk q at c who
      ok = g.0.ok

      now : life_at c (line at (Life who) ∷ q) ≡ who
      now = cond-true (nat_eq c c) who (life_at c q) (self c)

      idle : (name : LockName) → waiting_for name (calls_at c q) ≡ 0
      idle name = rw (ok.idle 0, ok.idle 1, ok.idle 2, ok.idle 3) refl

      new : (u k : ℕ) → awaits_of who k (only u q) ≡ 0
      new u k =
          let rises = rise_of (the_head head c stamp) (only u q) (grown_of (the_head head c stamp) u q g.1) in
          let own : life_at c q ≡ life_of c (only u q) = life_is_of c u q in
          let client : who.client ≡ c = ap (λ (w : Who). w.client) (ok.next ∙ ap next_life own) ∙ life_client c (only u q) rises in
          let old : (life_of who.client (only u q)).life ≡ (life_at c q).life = ap (λ (v : ℕ). (life_of v (only u q)).life) client
          ∙ ap (λ (w : Who). w.life) (sym own) in
          let more : who.life ≡ (life_at c q).life + 1 = ap (λ (w : Who). w.life) ok.next in
          awaits_new who k (only u q) rises (omega (arith, old, more))

  evicted_awaits : (p : List Line) → Grown (the_head head c stamp) (with_turn at (evicted at (client_of head c p)) p) → Awaits c p
      → Awaits c (with_turn at (evicted at (client_of head c p)) p)
  evicted_awaits p g a =
      let k = client_of head c p in
      let first = ends_calls at 0 k.calls ++ drops_all (in_order k.store.held) in
      let who = next_life k.who in
      let more = joins_all who 0 k.imports in
      let so = turn_more at first (Life who ∷ more) p in
      let q = with_turn at first p in
      let grown = grown_under (the_head head c stamp) at more (line at (Life who) ∷ q) (subst (Grown (the_head head c stamp)) so g) in
      let quiet = quiet_turn c at first p (quiet_more (ends_calls at 0 k.calls) (drops_all (in_order k.store.held)) (ends_quiet 0 k.calls)
      (drops_quiet (in_order k.store.held))) in
      subst (Awaits c) (sym so) (plains_await head c stamp more (line at (Life who) ∷ q) (joins_plain who 0 k.imports)
      (life_awaits who q grown (quiet.marks a.marks)))

  pub evicted_heard_awaits : (p : List Line) (b : Bool) → Grown (the_head head c stamp)
      (with_turn at (evicted_heard at (client_of head c p) b) p) → Awaits c p
      → Awaits c (with_turn at (evicted_heard at (client_of head c p) b) p)
  evicted_heard_awaits p true g a = evicted_awaits p g a
  evicted_heard_awaits p false g a = a

  -- ---- a lock is called back

  block_stands : (slot : ℕ) (p : List Line) (x : Option Running) → call_on slot (calls_at c p) ≡ x → Awaits c p
      → Awaits c (with_turn at (on_running lock_blocked slot x) p)
  block_stands slot p None e a = a
  block_stands slot p (Some r) e a = by r.stage refl
    where
      on_it : call_at c slot p ≡ Some r
      on_it = (call_there c slot p r e).1

      by : (x : Stage) → r.stage ≡ x → Awaits c (with_turn at (lock_blocked slot r x) p)
      by (Waits w target l marked) stage =
          same_awaits head c stamp p (Stands slot new) tt (λ name s. ap (is_waiter name) (call_line head c stamp s p (Stands slot new))
          ∙ put name s (nat_eq slot s) refl) a
        where
          new : Running
          new = at_stage r (Waits w target l true)

          put : (name : LockName) (s : ℕ) (b : Bool) → nat_eq slot s ≡ b → is_waiter name (if b then Some new else call_at c s p)
              ≡ is_waiter name (call_at c s p)
          put name s true q = sym (ap (λ (u : ℕ). is_waiter name (call_at c u p)) (sym (eqb-true slot s q)) ∙ ap (is_waiter name) on_it
              ∙ ap (waits_for name) stage)
          put name s false q = refl
      by x stage = a

  cancels_plain : (who : Who) (name : LockName) (boot : ℕ) (flights : List Flight) → AllPlain (cancels_unknown who name boot flights)
  cancels_plain who name boot [] = (tt, tt)
  cancels_plain who name boot (f ∷ flights) = tt

  pub blocked_awaits : (name : LockName) (b : Bool) (p : List Line) → Awaits c p
      → Awaits c (with_turn at (blocked name (client_of head c p) b) p)
  blocked_awaits name false p a = a
  blocked_awaits name true p a = by (is_held name k.store.held)
    where
      k : ClientState
      k = client_of head c p

      waiting : (o : Option ℕ) → Awaits c (with_turn at (blocked_waiting name k o) p)
      waiting (Some slot) = block_stands slot p (call_on slot (calls_at c p)) refl a
      waiting None = plains_await head c stamp (cancels_unknown k.who name (import_of name.target.0 k.imports).boot
          (import_of name.target.0 k.imports).flights) p (cancels_plain k.who name (import_of name.target.0 k.imports).boot
          (import_of name.target.0 k.imports).flights) a

      by : (held : Bool) → Awaits c (with_turn at (blocked_held name k held) p)
      by true = plains_await head c stamp (Marks name ∷ []) p (tt, tt) a
      by false = waiting (waiter name 0 k.calls)

  -- ---- the grant of a lock that is waited for

  -- a lock that is held isn't waited for any more
  pub holds_awaits : (t k u : ℕ) (l : Lock) (marked : Bool) (size : Option ℕ) (seen : List ℕ) (p : List Line)
      → awaits_of (life_at c p) k (only u (line at (Hold t l marked size seen) ∷ p))
      ≡ (if nat_eq u t && nat_eq l.cookie.0 k then awaits_of (life_at c p) k (only u p) - 1 else awaits_of (life_at c p) k (only u p))
  holds_awaits t k u l marked size seen p = by (nat_eq u t)
    where
      W : Who
      W = life_at c p

      mine : is_own W (only u p) (Client c) ≡ true
      mine = ap (λ (w : Who). is_own w (only u p) (Client c)) (life_is_of c u p) ∙ own_self (only u p) c

      by : (b : Bool) → awaits_of W k (if b then line at (Hold t l marked size seen) ∷ only u p else only u p)
          ≡ (if b && nat_eq l.cookie.0 k then awaits_of W k (only u p) - 1 else awaits_of W k (only u p))
      by true = ap (λ (b : Bool). if b && nat_eq l.cookie.0 k then awaits_of W k (only u p) - 1 else awaits_of W k (only u p)) mine
      by false = refl

  grant_stands : (t : ℕ) (g : GrantNotice) (slot : ℕ) (p : List Line) (x : Option Running) → call_on slot (calls_at c p) ≡ x
      → is_waiter (named (record { 0 = t }) g.cookie) x ≡ true → Awaits c p
      → Awaits c (with_turn at (on_running (lock_granted t g) slot x) p)
  grant_stands t g slot p None e waits a = a
  grant_stands t g slot p (Some r) e waits a = by r.stage refl
    where
      on_it : (slot < 4) × (call_at c slot p ≡ Some r)
      on_it = call_there c slot p r e

      by : (x : Stage) → r.stage ≡ x → Awaits c (with_turn at (lock_granted t g slot r x) p)
      by (Waits w target l marked) stage =
          let q = quiet_turn c at (Settles t g.committed.0 ∷ Stands slot new ∷ []) p1 (tt, (tt, tt)) in
          record {
            counts = λ u k. ap (λ (v : Who). awaits_of v k (only u p3)) q.life ∙ q.awaits (life_at c p) k u
                ∙ holds_awaits t k u lock marked (Some g.size) g.seen p ∙ count u k (nat_eq u t && nat_eq l.cookie.0 k) refl;
            marks = q.marks a.marks;
          }
        where
          lock : Lock
          lock = granted_as l g.extent

          new : Running
          new = at_stage r (Came w lock)

          p1 : List Line
          p1 = line at (Hold t lock marked (Some g.size) g.seen) ∷ p

          p3 : List Line
          p3 = line at (Stands slot new) ∷ line at (Settles t g.committed.0) ∷ p1

          parts : (nat_eq target.0 t ≡ true) × (nat_eq l.cookie.0 g.cookie.0 ≡ true)
          parts = and_parts (nat_eq target.0 t) (nat_eq l.cookie.0 g.cookie.0)
              (sym (ap (waits_for (named (record { 0 = t }) g.cookie)) stage) ∙ waits)

          now : (s : ℕ) → call_at c s p3 ≡ (if nat_eq slot s then Some new else call_at c s p)
          now s = call_line head c stamp s (line at (Settles t g.committed.0) ∷ p1) (Stands slot new)

          was : (u k : ℕ) → is_waiter (lock_named u k) (call_at c slot p) ≡ (nat_eq u t && nat_eq l.cookie.0 k)
          was u k =
              ap (is_waiter (lock_named u k)) on_it.1
              ∙ ap (waits_for (lock_named u k)) stage
              ∙ ap (λ (b : Bool). b && nat_eq l.cookie.0 k) (ap (λ (n : ℕ). nat_eq n u) (eqb-true target.0 t parts.0) ∙ nat_symm t u)

          is : (name : LockName) → is_waiter name (call_at c slot p3) ≡ false
          is name = ap (is_waiter name) (now slot ∙ ap (λ (b : Bool). if b then Some new else call_at c slot p) (self slot))

          others : (u k s : ℕ) → nat_eq slot s ≡ false → is_waiter (lock_named u k) (call_at c s p3)
              ≡ is_waiter (lock_named u k) (call_at c s p)
          others u k s other = ap (is_waiter (lock_named u k)) (now s ∙ ap (λ (b : Bool). if b then Some new else call_at c s p) other)

          count : (u k : ℕ) (b : Bool) → (nat_eq u t && nat_eq l.cookie.0 k) ≡ b
              → (if b then awaits_of (life_at c p) k (only u p) - 1 else awaits_of (life_at c p) k (only u p))
              ≡ waiting_for (lock_named u k) (calls_at c p3)
          count u k b q =
              let m : waiting_for (lock_named u k) (calls_at c p3) + one_of (is_waiter (lock_named u k) (call_at c slot p))
              ≡ waiting_for (lock_named u k) (calls_at c p) + one_of (is_waiter (lock_named u k) (call_at c slot p3)) =
              counts_one (lock_named u k) c slot p p3 on_it.0 (others u k) in
              let old : one_of (is_waiter (lock_named u k) (call_at c slot p)) ≡ one_of b = ap one_of (was u k ∙ q) in
              let none : one_of (is_waiter (lock_named u k) (call_at c slot p3)) ≡ 0 = ap one_of (is (lock_named u k)) in
              let so = a.counts u k in
              ends b (waiting_for (lock_named u k) (calls_at c p3)) (waiting_for (lock_named u k) (calls_at c p))
              (awaits_of (life_at c p) k (only u p)) (omega (arith, m, old, none)) so
            where
              ends : (b : Bool) (x y n : ℕ) → x + one_of b ≡ y → n ≡ y → (if b then n - 1 else n) ≡ x
              ends true x y n e f = omega (arith, e, f)
              ends false x y n e f = omega (arith, e, f)
      by x stage = a

  pub granted_awaits : (t : ℕ) (g : GrantNotice) (b : Bool) (p : List Line) → Awaits c p
      → Awaits c (with_turn at (granted t g (client_of head c p) b) p)
  granted_awaits t g false p a = a
  granted_awaits t g true p a = by (waiter name 0 (calls_at c p)) refl
    where
      name : LockName
      name = named (record { 0 = t }) g.cookie

      by : (o : Option ℕ) → waiter name 0 (calls_at c p) ≡ o → Awaits c (with_turn at (on_slot (lock_granted t g) o (client_of head c p)) p)
      by None e = a
      by (Some slot) e = grant_stands t g slot p (call_on slot (calls_at c p)) refl (waiter_is name (calls_at c p) slot e) a

-- ---- a turn of another node

pub awaits_other : (head : Head) (c : ℕ) (at : At) (es : List Entry) (p : List Line) → is_client c at.node ≡ false
    → Grown head (with_turn at es p) → Awaits c p → Awaits c (with_turn at es p)
awaits_other head c at [] p other g a = a
awaits_other head c at (e ∷ es) p other g a = awaits_other head c at es (line at e ∷ p) other g
    (one (grown_under head at es (line at e ∷ p) g).1)
  where
    same : {A : Type 0} (reads : Bool) (new old : A) → on reads (is_client c at.node) new old ≡ old
    same reads new old = ap (λ (own : Bool). on reads own new old) other ∙ on_other reads new old

    call_same : (s : ℕ) → call_at c s (line at e ∷ p) ≡ call_at c s p
    call_same s = same (reads_call e) (call_after s (call_at c s p) e) (call_at c s p)

    W : Who
    W = life_at c p

    -- no line of another life
    foreign : Grown head p → (u : ℕ) → is_own W (only u p) at.node ≡ false
    foreign grown u = by at.node other
      where
        by : (node : Node) → is_client c node ≡ false → is_own W (only u p) node ≡ false
        by (Target v) o = refl
        by (Client d) o = ap (λ (w : Who). is_own w (only u p) (Client d)) (life_is_of c u p)
            ∙ not_other c d (only u p) (rise_of head (only u p) (grown_of head u p grown)) o

    awaits_same : (u k : ℕ) → is_own W (only u p) at.node ≡ false → awaits_of W k (only u (line at e ∷ p)) ≡ awaits_of W k (only u p)
    awaits_same u k f = by (concerns u at.node e)
      where
        N : ℕ
        N = awaits_of W k (only u p)

        of_line : (x : Entry) → awaits_of W k (line at x ∷ only u p) ≡ N
        of_line (Heard t fl r) = ap (λ (b : Bool). if b && brings_cookie fl.op r.answer k then N + 1 else N) f
        of_line (Hold t lock marked size seen) = ap (λ (b : Bool). if b && nat_eq lock.cookie.0 k then N - 1 else N) f
        of_line (Knows t boot) = ap (λ (b : Bool). if b then 0 else N) f
        of_line x = refl

        by : (b : Bool) → awaits_of W k (if b then line at e ∷ only u p else only u p) ≡ N
        by true = of_line e
        by false = refl

    marks_same : (x : Entry) → marks_of c (line at x ∷ p) ≡ marks_of c p
    marks_same (Heard t fl r) = ap (λ (b : Bool). if b then heeds_marks t fl.op r.answer (held_at c p) else marks_of c p) other
    marks_same (Acks resource) = ap (λ (b : Bool). if b then marks_left (marks_of c p) else marks_of c p) other
    marks_same (Fills resource offset bytes) = ap (λ (b : Bool). if b then marks_left (marks_of c p) else marks_of c p) other
    marks_same (Zeroes resource size) = ap (λ (b : Bool). if b then marks_left (marks_of c p) else marks_of c p) other
    marks_same (Grows resource change) = ap (λ (b : Bool). if b then marks_left (marks_of c p) else marks_of c p) other
    marks_same (Shows resource cookie last) = ap (λ (b : Bool). if b then marks_left (marks_of c p) else marks_of c p) other
    marks_same x = refl

    one : Grown head p → Awaits c (line at e ∷ p)
    one grown =
        record {
          counts = λ u k.
              ap (λ (w : Who). awaits_of w k (only u (line at e ∷ p))) (same (reads_life e) (life_after W e) W)
              ∙ awaits_same u k (foreign grown u)
              ∙ a.counts u k
              ∙ sym (count_same (lock_named u k) c p (line at e ∷ p) (λ s. ap (is_waiter (lock_named u k)) (call_same s)));
          marks = marks_same e ∙ a.marks;
        }
