-- What is in flight is sent again, where the locks are that calls wait for is asked, a life that isn't served yet asks to be, and a target
-- that recovers is told what the life has for it, as time goes on; where a target says that it serves the life, what is in flight there is
-- sent again, and a call that was forgotten looks for its locks anew. A new life asks each target.
use Rattle.std.proofs.Common.{◌≡◌, ℕ, zero, suc, ◌+◌, ◌<◌, ◌≤◌, Bool, true, false, List, [], ◌∷◌, ◌++◌, inl, inr, ⊎_elim, Option, Some}
use Rattle.std.proofs.Common.{None, refl, sym, subst, ap, ◌∙◌, arith}
use Rattle.std.specs.Prelude.{nat_eq, ◌&&◌, if◌then◌else◌, length, filter, map}
use Rattle.std.specs.List.{range_with_len}
use Rattle.std.proofs.lemmas.Bool.{cond_both, and_parts, eqb-true, eq-eqb}
use Rattle.lu_base.specs.declared.ids.At.{At}
use Rattle.lu_base.specs.declared.ids.Node.{Node}
use Rattle.lu_base.specs.declared.ids.Node.TheVariants.{Client, Target}
use Rattle.lu_base.specs.declared.ids.Stamp.{Stamp}
use Rattle.lu_base.specs.declared.ids.TargetId.{TargetId}
use Rattle.lu_base.specs.declared.ids.Txn.{Txn as TxnOf}
use Rattle.lu_base.specs.declared.ids.Who.{Who}
use Rattle.lu_base.specs.declared.locks.Lock.{Lock}
use Rattle.lu_msg.specs.declared.messages.Message.{Message}
use Rattle.lu_msg.specs.declared.messages.Message.TheVariants as message
use Rattle.lu_held.specs.declared.locks.HeldLock.{HeldLock}
use Rattle.lu_held.specs.declared.names.LockName.{LockName}
use Rattle.lu_spec_entries.specs.Carried.{Flight, Work, Stage, Waits, Running}
use Rattle.lu_spec_entries.specs.Words.{Entry, Send, Take, Tick, Serves, Settles, Line, line, with_turn, same_life}
use Rattle.lu_spec_entries.specs.Concerns.{only}
use Rattle.lu_spec_entries.specs.Fields.{on}
use Rattle.lu_spec_entries.specs.Sent.{Sent}
use Rattle.lu_spec_client.specs.Caches.{held_at}
use Rattle.lu_spec_client.specs.Calls.{call_on, calls_at}
use Rattle.lu_spec_client.specs.Imports.{Import, Replay, import_at, import_of}
use Rattle.lu_spec_client.specs.Messages.{ready_heard, is_present, comes_by, waits_for, is_waiter}
use Rattle.lu_spec_client.specs.Recovery.{replayed, replays, held_of, lock_replayed, lock_replays, tells_all, on_call, on_calls}
use Rattle.lu_spec_client.specs.Recovery.{where_stage, looks_stage, joins, joins_all, resumes, ticks, ticks_at}
use Rattle.lu_spec_client.specs.Sending.{request_of, sends_request, resends}
use Rattle.lu_spec_client.specs.States.{Client as ClientState}
use Rattle.lu_proof_lawful.specs.Covered.Calls.{call_at, life_at}
use Rattle.lu_proof_lawful.specs.Covered.ClientStates.{life_of, kept_of, awaits_of}
use Rattle.lu_proof_lawful.specs.Covered.Imports.{Kept, Standing, Joining, Recovering, Serving, known_at, standing_at, flights_at, kept_at}
use Rattle.lu_spec_run.specs.Heads as table
use Rattle.lu_spec_run.specs.Runs.{client_of}
use Rattle.lu_proof_lawful.proofs.Preconditions.Guards.{In, Was, Later, Took, Ending}
use Rattle.lu_proof_lawful.proofs.Preconditions.Grown.{Grown}
use Rattle.lu_proof_lawful.proofs.Preconditions.StoryGuards as story_guards
use Rattle.lu_proof_lawful.proofs.Preconditions.Lists.{self, life_is, turn, turn_more}
use Rattle.lu_proof_lawful.proofs.Preconditions.Only.{sent_was, was_only}
use Rattle.lu_proof_lawful.proofs.Preconditions.Parts.{flights_now, known_is, standing_is, life_is_of, kept_is}
use Rattle.lu_proof_lawful.proofs.Preconditions.Held.{held_there}
use Rattle.lu_proof_lawful.proofs.Preconditions.Ends.{none_took}
use Rattle.lu_proof_lawful.proofs.Preconditions.Turns.{owes_nothing}
use Rattle.lu_proof_lawful.proofs.Preconditions.ClientLocks.{of_ordered, count_ordered}
use Rattle.lu_proof_lawful.proofs.Preconditions.ClientTold.{ending_now, Whole, whole_at}
use Rattle.lu_proof_lawful.proofs.Preconditions.ClientGood.{Good, Rested, Calmed, calls_same, the_head, adds, at_one, request_is}
use Rattle.lu_proof_lawful.proofs.Preconditions.ClientRests.{import_there}
use Rattle.lu_proof_lawful.proofs.Preconditions.ClientCalls.{on_small}
use Rattle.lu_proof_lawful.proofs.Preconditions.Awaits.{lock_named, waiting_for, Awaits, awaits_quiet}
use Rattle.lu_proof_lawful.proofs.Preconditions.TurnStarts.{Starts, starts_good, took_rested}
use Rattle.lu_proof_lawful.proofs.Preconditions.StageMoves.{all_calls, rested_calm, looks_all}

-- one of these calls waits for that lock
waiting_in : (name : LockName) (calls : List (Option Running)) (slot : ℕ) → is_waiter name (call_on slot calls) ≡ true
    → 0 < waiting_for name calls
waiting_in name [] slot e = absurd (cc)
waiting_in name (x ∷ calls) zero e = rw e (omega arith)
waiting_in name (x ∷ calls) (suc slot) e = let more = waiting_in name calls slot e in omega (arith, more)

module _ (head : table.Head) (c : ℕ) (stamp : Stamp) where
  abbrev at : At
  at = turn stamp (Client c)

  -- ---- what is in flight is sent again, and where a life isn't served yet it asks to be

  -- at rest; and what the client asks of targets is as before
  pub record Still (who : Who) (before p : List Line) : Type 0 where
    pub rested : Rested head c at p
    pub life : life_at c p ≡ who
    pub known : (t : ℕ) → known_at c t p ≡ known_at c t before
    pub standing : (t : ℕ) → standing_at c t p ≡ standing_at c t before
    pub flights : (t : ℕ) → flights_at c t p ≡ flights_at c t before
    pub kept : (t : ℕ) → kept_at c t p ≡ kept_at c t before
    pub held : held_at c p ≡ held_at c before
    pub took : (from : Node) (m : Message) → Took p at from m → Took before at from m
    pub calls : (slot : ℕ) → call_at c slot p ≡ call_at c slot before
    pub awaits : (t k : ℕ) → awaits_of who k (only t p) ≡ awaits_of who k (only t before)

  -- one line more, that says nothing of these
  sent_still : (who : Who) (before p : List Line) (t : ℕ) (m : Message) → Still who before p
      → Good head c at (line at (Send (Target t) m) ∷ p) → Still who before (line at (Send (Target t) m) ∷ p)
  sent_still who before p t m s g =
      record {
        rested = record { good = g; settled = tt; idle = s.rested.idle; handles = s.rested.handles };
        life = s.life;
        known = s.known;
        standing = s.standing;
        flights = s.flights;
        kept = s.kept;
        held = s.held;
        took = s.took;
        calls = s.calls;
        awaits = λ u k. awaits_quiet who k u at (Send (Target t) m) p tt ∙ s.awaits u k;
      }

  pub still_start : (who : Who) (p : List Line) → Rested head c at p → life_at c p ≡ who → Still who p p
  still_start who p r life = record {
    rested = r;
    life = life;
    known = λ t. refl;
    standing = λ t. refl;
    flights = λ t. refl;
    kept =
        λ t. refl;
    held = refl;
    took = λ from m k. k;
    calls = λ slot. refl;
    awaits = λ t k. refl;
  }

  pub again_good : (who : Who) (before p : List Line) (t boot : ℕ) (flights : List Flight) → Still who before p → boot ≡ known_at c t before
      → standing_at c t before ≡ Serving
      → ((f : Flight) → In f flights → In f (flights_at c t before))
      → Still who before (with_turn at (resends who boot t flights) p)
  again_good who before p t boot [] s b v i = s
  again_good who before p t boot (f ∷ flights) s b v i =
      let g = s.rested.good in
      let e = sends_request who boot t f in
      again_good who before (line at e ∷ p) t boot flights
      (sent_still who before p t (message.Request (request_of who boot f)) s
      (adds head c stamp p e g (owes_nothing p at e s.rested.settled) tt
      (at_one head c stamp t (λ (u : ℕ). story_guards.AskOk (only u p) c (request_of who boot f)) (record {
        serves = sym (standing_is c t p) ∙ s.standing t ∙ v;
        flight = f;
        flying = subst (λ (fs : List Flight). In f fs) (sym (s.flights t) ∙ flights_now (the_head head c stamp) c t p g.grown)
            (i f (inl refl));
        is = ap (λ (w : Who). request_of w boot f) (sym s.life) ∙ ap (λ (n : ℕ). request_of (life_at c p) n f) (b ∙ sym (s.known t))
            ∙ request_is head c stamp t p f;
      })) tt refl))
      b v (λ h j. i h (inr j))

  pub join_good : (who : Who) (before p : List Line) (t boot : ℕ) → Still who before p → standing_at c t before ≡ Joining → boot
      ≡ known_at c t before → Still who before (line at (joins who boot t) ∷ p)
  join_good who before p t boot s v b =
      let g = s.rested.good in
      sent_still who before p t (message.Join who boot) s (adds head c stamp p (joins who boot t) g
      (owes_nothing p at (joins who boot t) s.rested.settled) tt
      (at_one head c stamp t (λ (u : ℕ). story_guards.JoinsOk (only u p) c who boot) (record {
        joins = sym (standing_is c t p) ∙ s.standing t ∙ v;
        of_life = sym s.life ∙ life_is_of c t p;
        of_boot = b ∙ sym (s.known t) ∙ known_is c t p;
      })) tt refl)

  -- a new life asks each target; start: where the turn began
  pub joins_good : (who : Who) (start before : List Line) (n t : ℕ) (p : List Line) → ((u : ℕ) → known_at c u start ≡ known_at c u before)
      → Still who before p → ((u : ℕ) → standing_at c u before ≡ Joining)
      → Still who before (with_turn at (joins_all who t (map (λ v. import_at c v start) (range_with_len t n))) p)
  joins_good who start before zero t p k s v = s
  joins_good who start before (suc n) t p k s v =
      joins_good who start before n (t + 1) (line at (joins who (known_at c t start) t) ∷ p) k
      (join_good who before p t (known_at c t start) s (v t) (k t)) v

  -- ---- a target that recovers is told what the life has for it, and what it holds of it

  module _ (who : Who) (before : List Line) (t : ℕ) (v : standing_at c t before ≡ Recovering) where
    abbrev boot : ℕ
    boot = known_at c t before

    abbrev of_target : HeldLock → Bool
    of_target h = nat_eq h.target.0 t

    tells : (p : List Line) → Still who before p → story_guards.TellsOk (only t p) c who boot
    tells p s = record {
      recovers = sym (standing_is c t p) ∙ s.standing t ∙ v;
      of_life = sym s.life ∙ life_is_of c t p;
      of_boot =
          sym (s.known t) ∙ known_is c t p;
    }

    -- what the life has for it stands in the target's story
    kept_there : (p : List Line) → Still who before p → kept_at c t before ≡ kept_of who (only t p)
    kept_there p s = sym (s.kept t) ∙ kept_is (the_head head c stamp) c t p s.rested.good.grown
        ∙ ap (λ (w : Who). kept_of w (only t p)) s.life

    held_here : (p : List Line) → Still who before p → filter of_target (held_at c before) ≡ held_at c (only t p)
    held_here p s = ap (λ (hs : List HeldLock). filter of_target hs) (sym s.held) ∙ held_there c t p

    replays_good : (rs : List Replay) (p : List Line) → ((r : Replay) → In r rs → In r (kept_at c t before).replays) → Still who before p
        → Still who before (with_turn at (replays who boot t rs) p)
    replays_good [] p i s = s
    replays_good (r ∷ rs) p i s =
        let m = message.Replay (replayed who boot r) in
        let e = Send (Target t) m in
        replays_good rs (line at e ∷ p) (λ x j. i x (inr j))
        (sent_still who before p t m s (adds head c stamp p e s.rested.good (owes_nothing p at e s.rested.settled) tt
        (at_one head c stamp t (λ (u : ℕ). story_guards.ReplaysOk (only u p) c (replayed who boot r)) (record {
          tells = tells p s;
          replay = r;
          kept = subst (λ (k : Kept). In r k.replays) (kept_there p s) (i r (inl refl));
          is = refl;
        })) tt refl))

    -- the life holds each of these locks of the target
    abbrev pub AllHeld : List HeldLock → Type 0
    AllHeld hs = (h : HeldLock) → In h hs → (g : HeldLock) × In g (filter of_target (held_at c before)) × (g.lock ≡ h.lock)

    locks_good : (hs : List HeldLock) (p : List Line) → AllHeld hs → Still who before p
        → Still who before (with_turn at (lock_replays who boot t hs) p)
    locks_good [] p a s = s
    locks_good (h ∷ hs) p a s =
        let m = message.Lock (lock_replayed who boot h.lock) in
        let e = Send (Target t) m in
        let g = a h (inl refl) in
        locks_good hs (line at e ∷ p) (λ x j. a x (inr j))
        (sent_still who before p t m s (adds head c stamp p e s.rested.good (owes_nothing p at e s.rested.settled) tt
        (at_one head c stamp t (λ (u : ℕ). story_guards.RelocksOk (only u p) c (lock_replayed who boot h.lock)) (record {
          tells = tells p s;
          holding = g.0;
          held = subst (λ (xs : List HeldLock). In g.0 xs) (held_here p s) g.1;
          is = ap (lock_replayed who boot) (sym g.2);
        })) tt refl))

    -- how many these are, in a turn that doesn't end the life
    module _ (held : List HeldLock) (all : AllHeld held) (count : length held ≡ length (filter of_target (held_at c before)))
        (lasts : (u b : ℕ) (w : Who) → Took before at (Target u) (message.Evicted w b) → ⊥) where
      abbrev counts : Message
      counts = message.Word who boot (length (kept_at c t before).replays) (length held) (kept_at c t before).seen

      word_good : (p : List Line) → Still who before p → Still who before (line at (Send (Target t) counts) ∷ p)
      word_good p s =
          let e = Send (Target t) counts in
          sent_still who before p t counts s (adds head c stamp p e s.rested.good (owes_nothing p at e s.rested.settled)
          (record {
            replays = ap (λ k. length k.replays) (sym (s.kept t));
            locks = count ∙ ap (λ (hs : List HeldLock). length (filter of_target hs)) (sym s.held);
            alive = λ n. lasts n.target n.boot (life_at c p) (s.took (Target n.target) (message.Evicted (life_at c p) n.boot) n.took);
          })
          (at_one head c stamp t (λ (u : ℕ). story_guards.WordsOk (only u p) c who boot (length (kept_at c t before).replays) (length held)
          (kept_at c t before).seen) (record {
            tells = tells p s;
            of_replays = ap (λ (k : Kept). length k.replays) (kept_there p s);
            of_locks = count ∙ ap (λ (hs : List HeldLock). length hs) (held_here p s);
            whole =
                ⊎_elim (λ (k : Ending p c). absurd (let n = ending_now c p at s.rested.good.closes k
                in lasts n.target n.boot (life_at c p) (s.took (Target n.target) (message.Evicted (life_at c p) n.boot) n.took)))
                (λ (w : Whole c (only t p)). w) (whole_at c (the_head head c stamp) t p s.rested.good.grown (tells p s).recovers);
            of_seen = ap (λ (k : Kept). k.seen) (kept_there p s);
          })) tt refl)

      pub all_told : (p : List Line) → Still who before p → Still who before
          (with_turn at (tells_all who boot t (kept_at c t before) held) p)
      all_told p s =
          let rs = replays who boot t (kept_at c t before).replays in
          let ls = lock_replays who boot t held in
          let last = Send (Target t) counts ∷ [] in
          subst (Still who before) (sym (turn_more at (rs ++ ls) last p ∙ ap (with_turn at last) (turn_more at rs ls p)))
          (word_good (with_turn at ls (with_turn at rs p)) (locks_good held (with_turn at rs p) all
          (replays_good (kept_at c t before).replays p (λ r i. i) s)))

  -- ---- where the locks are that calls wait for

  -- these slots, from this one on, have these calls
  abbrev Calls : List Line → ℕ → List (Option Running) → Type 0
  Calls before n calls = (s : ℕ) → s < length calls → call_at c (n + s) before ≡ call_on s calls

  -- it waits for a lock there
  where_one : (before : List Line) (t n : ℕ) (r : Running) (w : Work) (target : TargetId) (l : Lock) (marked : Bool) (p : List Line)
      → Awaits c before → standing_at c t before ≡ Serving → Still (life_at c before) before p
      → n < 4 → call_at c n before ≡ Some r → r.stage ≡ Waits w target l marked → target.0 ≡ t
      → Still (life_at c before) before (line at (Send (Target t) (message.Where (life_at c before) (known_at c t before) l.cookie)) ∷ p)
  where_one before t n r w target l marked p a v s small call stage there =
      let e = Send (Target t) (message.Where (life_at c before) (known_at c t before) l.cookie) in
      sent_still (life_at c before) before p t (message.Where (life_at c before) (known_at c t before) l.cookie) s
      (adds head c stamp p e s.rested.good (owes_nothing p at e s.rested.settled)
      (record {
        slot = n;
        running = r;
        call = s.calls n ∙ call;
        work = w;
        target = target;
        lock = l;
        marked = marked;
        waits = stage;
        of_target = there;
        of_cookie = refl;
      })
      (at_one head c stamp t (λ (u : ℕ). story_guards.WhereOk (only u p) c (life_at c before) (known_at c t before) l.cookie) (record {
        serves = sym (standing_is c t p) ∙ s.standing t ∙ v;
        of_life = sym s.life ∙ life_is_of c t p;
        of_boot = sym (s.known t) ∙ known_is c t p;
        awaits = subst (λ (k : ℕ). 0 < k) (sym (s.awaits t l.cookie.0 ∙ a.counts t l.cookie.0)) waits;
      })) tt refl)
    where
      name : LockName
      name = lock_named t l.cookie.0

      waits : 0 < waiting_for name (calls_at c before)
      waits =
          waiting_in name (calls_at c before) n (ap (is_waiter name) (on_small c n before small ∙ call) ∙ ap (waits_for name) stage
          ∙ ap (λ (b : Bool). b && nat_eq l.cookie.0 l.cookie.0) (eq-eqb target.0 t there) ∙ self l.cookie.0)

  where_from : (before : List Line) (t : ℕ) (calls : List (Option Running)) (n : ℕ) (p : List Line) → Awaits c before
      → standing_at c t before ≡ Serving → Still (life_at c before) before p → n + length calls ≤ 4 → Calls before n calls
      → Still (life_at c before) before (with_turn at (on_calls (where_stage (life_at c before) (known_at c t before) t) n calls) p)
  where_from before t [] n p a v s small h = s
  where_from before t (x ∷ calls) n p a v s small h =
      subst (Still (life_at c before) before) (sym (turn_more at (on_call (where_stage (life_at c before) (known_at c t before) t) n x)
      (on_calls (where_stage (life_at c before) (known_at c t before) t) (n + 1) calls) p))
      (where_from before t calls (n + 1) (with_turn at (on_call (where_stage (life_at c before) (known_at c t before) t) n x) p) a v
      (by x here) (omega (arith, small)) next)
    where
      here : call_at c n before ≡ x
      here = ap (λ (u : ℕ). call_at c u before) (let e : n ≡ n + 0 = omega arith in e) ∙ h 0 (omega arith)

      next : Calls before (n + 1) calls
      next u lt = ap (λ (m : ℕ). call_at c m before) (let e : n + 1 + u ≡ n + suc u = omega arith in e) ∙ h (suc u) (omega (arith, lt))

      by : (x : Option Running) → call_at c n before ≡ x → Still (life_at c before) before
          (with_turn at (on_call (where_stage (life_at c before) (known_at c t before) t) n x) p)
      by None e = s
      by (Some r) e = of r.stage refl
        where
          of : (st : Stage) → r.stage ≡ st → Still (life_at c before) before
              (with_turn at (where_stage (life_at c before) (known_at c t before) t n r st) p)
          of (Waits w target l marked) q =
              cond_both (nat_eq target.0 t) (Send (Target t) (message.Where (life_at c before) (known_at c t before) l.cookie) ∷ []) []
              (λ (es : List Entry). Still (life_at c before) before (with_turn at es p))
              (λ there. where_one before t n r w target l marked p a v s (omega (arith, small)) e q (eqb-true target.0 t there))
              (λ there. s)
          of st q = s

  -- ---- time goes on

  module _ (before : List Line) (g : Grown (the_head head c stamp) before) (later : Later before at) (awaits : Awaits c before) where
    tick_at : (t : ℕ) (st : Standing) (p : List Line) → standing_at c t before ≡ st → Still (life_at c before) before p
        → Still (life_at c before) before (with_turn at (ticks_at t (client_of head c before) (import_at c t before) st) p)
    tick_at t Joining p v s = join_good (life_at c before) before p t (known_at c t before) s v refl
    tick_at t Recovering p v s =
        all_told (life_at c before) before t v (held_of t (held_at c before))
        (λ h i. (h, of_ordered (λ (x : HeldLock). nat_eq x.target.0 t) h (held_at c before) i, refl))
        (count_ordered (λ (h : HeldLock). nat_eq h.target.0 t) (held_at c before))
        (λ u b w k. none_took (the_head head c stamp) before at (Target u) (message.Evicted w b) g later k) p s
    tick_at t Serving p v s =
        let who = life_at c before in
        let es = resends who (known_at c t before) t (flights_at c t before) in
        let fs = on_calls (where_stage who (known_at c t before) t) 0 (calls_at c before) in
        subst (Still who before) (sym (turn_more at es fs p))
        (where_from before t (calls_at c before) 0 (with_turn at es p) awaits v
        (again_good who before p t (known_at c t before) (flights_at c t before) s refl v (λ f i. i)) (omega arith)
        (all_calls head c stamp before))

    ticks_good : (n t : ℕ) (p : List Line) → Still (life_at c before) before p
        → Still (life_at c before) before (with_turn at (ticks t (map (λ v. import_at c v before) (range_with_len t n))
        (client_of head c before)) p)
    ticks_good zero t p s = s
    ticks_good (suc n) t p s =
        let k = client_of head c before in
        let es = ticks_at t k (import_at c t before) (standing_at c t before) in
        let more = ticks (t + 1) (map (λ v. import_at c v before) (range_with_len (t + 1) n)) k in
        subst (Still (life_at c before) before) (sym (turn_more at es more p))
        (ticks_good n (t + 1) (with_turn at es p) (tick_at t (standing_at c t before) p refl s))

  pub tick_rested : (p : List Line) → Starts head c stamp p → Rested head c at
      (with_turn at (Tick ∷ ticks 0 (client_of head c p).imports (client_of head c p)) p)
  tick_rested p s =
      let first : Rested head c at (line at Tick ∷ p) = record {
        good = adds head c stamp p Tick (starts_good head c stamp p s) (owes_nothing p at Tick s.settled) s.later (λ t e. tt) tt refl;
        settled = tt;
        idle = s.between.idle;
        handles = s.between.handles;
      } in
      let still : Still (life_at c p) p (line at Tick ∷ p) = record {
        rested = first;
        life = refl;
        known = λ t. refl;
        standing = λ t. refl;
        flights = λ t. refl;
        kept = λ t. refl;
        held = refl;
        took = λ from m k. k;
        calls = λ slot. refl;
        awaits = λ t k. awaits_quiet (life_at c p) k t at Tick p tt;
      } in
      (ticks_good p s.grown s.later s.awaits (head.osts + 1) 0 (line at Tick ∷ p) still).rested

  -- ---- a target serves the life

  -- what is in flight is sent again, and asks that were forgotten are made again
  pub ready_calm : (p : List Line) (n t : ℕ) (who : Who) (boot : ℕ) (committed : TxnOf) → Starts head c stamp p → t ≤ head.osts
      → Sent p n (Target t) (Client c) (message.Ready who boot committed)
      → Calmed head c at (with_turn at (comes_by at (Target t) (message.Ready who boot committed) (client_of head c p))
      (line at (Take n (Target t) (message.Ready who boot committed)) ∷ p))
  ready_calm p n t who boot committed s le sent = by (is_present who boot t k) refl
    where
      k : ClientState
      k = client_of head c p

      m : Message
      m = message.Ready who boot committed

      p1 : List Line
      p1 = line at (Take n (Target t) m) ∷ p

      p2 : List Line
      p2 = line at (Serves t boot) ∷ p1

      p3 : List Line
      p3 = line at (Settles t committed.0) ∷ p2

      took : Rested head c at p1
      took = took_rested head c stamp p n t m s sent

      there : import_of t k.imports ≡ import_at c t p
      there = import_there head c stamp p t le

      now : standing_at c t p3 ≡ Serving
      now = ap (λ (b : Bool). on true (b && nat_eq t t) Serving (standing_at c t p)) (self c)
          ∙ ap (λ (b : Bool). if b then Serving else standing_at c t p) (self t)

      again : List Entry
      again = resends (life_at c p) (known_at c t p) t (flights_at c t p)

      p4 : List Line
      p4 = with_turn at again p3

      -- what it took in this turn
      still_took : (fs : List Flight) (q : List Line) → Took q at (Target t) m
          → Took (with_turn at (resends (life_at c p) (known_at c t p) t fs) q) at (Target t) m
      still_took [] q k = k
      still_took (f ∷ fs) q k = still_took fs (line at (sends_request (life_at c p) (known_at c t p) t f) ∷ q) k

      resumed : Still (life_at c p) p3 p3 → Calmed head c at (with_turn at (again ++ on_calls (looks_stage t) 0 (calls_at c p)) p3)
      resumed still =
          let sent = again_good (life_at c p) p3 p3 t (known_at c t p) (flights_at c t p) still refl now (λ f i. i) in
          subst (Calmed head c at) (sym (turn_more at again (on_calls (looks_stage t) 0 (calls_at c p)) p3))
          (looks_all head c stamp t who boot committed.0 p4 sent.rested (still_took (flights_at c t p) p3 (inl (refl, refl, refl)))
          (calls_at c p) (sym (calls_same c p p4 sent.calls)))

      by : (b : Bool) → is_present who boot t k ≡ b → Calmed head c at (with_turn at (ready_heard t boot committed.0 k b) p1)
      by false e = rested_calm head c stamp p1 took
      by true e =
          let parts = and_parts (same_life who k.who) (nat_eq boot (import_of t k.imports).boot) e in
          let own : who ≡ life_of c (only t p1) = life_is who k.who parts.0 ∙ life_is_of c t p1 in
          let same : boot ≡ known_at c t p = eqb-true boot (import_of t k.imports).boot parts.1 ∙ ap (λ (i : Import). i.boot) there in
          let was : Was (only t p1) (Target t) (Client c) m = was_only t p1 (Target t) (Client c) m (self t)
          (sent_was p n (Target t) (Client c) m sent) in
          let still_own : who ≡ life_of c (only t p2) = life_is who k.who parts.0 ∙ life_is_of c t p2 in
          let served : Good head c at p2 =
          adds head c stamp p1 (Serves t boot) took.good (owes_nothing p1 at (Serves t boot) tt) tt
          (at_one head c stamp t (λ (u : ℕ). story_guards.ServesOk (only u p1) c t boot) (record {
            committed = committed;
            was = subst (λ (w : Who). Was (only t p1) (Target t) (Client c) (message.Ready w boot committed)) own was;
            of_boot = same ∙ known_is c t p1;
          })) tt refl in
          let settled : Good head c at p3 =
          adds head c stamp p2 (Settles t committed.0) served (owes_nothing p2 at (Settles t committed.0) tt) tt
          (at_one head c stamp t (λ (u : ℕ). story_guards.SettlesOk (only u p2) c t committed.0) (inl (record {
            serves = sym (standing_is c t p2) ∙ now;
            boot = boot;
            was =
                was_only t p2 (Target t) (Client c) (message.Ready (life_of c (only t p2)) boot committed) (self t)
                (subst (λ (w : Who). Was p2 (Target t) (Client c) (message.Ready w boot committed)) still_own
                (sent_was p n (Target t) (Client c) m sent));
          }))) tt refl in
          let still : Still (life_at c p) p3 p3 = still_start (life_at c p) p3
          (record { good = settled; settled = tt; idle = took.idle; handles = took.handles }) refl in
          let so : resumes t k (import_of t k.imports) ≡ again ++ on_calls (looks_stage t) 0 (calls_at c p) =
          ap (λ (i : Import). resumes t k i) there in
          subst (λ (es : List Entry). Calmed head c at (with_turn at es p3)) (sym so) (resumed still)
