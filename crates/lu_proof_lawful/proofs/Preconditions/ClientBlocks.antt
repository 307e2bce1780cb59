-- The turn of a client in a covered run in which a target calls a lock back: one that is held is marked, and one that a call waits for is
-- marked
-- for when it comes; one that isn't known is given back, where no reply can bring it.
use Rattle.std.proofs.Common.{◌≡◌, ℕ, ◌<◌, ◌≤◌, Bool, true, false, List, [], ◌∷◌, inl, inr, Option, Some, None, refl, sym, subst, ap, ◌∙◌}
use Rattle.std.specs.Prelude.{nat_eq}
use Rattle.std.proofs.lemmas.Bool.{and_parts, eqb-true}
use Rattle.lu_base.specs.declared.ids.At.{At}
use Rattle.lu_base.specs.declared.ids.Cookie.{Cookie}
use Rattle.lu_base.specs.declared.ids.Node.TheVariants.{Client, Target}
use Rattle.lu_base.specs.declared.ids.Stamp.{Stamp}
use Rattle.lu_base.specs.declared.ids.TargetId.{TargetId}
use Rattle.lu_base.specs.declared.ids.Who.{Who}
use Rattle.lu_base.specs.declared.locks.Lock.{Lock}
use Rattle.lu_msg.specs.declared.messages.Message.{Message}
use Rattle.lu_msg.specs.declared.messages.Message.TheVariants as message
use Rattle.lu_held.specs.declared.names.LockName.{LockName}
use Rattle.lu_held.specs.Locks.{named}
use Rattle.lu_held.specs.Held.{is_held}
use Rattle.lu_spec_entries.specs.Carried.{Flight, Work, Stage, Waits, Running}
use Rattle.lu_spec_entries.specs.Words.{Entry, Send, Take, Stands, Line, line, with_turn, same_life}
use Rattle.lu_spec_entries.specs.Concerns.{only}
use Rattle.lu_spec_entries.specs.Sent.{Sent}
use Rattle.lu_spec_client.specs.Advances.{at_stage}
use Rattle.lu_spec_client.specs.Caches.{held_at, patches_at}
use Rattle.lu_spec_client.specs.Calls.{call_on}
use Rattle.lu_spec_client.specs.Imports.{Import, import_of}
use Rattle.lu_spec_client.specs.Messages.{on_running, on_slot, is_waiter, waiter, lock_blocked, cancels_unknown, blocked_waiting}
use Rattle.lu_spec_client.specs.Messages.{blocked_held, blocked, comes_by}
use Rattle.lu_spec_client.specs.States.{Client as ClientState}
use Rattle.lu_proof_lawful.specs.Covered.Calls.{call_at, life_at}
use Rattle.lu_proof_lawful.specs.Covered.ClientStates.{life_of, flights_of, awaits_of}
use Rattle.lu_proof_lawful.specs.Covered.Runs.{IsOnObjects}
use Rattle.lu_spec_run.specs.Heads as table
use Rattle.lu_spec_run.specs.Runs.{client_of}
use Rattle.lu_proof_lawful.proofs.Preconditions.Guards.{Was, TookNow, used_in}
use Rattle.lu_proof_lawful.proofs.Preconditions.StoryGuards as story_guards
use Rattle.lu_proof_lawful.proofs.Preconditions.Lists.{self, life_is, turn}
use Rattle.lu_proof_lawful.proofs.Preconditions.Only.{sent_was, was_only}
use Rattle.lu_proof_lawful.proofs.Preconditions.Parts.{flights_now, known_is, life_is_of}
use Rattle.lu_proof_lawful.proofs.Preconditions.Held.{held_back, held_name}
use Rattle.lu_proof_lawful.proofs.Preconditions.Turns.{owes_nothing}
use Rattle.lu_proof_lawful.proofs.Preconditions.CallStands.{Waiting, Calm}
use Rattle.lu_proof_lawful.proofs.Preconditions.ClientGood.{Rested, the_head, adds, at_one}
use Rattle.lu_proof_lawful.proofs.Preconditions.ClientRests.{mark_good, import_there}
use Rattle.lu_proof_lawful.proofs.Preconditions.Awaits.{awaits_quiet}
use Rattle.lu_proof_lawful.proofs.Preconditions.AwaitsTurns.{call_there, waiter_is, none_waits}
use Rattle.lu_proof_lawful.proofs.Preconditions.TurnStarts.{Starts, took_rested}
use Rattle.lu_proof_lawful.proofs.Preconditions.StageMoves.{works_at, waits_only, stand_rested, rested_calm, had_before, uses_before}
use Rattle.lu_proof_lawful.proofs.Preconditions.StageMoves.{mine_before, wants_on}

-- a call that waits is marked, and waits for the same
marked_of : (who : Who) (r : Running) (w : Work) (target : TargetId) (l : Lock) (marked : Bool) → r.stage ≡ Waits w target l marked
    → Waiting who r → Waiting who (at_stage r (Waits w target l true))
marked_of who r w target l marked stage x =
    subst (λ (s : Stage). Waiting who (at_stage r s)) (by x.work w x.target target x.lock l x.marked marked (sym x.stage ∙ stage))
    (record {
      work = x.work;
      target = x.target;
      lock = x.lock;
      marked = true;
      stage = refl;
      still = x.still;
      wanting = record {
        works = works_at r (Waits x.work x.target x.lock true) x.work (λ e. cc) x.wanting.works;
        wanted = x.wanting.wanted;
        left = x.wanting.left;
        first = x.wanting.first;
      };
      of_target = x.of_target;
      of_lock = x.of_lock;
      object = x.object;
    })
  where
    by : (w v : Work) (a b : TargetId) (k l : Lock) (m n : Bool) → Waits w a k m ≡ Waits v b l n → Waits w a k true ≡ Waits v b l true
    by w v a b k l m n e = cc

module _ (head : table.Head) (c : ℕ) (stamp : Stamp) where
  abbrev at : At
  at = turn stamp (Client c)

  mark_one : (slot : ℕ) (r : Running) (w : Work) (target : TargetId) (l : Lock) (marked : Bool) (p : List Line) → Rested head c at p
      → (who : Who) (boot : ℕ) → TookNow p at (Target target.0) (message.Block who boot l.cookie) → slot < 4
      → call_at c slot p ≡ Some r → r.stage ≡ Waits w target l marked
      → Rested head c at (line at (Stands slot (at_stage r (Waits w target l true))) ∷ p)
  mark_one slot r w target l marked p h who boot took small call stage =
      stand_rested head c stamp p slot r (Waits w target l true) h call (record {
        running = r;
        call = call;
        small = small;
        still = x.still;
        stage = Waits w target l true;
        pins = r.pins;
        is = refl;
        how = inr (inr (inr (inr (inr (
          refl,
          inr (inr (inl (record
              { work = w; target = target; lock = l; marked = marked; before = stage; took = (who, boot, took); is = refl }))),
        )))));
        had = had_before head c stamp p slot r (Waits w target l true) h.good call same;
        uses = uses_before head c stamp p r (Waits w target l true) same;
        mine = mine_before head c stamp p slot r (Waits w target l true) h.good call same;
      }) (subst IsOnObjects stage (wants_on head c stamp p slot r h.good call)) tt
      (inl (inr (inr (inr (inl (marked_of (life_at c p) r w target l marked stage x))))))
    where
      x : Waiting (life_at c p) r
      x = waits_only (life_at c p) (patches_at c p) r w target l marked stage
          (subst (Calm (life_at c p) (patches_at c p)) call ((rested_calm head c stamp p h).calm slot))

      same : used_in (Waits w target l true) ≡ used_in r.stage
      same = ap used_in (sym stage)

  module _ (p : List Line) (n t : ℕ) (who : Who) (boot : ℕ) (cookie : Cookie) (s : Starts head c stamp p) (low : t ≤ head.osts)
      (sent : Sent p n (Target t) (Client c) (message.Block who boot cookie)) where
    abbrev k : ClientState
    k = client_of head c p

    abbrev m : Message
    m = message.Block who boot cookie

    abbrev name : LockName
    name = named (record { 0 = t }) cookie

    abbrev p1 : List Line
    p1 = line at (Take n (Target t) m) ∷ p

    took : Rested head c at p1
    took = took_rested head c stamp p n t m s sent

    -- a call that waits for it is marked
    marks : (slot : ℕ) → waiter name 0 k.calls ≡ Some slot → Rested head c at (with_turn at (on_slot lock_blocked (Some slot) k) p1)
    marks slot e = on (call_on slot k.calls) refl (waiter_is name k.calls slot e)
      where
        on : (x : Option Running) → call_on slot k.calls ≡ x → is_waiter name x ≡ true
            → Rested head c at (with_turn at (on_running lock_blocked slot x) p1)
        on None is w = absurd (cc)
        on (Some r) is w = by r.stage refl w
          where
            there : (slot < 4) × (call_at c slot p ≡ Some r)
            there = call_there c slot p r is

            by : (x : Stage) → r.stage ≡ x → is_waiter name (Some (at_stage r x)) ≡ true
                → Rested head c at (with_turn at (lock_blocked slot r x) p1)
            by (Waits w target l marked) stage same =
                let both = and_parts (nat_eq target.0 t) (nat_eq l.cookie.0 cookie.0) same in
                let key : cookie ≡ l.cookie = ap (λ (v : ℕ). record { 0 = v }) (sym (eqb-true l.cookie.0 cookie.0 both.1)) in
                mark_one slot r w target l marked p1 took who boot
                (refl, ap (λ (v : ℕ). Target v) (sym (eqb-true target.0 t both.0)), ap (λ (v : Cookie). message.Block who boot v) key)
                there.0 there.1 stage
            by x stage same = took

    was : who ≡ life_at c p → Was (only t p1) (Target t) (Client c) (message.Block (life_at c p) boot cookie)
    was own = subst (λ (w : Who). Was (only t p1) (Target t) (Client c) (message.Block w boot cookie)) own
        (was_only t p1 (Target t) (Client c) m (self t) (sent_was p n (Target t) (Client c) m sent))

    nothing_flies : (import_of t k.imports).flights ≡ [] → flights_of (life_of c (only t p1)) (only t p1) ≡ []
    nothing_flies e = sym (flights_now (the_head head c stamp) c t p1 took.good.grown)
        ∙ sym (ap (λ (i : Import). i.flights) (import_there head c stamp p t low)) ∙ e

    none_awaits : waiter name 0 k.calls ≡ None → awaits_of (life_of c (only t p1)) cookie.0 (only t p1) ≡ 0
    none_awaits e =
        ap (λ (w : Who). awaits_of w cookie.0 (only t p1)) (sym (life_is_of c t p1))
        ∙ awaits_quiet (life_at c p) cookie.0 t at (Take n (Target t) m) p tt
        ∙ s.awaits.counts t cookie.0 ∙ none_waits name k.calls e

    -- one that isn't known is given back, where no reply can bring it
    unknown : who ≡ life_at c p → is_held name (held_at c p) ≡ false → waiter name 0 k.calls ≡ None → (fs : List Flight)
        → (import_of t k.imports).flights ≡ fs
        → Rested head c at (with_turn at (cancels_unknown k.who name (import_of t k.imports).boot fs) p1)
    unknown own free none (f ∷ fs) e = took
    unknown own free none [] e =
        record {
          good =
              adds head c stamp p1 x took.good (owes_nothing p1 at x took.settled) tt
              (at_one head c stamp t (λ (u : ℕ). story_guards.CancelOk (only u p1) c t (life_at c p) (import_of t k.imports).boot cookie)
              (record {
                of_life = life_is_of c t p1;
                of_boot = ap (λ (i : Import). i.boot) (import_there head c stamp p t low) ∙ known_is c t p1;
                free = held_name c p1 name ∙ free;
                cause = inr (nothing_flies e, none_awaits none, (t, boot, was own));
                there = λ h i. (held_back c t p1 h i).1;
              })) tt refl;
          settled = tt;
          idle = took.idle;
          handles = took.handles;
        }
      where
        x : Entry
        x = Send (Target t) (message.Cancel (life_at c p) (import_of t k.imports).boot cookie)

    waits_or : who ≡ life_at c p → is_held name (held_at c p) ≡ false → (o : Option ℕ) → waiter name 0 k.calls ≡ o
        → Rested head c at (with_turn at (blocked_waiting name k o) p1)
    waits_or own free (Some slot) e = marks slot e
    waits_or own free None e = unknown own free e (import_of t k.imports).flights refl

    by_held : who ≡ life_at c p → (b : Bool) → is_held name (held_at c p) ≡ b → Rested head c at (with_turn at (blocked_held name k b) p1)
    by_held own true e = mark_good head c stamp p1 name took (inr (who, boot, (refl, refl, refl)))
    by_held own false e = waits_or own e (waiter name 0 k.calls) refl

    pub block_rested : Rested head c at (with_turn at (comes_by at (Target t) m k) p1)
    block_rested = by (same_life who k.who) refl
      where
        by : (b : Bool) → same_life who k.who ≡ b → Rested head c at (with_turn at (blocked name k b) p1)
        by false e = took
        by true e = by_held (life_is who k.who e) (is_held name (held_at c p)) refl
