-- The turns of a client in a covered run in which a target grants it a lock that it waits for: the lock is held, called back or not, what
-- is
-- committed there is noted, and the call that waits for it goes on.
use Rattle.std.proofs.Common.{◌≡◌, ℕ, ◌<◌, ◌≤◌, Bool, true, false, List, [], ◌∷◌, ◌⊎◌, inl, inr, Option, Some, None, refl, sym, subst, ap}
use Rattle.std.proofs.Common.{◌∙◌}
use Rattle.std.specs.Prelude.{nat_eq, ◌&&◌}
use Rattle.std.proofs.lemmas.Bool.{and_parts, eqb-true}
use Rattle.lu_base.specs.declared.ids.At.{At}
use Rattle.lu_base.specs.declared.ids.Node.TheVariants.{Client, Target}
use Rattle.lu_base.specs.declared.ids.Stamp.{Stamp}
use Rattle.lu_base.specs.declared.ids.TargetId.{TargetId}
use Rattle.lu_base.specs.declared.ids.Who.{Who}
use Rattle.lu_base.specs.declared.locks.Lock.{Lock}
use Rattle.lu_base.specs.declared.locks.Resource.{Resource}
use Rattle.lu_msg.specs.declared.messages.GrantNotice.{GrantNotice}
use Rattle.lu_msg.specs.declared.messages.Message.TheVariants as message
use Rattle.lu_held.specs.declared.locks.HeldLock.{HeldLock}
use Rattle.lu_held.specs.declared.names.LockName.{LockName}
use Rattle.lu_held.specs.Locks.{named}
use Rattle.lu_spec_entries.specs.Carried.{Stage, Waits, Came, Running}
use Rattle.lu_spec_entries.specs.Words.{Entry, Take, Hold, Settles, Stands, Line, line, with_turn, same_life}
use Rattle.lu_spec_entries.specs.Concerns.{only}
use Rattle.lu_spec_entries.specs.Sent.{Sent}
use Rattle.lu_spec_client.specs.Advances.{at_stage, name_under}
use Rattle.lu_spec_client.specs.Caches.{held_as, held_at, patches_at}
use Rattle.lu_spec_client.specs.Calls.{call_on, calls_at}
use Rattle.lu_spec_client.specs.Imports.{Import, import_of}
use Rattle.lu_spec_client.specs.Messages.{waits_for, is_waiter, waiter, granted_as, lock_granted, granted, on_running, on_slot, is_present}
use Rattle.lu_spec_client.specs.Messages.{comes_by}
use Rattle.lu_spec_client.specs.Patches.{Patch}
use Rattle.lu_spec_client.specs.States.{Client as ClientState}
use Rattle.lu_proof_lawful.specs.Covered.Calls.{call_at, life_at}
use Rattle.lu_proof_lawful.specs.Covered.ClientStates.{awaits_of}
use Rattle.lu_proof_lawful.specs.Covered.Runs.{IsOnObjects}
use Rattle.lu_proof_lawful.specs.Covered.Imports.{known_at}
use Rattle.lu_spec_run.specs.Heads as table
use Rattle.lu_spec_run.specs.Runs.{client_of}
use Rattle.lu_proof_lawful.proofs.Preconditions.Guards.{In, Was, HeardAs, Took, came_marked, HadUsed, used_in, StandsOk}
use Rattle.lu_proof_lawful.proofs.Preconditions.StoryGuards as story_guards
use Rattle.lu_proof_lawful.proofs.Preconditions.Lists.{self, life_is, turn}
use Rattle.lu_proof_lawful.proofs.Preconditions.Only.{sent_was, was_only}
use Rattle.lu_proof_lawful.proofs.Preconditions.Parts.{known_is, life_is_of}
use Rattle.lu_proof_lawful.proofs.Preconditions.Turns.{owes_nothing}
use Rattle.lu_proof_lawful.proofs.Preconditions.Calls.{had_all, mine_all}
use Rattle.lu_proof_lawful.proofs.Preconditions.CallStands.{Waiting, Idle, idle_still, still_calm}
use Rattle.lu_proof_lawful.proofs.Preconditions.ClientLocks.{with_self}
use Rattle.lu_proof_lawful.proofs.Preconditions.ClientGood.{Good, Rested, the_head, adds, at_one, held_line}
use Rattle.lu_proof_lawful.proofs.Preconditions.ClientRests.{import_there}
use Rattle.lu_proof_lawful.proofs.Preconditions.StageMoves.{OnStage, stage_on, waits_only}
use Rattle.lu_proof_lawful.proofs.Preconditions.TurnStarts.{Starts, took_rested}
use Rattle.lu_proof_lawful.proofs.Preconditions.Awaits.{counted, HeardToWait, waits_more, waits_heard}
use Rattle.lu_proof_lawful.proofs.Preconditions.AwaitsTurns.{took_awaits, call_there, waiter_is, granted_awaits}
use Rattle.lu_proof_lawful.proofs.Preconditions.AskedCalls.{wanting_as, Stood, stood, stood_idle}
use Rattle.lu_proof_lawful.proofs.Preconditions.ClientStarts.{After}
use Rattle.lu_proof_lawful.proofs.Preconditions.ClientHears.{only_line}
use Rattle.lu_proof_lawful.proofs.Preconditions.ClientReplies.{Comes}

-- only a call that waits for a lock is told so
waiting_of : (who : Who) (patches : List (Resource × Patch)) (calls : List (Option Running)) (name : LockName) (r : Running)
    → Idle who patches calls (Some r) → waits_for name r.stage ≡ true → Waiting who r
waiting_of who patches calls name r i e = by r.stage refl e
  where
    by : (x : Stage) → r.stage ≡ x → waits_for name x ≡ true → Waiting who r
    by (Waits w target l marked) stage e = waits_only who patches r w target l marked stage
        (still_calm who patches (Some r) (idle_still who patches calls (Some r) i))
    by x stage e = absurd (cc)

module _ (head : table.Head) (c : ℕ) (stamp : Stamp) where
  abbrev at : At
  at = turn stamp (Client c)

  module _ (p : List Line) (n t : ℕ) (g : GrantNotice) (s : Starts head c stamp p) (sent : Sent p n (Target t) (Client c) (message.Grant g))
      (own : g.who ≡ life_at c p) (boot : g.boot ≡ known_at c t p)
      (slot : ℕ) (small : slot < 4) (r : Running) (call : call_at c slot p ≡ Some r)
      (waits : waits_for (named (record { 0 = t }) g.cookie) r.stage ≡ true) where
    abbrev p1 : List Line
    p1 = line at (Take n (Target t) (message.Grant g)) ∷ p

    abbrev w : Waiting (life_at c p) r
    w = waiting_of (life_at c p) (patches_at c p) (calls_at c p) (named (record { 0 = t }) g.cookie) r
        (subst (Idle (life_at c p) (patches_at c p) (calls_at c p)) call (s.between.idle slot)) waits

    parts : (nat_eq w.target.0 t ≡ true) × (nat_eq w.lock.cookie.0 g.cookie.0 ≡ true)
    parts = and_parts (nat_eq w.target.0 t) (nat_eq w.lock.cookie.0 g.cookie.0)
        (sym (ap (waits_for (named (record { 0 = t }) g.cookie)) w.stage) ∙ waits)

    there : w.target.0 ≡ t
    there = eqb-true w.target.0 t parts.0

    of_cookie : w.lock.cookie ≡ g.cookie
    of_cookie = ap (λ (k : ℕ). record { 0 = k }) (eqb-true w.lock.cookie.0 g.cookie.0 parts.1)

    abbrev lock : Lock
    lock = granted_as w.lock g.extent

    abbrev e : Entry
    e = Hold t lock w.marked (Some g.size) g.seen

    abbrev p2 : List Line
    p2 = line at e ∷ p1

    abbrev p3 : List Line
    p3 = line at (Settles t g.committed.0) ∷ p2

    took : Rested head c at p1
    took = took_rested head c stamp p n t (message.Grant g) s sent

    was : (q : List Line) → Was q (Target t) (Client c) (message.Grant g) → Was (only t q) (Target t) (Client c) (message.Grant g)
    was q k = was_only t q (Target t) (Client c) (message.Grant g) (self t) k

    was_sent : Was p (Target t) (Client c) (message.Grant g)
    was_sent = sent_was p n (Target t) (Client c) (message.Grant g) sent

    -- it was told to wait for it
    heard : HeardToWait (only t p1) (life_at c p) w.lock
    heard =
        waits_more p (line at (Take n (Target t) (message.Grant g))) t (life_at c p) w.lock
        (subst (λ (u : ℕ). HeardToWait (only u p) (life_at c p) w.lock) there
        (waits_heard (the_head head c stamp) p s.grown c slot r w.work w.target w.lock w.marked call w.stage))

    awaited : 0 < awaits_of (life_at c p) w.lock.cookie.0 (only t p1)
    awaited =
        subst (λ (m : ℕ). 0 < m) (sym ((took_awaits head c stamp p n (Target t) (message.Grant g) s.awaits).counts t w.lock.cookie.0))
        (counted (named (record { 0 = t }) w.lock.cookie) c slot p1 small
        (ap (is_waiter (named (record { 0 = t }) w.lock.cookie)) call ∙ ap (waits_for (named (record { 0 = t }) w.lock.cookie)) w.stage
        ∙ ap (λ (b : Bool). b && nat_eq w.lock.cookie.0 w.lock.cookie.0) parts.0 ∙ self w.lock.cookie.0))

    held_good : Good head c at p2
    held_good =
        adds head c stamp p1 e took.good (owes_nothing p1 at e took.settled)
        (inr (record {
          notice = g;
          took = (refl, refl, refl);
          who = own;
          boot = boot;
          slot = slot;
          running = r;
          call = call;
          work = w.work;
          target = w.target;
          asked = w.lock;
          waits = w.stage;
          of_target = there;
          of_cookie = of_cookie;
          is = refl;
          sized = refl;
          saw = refl;
        }))
        (at_one head c stamp t (λ (u : ℕ). ((w.marked ≡ false) × story_guards.HeldOk (only u p1) c t lock g.seen)
        ⊎ story_guards.GivenOf (only u p1) c t lock g.seen) (inr (record {
          notice = g;
          was = was p1 was_sent;
          who = own ∙ life_is_of c t p1;
          boot = boot ∙ known_is c t p1;
          cookie = of_cookie;
          of_life = heard.of_life ∙ sym own;
          range = refl;
          saw = refl;
          flight = heard.flight;
          reply = heard.reply;
          heard = subst (λ (who : Who). HeardAs (only t p1) who heard.flight heard.reply) (sym own) heard.heard;
          extent = heard.extent;
          asked = heard.asked;
          told = heard.told;
          awaits = subst (λ (who : Who). 0 < awaits_of who w.lock.cookie.0 (only t p1)) (sym own) awaited;
        }))) tt refl

    settled_good : Good head c at p3
    settled_good =
        adds head c stamp p2 (Settles t g.committed.0) held_good (owes_nothing p2 at (Settles t g.committed.0) tt) tt
        (at_one head c stamp t (λ (u : ℕ). story_guards.SettlesOk (only u p2) c t g.committed.0) (inr (record {
          notice = g;
          was = was p2 was_sent;
          who = own ∙ life_is_of c t p2;
          boot = boot ∙ known_is c t p2;
          now = subst (λ (q : List Line). story_guards.HeldNow q c t g.cookie) (sym (only_line head c stamp t e p1 (self t)))
              (refl, refl, of_cookie);
          is = refl;
        }))) tt refl

    abbrev came : Running
    came = at_stage r (Came w.work lock)

    held_there : In (held_as t lock w.marked) (held_at c p2)
    held_there = subst (λ (hs : List HeldLock). In (held_as t lock w.marked) hs) (sym (held_line head c stamp p1 e))
        (with_self (held_as t lock w.marked) (held_at c p1))

    of_target : t ≡ w.wanting.wanted.target.0
    of_target = sym there ∙ ap (λ (u : TargetId). u.0) w.of_target

    -- it came with the mark that it stood with
    mark_so : came_marked c (name_under w.wanting.wanted lock) p3 ≡ w.marked
    mark_so = ap (λ (u : ℕ). came_marked c (named (record { 0 = u }) lock.cookie) p3) (sym of_target)
        ∙ rw (self c, self t, self lock.cookie.0) refl

    marked_or : (b : Bool) → w.marked ≡ b → (w.marked ≡ false) ⊎ (came_marked c (name_under w.wanting.wanted lock) p3 ≡ true)
    marked_or false e = inl e
    marked_or true e = inr (mark_so ∙ e)

    came_ok : StandsOk p3 at c slot came
    came_ok =
        record {
          running = r;
          call = call;
          small = small;
          still = w.still;
          stage = Came w.work lock;
          pins = r.pins;
          is = refl;
          how = inr (inr (inr (inr (inr (
            refl,
            inl (record {
              work = w.work;
              lock = lock;
              is = refl;
              from = inr (record {
                target = w.target;
                waiting = w.lock;
                marked = w.marked;
                stage = w.stage;
                notice = g;
                took =
                    subst (λ (u : ℕ). Took p3 at (Target u) (message.Grant g)) (sym there) (inl (refl, refl, refl));
                is = refl;
              });
              wanted = w.wanting.wanted;
              left = w.wanting.left;
              first = w.wanting.first;
              holding = held_as t lock w.marked;
              held = held_there;
              same = refl;
              of_target = of_target;
              holds = sym mark_so;
              flag = mark_so;
            }),
          )))));
          had = subst (λ (x : Stage). HadUsed c slot p3 x) w.stage (had_all (the_head head c stamp) p3 settled_good.grown c slot r call);
          uses = λ u i. inl (subst (λ (x : Stage). In u (used_in x)) (sym w.stage) i);
          mine = λ u i. mine_all (the_head head c stamp) p3 settled_good.grown c slot r call u
              (subst (λ (x : Stage). In u (used_in x)) (sym w.stage) i);
        }

    objects : IsOnObjects r.stage
    objects = subst OnStage call (stage_on (the_head head c stamp) c slot p s.grown s.covered)

    stands : Stood head c stamp slot came p3
    stands = stood head c stamp slot came p3 settled_good tt came_ok (subst IsOnObjects w.stage objects).1

    abbrev lines : List Entry
    lines = on_running (lock_granted t g) slot (Some r)

    lines_so : lines ≡ e ∷ Settles t g.committed.0 ∷ Stands slot came ∷ []
    lines_so = ap (lock_granted t g slot r) w.stage

    came_after : After head c stamp (with_turn at lines p1)
    came_after =
        subst (λ (fs : List Entry). After head c stamp (with_turn at fs p1)) (sym lines_so)
        (inr (inr (inr (inr (record {
          slot = slot;
          running = came;
          come = record {
            good = stands.good;
            settled = tt;
            small = small;
            call = stands.call;
            others = λ u other. stood_idle head c stamp slot r came p3 call refl stands u other (s.between.idle u);
            handles = took.handles;
            coming = record {
              work = w.work;
              lock = lock;
              stage = refl;
              still = w.still;
              wanting = wanting_as r came w.work refl refl (λ x. absurd (cc)) refl w.wanting;
              object = subst (λ (u : TargetId). 0 < u.0) w.of_target w.object;
              holding = held_as t lock w.marked;
              held = held_there;
              of_target = of_target;
              is = refl;
              of_object = ap (λ (l : Lock). l.resource) w.of_lock;
              ranged = tt;
              how = marked_or w.marked refl;
            };
          };
        })))))

  pub grant_after : (p : List Line) (n t : ℕ) (g : GrantNotice) → Starts head c stamp p → t ≤ head.osts
      → Sent p n (Target t) (Client c) (message.Grant g)
      → Comes head c stamp (with_turn at (comes_by at (Target t) (message.Grant g) (client_of head c p))
      (line at (Take n (Target t) (message.Grant g)) ∷ p))
  grant_after p n t g s le sent = (
    by_life (is_present g.who g.boot t k) refl,
    granted_awaits head c stamp t g (is_present g.who g.boot t k) here
        (took_awaits head c stamp p n (Target t) (message.Grant g) s.awaits),
  )
    where
      k : ClientState
      k = client_of head c p

      here : List Line
      here = line at (Take n (Target t) (message.Grant g)) ∷ p

      name : LockName
      name = named (record { 0 = t }) g.cookie

      quiet : After head c stamp here
      quiet = inl (took_rested head c stamp p n t (message.Grant g) s sent)

      by_call : is_present g.who g.boot t k ≡ true → (slot : ℕ) → (x : Option Running) → call_on slot (calls_at c p) ≡ x → is_waiter name x
          ≡ true → After head c stamp (with_turn at (on_running (lock_granted t g) slot x) here)
      by_call present slot None e waits = quiet
      by_call present slot (Some r) e waits =
          let own = and_parts (same_life g.who k.who) (nat_eq g.boot (import_of t k.imports).boot) present in
          let on = call_there c slot p r e in
          came_after p n t g s sent (life_is g.who k.who own.0)
          (eqb-true g.boot (import_of t k.imports).boot own.1 ∙ ap (λ (i : Import). i.boot) (import_there head c stamp p t le)) slot
          on.0 r on.1 waits

      by_slot : is_present g.who g.boot t k ≡ true → (o : Option ℕ) → waiter name 0 (calls_at c p) ≡ o
          → After head c stamp (with_turn at (on_slot (lock_granted t g) o k) here)
      by_slot present None e = quiet
      by_slot present (Some slot) e = by_call present slot (call_on slot (calls_at c p)) refl (waiter_is name (calls_at c p) slot e)

      by_life : (b : Bool) → is_present g.who g.boot t k ≡ b → After head c stamp (with_turn at (granted t g k b) here)
      by_life false present = quiet
      by_life true present = by_slot present (waiter name 0 (calls_at c p)) refl
