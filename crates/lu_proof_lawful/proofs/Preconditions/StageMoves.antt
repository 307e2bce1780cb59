-- Calls that messages of a target move, slot by slot: where it was booted again, one that waits for a lock there is forgotten; where it
-- serves
-- the life, one that it had forgotten looks for its locks anew. What a call wants stays on object storage targets.
use Rattle.std.proofs.Common.{◌≡◌, ℕ, zero, suc, ◌+◌, ◌<◌, ◌≤◌, Bool, true, false, List, [], ◌∷◌, inl, inr, Option, Some, None, refl, sym}
use Rattle.std.proofs.Common.{subst, ap, ◌∙◌, arith}
use Rattle.std.specs.Prelude.{nat_eq, length, if◌then◌else◌}
use Rattle.std.proofs.lemmas.Bool.{cond_both, eqb-true}
use Rattle.std.proofs.lemmas.Bool.Decides.{nat_tests}
use Rattle.lu_base.specs.declared.ids.At.{At}
use Rattle.lu_base.specs.declared.ids.Node.{Node}
use Rattle.lu_base.specs.declared.ids.Node.TheVariants.{Client, Target}
use Rattle.lu_base.specs.declared.ids.Stamp.{Stamp}
use Rattle.lu_base.specs.declared.ids.TargetId.{TargetId}
use Rattle.lu_base.specs.declared.ids.Who.{Who}
use Rattle.lu_base.specs.declared.locks.Lock.{Lock}
use Rattle.lu_base.specs.declared.locks.Resource.{Resource}
use Rattle.lu_msg.specs.declared.messages.Message.{Message}
use Rattle.lu_msg.specs.declared.messages.Message.TheVariants as message
use Rattle.lu_spec_entries.specs.declared.uses.Using.{Using}
use Rattle.lu_spec_entries.specs.Carried.{Asking, Asked, Answered, Work, Stage, Plain, Bad, Looks, Waits, Forgotten, Enqueued, Gets}
use Rattle.lu_spec_entries.specs.Carried.{Flushing, Sizes, Running}
use Rattle.lu_spec_entries.specs.Words.{Entry, Begin, Queues, Heard, Told, Stands, Line, line, with_turn, is_client}
use Rattle.lu_spec_entries.specs.Fields.{on}
use Rattle.lu_spec_client.specs.Advances.{at_stage, name_under}
use Rattle.lu_spec_client.specs.Caches.{held_at, patches_at}
use Rattle.lu_spec_client.specs.Calls.{asks, asks_for, reads_call, call_after, call_on}
use Rattle.lu_spec_client.specs.Patches.{Patch}
use Rattle.lu_spec_client.specs.Recovery.{on_call, on_calls, forgets_stage, is_left_at, looks_stage}
use Rattle.lu_spec_client.specs.Starts.{is_on}
use Rattle.lu_proof_lawful.specs.Covered.Calls.{call_at, calls_at, life_at}
use Rattle.lu_proof_lawful.specs.Covered.Runs.{IsOnObjects, IsCovered, AllCovered}
use Rattle.lu_proof_lawful.specs.Covered.Heads.{Head}
use Rattle.lu_proof_lawful.specs.Covered.Imports.{known_at, standing_at, flights_at, kept_at}
use Rattle.lu_spec_run.specs.Heads as table
use Rattle.lu_proof_lawful.proofs.Preconditions.Guards.{In, Took, Begins, HadUsed, used_in, UsesHeld, StandsOk, EntryOk}
use Rattle.lu_proof_lawful.proofs.Preconditions.Grown.{Grown}
use Rattle.lu_proof_lawful.proofs.Preconditions.Lists.{turn, turn_more}
use Rattle.lu_proof_lawful.proofs.Preconditions.Turns.{Settled, owes_nothing}
use Rattle.lu_proof_lawful.proofs.Preconditions.Calls.{had_all, mine_all}
use Rattle.lu_proof_lawful.proofs.Preconditions.CallStands.{Works, Waiting, Forgetting, Looking, Resting, Idle, Calm, idle_still}
use Rattle.lu_proof_lawful.proofs.Preconditions.CallStands.{still_calm}
use Rattle.lu_proof_lawful.proofs.Preconditions.ClientHandles.{count_more}
use Rattle.lu_proof_lawful.proofs.Preconditions.ClientGood.{Good, Rested, Calmed, the_head, adds, call_line}
use Rattle.lu_proof_lawful.proofs.Preconditions.ClientCalls.{idle_more}
use Rattle.lu_proof_lawful.proofs.Preconditions.AskedCalls.{works_as}

-- ---- what a call wants is on object storage targets

abbrev pub OnStage : Option Running → Type 0
OnStage None = Unit {0}
OnStage (Some r) = IsOnObjects r.stage

on_asks : (served : Option ℕ) (slot : ℕ) (a : Asking) (x : Option Running) → OnStage x → OnStage (asks_for served slot a x)
on_asks None slot a x h = h
on_asks (Some s) slot a x h = cond_both (nat_eq s slot) (asks a x) x OnStage (λ t. by x h) (λ t. h)
  where
    by : (x : Option Running) → OnStage x → OnStage (asks a x)
    by None h = tt
    by (Some r) h = h

on_begun : (c : ℕ) (past : List Line) (r : Running) → Begins c past r → IsOnObjects r.stage
on_begun c past r (inl b) = subst IsOnObjects (sym b.1) tt
on_begun c past r (inr b) = subst IsOnObjects (sym b.1) tt

on_after : (past : List Line) (at : At) (c slot : ℕ) (e : Entry) → EntryOk past at at.node e → IsCovered e → is_client c at.node ≡ true
    → OnStage (call_at c slot past) → OnStage (call_after slot (call_at c slot past) e)
on_after past at c slot (Begin s r) ok covered own h = cond_both (nat_eq s slot) (Some r) (call_at c slot past) OnStage
    (λ t. by at.node ok own) (λ t. h)
  where
    by : (node : Node) → EntryOk past at node (Begin s r) → is_client c node ≡ true → IsOnObjects r.stage
    by (Client d) ok own = on_begun d past r ok.begins
    by (Target t) ok own = absurd (cc)
on_after past at c slot (Stands s r) ok covered own h = cond_both (nat_eq s slot) (Some r) (call_at c slot past) OnStage (λ t. covered)
    (λ t. h)
on_after past at c slot (Queues t q) ok covered own h = on_asks q.slot slot Asked (call_at c slot past) h
on_after past at c slot (Heard t f r) ok covered own h = on_asks f.slot slot (Answered t r) (call_at c slot past) h
on_after past at c slot (Told s turn a work) ok covered own h =
    cond_both (nat_eq s slot) None (call_at c slot past) OnStage (λ t. tt) (λ t. h)
on_after past at c slot e ok covered own h = h

pub stage_on : (head : Head) (c slot : ℕ) (past : List Line) → Grown head past → AllCovered past → OnStage (call_at c slot past)
stage_on head c slot [] g covered = tt
stage_on head c slot (l ∷ past) g covered = by (reads_call l.entry) (is_client c l.at.node) refl (stage_on head c slot past g.1 covered.1)
  where
    by : (reads own : Bool) → is_client c l.at.node ≡ own → OnStage (call_at c slot past)
        → OnStage (on reads own (call_after slot (call_at c slot past) l.entry) (call_at c slot past))
    by false own e old = old
    by true false e old = old
    by true true e old = on_after past l.at c slot l.entry g.0.ok covered.0 e old

-- ---- the work of a call is as it was

pub works_at : (r : Running) (s : Stage) (w : Work) → (s ≡ Bad → ⊥) → Works r w → Works (at_stage r s) w
works_at r s w good x = works_as r (at_stage r s) w refl refl good refl x

pub forgetting_of : (who : Who) (r : Running) (w : Waiting who r) → Forgetting (at_stage r (Forgotten w.work))
forgetting_of who r w =
    record {
      work = w.work;
      stage = refl;
      still = w.still;
      wanting = record {
        works = works_at r (Forgotten w.work) w.work (λ e. cc) w.wanting.works;
        wanted = w.wanting.wanted;
        left =
            w.wanting.left;
        first = w.wanting.first;
      };
    }

pub looking_of : (r : Running) (f : Forgetting r) → Looking (at_stage r (Looks f.work))
looking_of r f =
    record {
      work = f.work;
      stage = refl;
      still = f.still;
      works = works_at r (Looks f.work) f.work (λ e. cc) f.wanting.works;
      some =
          λ z. (f.wanting.wanted, f.wanting.left, f.wanting.first);
    }

-- ---- which call it is, by where it stands

pub waits_only : (who : Who) (patches : List (Resource × Patch)) (r : Running) (w : Work) (target : TargetId) (l : Lock) (marked : Bool)
    → r.stage ≡ Waits w target l marked → Calm who patches (Some r) → Waiting who r
waits_only who patches r w target l marked e (inl (inl (inl x))) = let q : Plain ≡ Waits w target l marked = sym x.plain ∙ e in absurd (cc)
waits_only who patches r w target l marked e (inl (inl (inr (inl x)))) = let q : Sizes x.sizing.work ≡ Waits w target l marked =
    sym x.sizing.stage ∙ e in absurd (cc)
waits_only who patches r w target l marked e (inl (inl (inr (inr (inl x))))) = let q : Enqueued x.work ≡ Waits w target l marked =
    sym x.stage ∙ e in absurd (cc)
waits_only who patches r w target l marked e (inl (inl (inr (inr (inr (inl x)))))) = x
waits_only who patches r w target l marked e (inl (inl (inr (inr (inr (inr (inl x))))))) = let q : Forgotten x.work
    ≡ Waits w target l marked = sym x.stage ∙ e in absurd (cc)
waits_only who patches r w target l marked e (inl (inl (inr (inr (inr (inr (inr x))))))) = let q : Gets x.work ≡ Waits w target l marked =
    sym x.stage ∙ e in absurd (cc)
waits_only who patches r w target l marked e (inl (inr x)) = let q : Flushing x.stripe ≡ Waits w target l marked = sym x.stage ∙ e
    in absurd (cc)
waits_only who patches r w target l marked e (inr (inl x)) = let q : Plain ≡ Waits w target l marked = sym x.plain ∙ e in absurd (cc)
waits_only who patches r w target l marked e (inr (inr x)) = let q : Looks x.work ≡ Waits w target l marked = sym x.stage ∙ e in absurd (cc)

forgot_only : (who : Who) (patches : List (Resource × Patch)) (r : Running) (w : Work) → r.stage ≡ Forgotten w → Calm who patches (Some r)
    → Forgetting r
forgot_only who patches r w e (inl (inl (inl x))) = let q : Plain ≡ Forgotten w = sym x.plain ∙ e in absurd (cc)
forgot_only who patches r w e (inl (inl (inr (inl x)))) = let q : Sizes x.sizing.work ≡ Forgotten w = sym x.sizing.stage ∙ e in absurd (cc)
forgot_only who patches r w e (inl (inl (inr (inr (inl x))))) = let q : Enqueued x.work ≡ Forgotten w = sym x.stage ∙ e in absurd (cc)
forgot_only who patches r w e (inl (inl (inr (inr (inr (inl x)))))) = let q : Waits x.work x.target x.lock x.marked ≡ Forgotten w =
    sym x.stage ∙ e in absurd (cc)
forgot_only who patches r w e (inl (inl (inr (inr (inr (inr (inl x))))))) = x
forgot_only who patches r w e (inl (inl (inr (inr (inr (inr (inr x))))))) = let q : Gets x.work ≡ Forgotten w = sym x.stage ∙ e
    in absurd (cc)
forgot_only who patches r w e (inl (inr x)) = let q : Flushing x.stripe ≡ Forgotten w = sym x.stage ∙ e in absurd (cc)
forgot_only who patches r w e (inr (inl x)) = let q : Plain ≡ Forgotten w = sym x.plain ∙ e in absurd (cc)
forgot_only who patches r w e (inr (inr x)) = let q : Looks x.work ≡ Forgotten w = sym x.stage ∙ e in absurd (cc)

work_waits : (w v : Work) (a b : TargetId) (k l : Lock) (m n : Bool) → Waits w a k m ≡ Waits v b l n → w ≡ v
work_waits w v a b k l m n e = cc

work_forgot : (w v : Work) → Forgotten w ≡ Forgotten v → w ≡ v
work_forgot w v e = cc

-- ---- lines that say where calls stand leave all else that a client knows of targets

module _ (head : table.Head) (c : ℕ) (stamp : Stamp) where
  abbrev at : At
  at = turn stamp (Client c)

  pub record Beside (before p : List Line) : Type 0 where
    pub life : life_at c p ≡ life_at c before
    pub known : (t : ℕ) → known_at c t p ≡ known_at c t before
    pub standing : (t : ℕ) → standing_at c t p ≡ standing_at c t before
    pub flights : (t : ℕ) → flights_at c t p ≡ flights_at c t before
    pub kept : (t : ℕ) → kept_at c t p ≡ kept_at c t before
    pub held : held_at c p ≡ held_at c before
    pub took : (from : Node) (m : Message) → Took p at from m → Took before at from m
    pub still_took : (from : Node) (m : Message) → Took before at from m → Took p at from m

  pub beside_start : (p : List Line) → Beside p p
  beside_start p = record {
    life = refl;
    known = λ t. refl;
    standing = λ t. refl;
    flights = λ t. refl;
    kept = λ t. refl;
    held = refl;
    took =
        λ from m k. k;
    still_took = λ from m k. k;
  }

  beside_stands : (slot : ℕ) (r : Running) (before p : List Line) → Beside before p → Beside before (line at (Stands slot r) ∷ p)
  beside_stands slot r before p b = record {
    life = b.life;
    known = b.known;
    standing = b.standing;
    flights = b.flights;
    kept = b.kept;
    held = b.held;
    took = b.took;
    still_took = b.still_took;
  }

  -- ---- a call stands elsewhere

  stands_line : (p : List Line) (slot : ℕ) (r : Running) (s : ℕ) → call_at c s (line at (Stands slot r) ∷ p)
      ≡ (if nat_eq slot s then Some r else call_at c s p)
  stands_line p slot r s = call_line head c stamp s p (Stands slot r)

  -- all were idle, and it is
  pub stand_rested : (p : List Line) (slot : ℕ) (r : Running) (stage : Stage) → Rested head c at p → call_at c slot p ≡ Some r
      → StandsOk p at c slot (at_stage r stage) → IsOnObjects stage → Settled (line at (Stands slot (at_stage r stage)) ∷ p)
      → Resting (life_at c p) (patches_at c p) (at_stage r stage) → Rested head c at (line at (Stands slot (at_stage r stage)) ∷ p)
  stand_rested p slot r stage h call ok covered settled rests =
      record {
        good = adds head c stamp p e h.good (owes_nothing p at e h.settled) ok (λ t q. tt) covered refl;
        settled = settled;
        idle = λ s. idle s (nat_eq slot s) refl;
        handles = h.handles;
      }
    where
      now : Running
      now = at_stage r stage

      e : Entry
      e = Stands slot now

      q : List Line
      q = line at e ∷ p

      on_q : (n s : ℕ) → is_on n (call_at c s p) ≡ true → is_on n (call_at c s q) ≡ true
      on_q n s t = by (nat_eq slot s) refl
        where
          by : (b : Bool) → nat_eq slot s ≡ b → is_on n (call_at c s q) ≡ true
          by false x = ap (is_on n) (stands_line p slot now s ∙ ap (λ (b : Bool). if b then Some now else call_at c s p) x) ∙ t
          by true x =
              ap (is_on n) (stands_line p slot now s ∙ ap (λ (b : Bool). if b then Some now else call_at c s p) x)
              ∙ sym (ap (is_on n) (ap (λ (u : ℕ). call_at c u p) (sym (eqb-true slot s x)) ∙ call)) ∙ t

      idle : (s : ℕ) (b : Bool) → nat_eq slot s ≡ b → Idle (life_at c q) (patches_at c q) (calls_at c q) (call_at c s q)
      idle s true x = subst (Idle (life_at c q) (patches_at c q) (calls_at c q))
          (sym (stands_line p slot now s ∙ ap (λ (b : Bool). if b then Some now else call_at c s p) x)) (inl rests)
      idle s false x =
          subst (Idle (life_at c q) (patches_at c q) (calls_at c q))
          (sym (stands_line p slot now s ∙ ap (λ (b : Bool). if b then Some now else call_at c s p) x))
          (idle_more (life_at c p) (patches_at c p) (calls_at c p) (calls_at c q) (λ n. count_more c n p q (on_q n)) (call_at c s p)
          (h.idle s))

  -- all were calm, and it is
  stand_calm : (p : List Line) (slot : ℕ) (r : Running) (stage : Stage) → Calmed head c at p → call_at c slot p ≡ Some r
      → StandsOk p at c slot (at_stage r stage) → IsOnObjects stage → Settled (line at (Stands slot (at_stage r stage)) ∷ p)
      → Calm (life_at c p) (patches_at c p) (Some (at_stage r stage)) → Calmed head c at (line at (Stands slot (at_stage r stage)) ∷ p)
  stand_calm p slot r stage h call ok covered settled calm =
      record {
        good = adds head c stamp p e h.good (owes_nothing p at e h.settled) ok (λ t q. tt) covered refl;
        settled = settled;
        calm = λ s. by s (nat_eq slot s) refl;
        handles = h.handles;
      }
    where
      now : Running
      now = at_stage r stage

      e : Entry
      e = Stands slot now

      q : List Line
      q = line at e ∷ p

      by : (s : ℕ) (b : Bool) → nat_eq slot s ≡ b → Calm (life_at c q) (patches_at c q) (call_at c s q)
      by s true x = subst (Calm (life_at c q) (patches_at c q))
          (sym (stands_line p slot now s ∙ ap (λ (b : Bool). if b then Some now else call_at c s p) x)) calm
      by s false x = subst (Calm (life_at c q) (patches_at c q))
          (sym (stands_line p slot now s ∙ ap (λ (b : Bool). if b then Some now else call_at c s p) x)) (h.calm s)

  pub rested_calm : (p : List Line) → Rested head c at p → Calmed head c at p
  rested_calm p h =
      record {
        good = h.good;
        settled = h.settled;
        calm = λ s. still_calm (life_at c p) (patches_at c p) (call_at c s p)
            (idle_still (life_at c p) (patches_at c p) (calls_at c p) (call_at c s p) (h.idle s));
        handles = h.handles;
      }

  -- ---- what it has in use it had before

  pub had_before : (p : List Line) (slot : ℕ) (r : Running) (stage : Stage) → Good head c at p → call_at c slot p ≡ Some r → used_in stage
      ≡ used_in r.stage → HadUsed c slot p stage
  had_before p slot r stage g call same u i = had_all (the_head head c stamp) p g.grown c slot r call u
      (subst (λ (us : List Using). In u us) same i)

  pub uses_before : (p : List Line) (r : Running) (stage : Stage) → used_in stage ≡ used_in r.stage → UsesHeld c p r (used_in stage)
  uses_before p r stage same u i = inl (subst (λ (us : List Using). In u us) same i)

  pub mine_before : (p : List Line) (slot : ℕ) (r : Running) (stage : Stage) → Good head c at p → call_at c slot p ≡ Some r → used_in stage
      ≡ used_in r.stage → (u : Using) → In u (used_in stage) → In (name_under u.want u.lock) r.pins
  mine_before p slot r stage g call same u i = mine_all (the_head head c stamp) p g.grown c slot r call u
      (subst (λ (us : List Using). In u us) same i)

  -- what it wants is on object storage targets
  pub wants_on : (p : List Line) (slot : ℕ) (r : Running) → Good head c at p → call_at c slot p ≡ Some r → IsOnObjects r.stage
  wants_on p slot r g call = subst OnStage call (stage_on (the_head head c stamp) c slot p g.grown g.covered)

  -- the calls of these slots, from this one on, are as they were
  abbrev Calls : List Line → ℕ → List (Option Running) → Type 0
  Calls p n calls = (s : ℕ) → s < length calls → call_at c (n + s) p ≡ call_on s calls

  calls_next : (p : List Line) (n : ℕ) (x : Option Running) (calls : List (Option Running)) → Calls p n (x ∷ calls) → Calls p (n + 1) calls
  calls_next p n x calls h s lt = ap (λ (u : ℕ). call_at c u p) (let e : n + 1 + s ≡ n + suc s = omega arith in e)
      ∙ h (suc s) (omega (arith, lt))

  calls_moved : (p : List Line) (n : ℕ) (r : Running) (calls : List (Option Running)) → Calls p (n + 1) calls
      → Calls (line at (Stands n r) ∷ p) (n + 1) calls
  calls_moved p n r calls h s lt =
      stands_line p n r (n + 1 + s) ∙ ap (λ (b : Bool). if b then Some r else call_at c (n + 1 + s) p)
      (let other : nat_eq n (n + 1 + s) ≡ false = grind (arith, nat_tests) in other) ∙ h s lt

  here_is : (p : List Line) (n : ℕ) (x : Option Running) (calls : List (Option Running)) → Calls p n (x ∷ calls) → call_at c n p ≡ x
  here_is p n x calls h = ap (λ (u : ℕ). call_at c u p) (let e : n ≡ n + 0 = omega arith in e) ∙ h 0 (omega arith)

  pub all_calls : (p : List Line) → Calls p 0 (calls_at c p)
  all_calls p zero lt = refl
  all_calls p (suc zero) lt = refl
  all_calls p (suc (suc zero)) lt = refl
  all_calls p (suc (suc (suc zero))) lt = refl
  all_calls p (suc (suc (suc (suc s)))) lt = absurd (omega (arith, lt))

  -- ---- the target was booted again

  module _ (t boot : ℕ) where
    abbrev Up : Message
    Up = message.Up boot

    record Forgets (before p : List Line) : Type 0 where
      rested : Rested head c at p
      beside : Beside before p

    forget_one : (slot : ℕ) (r : Running) (w : Work) (target : TargetId) (l : Lock) (marked : Bool) (before p : List Line)
        → Forgets before p → Took p at (Target t) Up → slot < 4 → call_at c slot p ≡ Some r → r.stage ≡ Waits w target l marked → target.0
        ≡ t
        → Forgets before (line at (Stands slot (at_stage r (Forgotten w))) ∷ p)
    forget_one slot r w target l marked before p f took small call stage there =
        record {
          rested = stand_rested p slot r (Forgotten w) f.rested call (record {
            running = r;
            call = call;
            small = small;
            still = x.still;
            stage = Forgotten w;
            pins = r.pins;
            is = refl;
            how = inr (inr (inr (inr (inr (
              refl,
              inr (inr (inr (inl
                  (record {
                    work = w;
                    target = target;
                    lock = l;
                    marked = marked;
                    before = stage;
                    took =
                        (boot, subst (λ (u : ℕ). Took p at (Target u) Up) (sym there) took);
                    is = refl;
                  })))),
            )))));
            had = had_before p slot r (Forgotten w) g call same;
            uses = uses_before p r (Forgotten w) same;
            mine = mine_before p slot r (Forgotten w) g call same;
          }) (subst IsOnObjects stage (wants_on p slot r g call)).1 tt (inl (inr (inr (inr (inr (inl forgotten))))));
          beside = beside_stands slot (at_stage r (Forgotten w)) before p f.beside;
        }
      where
        g : Good head c at p
        g = f.rested.good

        x : Waiting (life_at c p) r
        x = waits_only (life_at c p) (patches_at c p) r w target l marked stage
            (subst (Calm (life_at c p) (patches_at c p)) call ((rested_calm p f.rested).calm slot))

        same : used_in (Forgotten w) ≡ used_in r.stage
        same = ap used_in (sym stage)

        of_work : x.work ≡ w
        of_work = work_waits x.work w x.target target x.lock l x.marked marked (sym x.stage ∙ stage)

        forgotten : Forgetting (at_stage r (Forgotten w))
        forgotten = subst (λ (v : Work). Forgetting (at_stage r (Forgotten v))) of_work (forgetting_of (life_at c p) r x)

    forgets_from : (calls : List (Option Running)) (n : ℕ) (before p : List Line) → Forgets before p → Took p at (Target t) Up
        → n + length calls ≤ 4 → Calls p n calls → Forgets before (with_turn at (on_calls (forgets_stage t) n calls) p)
    forgets_from [] n before p f took small h = f
    forgets_from (x ∷ calls) n before p f took small h =
        subst (Forgets before) (sym (turn_more at (on_call (forgets_stage t) n x) (on_calls (forgets_stage t) (n + 1) calls) p))
        (by x (here_is p n x calls h) (forgets_from calls (n + 1) before p f took (omega (arith, small)) (calls_next p n x calls h))
        (λ r q o. forgets_from calls (n + 1) before (line at (Stands n r) ∷ p) q o (omega (arith, small))
        (calls_moved p n r calls (calls_next p n x calls h))))
      where
        rest : List Entry
        rest = on_calls (forgets_stage t) (n + 1) calls

        by : (x : Option Running) → call_at c n p ≡ x → Forgets before (with_turn at rest p)
            → ((r : Running) → Forgets before (line at (Stands n r) ∷ p) → Took (line at (Stands n r) ∷ p) at (Target t) Up
            → Forgets before (with_turn at rest (line at (Stands n r) ∷ p)))
            → Forgets before (with_turn at rest (with_turn at (on_call (forgets_stage t) n x) p))
        by None e stays moves = stays
        by (Some r) e stays moves = of (r.stage) refl
          where
            of : (s : Stage) → r.stage ≡ s → Forgets before (with_turn at rest (with_turn at (forgets_stage t n r s) p))
            of (Waits w target l marked) q =
                cond_both (nat_eq target.0 t) (Stands n (at_stage r (Forgotten w)) ∷ []) []
                (λ (es : List Entry). Forgets before (with_turn at rest (with_turn at es p)))
                (λ there. moves (at_stage r (Forgotten w)) (forget_one n r w target l marked before p f took (omega (arith, small)) e q
                (eqb-true target.0 t there)) took)
                (λ there. stays)
            of s q = stays

    -- each call that waits there is forgotten
    pub forgets_all : (p : List Line) → Rested head c at p → Took p at (Target t) Up
        → Rested head c at (with_turn at (on_calls (forgets_stage t) 0 (calls_at c p)) p)
        × Beside p (with_turn at (on_calls (forgets_stage t) 0 (calls_at c p)) p)
    forgets_all p h took =
        let f = forgets_from (calls_at c p) 0 p p (record { rested = h; beside = beside_start p }) took (omega arith) (all_calls p)
        in (f.rested, f.beside)

  -- ---- the target serves the life

  module _ (t : ℕ) (who : Who) (boot committed : ℕ) where
    abbrev Ready : Message
    Ready = message.Ready who boot (record { 0 = committed })

    look_one : (slot : ℕ) (r : Running) (w : Work) (p : List Line) → Calmed head c at p → Took p at (Target t) Ready → slot < 4
        → call_at c slot p ≡ Some r → r.stage ≡ Forgotten w → is_left_at t w.left ≡ true
        → Calmed head c at (line at (Stands slot (at_stage r (Looks w))) ∷ p)
    look_one slot r w p h took small call stage there =
        stand_calm p slot r (Looks w) h call (record {
          running = r;
          call = call;
          small = small;
          still = x.still;
          stage = Looks w;
          pins = r.pins;
          is = refl;
          how = inr (inr (inr (inr (inr (
            refl,
            inr (inr (inr (inr
                (record { work = w; is = refl; from = inl (stage, (t, who, boot, committed, took, there)) })))),
          )))));
          had = had_before p slot r (Looks w) h.good call same;
          uses = uses_before p r (Looks w) same;
          mine = mine_before p slot r (Looks w) h.good call same;
        }) (subst IsOnObjects stage (wants_on p slot r h.good call)) tt (inr (inr looks))
      where
        x : Forgetting r
        x = forgot_only (life_at c p) (patches_at c p) r w stage (subst (Calm (life_at c p) (patches_at c p)) call (h.calm slot))

        same : used_in (Looks w) ≡ used_in r.stage
        same = ap used_in (sym stage)

        looks : Looking (at_stage r (Looks w))
        looks = subst (λ (v : Work). Looking (at_stage r (Looks v))) (work_forgot x.work w (sym x.stage ∙ stage)) (looking_of r x)

    looks_from : (calls : List (Option Running)) (n : ℕ) (p : List Line) → Calmed head c at p → Took p at (Target t) Ready
        → n + length calls ≤ 4 → Calls p n calls → Calmed head c at (with_turn at (on_calls (looks_stage t) n calls) p)
    looks_from [] n p h took small k = h
    looks_from (x ∷ calls) n p h took small k =
        subst (Calmed head c at) (sym (turn_more at (on_call (looks_stage t) n x) (on_calls (looks_stage t) (n + 1) calls) p))
        (by x (here_is p n x calls k) (looks_from calls (n + 1) p h took (omega (arith, small)) (calls_next p n x calls k))
        (λ r q o. looks_from calls (n + 1) (line at (Stands n r) ∷ p) q o (omega (arith, small))
        (calls_moved p n r calls (calls_next p n x calls k))))
      where
        rest : List Entry
        rest = on_calls (looks_stage t) (n + 1) calls

        by : (x : Option Running) → call_at c n p ≡ x → Calmed head c at (with_turn at rest p)
            → ((r : Running) → Calmed head c at (line at (Stands n r) ∷ p) → Took (line at (Stands n r) ∷ p) at (Target t) Ready
            → Calmed head c at (with_turn at rest (line at (Stands n r) ∷ p)))
            → Calmed head c at (with_turn at rest (with_turn at (on_call (looks_stage t) n x) p))
        by None e stays moves = stays
        by (Some r) e stays moves = of (r.stage) refl
          where
            of : (s : Stage) → r.stage ≡ s → Calmed head c at (with_turn at rest (with_turn at (looks_stage t n r s) p))
            of (Forgotten w) q =
                cond_both (is_left_at t w.left) (Stands n (at_stage r (Looks w)) ∷ []) []
                (λ (es : List Entry). Calmed head c at (with_turn at rest (with_turn at es p)))
                (λ there. moves (at_stage r (Looks w)) (look_one n r w p h took (omega (arith, small)) e q there) took)
                (λ there. stays)
            of s q = stays

    -- each call that was forgotten there looks anew
    pub looks_all : (p : List Line) → Rested head c at p → Took p at (Target t) Ready → (calls : List (Option Running)) → calls
        ≡ calls_at c p → Calmed head c at (with_turn at (on_calls (looks_stage t) 0 calls) p)
    looks_all p h took calls is =
        subst (λ (xs : List (Option Running)). Calmed head c at (with_turn at (on_calls (looks_stage t) 0 xs) p)) (sym is)
        (looks_from (calls_at c p) 0 p (rested_calm p h) took (omega arith) (all_calls p))
