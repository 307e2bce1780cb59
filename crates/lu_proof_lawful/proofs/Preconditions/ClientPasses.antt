-- Passes over the slots of a client. A call that waits doesn't move, but a flush that waits looks again in each pass; one that looks for
-- its locks
-- goes as far as it can, and a close is free once the calls that it waited for are told, and asks in that turn. A call that began or was
-- answered in the turn moves in its place: before it no other line comes than those of flushes that wait. Each line is allowed.
use Rattle.lu_proof_lawful.proofs.Preconditions.Guards.{In, IsAlone}
use Rattle.lu_proof_lawful.proofs.Preconditions.CallStands.{Works, Still, Closing, Idle, IdleAt, AllIdle, Movable, idle_moves, calm_moves}
use Rattle.lu_proof_lawful.proofs.Preconditions.CallStands.{still_moves, still_lasts}
use Rattle.lu_spec_entries.specs.Carried.{HandleFile, Asked, Running, Unasked, Stage, Bad, Flushing}
use Rattle.std.proofs.Common.{◌≡◌, ℕ, zero, suc, ◌+◌, ◌<◌, ◌≤◌, Bool, true, false, List, ◌⊎◌, inl, inr, Option, Some, None, refl, sym}
use Rattle.std.proofs.Common.{subst, ap, ◌∙◌, arith, [], ◌∷◌, ◌++◌, ⊎_elim}
use Rattle.std.specs.Prelude.{nat_eq, if◌then◌else◌, nat_lt, drop}
use Rattle.std.proofs.lemmas.Bool.{eqb-true}
use Rattle.lu_base.specs.declared.ids.At.{At}
use Rattle.lu_base.specs.declared.ids.Node.TheVariants.{Client}
use Rattle.lu_base.specs.declared.ids.Stamp.{Stamp}
use Rattle.lu_base.specs.declared.ids.Who.{Who}
use Rattle.lu_msg.specs.declared.calls.Call.{Call}
use Rattle.lu_msg.specs.declared.calls.Call.TheVariants as call
use Rattle.lu_spec_entries.specs.Words.{Line, Entry, Queues, line, with_turn}
use Rattle.lu_spec_client.specs.Caches.{patches_at}
use Rattle.lu_spec_client.specs.Calls.{calls_at}
use Rattle.lu_spec_client.specs.Slots.{is_close, is_free_close, goes_at, goes, goes_on, passes, all_slots, slots_go}
use Rattle.lu_spec_client.specs.Starts.{is_on, count_on, looks_at}
use Rattle.lu_proof_lawful.specs.Covered.Calls.{call_at, life_at, operation_of, becomes}
use Rattle.lu_spec_run.specs.Heads as table
use Rattle.lu_proof_lawful.proofs.Preconditions.Lists.{self, turn}
use Rattle.lu_proof_lawful.proofs.Preconditions.Turns.{Settled, owes_nothing}
use Rattle.lu_proof_lawful.proofs.Preconditions.ClientHandles.{Tied}
use Rattle.lu_proof_lawful.proofs.Preconditions.ClientGood.{Good, Rested, Calmed, the_head, adds, call_line, Keeps, followed}
use Rattle.lu_proof_lawful.proofs.Preconditions.CallMoves.{Left, Kept, kept_start, RestsAs, Went, apart, kept_asks, Ready}
use Rattle.lu_proof_lawful.proofs.Preconditions.ClientCalls.{IsNoClose, is_closing, on_small, asked_not, closes_so, one_not, closing_is}
use Rattle.lu_proof_lawful.proofs.Preconditions.ClientCalls.{free_closing, any_on, still_idle, AllSmall}
use Rattle.std.specs.List.{list_any}
use Rattle.lu_msg.specs.declared.operations.Op.{Op}
use Rattle.lu_msg.specs.declared.operations.Op.TheVariants as op
use Rattle.lu_spec_client.specs.Advances.{queued_for}
use Rattle.lu_spec_client.specs.States.{Client as ClientState, store_at, turn as turn_of}
use Rattle.lu_spec_client.specs.Stripes.{stripes}
use Rattle.lu_spec_client.specs.WriteBack.{flush_from, flushing}
use Rattle.lu_proof_lawful.specs.Covered.Runs.{AllCovered}
use Rattle.lu_proof_lawful.specs.Covered.Known.{notes_at, known_answer, known_file}
use Rattle.lu_spec_run.specs.Runs.{limits_of, client_of}
use Rattle.lu_proof_run.proofs.Clients.{client_own}
use Rattle.lu_proof_lawful.proofs.Preconditions.Covers.{EntriesCovered, covered_turn, covered_left, covered_right}
use Rattle.lu_proof_lawful.proofs.Preconditions.ClientLines.{SmallOn, small_on}
use Rattle.lu_proof_lawful.proofs.Preconditions.ClientWorks.{bytes_anew}
use Rattle.lu_proof_lawful.proofs.Preconditions.ClientFlushes.{flush_good}
use Rattle.lu_proof_lawful.proofs.Preconditions.ClientSizes.{glimpse_anew}
use Rattle.lu_proof_lawful.proofs.Preconditions.Closings.{no_close, asked_closing, bytes_close, not_true, closings, closings_most}
use Rattle.lu_proof_lawful.proofs.Preconditions.Closings.{closings_less, closings_fewer, closings_some, free_still}

module _ (head : table.Head) (c : ℕ) (stamp : Stamp) where
  abbrev pub at : At
  at = turn stamp (Client c)

  -- ---- one slot is visited

  -- the lines of that slot leave the calls of others, and its own at rest, or a close that may be free; one that was free has asked
  pub record Leaves (slot : ℕ) (p q : List Line) : Type 0 where
    pub kept : Kept head c stamp slot p q
    pub own : Still (life_at c q) (patches_at c q) (call_at c slot q)
    pub on : (n : ℕ) → is_on n (call_at c slot q) ≡ true → is_on n (call_at c slot p) ≡ true
    pub closes : is_closing (call_at c slot q) ≡ true → is_closing (call_at c slot p) ≡ true
    pub free : is_free_close (calls_at c p) (call_at c slot p) ≡ true → is_closing (call_at c slot q) ≡ false

  pub record Visited (slot : ℕ) (p q : List Line) : Type 0 where
    pub good : Good head c at q
    pub settled : Settled q
    pub handles : Tied c q
    pub leaves : Leaves slot p q

  -- one that makes no line
  pub leaves_none : (slot : ℕ) (p : List Line) (x : Option Running) → call_at c slot p ≡ x → Still (life_at c p) (patches_at c p) x
      → is_free_close (calls_at c p) x ≡ false → Leaves slot p p
  leaves_none slot p x e still none =
      record {
        kept = kept_start head c stamp slot p;
        own = subst (Still (life_at c p) (patches_at c p)) (sym e) still;
        on = λ n q. q;
        closes = λ q. q;
        free = λ q. absurd (let w : true ≡ false = sym q ∙ ap (is_free_close (calls_at c p)) e ∙ none in cc);
      }

  -- a call that is no close, once it moved
  pub leaves_went : (slot : ℕ) (r : Running) (p q : List Line) → call_at c slot p ≡ Some r → IsNoClose r.call → Went head c stamp slot r p q
      → Leaves slot p q
  leaves_went slot r p q e other w =
      record {
        kept = w.kept;
        own = own w.own;
        on = λ n. on n w.own;
        closes = λ k. absurd (let f = closed w.own in let x : true ≡ false = sym k ∙ f in cc);
        free = λ k. closed w.own;
      }
    where
      own : (call_at c slot q ≡ None) ⊎ RestsAs head c stamp slot r q → Still (life_at c q) (patches_at c q) (call_at c slot q)
      own (inl none) = subst (Still (life_at c q) (patches_at c q)) (sym none) tt
      own (inr k) = subst (Still (life_at c q) (patches_at c q)) (sym k.call) (inl k.rests)

      on : (n : ℕ) → (call_at c slot q ≡ None) ⊎ RestsAs head c stamp slot r q → is_on n (call_at c slot q) ≡ true
          → is_on n (call_at c slot p) ≡ true
      on n (inl none) k = absurd (let x : true ≡ false = sym k ∙ ap (is_on n) none in cc)
      on n (inr s) k = ap (is_on n) e ∙ ap (λ (f : Option HandleFile). elim f [ None ↦ false | Some h ↦ nat_eq h.number.0 n ]) (sym s.file)
          ∙ ap (is_on n) (sym s.call) ∙ k

      closed : (call_at c slot q ≡ None) ⊎ RestsAs head c stamp slot r q → is_closing (call_at c slot q) ≡ false
      closed (inl none) = ap is_closing none
      closed (inr s) = ap is_closing s.call ∙ no_close s.now.call s.now.asking (subst IsNoClose (sym s.same) other)

  -- or any call, once it was told
  pub visited_left : (slot : ℕ) (p q : List Line) → Left head c stamp slot p q → Visited slot p q
  visited_left slot p q l =
      record {
        good = l.good;
        settled = l.settled;
        handles = l.handles;
        leaves = record {
          kept = l.kept;
          own = subst (Still (life_at c q) (patches_at c q)) (sym l.none) tt;
          on = λ n k. absurd (let x : true ≡ false = sym k ∙ ap (is_on n) l.none in cc);
          closes = λ k. absurd (let x : true ≡ false = sym k ∙ ap is_closing l.none in cc);
          free = λ k. ap is_closing l.none;
        };
      }

  pub visited_went : (slot : ℕ) (r : Running) (p q : List Line) → call_at c slot p ≡ Some r → IsNoClose r.call
      → Went head c stamp slot r p q → Visited slot p q
  visited_went slot r p q e other w = record {
    good = w.good;
    settled = w.settled;
    handles = w.handles;
    leaves =
        leaves_went slot r p q e other w;
  }

  -- ---- a call that may move

  pub record Moving (p : List Line) : Type 0 where
    pub good : Good head c at p
    pub settled : Settled p
    pub moves : (slot : ℕ) → Movable (life_at c p) (call_at c slot p)
    pub handles : Tied c p

  pub calmed_moves : (p : List Line) → Calmed head c at p → Moving p
  calmed_moves p m = record {
    good = m.good;
    settled = m.settled;
    moves =
        λ slot. calm_moves (life_at c p) (patches_at c p) (call_at c slot p) (m.calm slot);
    handles = m.handles;
  }

  pub rested_moves : (p : List Line) → Rested head c at p → Moving p
  rested_moves p r = record {
    good = r.good;
    settled = r.settled;
    moves =
        λ slot. idle_moves (life_at c p) (patches_at c p) (calls_at c p) (call_at c slot p) (r.idle slot);
    handles = r.handles;
  }

  pub queue_other : (slot t : ℕ) (o : Op) (p : List Line) (s : ℕ) → (s ≡ slot → ⊥)
      → call_at c s (line at (Queues t (queued_for slot o)) ∷ p) ≡ call_at c s p
  queue_other slot t o p s n = call_line head c stamp s p (Queues t (queued_for slot o)) ∙ rw (apart head c stamp slot s n) refl

  -- a free close asks
  closes : (slot : ℕ) (r : Running) (p : List Line) → Moving p → call_at c slot p ≡ Some r → (w : Closing r)
      → nat_lt 1 (count_on w.file.number.0 (calls_at c p)) ≡ false
      → Visited slot p (line at (Queues 0 (queued_for slot (op.Close w.file.number w.file.fid))) ∷ p)
  closes slot r p m is w alone =
      record {
        good =
            adds head c stamp p e m.good (owes_nothing p at e m.settled)
            (inl (record {
              slot = slot;
              serves = refl;
              running = r;
              call = is;
              asks = inl (record {
                good = w.plain;
                new = w.new;
                names = refl;
                becomes = becomes_it;
                unknown = ap (known_answer (notes_at c p)) w.closes;
                unknown_file = ap (known_file (notes_at c p)) w.closes;
                alone = subst (λ (x : Call). IsAlone p c x r.file) (sym w.closes)
                    (subst (λ (f : Option HandleFile). IsAlone p c (call.Close w.handle) f) (sym w.of_file) alone);
              });
            })) (λ t q. tt) tt refl;
        settled = tt;
        handles = m.handles;
        leaves = record {
          kept = kept_asks head c stamp slot 0 o p;
          own = subst (Still (life_at c p1) (patches_at c p1)) (sym asked)
              (inl (inl (inl (record { nothing = w.pins; asked = refl; plain = w.plain; names = (o, becomes_it) }))));
          on = λ n k. ap (is_on n) is ∙ ap (is_on n) (sym asked) ∙ k;
          closes = λ k. absurd (let x : true ≡ false = sym k ∙ closed in cc);
          free = λ k. closed;
        };
      }
    where
      o : Op
      o = op.Close w.file.number w.file.fid

      e : Entry
      e = Queues 0 (queued_for slot o)

      p1 : List Line
      p1 = line at e ∷ p

      becomes_it : becomes r ≡ Some o
      becomes_it = ap (λ (f : Option HandleFile). operation_of f r.call) w.of_file ∙ ap (operation_of (Some w.file)) w.closes

      asked : call_at c slot p1 ≡ Some (record r { asking = Asked })
      asked = call_line head c stamp slot p e ∙ rw (self slot, is) refl

      closed : is_closing (call_at c slot p1) ≡ false
      closed = ap is_closing asked ∙ ap (λ (x : Call). is_close x Asked) w.closes

  -- where it makes no line
  stays : (slot : ℕ) (p : List Line) → Moving p → (x : Option Running) → call_at c slot p ≡ x → Still (life_at c p) (patches_at c p) x
      → is_free_close (calls_at c p) x ≡ false → Visited slot p p
  stays slot p m x e still none = record {
    good = m.good;
    settled = m.settled;
    handles = m.handles;
    leaves =
        leaves_none slot p x e still none;
  }

  pub not_free : (all : List (Option Running)) (x : Option Running) → is_closing x ≡ false → is_free_close all x ≡ false
  not_free all x e = not_true (is_free_close all x) (λ k. let q : true ≡ false = sym (free_closing all x k) ∙ e in cc)

  pub went : (slot : ℕ) (p : List Line) → slot < 4 → Moving p → EntriesCovered (goes at slot (client_of head c p))
      → Visited slot p (with_turn at (goes at slot (client_of head c p)) p)
  went slot p small m = subst (λ (es : List Entry). EntriesCovered es → Visited slot p (with_turn at es p))
      (sym (ap (goes_on at slot k) (on_small c slot p small))) (by (call_at c slot p) refl (m.moves slot))
    where
      k : ClientState
      k = client_of head c p

      -- these are its lines
      goes_as : (r : Running) (es : List Entry) → goes_at at slot r.stage r k ≡ es
          → (EntriesCovered es → Visited slot p (with_turn at es p)) → EntriesCovered (goes_at at slot r.stage r k)
          → Visited slot p (with_turn at (goes_at at slot r.stage r k) p)
      goes_as r es so good = subst (λ (fs : List Entry). EntriesCovered fs → Visited slot p (with_turn at fs p)) (sym so) good

      by : (x : Option Running) → call_at c slot p ≡ x → Movable (life_at c p) x → EntriesCovered (goes_on at slot k x)
          → Visited slot p (with_turn at (goes_on at slot k x) p)
      by None is i covered = stays slot p m None is tt refl
      by (Some r) is (inl a) covered =
          goes_as r [] (asked_not at slot (life_at c p) r k a) (λ cov. stays slot p m (Some r) is (inl (inl a))
          (not_free (calls_at c p) (Some r) (asked_closing (life_at c p) r a))) covered
      by (Some r) is (inr (inl f)) covered =
          goes_as r (flush_from at slot r f.file (drop f.stripe (stripes f.file.layout)) (store_at c p))
          (ap (λ (s : Stage). goes_at at slot s r k) f.stage ∙ ap (λ (g : Option HandleFile). flushing at slot f.stripe r g (store_at c p))
          f.of_file)
          (λ cov.
          visited_went slot r p (with_turn at (flush_from at slot r f.file (drop f.stripe (stripes f.file.layout)) (store_at c p)) p) is
          (subst IsNoClose (sym f.flushes) tt)
          (flush_good head c stamp slot r f.file f.handle f.stripe p p
          (record {
            good = m.good;
            small = small;
            call = is;
            handles = m.handles;
            still = λ q. let e : Unasked ≡ Asked = sym f.new ∙ q
                in cc;
            kept = kept_start head c stamp slot p;
          }) m.settled
          f.flushes f.of_file (λ q. let e : Flushing f.stripe ≡ Bad = sym f.stage ∙ q in cc) f.new f.nothing (inr f.stage)
          (drop f.stripe (stripes f.file.layout)) [] refl (λ i j. absurd j) cov)) covered
      by (Some r) is (inr (inr (inl w))) covered =
          goes_as r (if nat_lt 1 (count_on w.file.number.0 (calls_at c p)) then []
          else Queues 0 (queued_for slot (op.Close w.file.number w.file.fid)) ∷ []) (closes_so at slot r k w)
          (λ cov. free (nat_lt 1 (count_on w.file.number.0 (calls_at c p))) refl) covered
        where
          more_not : (n : ℕ) → nat_lt 1 n ≡ true → nat_eq n 1 ≡ false
          more_not n e = one_not n e

          free : (b : Bool) → nat_lt 1 (count_on w.file.number.0 (calls_at c p)) ≡ b
              → Visited slot p (with_turn at (if b then [] else Queues 0 (queued_for slot (op.Close w.file.number w.file.fid)) ∷ []) p)
          free true q = stays slot p m (Some r) is (inr w) (closing_is (calls_at c p) r w
              ∙ more_not (count_on w.file.number.0 (calls_at c p)) q)
          free false q = closes slot r p m is w q
      by (Some r) is (inr (inr (inr l))) covered = works l.works
        where
          y : Ready head c stamp slot r p p
          y = record {
            good = m.good;
            small = small;
            call = is;
            handles = m.handles;
            still = l.still;
            kept =
                kept_start head c stamp slot p;
          }

          lines : List Entry
          lines = looks_at at slot l.work.kind r l.work (store_at c p)

          so : goes_at at slot r.stage r k ≡ lines
          so = ap (λ (s : Stage). goes_at at slot s r k) l.stage

          works : Works r l.work → Visited slot p (with_turn at (goes_at at slot r.stage r k) p)
          works (inl b) = goes_as r lines so (λ cov. visited_went slot r p (with_turn at lines p) is (bytes_close r l.work b)
              (bytes_anew head c stamp slot r p p y m.settled l b cov)) covered
          works (inr z) = goes_as r lines so (λ cov. visited_went slot r p (with_turn at lines p) is (subst IsNoClose (sym z.glimpses) tt)
              (glimpse_anew head c stamp slot r p p y m.settled l z cov)) covered

  -- then the others may move still
  pub visited_moves : (slot : ℕ) (p q : List Line) → ((s : ℕ) → (s ≡ slot → ⊥) → Movable (life_at c p) (call_at c s p)) → Visited slot p q
      → Moving q
  visited_moves slot p q others v =
      record { good = v.good; settled = v.settled; moves = moves; handles = v.handles }
    where
      moves : (s : ℕ) → Movable (life_at c q) (call_at c s q)
      moves s = by (nat_eq s slot) refl
        where
          by : (b : Bool) → nat_eq s slot ≡ b → Movable (life_at c q) (call_at c s q)
          by true e = subst (λ (u : ℕ). Movable (life_at c q) (call_at c u q)) (sym (eqb-true s slot e))
              (still_moves (life_at c q) (patches_at c q) (call_at c slot q) v.leaves.own)
          by false e =
              let n : s ≡ slot → ⊥ = λ k. let t : nat_eq s slot ≡ true = ap (λ (u : ℕ). nat_eq u slot) k ∙ self slot in absurd (cc) in
              subst (λ (who : Who). Movable who (call_at c s q)) (sym v.leaves.kept.life)
              (subst (Movable (life_at c p)) (sym (v.leaves.kept.same s n)) (others s n))

  -- ---- a pass

  pub record Passed (slots : List ℕ) (p q : List Line) : Type 0 where
    pub moving : Moving q
    pub on : (n s : ℕ) → is_on n (call_at c s q) ≡ true → is_on n (call_at c s p) ≡ true
    pub closes : (s : ℕ) → is_closing (call_at c s q) ≡ true → is_closing (call_at c s p) ≡ true
    pub still : (s : ℕ) → Still (life_at c p) (patches_at c p) (call_at c s p) → Still (life_at c q) (patches_at c q) (call_at c s q)
    pub here : (s : ℕ) → In s slots → Still (life_at c q) (patches_at c q) (call_at c s q)
    pub free : (s : ℕ) → In s slots → is_free_close (calls_at c p) (call_at c s p) ≡ true → is_closing (call_at c s q) ≡ false

  -- first one slot, then these
  pub passed_more : (slot : ℕ) (slots : List ℕ) (p p1 q : List Line) → AllSmall slots → Leaves slot p p1 → Passed slots p1 q
      → Passed (slot ∷ slots) p q
  passed_more slot slots p p1 q small one more =
      record {
        moving = more.moving;
        on = λ n s k. on n s (more.on n s k);
        closes = λ s k. closes s (more.closes s k);
        still = λ s k. more.still s (still s k);
        here = λ s i. ⊎_elim (λ (e : slot ≡ s). more.still s (subst (λ (u : ℕ). Still (life_at c p1) (patches_at c p1) (call_at c u p1)) e
            one.own)) (λ (j : In s slots). more.here s j) i;
        free = λ s i k. by_slot s (nat_eq s slot) refl i k;
      }
    where
      apart_from : (s : ℕ) → nat_eq s slot ≡ false → s ≡ slot → ⊥
      apart_from s e k = let t : nat_eq s slot ≡ true = ap (λ (u : ℕ). nat_eq u slot) k ∙ self slot in absurd (cc)

      pick : (s : ℕ) (P : List Line → ℕ → Type 0) → ((b : Bool) → nat_eq s slot ≡ b → P p s) → P p s
      pick s P f = f (nat_eq s slot) refl

      on : (n s : ℕ) → is_on n (call_at c s p1) ≡ true → is_on n (call_at c s p) ≡ true
      on n s k = pick s (λ x u. is_on n (call_at c u x) ≡ true) by
        where
          by : (b : Bool) → nat_eq s slot ≡ b → is_on n (call_at c s p) ≡ true
          by true e = let q = eqb-true s slot e in subst (λ (u : ℕ). is_on n (call_at c u p) ≡ true) (sym q)
              (one.on n (subst (λ (u : ℕ). is_on n (call_at c u p1) ≡ true) q k))
          by false e = ap (is_on n) (sym (one.kept.same s (apart_from s e))) ∙ k

      closes : (s : ℕ) → is_closing (call_at c s p1) ≡ true → is_closing (call_at c s p) ≡ true
      closes s k = pick s (λ x u. is_closing (call_at c u x) ≡ true) by
        where
          by : (b : Bool) → nat_eq s slot ≡ b → is_closing (call_at c s p) ≡ true
          by true e = let q = eqb-true s slot e in subst (λ (u : ℕ). is_closing (call_at c u p) ≡ true) (sym q)
              (one.closes (subst (λ (u : ℕ). is_closing (call_at c u p1) ≡ true) q k))
          by false e = ap is_closing (sym (one.kept.same s (apart_from s e))) ∙ k

      still : (s : ℕ) → Still (life_at c p) (patches_at c p) (call_at c s p) → Still (life_at c p1) (patches_at c p1) (call_at c s p1)
      still s k = by (nat_eq s slot) refl
        where
          by : (b : Bool) → nat_eq s slot ≡ b → Still (life_at c p1) (patches_at c p1) (call_at c s p1)
          by true e = subst (λ (u : ℕ). Still (life_at c p1) (patches_at c p1) (call_at c u p1)) (sym (eqb-true s slot e)) one.own
          by false e =
              subst (λ (who : Who). Still who (patches_at c p1) (call_at c s p1)) (sym one.kept.life)
              (subst (Still (life_at c p) (patches_at c p1)) (sym (one.kept.same s (apart_from s e)))
              (still_lasts (life_at c p) (patches_at c p) (patches_at c p1) (call_at c s p) one.kept.lasts k))

      small_in : (s : ℕ) (xs : List ℕ) → AllSmall xs → In s xs → s < 4
      small_in s [] a i = absurd i
      small_in s (x ∷ xs) a (inl e) = subst (λ (n : ℕ). n < 4) e a.0
      small_in s (x ∷ xs) a (inr i) = small_in s xs a.1 i

      by_slot : (s : ℕ) (b : Bool) → nat_eq s slot ≡ b → In s (slot ∷ slots) → is_free_close (calls_at c p) (call_at c s p) ≡ true
          → is_closing (call_at c s q) ≡ false
      by_slot s true e i k =
          let same = eqb-true s slot e in
          let f : is_closing (call_at c s p1) ≡ false = subst (λ (u : ℕ). is_closing (call_at c u p1) ≡ false) (sym same)
          (one.free (subst (λ (u : ℕ). is_free_close (calls_at c p) (call_at c u p) ≡ true) same k)) in
          not_true (is_closing (call_at c s q)) (λ x. let y : true ≡ false = sym (more.closes s x) ∙ f in cc)
      by_slot s false e (inl same) k = absurd (apart_from s e (sym same))
      by_slot s false e (inr i) k = more.free s i (free_still c p p1 s (small_in s slots small i) on (one.kept.same s (apart_from s e)) k)

  -- what is said of a pass where it begins
  passed_start : (p : List Line) → Moving p → Passed [] p p
  passed_start p m = record {
    moving = m;
    on = λ n s k. k;
    closes = λ s k. k;
    still = λ s k. k;
    here = λ s i. absurd i;
    free =
        λ s i. absurd i;
  }

  pub passed : (slots : List ℕ) (p : List Line) → AllSmall slots → Moving p → EntriesCovered (passes at slots (client_of head c p))
      → Passed slots p (with_turn at (passes at slots (client_of head c p)) p)
  passed [] p small m covered = passed_start p m
  passed (slot ∷ slots) p small m covered =
      let k = client_of head c p in
      let es = goes at slot k in
      let p1 = with_turn at es p in
      let one = went slot p small.0 m (covered_left es (passes at slots (turn_of k es)) covered) in
      let m1 = visited_moves slot p p1 (λ s n. m.moves s) one in
      let cov = subst (λ (j : ClientState). EntriesCovered (passes at slots j)) (sym (client_own (limits_of head) c p at es (self c)))
      (covered_right es (passes at slots (turn_of k es)) covered) in
      subst (Passed (slot ∷ slots) p) (sym (followed head c stamp es (passes at slots) p))
      (passed_more slot slots p p1 (with_turn at (passes at slots (client_of head c p1)) p1) small.1 one.leaves
      (passed slots p1 small.1 m1 cov))

  -- ---- again, while a close is free

  pub all_small : AllSmall all_slots
  all_small = (omega arith, (omega arith, (omega arith, (omega arith, tt))))

  pub in_slots : (slot : ℕ) → slot < 4 → In slot all_slots
  in_slots zero b = inl refl
  in_slots (suc zero) b = inr (inl refl)
  in_slots (suc (suc zero)) b = inr (inr (inl refl))
  in_slots (suc (suc (suc zero))) b = inr (inr (inr (inl refl)))
  in_slots (suc (suc (suc (suc slot)))) b = absurd (omega (arith, b))

  abbrev AnyFree : List Line → Type 0
  AnyFree p = list_any (is_free_close (calls_at c p)) (calls_at c p) ≡ true

  -- a close that is free is on a slot
  free_slot : (p : List Line) → AnyFree p → (slot : ℕ) × (slot < 4) × (is_free_close (calls_at c p) (call_at c slot p) ≡ true)
  free_slot p e =
      let r = any_on (is_free_close (calls_at c p)) (calls_at c p) e in
      (r.0, r.1, ap (is_free_close (calls_at c p)) (sym (on_small c r.0 p r.1)) ∙ r.2)

  -- so many passes more are enough
  abbrev Few : ℕ → List Line → Type 0
  Few n p = (closings c p ≤ n) ⊎ (AnyFree p × (closings c p ≤ n + 1))

  -- a covered run goes on from there to where all wait
  abbrev pub ComesToRest : List Line → Type 0
  ComesToRest p = AllCovered (with_turn at (slots_go 5 at (client_of head c p)) p)
      → Rested head c at (with_turn at (slots_go 5 at (client_of head c p)) p)

  abbrev again : ℕ → ClientState → List Entry
  again n j = if list_any (is_free_close j.calls) j.calls then slots_go n at j else []

  fewer : (n : ℕ) (p q : List Line) → Passed all_slots p q → Few n p → closings c q ≤ n
  fewer n p q w (inl le) = let k = closings_less c p q w.closes in omega (arith, k, le)
  fewer n p q w (inr few) =
      let s = free_slot p few.0 in
      let le = few.1 in
      let k = closings_fewer c p q w.closes s.0 s.1 (w.free s.0 (in_slots s.0 s.1) s.2) (free_closing (calls_at c p) (call_at c s.0 p) s.2)
      in
      omega (arith, k, le)

  -- once a pass is over
  after_pass : (n : ℕ) (p q : List Line) → Passed all_slots p q → Few n p
      → ((m : ℕ) → suc m ≡ n → Few m q → AllCovered (with_turn at (slots_go n at (client_of head c q)) q)
      → Rested head c at (with_turn at (slots_go n at (client_of head c q)) q))
      → AllCovered (with_turn at (again n (client_of head c q)) q) → Rested head c at (with_turn at (again n (client_of head c q)) q)
  after_pass n p q w few more = by (list_any (is_free_close (calls_at c q)) (calls_at c q)) refl
    where
      le : closings c q ≤ n
      le = fewer n p q w few

      by : (b : Bool) → list_any (is_free_close (calls_at c q)) (calls_at c q) ≡ b
          → AllCovered (with_turn at (if b then slots_go n at (client_of head c q) else []) q)
          → Rested head c at (with_turn at (if b then slots_go n at (client_of head c q) else []) q)
      by false none covered =
          record {
            good = w.moving.good;
            settled = w.moving.settled;
            idle = idle;
            handles = w.moving.handles;
          }
        where
          on_slot : (slot : ℕ) → slot < 4 → IdleAt c q slot
          on_slot slot small =
              subst (Idle (life_at c q) (patches_at c q) (calls_at c q)) (on_small c slot q small)
              (still_idle (life_at c q) (patches_at c q) (calls_at c q) slot
              (subst (Still (life_at c q) (patches_at c q)) (sym (on_small c slot q small)) (w.here slot (in_slots slot small))) none)

          idle : AllIdle c q
          idle slot = of (call_at c slot q) refl (small_on (the_head head c stamp) c slot q w.moving.good.grown)
            where
              of : (x : Option Running) → call_at c slot q ≡ x → SmallOn slot x → IdleAt c q slot
              of None e small = subst (Idle (life_at c q) (patches_at c q) (calls_at c q)) (sym e) tt
              of (Some r) e small = on_slot slot small
      by true some covered = on n refl more covered
        where
          s : (slot : ℕ) × (slot < 4) × (is_free_close (calls_at c q) (call_at c slot q) ≡ true)
          s = free_slot q some

          least : 1 ≤ closings c q
          least = closings_some c q s.0 s.1 (free_closing (calls_at c q) (call_at c s.0 q) s.2)

          on : (k : ℕ) → k ≡ n → ((m : ℕ) → suc m ≡ n → Few m q → AllCovered (with_turn at (slots_go n at (client_of head c q)) q)
              → Rested head c at (with_turn at (slots_go n at (client_of head c q)) q))
              → AllCovered (with_turn at (slots_go n at (client_of head c q)) q)
              → Rested head c at (with_turn at (slots_go n at (client_of head c q)) q)
          on zero e more covered = absurd (let l = le in omega (arith, l, e, least))
          on (suc m) e more covered = more m e (inr (some, let l = le in omega (arith, l, e))) covered

  -- where it goes on so
  abbrev Next : ℕ → Type 0
  Next n = (q : List Line) → Moving q → (m : ℕ) → suc m ≡ n → Few m q → AllCovered (with_turn at (slots_go n at (client_of head c q)) q)
      → Rested head c at (with_turn at (slots_go n at (client_of head c q)) q)

  -- with a first pass
  pass_on : (n : ℕ) (p : List Line) → (EntriesCovered (passes at all_slots (client_of head c p))
      → Passed all_slots p (with_turn at (passes at all_slots (client_of head c p)) p)) → Few n p → Next n
      → AllCovered (with_turn at (slots_go (suc n) at (client_of head c p)) p)
      → Rested head c at (with_turn at (slots_go (suc n) at (client_of head c p)) p)
  pass_on n p first few next covered =
      let k = client_of head c p in
      let es = passes at all_slots k in
      let p1 = with_turn at es p in
      let so = followed head c stamp es (again n) p in
      let cov = covered_left es (again n (turn_of k es)) (covered_turn at (es ++ again n (turn_of k es)) p covered).0 in
      let w = first cov in
      subst (Rested head c at) (sym so) (after_pass n p p1 w few (next p1 w.moving) (subst AllCovered so covered))

  moves_on : (n : ℕ) (p : List Line) → Moving p → Few n p → AllCovered (with_turn at (slots_go (suc n) at (client_of head c p)) p)
      → Rested head c at (with_turn at (slots_go (suc n) at (client_of head c p)) p)
  moves_on zero p m few covered = pass_on zero p (passed all_slots p all_small m) few (λ q moving k e f cov. absurd (cc)) covered
  moves_on (suc n) p m few covered = pass_on (suc n) p (passed all_slots p all_small m) few
      (λ q moving k e f cov. let same : k ≡ n = cc in moves_on n q moving (subst (λ (x : ℕ). Few x q) same f) cov) covered

  -- a first pass is all that has to be shown
  pub first_pass : (p : List Line) → (EntriesCovered (passes at all_slots (client_of head c p))
      → Passed all_slots p (with_turn at (passes at all_slots (client_of head c p)) p)) → ComesToRest p
  first_pass p first covered = pass_on 4 p first (inl (closings_most c p))
      (λ q moving k e f cov. let same : k ≡ 3 = cc in moves_on 3 q moving (subst (λ (x : ℕ). Few x q) same f) cov) covered

  pub moves_go : (p : List Line) → Moving p → ComesToRest p
  moves_go p m = first_pass p (passed all_slots p all_small m)

  pub calm_goes : (p : List Line) → Calmed head c at p → ComesToRest p
  calm_goes p m = moves_go p (calmed_moves p m)

  pub slots_still : Keeps head c stamp (Rested head c at) (Rested head c at) (slots_go 5 at)
  slots_still p r covered = moves_go p (rested_moves p r) covered
