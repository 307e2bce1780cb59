-- A pass over the slots of a client in which one call has to move that began or was answered in the turn. The calls on the slots before it
-- wait:
-- none of them makes a line, but a flush that waits, which leaves what is owed, and what was heard. Then it moves in its place.
use Rattle.lu_proof_lawful.proofs.Preconditions.Guards.{In, Owes}
use Rattle.lu_proof_lawful.proofs.Preconditions.CallStands.{Still, Flushes, Idle, IdleAt, Movable, idle_moves, idle_lasts}
use Rattle.lu_spec_entries.specs.Carried.{HandleFile, Asked, Running, Unasked, Stage, Bad, Flushing}
use Rattle.std.proofs.Common.{◌≡◌, ℕ, ◌<◌, Bool, true, false, List, ◌⊎◌, inl, inr, Option, Some, None, refl, sym, subst, ap, ◌∙◌, [], ◌∷◌}
use Rattle.std.proofs.Common.{⊎_elim}
use Rattle.std.specs.Prelude.{nat_eq, if◌then◌else◌}
use Rattle.std.proofs.lemmas.Bool.{eqb-true}
use Rattle.lu_base.specs.declared.ids.At.{At}
use Rattle.lu_base.specs.declared.ids.Node.TheVariants.{Client}
use Rattle.lu_base.specs.declared.ids.Stamp.{Stamp}
use Rattle.lu_base.specs.declared.ids.Who.{Who}
use Rattle.lu_msg.specs.declared.calls.Call.{Call}
use Rattle.lu_spec_entries.specs.Words.{Line, Entry, Queues, Stands, WritesBack, line, with_turn}
use Rattle.lu_spec_client.specs.Caches.{patches_at}
use Rattle.lu_spec_client.specs.Calls.{calls_at, asks_for}
use Rattle.lu_spec_client.specs.Slots.{is_close, is_free_close, goes_at, goes, goes_on, passes, all_slots}
use Rattle.lu_spec_client.specs.Starts.{is_on, count_on}
use Rattle.lu_proof_lawful.specs.Covered.Calls.{call_at, life_at}
use Rattle.lu_spec_run.specs.Heads as table
use Rattle.lu_proof_lawful.proofs.Preconditions.Lists.{self, turn}
use Rattle.lu_proof_lawful.proofs.Preconditions.ClientHandles.{Tied, count_more}
use Rattle.lu_proof_lawful.proofs.Preconditions.ClientGood.{Good, call_line, followed}
use Rattle.lu_proof_lawful.proofs.Preconditions.CallMoves.{Kept, apart}
use Rattle.lu_proof_lawful.proofs.Preconditions.ClientCalls.{is_closing, on_small, asked_not, closes_so, one_not, closing_is, idle_more}
use Rattle.lu_proof_lawful.proofs.Preconditions.ClientCalls.{AllSmall}
use Rattle.lu_msg.specs.declared.operations.Op.TheVariants as op
use Rattle.lu_spec_client.specs.Advances.{queued_for, at_stage}
use Rattle.lu_spec_client.specs.States.{Client as ClientState, store_at, turn as turn_of}
use Rattle.lu_spec_client.specs.WriteBack.{flush_from, flushing}
use Rattle.lu_spec_run.specs.Runs.{limits_of, client_of}
use Rattle.lu_proof_run.proofs.Clients.{client_own}
use Rattle.lu_proof_lawful.proofs.Preconditions.Covers.{EntriesCovered, covered_left, covered_right}
use Rattle.lu_proof_lawful.proofs.Preconditions.ClientFlushes.{FlushLine, stays_lines, dirty_lines, Stayed, stays_good, flush_tied}
use Rattle.lu_proof_lawful.proofs.Preconditions.Closings.{asked_closing}
use Rattle.lu_proof_lawful.proofs.Preconditions.ClientPasses.{Leaves, Visited, leaves_none, visited_moves, not_free, Passed, passed_more}
use Rattle.lu_proof_lawful.proofs.Preconditions.ClientPasses.{passed, all_small, in_slots, ComesToRest, first_pass}

-- another slot's flush leaves the call
flush_other : (head : table.Head) (c : ℕ) (stamp : Stamp) (slot s : ℕ) (p : List Line) (e : Entry) → FlushLine slot e → (s ≡ slot → ⊥)
    → call_at c s (line (turn stamp (Client c)) e ∷ p) ≡ call_at c s p
flush_other head c stamp slot s p (Stands t r) k n = call_line head c stamp s p (Stands t r)
    ∙ ap (λ (b : Bool). if b then Some r else call_at c s p) (ap (λ (u : ℕ). nat_eq u s) k.0 ∙ apart head c stamp slot s n)
flush_other head c stamp slot s p (WritesBack resource change) k n = refl
flush_other head c stamp slot s p (Queues t q) k n = call_line head c stamp s p (Queues t q)
    ∙ ap (λ (o : Option ℕ). asks_for o s Asked (call_at c s p)) k
flush_other head c stamp slot s p e k n = absurd k

module _ (head : table.Head) (c : ℕ) (stamp : Stamp) where
  abbrev at : At
  at = turn stamp (Client c)

  -- what is said of the call that has to move lasts while flushes of other slots wait, and none of their lines is owed
  module _ (fresh : ℕ) (F : List Line → Type 0)
      (keeps : (slot : ℕ) → (slot ≡ fresh → ⊥) → (p : List Line) (e : Entry) → FlushLine slot e → call_at c fresh (line at e ∷ p)
      ≡ call_at c fresh p → F p → F (line at e ∷ p))
      (pays : (slot : ℕ) → (slot ≡ fresh → ⊥) → (p : List Line) (e : Entry) → FlushLine slot e → F p → Owes p at e) where
    pub record Pending (p : List Line) : Type 0 where
      pub good : Good head c at p
      pub others : (slot : ℕ) → (slot ≡ fresh → ⊥) → IdleAt c p slot
      pub handles : Tied c p
      pub holds : F p

    record Waits (p : List Line) : Type 0 where
      good : Good head c at p
      handles : Tied c p
      holds : F p

    -- others wait still
    others_still : (slot : ℕ) (p q : List Line) → ((s : ℕ) → (s ≡ fresh → ⊥) → IdleAt c p s) → Kept head c stamp slot p q
        → ((n : ℕ) → is_on n (call_at c slot p) ≡ true → is_on n (call_at c slot q) ≡ true) → IdleAt c q slot
        → (s : ℕ) → (s ≡ fresh → ⊥) → IdleAt c q s
    others_still slot p q others kept on own s n = by (nat_eq s slot) refl
      where
        away : (u : ℕ) → nat_eq u slot ≡ false → u ≡ slot → ⊥
        away u e k = let t : nat_eq u slot ≡ true = ap (λ (v : ℕ). nat_eq v slot) k ∙ self slot in absurd (cc)

        more : (m u : ℕ) → is_on m (call_at c u p) ≡ true → is_on m (call_at c u q) ≡ true
        more m u k = of (nat_eq u slot) refl
          where
            of : (b : Bool) → nat_eq u slot ≡ b → is_on m (call_at c u q) ≡ true
            of true e = let same = eqb-true u slot e in subst (λ (v : ℕ). is_on m (call_at c v q) ≡ true) (sym same)
                (on m (subst (λ (v : ℕ). is_on m (call_at c v p) ≡ true) same k))
            of false e = ap (is_on m) (kept.same u (away u e)) ∙ k

        by : (b : Bool) → nat_eq s slot ≡ b → IdleAt c q s
        by true e = subst (IdleAt c q) (sym (eqb-true s slot e)) own
        by false e =
            subst (λ (who : Who). Idle who (patches_at c q) (calls_at c q) (call_at c s q)) (sym kept.life)
            (subst (Idle (life_at c p) (patches_at c q) (calls_at c q)) (sym (kept.same s (away s e)))
            (idle_more (life_at c p) (patches_at c q) (calls_at c p) (calls_at c q) (λ m. count_more c m p q (λ u. more m u))
            (call_at c s p)
            (idle_lasts (life_at c p) (patches_at c p) (patches_at c q) (calls_at c p) (call_at c s p) kept.lasts (others s n))))

    -- ---- one that waits

    abbrev Stands_by : ℕ → List Line → List Line → Type 0
    Stands_by slot p q = Pending q × Leaves head c stamp slot p q

    flush_by : (slot : ℕ) (p : List Line) → (slot ≡ fresh → ⊥) → slot < 4 → Pending p → (r : Running) → call_at c slot p ≡ Some r
        → (f : Flushes (patches_at c p) r)
        → Stands_by slot p (with_turn at (stays_lines slot r f.file f.stripe (store_at c p)) p)
    flush_by slot p apart_from small pending r is f = (
      record {
        good = s.holds.good;
        others = others_still slot p q pending.others s.kept (λ n k. ap (is_on n) s.call ∙ ap (is_on n) (sym is) ∙ k)
            (subst (Idle (life_at c q) (patches_at c q) (calls_at c q)) (sym s.call) (inl (inr waits)));
        handles = s.holds.handles;
        holds = s.holds.holds;
      },
      record {
        kept = s.kept;
        own = subst (Still (life_at c q) (patches_at c q)) (sym s.call) (inl (inr waits));
        on = λ n k. ap (is_on n) is ∙ ap (is_on n) (sym s.call) ∙ k;
        closes = λ k. absurd (let x : true ≡ false = sym k ∙ closed in cc);
        free = λ k. closed;
      },
    )
      where
        q : List Line
        q = with_turn at (stays_lines slot r f.file f.stripe (store_at c p)) p

        now : Running
        now = at_stage r (Flushing f.stripe)

        s : Stayed head c stamp slot Waits (λ x h. h.good) (λ x e k h. pays slot apart_from x e k h.holds)
            (λ x e k h g. record {
              good = g;
              handles = flush_tied head c stamp slot x e k h.handles;
              holds =
                  keeps slot apart_from x e k (flush_other head c stamp slot fresh x e k (λ z. apart_from (sym z))) h.holds;
            }) r f.file
            f.stripe p q
        s =
            stays_good head c stamp slot Waits (λ x h. h.good) (λ x e k h. pays slot apart_from x e k h.holds)
            (λ x e k h g. record {
              good = g;
              handles = flush_tied head c stamp slot x e k h.handles;
              holds =
                  keeps slot apart_from x e k (flush_other head c stamp slot fresh x e k (λ z. apart_from (sym z))) h.holds;
            })
            r f.file f.stripe f.handle small f.flushes f.of_file (λ e. let w : Flushing f.stripe ≡ Bad = sym f.stage ∙ e in cc)
            (λ e. let w : Unasked ≡ Asked = sym f.new ∙ e in cc) p
            (record { good = pending.good; handles = pending.handles; holds = pending.holds }) is f.dirty

        waits : Flushes (patches_at c q) now
        waits =
            record {
              handle = f.handle;
              flushes = f.flushes;
              file = f.file;
              of_file = f.of_file;
              new = f.new;
              nothing = f.nothing;
              stripe = f.stripe;
              stage = refl;
              more = f.more;
              rest = f.rest;
              dirty = s.dirty;
            }

        closed : is_closing (call_at c slot q) ≡ false
        closed = ap is_closing s.call ∙ ap (λ (x : Call). is_close x r.asking) f.flushes

    stands_by : (slot : ℕ) (p : List Line) → (slot ≡ fresh → ⊥) → slot < 4 → Pending p
        → Stands_by slot p (with_turn at (goes at slot (client_of head c p)) p)
    stands_by slot p apart_from small pending = subst (λ (es : List Entry). Stands_by slot p (with_turn at es p))
        (sym (ap (goes_on at slot k) (on_small c slot p small))) (by (call_at c slot p) refl (pending.others slot apart_from))
      where
        k : ClientState
        k = client_of head c p

        goes_as : (r : Running) (es : List Entry) → goes_at at slot r.stage r k ≡ es → Stands_by slot p (with_turn at es p)
            → Stands_by slot p (with_turn at (goes_at at slot r.stage r k) p)
        goes_as r es so good = subst (λ (fs : List Entry). Stands_by slot p (with_turn at fs p)) (sym so) good

        none : (x : Option Running) → call_at c slot p ≡ x → Still (life_at c p) (patches_at c p) x → is_free_close (calls_at c p) x ≡ false
            → Stands_by slot p p
        none x e still free = (pending, leaves_none head c stamp slot p x e still free)

        by : (x : Option Running) → call_at c slot p ≡ x → Idle (life_at c p) (patches_at c p) (calls_at c p) x
            → Stands_by slot p (with_turn at (goes_on at slot k x) p)
        by None is i = none None is tt refl
        by (Some r) is (inl (inl a)) = goes_as r [] (asked_not at slot (life_at c p) r k a)
            (none (Some r) is (inl (inl a)) (not_free head c stamp (calls_at c p) (Some r) (asked_closing (life_at c p) r a)))
        by (Some r) is (inl (inr f)) =
            goes_as r (stays_lines slot r f.file f.stripe (store_at c p))
            (ap (λ (s : Stage). goes_at at slot s r k) f.stage
            ∙ ap (λ (g : Option HandleFile). flushing at slot f.stripe r g (store_at c p)) f.of_file
            ∙ ap (λ (is : List ℕ). flush_from at slot r f.file is (store_at c p)) f.rest
            ∙ dirty_lines at slot r f.file f.stripe f.more (store_at c p) f.dirty)
            (flush_by slot p apart_from small pending r is f)
        by (Some r) is (inr w) =
            goes_as r []
            (closes_so at slot r k w.closing ∙ ap (λ (b : Bool). if b then []
            else Queues 0 (queued_for slot (op.Close w.closing.file.number w.closing.file.fid)) ∷ []) w.others)
            (none (Some r) is (inr w.closing) (closing_is (calls_at c p) r w.closing
            ∙ one_not (count_on w.closing.file.number.0 (calls_at c p)) w.others))

    -- ---- the pass

    module _ (moves : (p : List Line) → Pending p → EntriesCovered (goes at fresh (client_of head c p))
        → Visited head c stamp fresh p (with_turn at (goes at fresh (client_of head c p)) p)) where
      moved : (slot : ℕ) (p : List Line) → slot ≡ fresh → Pending p → EntriesCovered (goes at slot (client_of head c p))
          → Visited head c stamp slot p (with_turn at (goes at slot (client_of head c p)) p)
      moved slot p e pending = subst (λ (u : ℕ). EntriesCovered (goes at u (client_of head c p))
          → Visited head c stamp u p (with_turn at (goes at u (client_of head c p)) p)) (sym e) (moves p pending)

      pending_pass : (slots : List ℕ) (p : List Line) → AllSmall slots → In fresh slots → Pending p
          → EntriesCovered (passes at slots (client_of head c p))
          → Passed head c stamp slots p (with_turn at (passes at slots (client_of head c p)) p)
      pending_pass [] p small i pending covered = absurd i
      pending_pass (slot ∷ slots) p small i pending covered = by (nat_eq slot fresh) refl
          (λ q j w cov. pending_pass slots q small.1 j w cov)
        where
          k : ClientState
          k = client_of head c p

          es : List Entry
          es = goes at slot k

          p1 : List Line
          p1 = with_turn at es p

          whole : with_turn at (passes at (slot ∷ slots) k) p ≡ with_turn at (passes at slots (client_of head c p1)) p1
          whole = followed head c stamp es (passes at slots) p

          rest : EntriesCovered (passes at slots (client_of head c p1))
          rest = subst (λ (j : ClientState). EntriesCovered (passes at slots j)) (sym (client_own (limits_of head) c p at es (self c)))
              (covered_right es (passes at slots (turn_of k es)) covered)

          first_one : Leaves head c stamp slot p p1 → Passed head c stamp slots p1 (with_turn at (passes at slots (client_of head c p1)) p1)
              → Passed head c stamp (slot ∷ slots) p (with_turn at (passes at (slot ∷ slots) k) p)
          first_one one more = subst (Passed head c stamp (slot ∷ slots) p) (sym whole)
              (passed_more head c stamp slot slots p p1 (with_turn at (passes at slots (client_of head c p1)) p1) small.1 one more)

          by : (b : Bool) → nat_eq slot fresh ≡ b → ((q : List Line) → In fresh slots → Pending q
              → EntriesCovered (passes at slots (client_of head c q))
              → Passed head c stamp slots q (with_turn at (passes at slots (client_of head c q)) q))
              → Passed head c stamp (slot ∷ slots) p (with_turn at (passes at (slot ∷ slots) k) p)
          by true e more =
              let same = eqb-true slot fresh e in
              let v = moved slot p same pending (covered_left es (passes at slots (turn_of k es)) covered) in
              let others : (s : ℕ) → (s ≡ slot → ⊥) → Movable (life_at c p) (call_at c s p) =
              λ s n. idle_moves (life_at c p) (patches_at c p) (calls_at c p) (call_at c s p) (pending.others s (λ z. n (z ∙ sym same)))
              in
              first_one v.leaves (passed head c stamp slots p1 small.1 (visited_moves head c stamp slot p p1 others v) rest)
          by false e more =
              let apart_from : slot ≡ fresh → ⊥ = λ z. let t : nat_eq slot fresh ≡ true = ap (λ (u : ℕ). nat_eq u fresh) z ∙ self fresh
              in absurd (cc) in
              let there : In fresh slots = ⊎_elim (λ (z : slot ≡ fresh). absurd (apart_from z)) (λ (j : In fresh slots). j) i in
              let one = stands_by slot p apart_from small.0 pending in
              first_one one.1 (more p1 there one.0 rest)

      pub slots_moved : (p : List Line) → fresh < 4 → Pending p → ComesToRest head c stamp p
      slots_moved p small pending = first_pass head c stamp p (λ cov. pending_pass all_slots p (all_small head c stamp)
          (in_slots head c stamp fresh small) pending cov)
