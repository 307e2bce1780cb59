-- The turn of a client in a covered run in which a target says that it is up again: the client knows its boot, marks no lock of it any
-- more,
-- forgets the calls that wait for one there, and tells it what the life has for it; or asks it to serve the life, where it didn't yet.
use Rattle.std.proofs.Common.{◌≡◌, ℕ, ◌<◌, ◌≤◌, Bool, true, false, List, [], ◌∷◌, inl, inr, refl, sym, subst, ap, ◌∙◌}
use Rattle.std.specs.Prelude.{nat_eq, nat_lt, length, filter}
use Rattle.std.proofs.lemmas.Bool.{ltb-true}
use Rattle.lu_base.specs.declared.ids.At.{At}
use Rattle.lu_base.specs.declared.ids.Node.TheVariants.{Client, Target}
use Rattle.lu_base.specs.declared.ids.Stamp.{Stamp}
use Rattle.lu_base.specs.declared.ids.Who.{Who}
use Rattle.lu_msg.specs.declared.messages.Message.{Message}
use Rattle.lu_msg.specs.declared.messages.Message.TheVariants as message
use Rattle.lu_held.specs.declared.locks.HeldLock.{HeldLock}
use Rattle.lu_held.specs.Held.{unmarked}
use Rattle.lu_spec_entries.specs.Words.{Entry, Take, Knows, Unmarks, Line, line, with_turn}
use Rattle.lu_spec_entries.specs.Concerns.{only}
use Rattle.lu_spec_entries.specs.Sent.{Sent}
use Rattle.lu_spec_client.specs.Caches.{held_at}
use Rattle.lu_spec_client.specs.Calls.{calls_at}
use Rattle.lu_spec_client.specs.Imports.{Import, interrupted, import_at, import_of}
use Rattle.lu_spec_client.specs.Messages.{up_heard, comes_by}
use Rattle.lu_spec_client.specs.Recovery.{held_of, tells_all, recovers, on_calls, forgets_stage, comes_up, joins}
use Rattle.lu_spec_client.specs.States.{Client as ClientState}
use Rattle.lu_proof_lawful.specs.Covered.Calls.{life_at}
use Rattle.lu_proof_lawful.specs.Covered.Imports.{Kept, Standing, Joining, Recovering, Serving, known_at, standing_at, kept_at}
use Rattle.lu_spec_run.specs.Heads as table
use Rattle.lu_spec_run.specs.Runs.{client_of}
use Rattle.lu_proof_lawful.proofs.Preconditions.Guards.{In, Took}
use Rattle.lu_proof_lawful.proofs.Preconditions.StoryGuards as story_guards
use Rattle.lu_proof_lawful.proofs.Preconditions.Lists.{self, turn, turn_more}
use Rattle.lu_proof_lawful.proofs.Preconditions.Only.{sent_was, was_only}
use Rattle.lu_proof_lawful.proofs.Preconditions.Parts.{known_is}
use Rattle.lu_proof_lawful.proofs.Preconditions.Ends.{none_took}
use Rattle.lu_proof_lawful.proofs.Preconditions.Turns.{owes_nothing}
use Rattle.lu_proof_lawful.proofs.Preconditions.ClientLocks.{of_ordered, count_ordered, of_unmarked, count_unmarked}
use Rattle.lu_proof_lawful.proofs.Preconditions.ClientGood.{Rested, the_head, adds, at_one, held_line, followed}
use Rattle.lu_proof_lawful.proofs.Preconditions.ClientRests.{import_there}
use Rattle.lu_proof_lawful.proofs.Preconditions.TurnStarts.{Starts, took_rested}
use Rattle.lu_proof_lawful.proofs.Preconditions.StageMoves.{Beside, forgets_all}
use Rattle.lu_proof_lawful.proofs.Preconditions.ClientResends.{still_start, join_good, all_told}

module _ (head : table.Head) (c : ℕ) (stamp : Stamp) where
  abbrev at : At
  at = turn stamp (Client c)

  -- ---- a target is up again

  pub up_rested : (p : List Line) (n t boot : ℕ) → Starts head c stamp p → t ≤ head.osts → Sent p n (Target t) (Client c) (message.Up boot)
      → Rested head c at (with_turn at (comes_by at (Target t) (message.Up boot) (client_of head c p))
      (line at (Take n (Target t) (message.Up boot)) ∷ p))
  up_rested p n t boot s le sent = by (nat_lt (import_of t k.imports).boot boot) refl
    where
      k : ClientState
      k = client_of head c p

      m : Message
      m = message.Up boot

      p1 : List Line
      p1 = line at (Take n (Target t) m) ∷ p

      p2 : List Line
      p2 = line at (Knows t boot) ∷ p1

      p3 : List Line
      p3 = line at (Unmarks t) ∷ p2

      who : Who
      who = life_at c p2

      took : Rested head c at p1
      took = took_rested head c stamp p n t m s sent

      knows : nat_lt (import_of t k.imports).boot boot ≡ true → Rested head c at p2
      knows e =
          record {
            good =
                adds head c stamp p1 (Knows t boot) took.good (owes_nothing p1 at (Knows t boot) tt) (refl, refl, refl)
                (at_one head c stamp t (λ (u : ℕ). story_guards.BootKnownOk (only u p1) c t boot) (record {
                  newer = subst (λ (b : ℕ). b < boot) (ap (λ (i : Import). i.boot) (import_there head c stamp p t le) ∙ known_is c t p1)
                      (ltb-true (import_of t k.imports).boot boot e);
                  was = was_only t p1 (Target t) (Client c) m (self t) (sent_was p n (Target t) (Client c) m sent);
                })) tt refl;
            settled = tt;
            idle = took.idle;
            handles = took.handles;
          }

      now : standing_at c t p2 ≡ interrupted (standing_at c t p1)
      now = rw (self c, self t) refl

      -- one that joins there joins again
      joining : Rested head c at p2 → standing_at c t p2 ≡ Joining → Rested head c at (line at (joins who (known_at c t p2) t) ∷ p2)
      joining r v =
          (join_good head c stamp who p2 p2 t (known_at c t p2) (still_start head c stamp who p2 r refl) v refl).rested

      -- of another no lock is marked any more, and it tells what it has
      bare : held_at c p3 ≡ unmarked (record { 0 = t }) (held_at c p2)
      bare = held_line head c stamp p2 (Unmarks t)

      lasts : (u b : ℕ) (w : Who) → Took p3 at (Target u) (message.Evicted w b) → ⊥
      lasts u b w (inl q) = let e : message.Up boot ≡ message.Evicted w b = q.2 in cc
      lasts u b w (inr q) = none_took (the_head head c stamp) p at (Target u) (message.Evicted w b) s.grown s.later q

      -- calls that wait for a lock there are forgotten
      forgets : List Entry
      forgets = on_calls (forgets_stage t) 0 (calls_at c p3)

      p4 : List Line
      p4 = with_turn at forgets p3

      recovering : Rested head c at p2 → standing_at c t p2 ≡ Recovering
          → Rested head c at (with_turn at (comes_up t (client_of head c p2) (import_at c t p2) Recovering) p2)
      recovering r v =
          let of_target = λ (h : HeldLock). nat_eq h.target.0 t in
          let freed : Rested head c at p3 = record {
            good = adds head c stamp p2 (Unmarks t) r.good (owes_nothing p2 at (Unmarks t) tt) tt
                (λ u q. tt) tt refl;
            settled = tt;
            idle = r.idle;
            handles = r.handles;
          } in
          let f = forgets_all head c stamp t boot p3 freed (inl (refl, refl, refl)) in
          let b : Beside head c stamp p3 p4 = f.1 in
          let held : held_at c p4 ≡ unmarked (record { 0 = t }) (held_at c p2) = b.held ∙ bare in
          let count : length (held_of t (held_at c p2)) ≡ length (filter of_target (held_at c p4)) =
          count_ordered of_target (held_at c p2) ∙ sym (count_unmarked t t (held_at c p2))
          ∙ ap (λ (hs : List HeldLock). length (filter of_target hs)) (sym held) in
          let all = λ (h : HeldLock) (i : In h (held_of t (held_at c p2))).
          subst (λ (hs : List HeldLock). (g : HeldLock) × In g (filter of_target hs) × (g.lock ≡ h.lock)) (sym held)
          (of_unmarked t t h (held_at c p2) (of_ordered of_target h (held_at c p2) i)) in
          let told = all_told head c stamp who p4 t (b.standing t ∙ v) (held_of t (held_at c p2)) all count
          (λ u x w k. lasts u x w (b.took (Target u) (message.Evicted w x) k)) p4 (still_start head c stamp who p4 f.0 b.life) in
          subst (Rested head c at) (sym (turn_more at forgets (recovers t (client_of head c p2) (import_at c t p2)) p3))
          (subst (λ (k : Kept). Rested head c at (with_turn at (tells_all who (known_at c t p2) t k (held_of t (held_at c p2))) p4))
          (b.kept t)
          (subst (λ (n : ℕ). Rested head c at (with_turn at (tells_all who n t (kept_at c t p4) (held_of t (held_at c p2))) p4)) (b.known t)
          told.rested))

      came : Rested head c at p2 → (st : Standing) → standing_at c t p1 ≡ st
          → Rested head c at (with_turn at (comes_up t (client_of head c p2) (import_at c t p2) (standing_at c t p2)) p2)
      came r Joining e = let v = now ∙ ap interrupted e in subst
          (λ (x : Standing). Rested head c at (with_turn at (comes_up t (client_of head c p2) (import_at c t p2) x) p2)) (sym v)
          (joining r v)
      came r Recovering e = let v = now ∙ ap interrupted e in subst
          (λ (x : Standing). Rested head c at (with_turn at (comes_up t (client_of head c p2) (import_at c t p2) x) p2)) (sym v)
          (recovering r v)
      came r Serving e = let v = now ∙ ap interrupted e in subst
          (λ (x : Standing). Rested head c at (with_turn at (comes_up t (client_of head c p2) (import_at c t p2) x) p2)) (sym v)
          (recovering r v)

      by : (b : Bool) → nat_lt (import_of t k.imports).boot boot ≡ b → Rested head c at (with_turn at (up_heard t boot k b) p1)
      by false e = took
      by true e =
          subst (Rested head c at) (sym (followed head c stamp (Knows t boot ∷ [])
          (λ k. comes_up t k (import_of t k.imports) (import_of t k.imports).standing) p1))
          (subst (λ (i : Import). Rested head c at (with_turn at (comes_up t (client_of head c p2) i i.standing) p2))
          (sym (import_there head c stamp p2 t le)) (came (knows e) (standing_at c t p1) refl))
