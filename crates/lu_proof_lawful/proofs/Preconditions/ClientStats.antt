-- How a stat of a file goes on for its size: it pins the locks under which all else of the file is known, none of which is marked, and
-- looks for
-- a lock on each of its objects. So a call that is told what is known pins its locks.
use Rattle.std.proofs.Common.{◌≡◌, ℕ, ◌+◌, List, [], ◌∷◌, ◌++◌, inl, inr, refl, sym, subst, ap, ◌∙◌}
use Rattle.lu_base.specs.declared.ids.Fid.{Fid}
use Rattle.lu_base.specs.declared.ids.At.{At}
use Rattle.lu_base.specs.declared.ids.Node.TheVariants.{Client}
use Rattle.lu_base.specs.declared.ids.Stamp.{Stamp}
use Rattle.lu_held.specs.declared.names.LockName.{LockName}
use Rattle.lu_spec_entries.specs.Carried.{Kind, Stats, Work, Running}
use Rattle.lu_spec_entries.specs.Words.{Entry, Line, line, with_turn, Pins}
use Rattle.lu_spec_client.specs.Advances.{acts}
use Rattle.lu_spec_client.specs.States.{Store, store_turn, store_at}
use Rattle.lu_spec_run.specs.Heads as table
use Rattle.lu_proof_lawful.proofs.Preconditions.Guards.{wanted_by, Owes}
use Rattle.lu_proof_lawful.proofs.Preconditions.Lists.{turn, turn_more}
use Rattle.lu_proof_lawful.proofs.Preconditions.CallMoves.{Ready, Went, ready_pins}
use Rattle.lu_proof_lawful.proofs.Preconditions.Covers.{covered_right}
use Rattle.lu_proof_lawful.proofs.Preconditions.ClientTakes.{Seeks, store_now, StatFor, Going, looks_good, stat_pinned}
use Rattle.lu_layout.specs.Raid0.{Raid0}
use Rattle.lu_held.specs.declared.locks.HeldLock.{HeldLock}
use Rattle.lu_spec_client.specs.Caches.{held_at}
use Rattle.lu_spec_client.specs.Facts.{facts_at}
use Rattle.lu_spec_client.specs.Facts.{facts_at}
use Rattle.lu_proof_lawful.specs.Covered.Known.{notes_at, known_answer}
use Rattle.lu_proof_lawful.proofs.Preconditions.ClientGood.{held_line}
use Rattle.lu_proof_lawful.proofs.Preconditions.ClientKnown.{AllUnmarked, unmarked_pinned, known_pinned}
use Rattle.lu_proof_lawful.proofs.Preconditions.ClientCalls.{covered_right}
use Rattle.lu_spec_client.specs.Starts.{looks_at, work_on, pins, with_pins, stats}
use Rattle.lu_proof_lawful.proofs.Preconditions.ClientReads.{acts_good}
use Rattle.lu_msg.specs.declared.calls.Call.{Call}

module _ (head : table.Head) (c : ℕ) (stamp : Stamp) where
  abbrev at : At
  at = turn stamp (Client c)

  -- ---- locks are pinned

  pub unmarked_line : (n : LockName) (names : List LockName) (p : List Line) → AllUnmarked (held_at c p) names
      → AllUnmarked (held_at c (line at (Pins n) ∷ p)) names
  unmarked_line n names p u = subst (λ (hs : List HeldLock). AllUnmarked hs names) (sym (held_line head c stamp p (Pins n)))
      (unmarked_pinned n (held_at c p) names u)

  -- what is known stays so
  pub known_pins : (names : List LockName) (p : List Line) (x : Call) → known_answer (notes_at c (with_turn at (pins names) p)) x
      ≡ known_answer (notes_at c p) x
  known_pins [] p x = refl
  known_pins (n ∷ names) p x =
      known_pins names (line at (Pins n) ∷ p) x
      ∙ ap (λ (hs : List HeldLock). known_answer (record { facts = facts_at c p; held = hs }) x) (held_line head c stamp p (Pins n))
      ∙ known_pinned (facts_at c p) n (held_at c p) x

  -- P: what may come next
  pub pins_ready : (P : Entry → Type 0) → ((n : LockName) → P (Pins n))
      → (slot : ℕ) (r : Running) (names : List LockName) (before p : List Line) → Ready head c stamp slot r before p
      → ((e : Entry) → P e → Owes p at e)
      → AllUnmarked (held_at c p) names → Ready head c stamp slot r before (with_turn at (pins names) p)
  pins_ready P any slot r [] before p y due u = y
  pins_ready P any slot r (n ∷ names) before p y due u =
      pins_ready P any slot r names before (line at (Pins n) ∷ p)
      (ready_pins head c stamp slot r n before p y (due (Pins n) (any n)) (inl (λ x i e. u n (inl refl) x i e)))
      (λ e s. (refl, due e s))
      (unmarked_line n names p (λ m i. u m (inr i)))

  pub pins_due : (P : Entry → Type 0) (names : List LockName) (p : List Line) → ((e : Entry) → P e → Owes p at e) → (e : Entry) → P e
      → Owes (with_turn at (pins names) p) at e
  pins_due P [] p due = due
  pins_due P (n ∷ names) p due = pins_due P names (line at (Pins n) ∷ p) (λ e s. (refl, due e s))

  pins_stat : (r : Running) (all : List LockName) (w : Work) (names : List LockName) (p : List Line) → StatFor head c stamp r all w p
      → StatFor head c stamp r all w (with_turn at (pins names) p)
  pins_stat r all w [] p d = d
  pins_stat r all w (n ∷ names) p d = pins_stat r all w names (line at (Pins n) ∷ p) (stat_pinned head c stamp r all all w n p (λ m i. i) d)

  -- ---- then it looks for those on its objects

  pub stat_goes : (slot : ℕ) (r : Running) (fid : Fid) (layout : Raid0) (mode links : ℕ) (names : List LockName) (before p : List Line)
      → Ready head c stamp slot r before p → ((e : Entry) → Seeks slot e → Owes p at e)
      → AllUnmarked (held_at c p) names → StatFor head c stamp r (r.pins ++ names) (work_on fid layout (Stats mode links)) p
      → Going head c stamp slot r before (stats at slot fid layout (Stats mode links) names r (store_at c p)) p
  stat_goes slot r fid layout mode links names before p y due u d covered =
      subst (Went head c stamp slot r before) (sym (turn_more at (pins names) (lines (store_turn (store_at c p) (pins names))) p))
      (subst (λ (s : Store). Going head c stamp slot r before (lines s) p1) (sym (store_now head c stamp (pins names) p)) on
      (covered_right (pins names) (lines (store_turn (store_at c p) (pins names))) covered))
    where
      kind : Kind
      kind = Stats mode links

      work : Work
      work = work_on fid layout kind

      p1 : List Line
      p1 = with_turn at (pins names) p

      lines : Store → List Entry
      lines s = looks_at at slot kind (with_pins names r) work s

      on : Going head c stamp slot r before (lines (store_at c p1)) p1
      on =
          looks_good head c stamp slot r kind (acts at slot kind) before (acts_good head c stamp slot r kind before tt) (wanted_by work)
          (r.pins ++ names) work p1 (record {
            ready = pins_ready (Seeks slot) (λ n. tt) slot r names before p y due u;
            due = pins_due (Seeks slot) names p due;
            of_kind = refl;
            does = inr (inl (pins_stat r (r.pins ++ names) work names p d));
            rest = refl;
            order = refl;
            mine = λ v i. absurd i;
            objects = λ v i. absurd i;
            had = λ v i. absurd i;
            uses = λ v i. absurd i;
          })
