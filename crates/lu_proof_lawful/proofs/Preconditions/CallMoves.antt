-- A call of a client moves: its lines leave the calls of other slots, the life, and each change of an object. While it looks for its locks
-- it
-- pins and unpins them; in the end it asks and is at rest, or is told and leaves its slot.
use Rattle.std.proofs.Common.{◌≡◌, ℕ, ◌<◌, Bool, true, false, List, [], ◌∷◌, ◌⊎◌, inl, inr, Option, Some, None, refl, sym, ap, ◌∙◌}
use Rattle.std.specs.Prelude.{nat_eq}
use Rattle.std.proofs.lemmas.Bool.{eqb-true}
use Rattle.lu_base.specs.declared.ids.At.{At}
use Rattle.lu_base.specs.declared.ids.Cookie.{Cookie}
use Rattle.lu_base.specs.declared.ids.Node.TheVariants.{Client}
use Rattle.lu_base.specs.declared.ids.Stamp.{Stamp}
use Rattle.lu_base.specs.declared.ids.Who.{Who}
use Rattle.lu_base.specs.declared.locks.Resource.{Resource}
use Rattle.lu_msg.specs.declared.answers.Answer.{Answer}
use Rattle.lu_msg.specs.declared.operations.Op.{Op}
use Rattle.lu_held.specs.declared.names.LockName.{LockName}
use Rattle.lu_spec_entries.specs.declared.changes.Flush.{Flush}
use Rattle.lu_spec_entries.specs.Carried.{Asked, Work, Running}
use Rattle.lu_spec_entries.specs.Words.{Entry, Told, Queues, Stands, Pins, Unpins, Changes, Shows, Line, line, with_turn}
use Rattle.lu_spec_client.specs.Advances.{unpins, queued_for}
use Rattle.lu_spec_client.specs.Caches.{patches_at}
use Rattle.lu_spec_client.specs.Patches.{Patch}
use Rattle.lu_spec_client.specs.Calls.{asks_for}
use Rattle.lu_proof_lawful.specs.Covered.Calls.{call_at, life_at}
use Rattle.lu_proof_lawful.specs.Covered.Runs.{IsCovered}
use Rattle.lu_spec_run.specs.Heads as table
use Rattle.lu_proof_lawful.proofs.Preconditions.Guards.{NamesAskOk, SizeAskOk, LockAskOk, GetAskOk, StandsOk, TellsOk, PinsOk, ChangesOk}
use Rattle.lu_proof_lawful.proofs.Preconditions.Guards.{ShowsOk, Owes}
use Rattle.lu_proof_lawful.proofs.Preconditions.ClientStoryGuards.{AsksInOrder}
use Rattle.lu_proof_lawful.proofs.Preconditions.Lists.{self, turn}
use Rattle.lu_proof_lawful.proofs.Preconditions.Turns.{Settled, owes_nothing}
use Rattle.lu_proof_lawful.proofs.Preconditions.ClientHandles.{Tied}
use Rattle.lu_proof_lawful.proofs.Preconditions.CallStands.{Resting, Lasts}
use Rattle.lu_proof_lawful.proofs.Preconditions.Patched.{lasts_more, lasts_made}
use Rattle.lu_proof_lawful.proofs.Preconditions.ClientGood.{Good, adds, call_line}

module _ (head : table.Head) (c : ℕ) (stamp : Stamp) where
  abbrev pub at : At
  at = turn stamp (Client c)

  -- ---- what the lines of one slot leave

  pub apart : (s slot : ℕ) → (slot ≡ s → ⊥) → nat_eq s slot ≡ false
  apart s slot f = by (nat_eq s slot) refl
    where
      by : (b : Bool) → nat_eq s slot ≡ b → b ≡ false
      by true e = absurd (f (sym (eqb-true s slot e)))
      by false e = refl

  pub record Kept (slot : ℕ) (p q : List Line) : Type 0 where
    pub same : (s : ℕ) → (s ≡ slot → ⊥) → call_at c s q ≡ call_at c s p
    pub life : life_at c q ≡ life_at c p
    pub lasts : Lasts (patches_at c p) (patches_at c q)

  pub kept_start : (slot : ℕ) (p : List Line) → Kept slot p p
  kept_start slot p = record { same = λ s n. refl; life = refl; lasts = λ r h. h }

  pub kept_more : (slot : ℕ) (p q r : List Line) → Kept slot p q → Kept slot q r → Kept slot p r
  kept_more slot p q r a b =
      record {
        same = λ s n. b.same s n ∙ a.same s n;
        life = b.life ∙ a.life;
        lasts =
            lasts_more (patches_at c p) (patches_at c q) (patches_at c r) a.lasts b.lasts;
      }

  -- a line of the call on that slot
  pub kept_stands : (slot : ℕ) (r : Running) (p : List Line) → Kept slot p (line at (Stands slot r) ∷ p)
  kept_stands slot r p = record {
    same = λ s n. call_line head c stamp s p (Stands slot r) ∙ rw (apart slot s n) refl;
    life = refl;
    lasts =
        λ x h. h;
  }

  pub kept_asks : (slot t : ℕ) (o : Op) (p : List Line) → Kept slot p (line at (Queues t (queued_for slot o)) ∷ p)
  kept_asks slot t o p = record {
    same = λ s n. call_line head c stamp s p (Queues t (queued_for slot o)) ∙ rw (apart slot s n) refl;
    life =
        refl;
    lasts = λ x h. h;
  }

  pub kept_told : (slot : ℕ) (t : At) (a : Answer) (w : Option Work) (p : List Line) → Kept slot p (line at (Told slot t a w) ∷ p)
  kept_told slot t a w p = record {
    same = λ s n. call_line head c stamp s p (Told slot t a w) ∙ rw (apart slot s n) refl;
    life = refl;
    lasts = λ x h. h;
  }

  -- ---- a call that may go on

  -- before: where it begins to move. It waits for no reply, and stands so where the client's lines have it
  pub record Ready (slot : ℕ) (r : Running) (before p : List Line) : Type 0 where
    pub good : Good head c at p
    pub small : slot < 4
    pub call : call_at c slot p ≡ Some r
    pub handles : Tied c p
    pub still : r.asking ≡ Asked → ⊥
    pub kept : Kept slot before p

  pub ready_pins : (slot : ℕ) (r : Running) (n : LockName) (before p : List Line) → Ready slot r before p → Owes p at (Pins n)
      → PinsOk p c n → Ready slot r before (line at (Pins n) ∷ p)
  ready_pins slot r n before p y owes ok =
      record {
        good = adds head c stamp p (Pins n) y.good owes ok (λ t q. tt) tt refl;
        small = y.small;
        call = y.call;
        handles = y.handles;
        still = y.still;
        kept = record { same = y.kept.same; life = y.kept.life; lasts = y.kept.lasts };
      }

  pub ready_unpins : (slot : ℕ) (r : Running) (n : LockName) (before p : List Line) → Ready slot r before p → Owes p at (Unpins n)
      → Ready slot r before (line at (Unpins n) ∷ p)
  ready_unpins slot r n before p y owes =
      record {
        good = adds head c stamp p (Unpins n) y.good owes tt (λ t q. tt) tt refl;
        small = y.small;
        call = y.call;
        handles = y.handles;
        still = y.still;
        kept = record { same = y.kept.same; life = y.kept.life; lasts = y.kept.lasts };
      }

  pub ready_changes : (slot : ℕ) (r : Running) (resource : Resource) (change : Flush) (before p : List Line) → Ready slot r before p
      → Owes p at (Changes resource change) → ChangesOk p at c resource change
      → Ready slot r before (line at (Changes resource change) ∷ p)
  ready_changes slot r resource change before p y owes ok =
      record {
        good = adds head c stamp p (Changes resource change) y.good owes ok (λ t q. tt) tt refl;
        small = y.small;
        call = y.call;
        handles = y.handles;
        still = y.still;
        kept = record {
          same = y.kept.same;
          life = y.kept.life;
          lasts =
              lasts_more (patches_at c before) (patches_at c p) (patches_at c (line at (Changes resource change) ∷ p)) y.kept.lasts
              (lasts_made c stamp p resource change);
        };
      }

  pub ready_shows : (slot : ℕ) (r : Running) (resource : Resource) (cookie : Cookie) (last : ℕ) (before p : List Line)
      → Ready slot r before p → Owes p at (Shows resource cookie last) → ShowsOk p at c resource cookie last
      → Ready slot r before (line at (Shows resource cookie last) ∷ p)
  ready_shows slot r resource cookie last before p y owes ok =
      record {
        good = adds head c stamp p (Shows resource cookie last) y.good owes ok (λ t q. tt) tt refl;
        small = y.small;
        call = y.call;
        handles = y.handles;
        still = y.still;
        kept = record { same = y.kept.same; life = y.kept.life; lasts = y.kept.lasts };
      }

  -- ---- it moved

  -- it is told, or it is at rest, the same call of the same file
  pub record RestsAs (slot : ℕ) (r : Running) (q : List Line) : Type 0 where
    pub now : Running
    pub call : call_at c slot q ≡ Some now
    pub same : now.call ≡ r.call
    pub file : now.file ≡ r.file
    pub rests : Resting (life_at c q) (patches_at c q) now

  pub record Went (slot : ℕ) (r : Running) (before q : List Line) : Type 0 where
    pub good : Good head c at q
    pub settled : Settled q
    pub handles : Tied c q
    pub kept : Kept slot before q
    pub own : (call_at c slot q ≡ None) ⊎ RestsAs slot r q

  -- one that was told unpins its locks
  pub record Left (slot : ℕ) (before q : List Line) : Type 0 where
    pub good : Good head c at q
    pub settled : Settled q
    pub handles : Tied c q
    pub kept : Kept slot before q
    pub none : call_at c slot q ≡ None

  left_unpins : (slot : ℕ) (names : List LockName) (before q : List Line) → Left slot before q
      → Left slot before (with_turn at (unpins names) q)
  left_unpins slot [] before q w = w
  left_unpins slot (n ∷ names) before q w =
      left_unpins slot names before (line at (Unpins n) ∷ q) (record {
        good = adds head c stamp q (Unpins n) w.good (owes_nothing q at (Unpins n) w.settled) tt (λ t q. tt) tt refl;
        settled = w.settled;
        handles = w.handles;
        kept = record { same = w.kept.same; life = w.kept.life; lasts = w.kept.lasts };
        none = w.none;
      })

  pub left_told : (slot : ℕ) (t : At) (a : Answer) (w : Option Work) (names : List LockName) (before p : List Line) → Good head c at p
      → Kept slot before p → Owes p at (Told slot t a w) → TellsOk p at c slot t a w
      → Tied c (line at (Told slot t a w) ∷ p) → Left slot before (with_turn at (unpins names) (line at (Told slot t a w) ∷ p))
  left_told slot t a w names before p good kept owes ok tied =
      let q = line at (Told slot t a w) ∷ p in
      left_unpins slot names before q (record {
        good = adds head c stamp p (Told slot t a w) good owes ok (λ t q. tt) tt refl;
        settled = tt;
        handles = tied;
        kept = kept_more slot before p q kept (kept_told slot t a w p);
        none = call_line head c stamp slot p (Told slot t a w) ∙ rw (self slot) refl;
      })

  pub went_told : (slot : ℕ) (r : Running) (t : At) (a : Answer) (w : Option Work) (names : List LockName) (before p : List Line)
      → Ready slot r before p → Owes p at (Told slot t a w) → TellsOk p at c slot t a w
      → Tied c (line at (Told slot t a w) ∷ p) → Went slot r before (with_turn at (unpins names) (line at (Told slot t a w) ∷ p))
  went_told slot r t a w names before p y owes ok tied =
      let l = left_told slot t a w names before p y.good y.kept owes ok tied in
      record { good = l.good; settled = l.settled; handles = l.handles; kept = l.kept; own = inl l.none }

  -- it stands further on, and asks
  pub went_asks : (slot : ℕ) (r now : Running) (t : ℕ) (o : Op) (before p : List Line) → Ready slot r before p → now.call ≡ r.call
      → now.file ≡ r.file → Owes p at (Stands slot now) → StandsOk p at c slot now
      → IsCovered (Stands slot now)
      → Owes (line at (Stands slot now) ∷ p) at (Queues t (queued_for slot o))
      → (let p1 = line at (Stands slot now) ∷ p in NamesAskOk p1 c t now o ⊎ SizeAskOk t now o ⊎ LockAskOk t now o ⊎ GetAskOk p1 c t now o)
      → AsksInOrder o → ((who : Who) (patches : List (Resource × Patch)) → Resting who patches (record now { asking = Asked }))
      → Went slot r before (with_turn at (Stands slot now ∷ Queues t (queued_for slot o) ∷ []) p)
  went_asks slot r now t o before p y call file owes ok covered owed asks order rests =
      record {
        good = adds head c stamp p1 e stood owed (inl (record { slot = slot; serves = refl; running = now; call = stands; asks = asks }))
            (λ t q. order) tt refl;
        settled = tt;
        handles = y.handles;
        kept = kept_more slot before p1 p2 (kept_more slot before p p1 y.kept (kept_stands slot now p)) (kept_asks slot t o p1);
        own = inr (record {
          now = record now { asking = Asked };
          call = asked;
          same = call;
          file = file;
          rests =
              rests (life_at c p2) (patches_at c p2);
        });
      }
    where
      p1 : List Line
      p1 = line at (Stands slot now) ∷ p

      e : Entry
      e = Queues t (queued_for slot o)

      p2 : List Line
      p2 = line at e ∷ p1

      stood : Good head c at p1
      stood = adds head c stamp p (Stands slot now) y.good owes ok (λ t q. tt) covered refl

      stands : call_at c slot p1 ≡ Some now
      stands = call_line head c stamp slot p (Stands slot now) ∙ rw (self slot) refl

      asked : call_at c slot p2 ≡ Some (record now { asking = Asked })
      asked = call_line head c stamp slot p1 e ∙ ap (asks_for (Some slot) slot Asked) stands ∙ rw (self slot) refl
