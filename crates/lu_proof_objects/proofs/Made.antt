-- The state stays sound where a call changes an object, where other operations are queued, and where held locks only change places.
use Rattle.std.proofs.Common.{◌≡◌, ◌⊎◌, inl, inr, ⊎_elim, ℕ, zero, suc, ◌-◌, ◌≤◌, Bool, true, false, List, [], ◌∷◌, Option, Some, None}
use Rattle.std.proofs.Common.{refl, sym, ap, subst, ◌∙◌, arith}
use Rattle.std.specs.Prelude.{nat_eq, nat_lt, nat_le, ◌&&◌, is_some, if◌then◌else◌}
use Rattle.std.proofs.lemmas.Bool.Decides.{nat_tests}
use Rattle.std.proofs.lemmas.Bool.{and_parts, eqb-true}
use Rattle.lu_base.specs.declared.ids.Cookie.{Cookie}
use Rattle.lu_base.specs.declared.locks.Extent.{Extent}
use Rattle.lu_base.specs.declared.locks.Policy.TheVariants.{Range}
use Rattle.lu_base.specs.declared.locks.Resource.{Resource}
use Rattle.lu_lock.specs.Growth.{the_end}
use Rattle.lu_lock.specs.Overlap.{extents_meet}
use Rattle.lu_msg.specs.declared.operations.Op.{Op}
use Rattle.lu_msg.specs.declared.operations.Op.TheVariants as op
use Rattle.lu_held.specs.declared.locks.HeldLock.{HeldLock}
use Rattle.lu_held.specs.Locks.{same_resource}
use Rattle.lu_spec_machine.specs.Places.{RisingFrom, is_in, found_at, below}
use Rattle.lu_spec_machine.proofs.Places.{in_parts, in_whole, rising_laid, rising_below}
use Rattle.lu_spec_entries.specs.declared.changes.Flush.{Flush}
use Rattle.lu_spec_entries.specs.declared.changes.Flush.TheVariants as flush
use Rattle.lu_spec_entries.specs.Carried.{Queued}
use Rattle.lu_spec_entries.specs.Words.{Queues}
use Rattle.lu_spec_client.specs.Imports.{Import, imports_after}
use Rattle.lu_spec_client.specs.Patches.{Patch, Flying, fresh, written, ended, cut_over, has_change, in_flight, cut_extent, holds_extent}
use Rattle.lu_spec_client.specs.Caches.{with_object, patch_at, made}
use Rattle.lu_proof_bytes.specs.Object.Words.{overlay, within, value}
use Rattle.lu_proof_bytes.specs.Object.Folds as folds
use Rattle.lu_proof_bytes.specs.Object.Folds.{cut_by, dirty_by, dirty_cut}
use Rattle.lu_proof_bytes.proofs.Object.Spot.{run_out}
use Rattle.lu_proof_objects.specs.Points.{change_of, dirty_at}
use Rattle.lu_proof_objects.specs.Alike.{IsRange}
use Rattle.lu_proof_objects.proofs.Patches.{patch_made}
use Rattle.lu_proof_objects.specs.Sound.{In, IsOnce, Writer, Asked, writes_to, one_if, backs_to, IsUnder, IsBacked, IsAsked, IsSoundOf}
use Rattle.lu_proof_objects.proofs.Tables.{object_is, queued_asked, backs_queued}
use Rattle.lu_proof_objects.proofs.Changes.{Changed, changed_of, of_changed, meet_at, meet_end}
use Rattle.lu_proof_objects.proofs.Steps.{same_writer}

-- ---- the patch of an object

pub patch_with : (r s : Resource) (x : Patch) (m : List (Resource × Patch)) → (patch_at s (with_object r x m) ≡ patch_at s m)
    ⊎ ((r ≡ s) × (patch_at s (with_object r x m) ≡ x))
patch_with r s x [] = by (same_resource r s) refl
  where
    by : (v : Bool) → same_resource r s ≡ v → ((if v then x else patch_at s []) ≡ patch_at s [])
        ⊎ ((r ≡ s) × ((if v then x else patch_at s []) ≡ x))
    by true e = inr (object_is r s e, refl)
    by false e = inl refl
patch_with r s x (e ∷ m) = by (same_resource e.0 r) refl (same_resource e.0 s) refl (patch_with r s x m)
  where
    by : (u : Bool) → same_resource e.0 r ≡ u → (v : Bool) → same_resource e.0 s ≡ v
        → (patch_at s (with_object r x m) ≡ patch_at s m) ⊎ ((r ≡ s) × (patch_at s (with_object r x m) ≡ x))
        → (patch_at s (if u then (e.0, x) ∷ m else e ∷ with_object r x m) ≡ (if v then e.1 else patch_at s m))
        ⊎ ((r ≡ s) × (patch_at s (if u then (e.0, x) ∷ m else e ∷ with_object r x m) ≡ x))
    by true p true q more = inr (sym (object_is e.0 r p) ∙ object_is e.0 s q, rw q refl)
    by true p false q more = inl (rw q refl)
    by false p true q more = inl (rw q refl)
    by false p false q more = rw q more

-- ---- what a change leaves

ended_flight : (n : ℕ) (p : Patch) → (ended n p).flight ≡ p.flight
ended_flight zero p = refl
ended_flight (suc n) p = by (is_some (found_at p.dirty n))
  where
    by : (v : Bool) → (if v then p else written n (0 ∷ []) p).flight ≡ p.flight
    by true = refl
    by false = refl

ended_rises : (n : ℕ) (p : Patch) → RisingFrom 0 p.dirty → RisingFrom 0 (ended n p).dirty
ended_rises zero p r = r
ended_rises (suc n) p r = by (is_some (found_at p.dirty n))
  where
    by : (v : Bool) → RisingFrom 0 (if v then p else written n (0 ∷ []) p).dirty
    by true = r
    by false = rising_laid n (fresh (0 ∷ [])) p.dirty r

cut_flight : (n : ℕ) (q : Option ℕ) (p : Patch) → (cut_over n p q).flight ≡ p.flight
cut_flight n None p = refl
cut_flight n (Some q) p = by (nat_lt q n)
  where
    by : (v : Bool) → (if v then ended n p else record p { pending = Some n }).flight ≡ p.flight
    by true = ended_flight n p
    by false = refl

cut_rises : (n : ℕ) (q : Option ℕ) (p : Patch) → RisingFrom 0 p.dirty → RisingFrom 0 (cut_over n p q).dirty
cut_rises n None p r = r
cut_rises n (Some q) p r = by (nat_lt q n)
  where
    by : (v : Bool) → RisingFrom 0 (if v then ended n p else record p { pending = Some n }).dirty
    by true = ended_rises n p r
    by false = r

pub made_flight : (change : Flush) (p : Patch) → (made change p).flight ≡ p.flight
made_flight (flush.Put at bs) p = refl
made_flight (flush.Cut n) p = cut_flight n p.pending (record p { dirty = below n p.dirty })

pub made_rises : (change : Flush) (p : Patch) → RisingFrom 0 p.dirty → RisingFrom 0 (made change p).dirty
made_rises (flush.Put at bs) p r = rising_laid at (fresh bs) p.dirty r
made_rises (flush.Cut n) p r = cut_rises n p.pending (record p { dirty = below n p.dirty }) (rising_below 0 n p.dirty r)

-- ---- a change under a lock for writing

-- the extent is over all that the change may change
abbrev pub IsOver : Flush → Extent → Type 0
IsOver (flush.Put at bs) x = (p : ℕ) → within at bs p ≡ true → is_in x p ≡ true
IsOver (flush.Cut n) x = (holds_extent x (cut_extent n) ≡ true) × (n ≤ the_end)

-- a byte that is dirty after a change was so before, or lies under it
dirty_after : (change : Flush) (x : Extent) (q : Option ℕ) (p : ℕ) (d : Option ℕ) → IsOver change x
    → folds.is_some (dirty_by (change_of change) q p d) ≡ true → (folds.is_some d ≡ true) ⊎ (is_in x p ≡ true)
dirty_after (flush.Put at bs) x q p d over b = by (within at bs p) refl
  where
    by : (v : Bool) → within at bs p ≡ v → (folds.is_some d ≡ true) ⊎ (is_in x p ≡ true)
    by true w = inr (over p w)
    by false w = inl (ap (λ (o : Option ℕ). folds.is_some o) (sym (run_out at bs p d w)) ∙ b)
dirty_after (flush.Cut n) x None p d over b = by (nat_lt p n) b
  where
    by : (v : Bool) → folds.is_some (if v then d else None) ≡ true → (folds.is_some d ≡ true) ⊎ (is_in x p ≡ true)
    by true b = inl b
    by false b = absurd (cc)
dirty_after (flush.Cut n) x (Some q) p d over b = by (nat_lt p n) (nat_eq (suc p) n) refl (nat_lt q n) b
  where
    ends : nat_eq (suc p) n ≡ true → is_in x p ≡ true
    ends e =
        let h = and_parts (nat_le x.first (n - 1)) (nat_le the_end x.last) over.0 in
        let a = h.0 in
        let c = h.1 in
        let low = over.1 in
        let is : suc p ≡ n = eqb-true (suc p) n e in
        in_whole x p (from x.first (n - 1) p a (omega (arith, is))) (to x.last the_end p c (omega (arith, is, low)))
      where
        from : (a b p : ℕ) → nat_le a b ≡ true → b ≡ p → a ≤ p
        from a b p h e = grind (arith, nat_tests, h, e)

        to : (b z p : ℕ) → nat_le z b ≡ true → p ≤ z → p ≤ b
        to b z p h e = grind (arith, nat_tests, h, e)

    by : (u v : Bool) → nat_eq (suc p) n ≡ v → (w : Bool) → folds.is_some (if u then (if v && w then Some (value d) else d) else None)
        ≡ true → (folds.is_some d ≡ true) ⊎ (is_in x p ≡ true)
    by true true e true b = inr (ends e)
    by true true e false b = inl b
    by true false e w b = inl b
    by false v e w b = absurd (cc)

-- a cut that is pending after a change was so before, or is its own
cut_after : (change : Flush) (x : Extent) (q : Option ℕ) (size : ℕ) → IsOver change x → cut_by (change_of change) q ≡ Some size
    → (q ≡ Some size) ⊎ (holds_extent x (cut_extent size) ≡ true)
cut_after (flush.Put at bs) x q size over e = inl e
cut_after (flush.Cut n) x None size over e = inr (subst (λ (m : ℕ). holds_extent x (cut_extent m) ≡ true) (let s : n ≡ size = cc in s)
    over.0)
cut_after (flush.Cut n) x (Some q) size over e = by (nat_lt n q) e
  where
    by : (v : Bool) → (if v then Some n else Some q) ≡ Some size → (Some q ≡ Some size) ⊎ (holds_extent x (cut_extent size) ≡ true)
    by true e = inr (subst (λ (m : ℕ). holds_extent x (cut_extent m) ≡ true) (let s : n ≡ size = cc in s) over.0)
    by false e = inl e

-- what was dirty stays so, but behind a cut; and where a cut is told, one is pending
dirty_stays : (change : Flush) (q : Option ℕ) (p : ℕ) (d : Option ℕ) → folds.is_some d ≡ true
    → (folds.is_some (dirty_by (change_of change) q p d) ≡ true) ⊎ ((n : ℕ) × (change ≡ flush.Cut n) × (n ≤ p))
dirty_stays (flush.Put at bs) q p d b = by (within at bs p) refl
  where
    by : (v : Bool) → within at bs p ≡ v → (folds.is_some (overlay at bs p d) ≡ true)
        ⊎ ((n : ℕ) × (flush.Put at bs ≡ flush.Cut n) × (n ≤ p))
    by true w = inl (some_run at bs p d b)
      where
        some_run : (at : ℕ) (bs : List ℕ) (p : ℕ) (d : Option ℕ) → folds.is_some d ≡ true → folds.is_some (overlay at bs p d) ≡ true
        some_run at [] p d b = b
        some_run at (c ∷ bs) p d b = here (nat_eq at p) (some_run (suc at) bs p d b)
          where
            here : (v : Bool) → folds.is_some (overlay (suc at) bs p d) ≡ true
                → folds.is_some (if v then Some c else overlay (suc at) bs p d) ≡ true
            here true ih = refl
            here false ih = ih
    by false w = inl (ap (λ (o : Option ℕ). folds.is_some o) (run_out at bs p d w) ∙ b)
dirty_stays (flush.Cut n) None p d b = by (nat_lt p n) refl
  where
    by : (v : Bool) → nat_lt p n ≡ v → (folds.is_some (if v then d else None) ≡ true) ⊎ ((m : ℕ) × (flush.Cut n ≡ flush.Cut m) × (m ≤ p))
    by true e = inl b
    by false e = inr (n, refl, grind (arith, nat_tests))
dirty_stays (flush.Cut n) (Some q) p d b = by (nat_lt p n) refl (nat_eq (suc p) n && nat_lt q n)
  where
    by : (v : Bool) → nat_lt p n ≡ v → (w : Bool) → (folds.is_some (if v then (if w then Some (value d) else d) else None) ≡ true)
        ⊎ ((m : ℕ) × (flush.Cut n ≡ flush.Cut m) × (m ≤ p))
    by true e true = inl refl
    by true e false = inl b
    by false e w = inr (n, refl, grind (arith, nat_tests))

cut_there : (n : ℕ) (q : Option ℕ) → (size : ℕ) × (cut_by (change_of (flush.Cut n)) q ≡ Some size)
cut_there n None = (n, refl)
cut_there n (Some q) = by (nat_lt n q)
  where
    by : (v : Bool) → (size : ℕ) × ((if v then Some n else Some q) ≡ Some size)
    by true = (n, refl)
    by false = (q, refl)

cut_stays : (change : Flush) (q : Option ℕ) (size : ℕ) → q ≡ Some size → (m : ℕ) × (cut_by (change_of change) q ≡ Some m)
cut_stays (flush.Put at bs) q size e = (size, e)
cut_stays (flush.Cut n) q size e = cut_there n q

module _ (locks : List HeldLock) (patches : List (Resource × Patch)) (imports : List Import) (s : IsSoundOf locks patches imports) where
  -- the object's patch after the change
  module _ (r : Resource) (change : Flush) (w : Writer locks r (λ x. IsOver change x)) where
    abbrev old : Patch
    old = patch_at r patches

    abbrev new : Patch
    new = made change old

    pub under_made : IsUnder locks r new
    under_made =
        record {
          rises = made_rises change old (s.objects r).rises;
          dirty = λ p b.
              ⊎_elim (λ (d : folds.is_some (dirty_at old p) ≡ true). (s.objects r).dirty p d)
              (λ (i : is_in w.extent p ≡ true). record {
                lock = w.lock;
                held = w.held;
                object = w.object;
                mode = w.mode;
                extent = w.extent;
                range = w.range;
                over = i;
              })
              (dirty_after change w.extent old.pending p (dirty_at old p) w.over
              (ap (λ (o : Option ℕ). folds.is_some o) (sym (patch_made change old p).dirty) ∙ b));
          cut = λ size e.
              ⊎_elim (λ (q : old.pending ≡ Some size). (s.objects r).cut size q)
              (λ (i : holds_extent w.extent (cut_extent size) ≡ true). record
              { lock = w.lock; held = w.held; object = w.object; mode = w.mode; extent = w.extent; range = w.range; over = i })
              (cut_after change w.extent old.pending size w.over (sym (patch_made change old 0).pending ∙ e));
        }

    some_range : (a b : Extent) → Range a ≡ Range b → a ≡ b
    some_range a b e = cc

    at_end : (x : Extent) (n : ℕ) → IsRange x → holds_extent x (cut_extent n) ≡ true → x.last ≡ the_end
    at_end x n range h = by x.last the_end (and_parts (nat_le x.first (n - 1)) (nat_le the_end x.last) h).1 range.1
      where
        by : (a z : ℕ) → nat_le z a ≡ true → a ≤ z → a ≡ z
        by a z h i = grind (arith, nat_tests, h, i)

    -- two locks for writing that meet are one lock
    same_lock : {P Q : Extent → Type 0} (g : Writer locks r P) (v : Writer locks r Q) → extents_meet g.extent v.extent ≡ true → v.lock
        ≡ g.lock
    same_lock {P} {Q} g v m =
        same_writer locks patches imports s {P = Q} g.lock g.extent g.held g.range
        (record {
          lock = v.lock;
          held = v.held;
          object = v.object ∙ sym g.object;
          mode = v.mode;
          extent = v.extent;
          range = v.range;
          over =
              v.over;
        }) m

    -- a lock to the end is that of the pending cut
    end_has : {P : Extent → Type 0} (g : Writer locks r P) → g.extent.last ≡ the_end → (size : ℕ) → new.pending ≡ Some size
        → has_change g.extent new ≡ true
    end_has g last size e =
        let v = under_made.cut size e in
        let rg = s.ranges g.lock g.extent g.held g.range in
        let rv = s.ranges v.lock v.extent v.held v.range in
        let ev = at_end v.extent size rv v.over in
        let is : v.lock ≡ g.lock = same_lock g v (meet_end g.extent v.extent rg.0 rv.0 last (omega (arith, ev)) rv.1) in
        let same : v.extent ≡ g.extent = some_range v.extent g.extent (sym v.range ∙ ap (λ (h : HeldLock). h.lock.ask.policy) is ∙ g.range)
        in
        of_changed g.extent new (inl (size, e, ap (λ (x : Extent). holds_extent x (cut_extent size)) (sym same) ∙ v.over))

    pub made_changes : (g : Writer locks r (λ x. has_change x old ≡ true)) → has_change g.extent new ≡ true
    made_changes g = by (changed_of g.extent old g.over)
      where
        by : Changed g.extent old.pending (dirty_at old) → has_change g.extent new ≡ true
        by (inl (size, e, h)) =
            let m = cut_stays change old.pending size e in
            end_has g (at_end g.extent size (s.ranges g.lock g.extent g.held g.range) h) m.0 ((patch_made change old 0).pending ∙ m.1)
        by (inr (p, i, b)) =
            ⊎_elim (λ (d : folds.is_some (dirty_by (change_of change) old.pending p (dirty_at old p)) ≡ true). of_changed g.extent new
            (inr (p, i, ap (λ (o : Option ℕ). folds.is_some o) (patch_made change old p).dirty ∙ d)))
            (λ (c : (n : ℕ) × (change ≡ flush.Cut n) × (n ≤ p)). behind c.0 c.1 c.2)
            (dirty_stays change old.pending p (dirty_at old p) b)
          where
            -- the byte goes by a cut under its own lock
            behind : (n : ℕ) → change ≡ flush.Cut n → n ≤ p → has_change g.extent new ≡ true
            behind n is low =
                let over : IsOver (flush.Cut n) w.extent = subst (λ (c : Flush). IsOver c w.extent) is w.over in
                let rg = s.ranges g.lock g.extent g.held g.range in
                let rw_ = s.ranges w.lock w.extent w.held w.range in
                let last : w.extent.last ≡ the_end = at_end w.extent n rw_ over.0 in
                let held = and_parts (nat_le w.extent.first (n - 1)) (nat_le the_end w.extent.last) over.0 in
                let there : is_in w.extent p ≡ true = in_whole w.extent p (from w.extent.first n p held.0 low)
                (let a = (in_parts g.extent p i).1 in let c = rg.1 in omega (arith, a, c, last)) in
                let same : w.lock ≡ g.lock = same_lock g w (meet_at g.extent w.extent p i there) in
                let ext : w.extent ≡ g.extent = some_range w.extent g.extent
                (sym w.range ∙ ap (λ (h : HeldLock). h.lock.ask.policy) same ∙ g.range) in
                let m = cut_there n old.pending in
                end_has g (ap (λ (x : Extent). x.last) (sym ext) ∙ last) m.0
                ((patch_made change old 0).pending ∙ ap (λ (c : Flush). cut_by (change_of c) old.pending) is ∙ m.1)
              where
                from : (a n p : ℕ) → nat_le a (n - 1) ≡ true → n ≤ p → a ≤ p
                from a n p h l = grind (arith, nat_tests, h, l)

    -- what holds of an object's patch, and of what the change leaves of this object's, holds of each patch after it
    on_made : (z : Resource) (P : Patch → Type 0) → P (patch_at z patches) → (r ≡ z → P new) → P (patch_at z (with_object r new patches))
    on_made z P before now =
        ⊎_elim (λ (e : patch_at z (with_object r new patches) ≡ patch_at z patches). subst P (sym e) before)
        (λ (e : (r ≡ z) × (patch_at z (with_object r new patches) ≡ new)). subst P (sym e.1) (now e.0)) (patch_with r z new patches)

    -- what is asked still is so under a lock which has a change
    backed_made : (t : ℕ) (c : Cookie) (z : Resource) → IsBacked locks (patch_at z patches) t c z
        → IsBacked locks (patch_at z (with_object r new patches)) t c z
    backed_made t c z b = on_made z (λ p. IsBacked locks p t c z) b (λ e. again z e b)
      where
        again : (z : Resource) → r ≡ z → IsBacked locks (patch_at z patches) t c z → IsBacked locks new t c z
        again z e b =
            let g = b.under in
            record {
              under = record {
                lock = g.lock;
                held = g.held;
                object = g.object;
                mode = g.mode;
                extent = g.extent;
                range = g.range;
                over = made_changes mine;
              };
              target = b.target;
              cookie = b.cookie;
            }
          where
            mine : Writer locks r (λ x. has_change x old ≡ true)
            mine =
                let g = b.under in
                let over = ap (λ (y : Resource). has_change g.extent (patch_at y patches)) e ∙ g.over in
                record {
                  lock = g.lock;
                  held = g.held;
                  object = g.object ∙ sym e;
                  mode = g.mode;
                  extent = g.extent;
                  range = g.range;
                  over =
                      over;
                }

    -- and so is all that is asked
    asked_made : (t : ℕ) (o : Op) → IsAsked locks patches t o → IsAsked locks (with_object r new patches) t o
    asked_made t (op.Put z c at bytes) b = backed_made t c z b
    asked_made t (op.Cut z c size) b = backed_made t c z b
    asked_made t _ b = tt

    -- what is under way is what was
    single_made : backs_to r imports ≤ one_if (in_flight new)
    single_made = subst (λ (f : Option Flying). backs_to r imports ≤ one_if (is_some f)) (sym (made_flight change old)) (s.single r)

    -- the state is sound after the change
    pub sound_made : IsSoundOf locks (with_object r (made change (patch_at r patches)) patches) imports
    sound_made =
        record {
          once = s.once;
          ranges = s.ranges;
          apart = s.apart;
          objects = λ z. on_made z (IsUnder locks z) (s.objects z) (λ e. subst (λ (y : Resource). IsUnder locks y new) e under_made);
          asked = λ t o a. asked_made t o (s.asked t o a);
          single = λ z. on_made z (λ p. backs_to z imports ≤ one_if (in_flight p)) (s.single z)
              (λ e. subst (λ (y : Resource). backs_to y imports ≤ one_if (in_flight new)) e single_made);
        }

  -- ---- an operation is queued that writes nothing back

  pub sound_queue : (u : ℕ) (q : Queued) → ((r : Resource) → writes_to r q.op ≡ false) → ((t : ℕ) → IsAsked locks patches t q.op)
      → IsSoundOf locks patches (imports_after imports (Queues u q))
  sound_queue u q none fine =
      record {
        once = s.once;
        ranges = s.ranges;
        apart = s.apart;
        objects = s.objects;
        asked = λ t o a. ⊎_elim (λ (b : Asked imports t o). s.asked t o b)
            (λ (b : (u ≡ t) × (q.op ≡ o)). subst (IsAsked locks patches t) b.1 (fine t)) (queued_asked t u q o imports a);
        single = λ r. let more = backs_queued r u q imports in let few = s.single r in let zero_ : one_if (writes_to r q.op) ≡ 0 =
            ap one_if (none r) in omega (arith, more, few, zero_);
      }

  -- ---- the same locks in another order

  pub sound_order : (others : List HeldLock) → IsOnce others → ((h : HeldLock) → In h others → In h locks)
      → ((h : HeldLock) → In h locks → In h others) → IsSoundOf others patches imports
  sound_order others once back there =
      record {
        once = once;
        ranges = λ h x i. s.ranges h x (back h i);
        apart = λ h g x y i j. s.apart h g x y (back h i) (back g j);
        objects = λ r. record {
          rises = (s.objects r).rises;
          dirty = λ p b. writer ((s.objects r).dirty p b);
          cut = λ size e. writer ((s.objects r).cut size e);
        };
        asked = λ t o a. on_asked t o (s.asked t o a);
        single = s.single;
      }
    where
      writer : {r : Resource} {P : Extent → Type 0} (w : Writer locks r P) → Writer others r P
      writer w = record {
        lock = w.lock;
        held = there w.lock w.held;
        object = w.object;
        mode = w.mode;
        extent = w.extent;
        range = w.range;
        over = w.over;
      }

      on_asked : (t : ℕ) (o : Op) → IsAsked locks patches t o → IsAsked others patches t o
      on_asked t (op.Put r c at bytes) b = record { under = writer b.under; target = b.target; cookie = b.cookie }
      on_asked t (op.Cut r c size) b = record { under = writer b.under; target = b.target; cookie = b.cookie }
      on_asked t _ b = tt
