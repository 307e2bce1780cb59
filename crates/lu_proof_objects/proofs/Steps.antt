-- The state stays sound where a lock goes, where a change is taken and queued, and where locks are marked.
use Rattle.std.proofs.Common.{◌≡◌, ◌⊎◌, inl, inr, ⊎_elim, ℕ, suc, ◌+◌, ◌-◌, ◌<◌, ◌≤◌, Bool, true, false, List, map, Option, Some, None}
use Rattle.std.proofs.Common.{refl, sym, ap, subst, ◌∙◌, arith}
use Rattle.std.specs.Prelude.{nat_eq, nat_lt, nat_le, ◌||◌, not, is_some, if◌then◌else◌}
use Rattle.std.proofs.lemmas.Bool.Decides.{nat_tests}
use Rattle.std.proofs.lemmas.Bool.{and_parts, eqb-true}
use Rattle.lu_base.specs.declared.ids.Cookie.{Cookie}
use Rattle.lu_base.specs.declared.ids.TargetId.{TargetId}
use Rattle.lu_base.specs.declared.locks.Extent.{Extent}
use Rattle.lu_base.specs.declared.locks.Lock.{Lock}
use Rattle.lu_base.specs.declared.locks.Mode.{Mode}
use Rattle.lu_base.specs.declared.locks.Mode.TheVariants.{EX, PW, PR, CW, CR, NL}
use Rattle.lu_base.specs.declared.locks.Policy.TheVariants.{Range}
use Rattle.lu_base.specs.declared.locks.Resource.{Resource}
use Rattle.lu_lock.specs.Growth.{the_end}
use Rattle.lu_lock.specs.Overlap.{extents_meet}
use Rattle.lu_msg.specs.declared.operations.Op.{Op}
use Rattle.lu_msg.specs.declared.operations.Op.TheVariants as op
use Rattle.lu_held.specs.declared.locks.HeldLock.{HeldLock}
use Rattle.lu_held.specs.Locks.{name_of, is_named, same_resource}
use Rattle.lu_held.specs.Held.{without}
use Rattle.lu_spec_machine.specs.Places.{is_in}
use Rattle.lu_spec_machine.proofs.Places.{in_parts, in_whole}
use Rattle.lu_spec_entries.specs.declared.changes.Flush.{Flush}
use Rattle.lu_spec_entries.specs.declared.changes.Flush.TheVariants as flush
use Rattle.lu_spec_entries.specs.Carried.{Queued}
use Rattle.lu_spec_entries.specs.Words.{Queues}
use Rattle.lu_spec_client.specs.Imports.{Import, imports_after}
use Rattle.lu_spec_client.specs.Patches.{Patch, Flying, clean, flown, next_flush, has_change, in_flight, cut_extent, holds_extent}
use Rattle.lu_spec_client.specs.Caches.{on_object, patch_at}
use Rattle.lu_spec_client.specs.WriteBack.{operation}
use Rattle.lu_proof_bytes.specs.Object.Words.{covers, not_above}
use Rattle.lu_proof_bytes.specs.Object.Folds as folds
use Rattle.lu_proof_bytes.specs.Object.Folds.{cut_below, touched}
use Rattle.lu_proof_objects.specs.Points.{dirty_at, is_write, last_of, lock_at}
use Rattle.lu_proof_objects.specs.Alike.{Carries, IsRange}
use Rattle.lu_proof_objects.proofs.Patches.{patch_taken}
use Rattle.lu_proof_objects.specs.Sound.{In, IsOnce, Writer, AreApart, Asked, names, writes_to, one_if, backs_to, IsUnder, IsBacked}
use Rattle.lu_proof_objects.specs.Sound.{IsPinned, IsAsked, IsSoundOf, AreGetsPinned}
use Rattle.lu_proof_objects.proofs.Lists.{self, in_map, in_mapped, one_name, once_filter, once_map, without_only, without_other}
use Rattle.lu_proof_objects.proofs.Tables.{object_is, object_self, patch_on, patch_on_there, queued_asked, backs_queued}
use Rattle.lu_proof_objects.proofs.Changes.{Changed, changed_of, of_changed, taken_changes, flown_rises, flown_flies, next_changes}
use Rattle.lu_proof_objects.proofs.Changes.{none_next, meet_at, meet_end, cuts_meet}

-- ---- of two locks that meet one is for writing

pub writes_is : (m : Mode) → is_write m ≡ true → m ≡ PW
writes_is PW e = refl
writes_is EX e = absurd (cc)
writes_is PR e = absurd (cc)
writes_is CW e = absurd (cc)
writes_is CR e = absurd (cc)
writes_is NL e = absurd (cc)

or_second : (a b : Bool) → b ≡ true → (a || b) ≡ true
or_second true b e = refl
or_second false b e = e

-- a held lock that meets a lock for writing of its object is that lock
module _ (locks : List HeldLock) (patches : List (Resource × Patch)) (imports : List Import) (s : IsSoundOf locks patches imports) where
  pub same_writer : {P : Extent → Type 0} (h : HeldLock) (x : Extent) → In h locks → h.lock.ask.policy ≡ Range x
      → (w : Writer locks h.lock.resource P) → extents_meet x w.extent ≡ true → w.lock ≡ h
  same_writer h x i e w m = sym (s.apart h w.lock x w.extent i w.held (sym w.object) e w.range
      (or_second (is_write h.lock.ask.mode) (is_write w.lock.lock.ask.mode) (ap is_write w.mode)) m)

  -- ---- a lock under which nothing changed

  -- without a look at the patch, where the lock isn't for writing
  pub reader_clean : (h : HeldLock) (x : Extent) → In h locks → h.lock.ask.policy ≡ Range x → is_write h.lock.ask.mode ≡ false
      → has_change x (patch_at h.lock.resource patches) ≡ false
  reader_clean h x i e reads = by (has_change x (patch_at h.lock.resource patches)) refl
    where
      patch : Patch
      patch = patch_at h.lock.resource patches

      refuted : {P : Extent → Type 0} (w : Writer locks h.lock.resource P) → extents_meet x w.extent ≡ true → ⊥
      refuted w m = let a : is_write h.lock.ask.mode ≡ true = ap (λ (g : HeldLock). is_write g.lock.ask.mode)
          (sym (same_writer h x i e w m)) ∙ ap is_write w.mode in let q : true ≡ false = sym a ∙ reads in cc

      under : Changed x patch.pending (dirty_at patch) → ⊥
      under (inl (size, c, l)) =
          let w = (s.objects h.lock.resource).cut size c in refuted w
          (cuts_meet x w.extent size (s.ranges h x i e) (s.ranges w.lock w.extent w.held w.range) l w.over)
      under (inr (p, j, b)) = let w = (s.objects h.lock.resource).dirty p b in refuted w (meet_at x w.extent p j w.over)

      by : (v : Bool) → has_change x patch ≡ v → v ≡ false
      by false c = refl
      by true c = absurd (under (changed_of x patch c))

  -- a position that a held lock covers under which nothing changed
  module _ (h : HeldLock) (x : Extent) (i : In h locks) (e : h.lock.ask.policy ≡ Range x)
      (none : (y : Extent) → h.lock.ask.policy ≡ Range y → has_change y (patch_at h.lock.resource patches) ≡ false)
      (life p : ℕ) (c : covers (lock_at h.lock.cookie.0 life h.lock.ask.mode x) p ≡ true) where
    abbrev its_patch : Patch
    its_patch = patch_at h.lock.resource patches

    -- its range is one of a lock
    its_range : IsRange x
    its_range = s.ranges h x i e

    -- a lock for writing that it meets has no change
    none_meets : {P : Extent → Type 0} (w : Writer locks h.lock.resource P) → extents_meet x w.extent ≡ true → has_change w.extent its_patch
        ≡ true → ⊥
    none_meets w m t = let f = none w.extent (ap (λ (g : HeldLock). g.lock.ask.policy) (sym (same_writer h x i e w m)) ∙ w.range)
        in let q : true ≡ false = sym t ∙ f in cc

    -- it is no lower than the first offset, and no higher than the last
    covered_parts : (nat_lt x.first (suc p) ≡ true) × (not_above p (last_of x.last) ≡ true)
    covered_parts = and_parts (nat_lt x.first (suc p)) (not_above p (last_of x.last)) c

    -- it lies in the extent, or the extent reaches the end
    covered_place : (is_in x p ≡ true) ⊎ (x.last ≡ the_end)
    covered_place = here (nat_eq x.last the_end) refl covered_parts.1
      where
        here : (v : Bool) → nat_eq x.last the_end ≡ v → not_above p (if v then None else Some x.last) ≡ true → (is_in x p ≡ true)
            ⊎ (x.last ≡ the_end)
        here true q a = inr (eqb-true x.last the_end q)
        here false q a = let f = covered_parts.0 in inl (in_whole x p (grind (arith, nat_tests, f)) (grind (arith, nat_tests, a)))

    -- no byte there is dirty
    none_dirty : folds.is_some (dirty_at its_patch p) ≡ true → ⊥
    none_dirty b = at_place covered_place
      where
        w : Writer locks h.lock.resource (λ y. is_in y p ≡ true)
        w = (s.objects h.lock.resource).dirty p b

        low : p ≤ the_end
        low = let a = (in_parts w.extent p w.over).1 in let l = (s.ranges w.lock w.extent w.held w.range).1 in omega (arith, a, l)

        inside_it : is_in x p ≡ true → ⊥
        inside_it j = none_meets w (meet_at x w.extent p j w.over) (of_changed w.extent its_patch (inr (p, w.over, b)))

        at_place : (is_in x p ≡ true) ⊎ (x.last ≡ the_end) → ⊥
        at_place (inl j) = inside_it j
        at_place (inr l) = inside_it (let f = covered_parts.0 in in_whole x p (grind (arith, nat_tests, f)) (omega (arith, low, l)))

    -- no cut is pending below it, nor right behind it
    none_cut : (q : Option ℕ) → its_patch.pending ≡ q → cut_below q (suc p) ≡ true → ⊥
    none_cut None n b = cc
    none_cut (Some size) n b = at_place covered_place
      where
        w : Writer locks h.lock.resource (λ y. holds_extent y (cut_extent size) ≡ true)
        w = (s.objects h.lock.resource).cut size n

        range_w : IsRange w.extent
        range_w = s.ranges w.lock w.extent w.held w.range

        held : (nat_le w.extent.first (size - 1) ≡ true) × (nat_le the_end w.extent.last ≡ true)
        held = and_parts (nat_le w.extent.first (size - 1)) (nat_le the_end w.extent.last) w.over

        has : has_change w.extent its_patch ≡ true
        has = of_changed w.extent its_patch (inl (size, n, w.over))

        from_it : (a : ℕ) → nat_le a (size - 1) ≡ true → nat_lt size (suc (suc p)) ≡ true → a ≤ p
        from_it a f g = grind (arith, nat_tests, f, g)

        to_it : (a b c : ℕ) → nat_le a b ≡ true → c ≤ a → c ≤ b
        to_it a b c f g = grind (arith, nat_tests, f, g)

        at_place : (is_in x p ≡ true) ⊎ (x.last ≡ the_end) → ⊥
        at_place (inl j) =
            let high = (in_parts x p j).1 in
            let end = its_range.1 in
            let there = in_whole w.extent p (from_it w.extent.first held.0 b)
            (to_it the_end w.extent.last p held.1 (omega (arith, high, end))) in
            none_meets w (meet_at x w.extent p j there) has
        at_place (inr l) = none_meets w (meet_end x w.extent its_range.0 range_w.0 l
            (to_it the_end w.extent.last the_end held.1 (omega arith)) range_w.1) has

    -- nothing of the patch is under the lock, nor right behind a byte under it
    pub clean_touched : touched (patch_at h.lock.resource patches).pending (dirty_at (patch_at h.lock.resource patches) p) p ≡ false
    clean_touched = by (folds.is_some (dirty_at its_patch p)) refl (cut_below its_patch.pending (suc p)) refl
      where
        by : (u : Bool) → folds.is_some (dirty_at its_patch p) ≡ u → (v : Bool) → cut_below its_patch.pending (suc p) ≡ v → (u || v) ≡ false
        by true d v b = absurd (none_dirty d)
        by false d true b = absurd (none_cut its_patch.pending refl b)
        by false d false b = refl

  -- nothing that is asked of its target names it
  pub none_names : (h : HeldLock) → In h locks → h.pins ≡ 0 → ((x : Extent) → h.lock.ask.policy ≡ Range x
      → has_change x (patch_at h.lock.resource patches) ≡ false)
      → AreGetsPinned locks imports → (o : Op) → Asked imports h.target.0 o → names o h.lock.cookie ≡ false
  none_names h i free none gets o a = by o a (s.asked h.target.0 o a)
    where
      named_is : (g : HeldLock) (c : Cookie) → In g locks → g.target.0 ≡ h.target.0 → g.lock.cookie ≡ c → nat_eq c.0 h.lock.cookie.0 ≡ true
          → g ≡ h
      named_is g c j t k e =
          let one : nat_eq g.target.0 h.target.0 ≡ true = ap (λ (n : ℕ). nat_eq n h.target.0) t ∙ self h.target.0 in
          let two : nat_eq g.lock.cookie.0 h.lock.cookie.0 ≡ true = ap (λ (d : Cookie). nat_eq d.0 h.lock.cookie.0) k ∙ e in
          one_name g h locks s.once j i (rw (one, two) refl)

      pinned : (c : Cookie) → IsPinned locks h.target.0 c → (v : Bool) → nat_eq c.0 h.lock.cookie.0 ≡ v → v ≡ false
      pinned c b false e = refl
      pinned c b true e = absurd (let p : b.lock.pins ≡ 0 = ap (λ (g : HeldLock). g.pins) (named_is b.lock c b.held b.target b.cookie e)
          ∙ free in let q = b.pinned in omega (arith, p, q))

      backed : (c : Cookie) (r : Resource) → IsBacked locks (patch_at r patches) h.target.0 c r → (v : Bool) → nat_eq c.0 h.lock.cookie.0
          ≡ v → v ≡ false
      backed c r b false e = refl
      backed c r b true e =
          absurd (
          let is : b.under.lock ≡ h = named_is b.under.lock c b.under.held b.target b.cookie e in
          let r_is : r ≡ h.lock.resource = sym b.under.object ∙ ap (λ (g : HeldLock). g.lock.resource) is in
          let f : has_change b.under.extent (patch_at h.lock.resource patches) ≡ false =
          none b.under.extent (ap (λ (g : HeldLock). g.lock.ask.policy) (sym is) ∙ b.under.range) in
          let t : has_change b.under.extent (patch_at h.lock.resource patches) ≡ true =
          ap (λ (z : Resource). has_change b.under.extent (patch_at z patches)) (sym r_is) ∙ b.under.over in
          let q : true ≡ false = sym t ∙ f in
          cc)

      by : (o : Op) → Asked imports h.target.0 o → IsAsked locks patches h.target.0 o → names o h.lock.cookie ≡ false
      by (op.Get r c page) a b = pinned c (gets h.target.0 r c page a) (nat_eq c.0 h.lock.cookie.0) refl
      by (op.Put r c at bytes) a b = backed c r b (nat_eq c.0 h.lock.cookie.0) refl
      by (op.Cut r c size) a b = backed c r b (nat_eq c.0 h.lock.cookie.0) refl
      by _ a b = refl

  -- ---- a lock goes

  pub sound_without : (h : HeldLock) → In h locks → h.pins ≡ 0 → ((x : Extent) → h.lock.ask.policy ≡ Range x
      → has_change x (patch_at h.lock.resource patches) ≡ false)
      → IsSoundOf (without (name_of h) locks) patches imports
  sound_without h i free none =
      record {
        once = once_filter (λ (g : HeldLock). not (is_named (name_of h) g)) locks s.once;
        ranges = λ g x j. s.ranges g x (without_only (name_of h) g locks j).0;
        apart = λ g f x y j l. s.apart g f x y (without_only (name_of h) g locks j).0 (without_only (name_of h) f locks l).0;
        objects = λ r. record {
          rises = (s.objects r).rises;
          dirty = λ p b. let w = (s.objects r).dirty p b in stays w
              (λ e. has w e (of_changed w.extent (patch_at r patches) (inr (p, w.over, b))));
          cut = λ size e. let w = (s.objects r).cut size e in stays w
              (λ q. has w q (of_changed w.extent (patch_at r patches) (inl (size, e, w.over))));
        };
        asked = λ t o a. on_asked t o (s.asked t o a);
        single = s.single;
      }
    where
      other : (g : HeldLock) → (g ≡ h → ⊥) → In g locks → In g (without (name_of h) locks)
      other g refuted j = by (is_named (name_of h) g) refl
        where
          by : (v : Bool) → is_named (name_of h) g ≡ v → In g (without (name_of h) locks)
          by true e = absurd (refuted (sym (one_name h g locks s.once i j e)))
          by false e = without_other (name_of h) g locks j e

      stays : {r : Resource} {P : Extent → Type 0} (w : Writer locks r P) → (w.lock ≡ h → ⊥) → Writer (without (name_of h) locks) r P
      stays w refuted = record {
        lock = w.lock;
        held = other w.lock refuted w.held;
        object = w.object;
        mode = w.mode;
        extent = w.extent;
        range = w.range;
        over = w.over;
      }

      -- a lock under which there is a change isn't the one that goes
      has : {r : Resource} {P : Extent → Type 0} (w : Writer locks r P) → w.lock ≡ h → has_change w.extent (patch_at r patches) ≡ true → ⊥
      has {r} w is t =
          let r_is : r ≡ h.lock.resource = sym w.object ∙ ap (λ (g : HeldLock). g.lock.resource) is in
          let f : has_change w.extent (patch_at h.lock.resource patches) ≡ false =
          none w.extent (ap (λ (g : HeldLock). g.lock.ask.policy) (sym is) ∙ w.range) in
          let u : has_change w.extent (patch_at h.lock.resource patches) ≡ true =
          ap (λ (z : Resource). has_change w.extent (patch_at z patches)) (sym r_is) ∙ t in
          let q : true ≡ false = sym u ∙ f in
          cc

      on_asked : (t : ℕ) (o : Op) → IsAsked locks patches t o → IsAsked (without (name_of h) locks) patches t o
      on_asked t (op.Put r c at bytes) b = record {
        under = stays b.under (λ e. has b.under e b.under.over);
        target = b.target;
        cookie =
            b.cookie;
      }
      on_asked t (op.Cut r c size) b = record {
        under = stays b.under (λ e. has b.under e b.under.over);
        target = b.target;
        cookie =
            b.cookie;
      }
      on_asked t _ b = tt

  -- ---- a change is taken and queued

  module _ (h : HeldLock) (x : Extent) (change : Flush) (i : In h locks) (mode : h.lock.ask.mode ≡ PW) (range : h.lock.ask.policy ≡ Range x)
      (next : next_flush x (patch_at h.lock.resource patches) ≡ Some change) (carries : Carries (patch_at h.lock.resource patches) change)
      (idle : in_flight (patch_at h.lock.resource patches) ≡ false) where
    abbrev patches_taken : List (Resource × Patch)
    patches_taken = on_object h.lock.resource (flown change) patches

    abbrev back_queued : Queued
    back_queued = record { slot = None; op = operation h.lock.resource h.lock.cookie change }

    -- what holds of an object's patch, and of what the change leaves of this object's, holds of each patch after it
    on_taken : (r : Resource) (P : Patch → Type 0) → P (patch_at r patches) → (h.lock.resource ≡ r → P (flown change (patch_at r patches)))
        → P (patch_at r patches_taken)
    on_taken r P old new =
        ⊎_elim (λ (e : patch_at r patches_taken ≡ patch_at r patches). subst P (sym e) old)
        (λ (e : (h.lock.resource ≡ r) × (patch_at r patches_taken ≡ flown change (patch_at r patches))). subst P (sym e.1) (new e.0))
        (patch_on h.lock.resource r (flown change) patches)

    -- the change is in the patch of this object
    carries_at : (r : Resource) → h.lock.resource ≡ r → Carries (patch_at r patches) change
    carries_at r e = subst (λ (z : Resource). Carries (patch_at z patches) change) e carries

    -- it is still under locks for writing
    under_flown : (r : Resource) → IsUnder locks r (patch_at r patches) → Carries (patch_at r patches) change
        → IsUnder locks r (flown change (patch_at r patches))
    under_flown r u c =
        record {
          rises = flown_rises change (patch_at r patches) u.rises;
          dirty = λ p b. u.dirty p (ap (λ (o : Option ℕ). folds.is_some o) (sym (patch_taken change (patch_at r patches) p c).dirty) ∙ b);
          cut = λ size e. u.cut size (sym (patch_taken change (patch_at r patches) 0 c).pending ∙ e);
        }

    -- what was asked before is still asked under a lock which has a change
    still_backed : (t : ℕ) (c : Cookie) (r : Resource) → IsBacked locks (patch_at r patches) t c r
        → IsBacked locks (patch_at r patches_taken) t c r
    still_backed t c r b =
        let w = b.under in
        record {
          under = record {
            lock = w.lock;
            held = w.held;
            object = w.object;
            mode = w.mode;
            extent = w.extent;
            range = w.range;
            over =
                over;
          };
          target = b.target;
          cookie = b.cookie;
        }
      where
        over : has_change b.under.extent (patch_at r patches_taken) ≡ true
        over = on_taken r (λ p. has_change b.under.extent p ≡ true) b.under.over
            (λ e. taken_changes change b.under.extent (patch_at r patches) (carries_at r e) b.under.over)

    -- and so is all that was asked
    still_asked : (t : ℕ) (o : Op) → IsAsked locks patches t o → IsAsked locks patches_taken t o
    still_asked t (op.Put r c at bytes) b = still_backed t c r b
    still_asked t (op.Cut r c size) b = still_backed t c r b
    still_asked t _ b = tt

    -- the change is taken from the patch that there is
    is_taken : patch_at h.lock.resource patches_taken ≡ flown change (patch_at h.lock.resource patches)
    is_taken =
        ⊎_elim (λ (e : patch_at h.lock.resource patches ≡ clean). absurd (none_next x change (ap (next_flush x) (sym e) ∙ next)))
        (λ (e : patch_at h.lock.resource patches_taken ≡ flown change (patch_at h.lock.resource patches)). e)
        (patch_on_there h.lock.resource (flown change) patches)

    -- it is asked under this lock
    back_backed : IsBacked locks (patch_at h.lock.resource patches_taken) h.target.0 h.lock.cookie h.lock.resource
    back_backed =
        record {
          under = record {
            lock = h;
            held = i;
            object = refl;
            mode = mode;
            extent = x;
            range = range;
            over =
                subst (λ (p : Patch). has_change x p ≡ true) (sym is_taken) over;
          };
          target = refl;
          cookie = refl;
        }
      where
        over : has_change x (flown change (patch_at h.lock.resource patches)) ≡ true
        over = taken_changes change x (patch_at h.lock.resource patches) carries
            (next_changes x (patch_at h.lock.resource patches) change next)

    -- whichever it is
    back_asked : (c : Flush) → IsAsked locks patches_taken h.target.0 (operation h.lock.resource h.lock.cookie c)
    back_asked (flush.Put at bytes) = back_backed
    back_asked (flush.Cut size) = back_backed

    -- it writes to the lock's object
    back_writes : (r : Resource) (c : Flush) → writes_to r (operation h.lock.resource h.lock.cookie c) ≡ same_resource h.lock.resource r
    back_writes r (flush.Put at bytes) = refl
    back_writes r (flush.Cut size) = refl

    -- and is under way
    back_flies : in_flight (flown change (patch_at h.lock.resource patches)) ≡ true
    back_flies = ap (λ (f : Option Flying). is_some f) (flown_flies change (patch_at h.lock.resource patches))

    -- it is the only one of its object
    back_single : (r : Resource) → backs_to r (imports_after imports (Queues h.target.0 back_queued)) ≤ one_if
        (in_flight (patch_at r patches_taken))
    back_single r = by (same_resource h.lock.resource r) refl
      where
        now : ℕ
        now = backs_to r (imports_after imports (Queues h.target.0 back_queued))

        sum : now ≤ backs_to r imports + one_if (same_resource h.lock.resource r)
        sum = subst (λ (v : Bool). now ≤ backs_to r imports + one_if v) (back_writes r change)
            (backs_queued r h.target.0 back_queued imports)

        few : backs_to r imports ≤ one_if (in_flight (patch_at r patches))
        few = s.single r

        by : (v : Bool) → same_resource h.lock.resource r ≡ v → now ≤ one_if (in_flight (patch_at r patches_taken))
        by true e =
            let is : h.lock.resource ≡ r = object_is h.lock.resource r e in
            let before : one_if (in_flight (patch_at r patches)) ≡ 0 =
            ap one_if (ap (λ (z : Resource). in_flight (patch_at z patches)) (sym is) ∙ idle) in
            let after : one_if (in_flight (patch_at r patches_taken)) ≡ 1 =
            ap one_if (ap (λ (z : Resource). in_flight (patch_at z patches_taken)) (sym is) ∙ ap in_flight is_taken ∙ back_flies) in
            let added : one_if (same_resource h.lock.resource r) ≡ 1 = ap one_if e in
            omega (arith, sum, few, before, after, added)
        by false e =
            let added : one_if (same_resource h.lock.resource r) ≡ 0 = ap one_if e in
            on_taken r (λ p. now ≤ one_if (in_flight p)) (omega (arith, sum, few, added)) (λ is. absurd (refuted is))
          where
            refuted : h.lock.resource ≡ r → ⊥
            refuted is = let t : same_resource h.lock.resource r ≡ true = ap (λ (z : Resource). same_resource h.lock.resource z) (sym is)
                ∙ object_self h.lock.resource in let c : true ≡ false = sym t ∙ e in cc

    -- the state is sound when it was taken and queued
    pub sound_back : IsSoundOf locks (on_object h.lock.resource (flown change) patches)
        (imports_after imports (Queues h.target.0 (record { slot = None; op = operation h.lock.resource h.lock.cookie change })))
    sound_back =
        record {
          once = s.once;
          ranges = s.ranges;
          apart = s.apart;
          objects = λ r. on_taken r (IsUnder locks r) (s.objects r) (λ e. under_flown r (s.objects r) (carries_at r e));
          asked = λ t o a.
              ⊎_elim (λ (b : Asked imports t o). still_asked t o (s.asked t o b))
              (λ (b : (h.target.0 ≡ t) × (back_queued.op ≡ o)). subst (λ (n : ℕ). IsAsked locks patches_taken n o) b.0
              (subst (IsAsked locks patches_taken h.target.0) b.1 (back_asked change)))
              (queued_asked t h.target.0 back_queued o imports a);
          single = λ r. back_single r;
        }

  -- ---- locks are marked

  -- each is changed, but for its lock and its target
  module _ (f : HeldLock → HeldLock) (lock : (h : HeldLock) → (f h).lock ≡ h.lock) (target : (h : HeldLock) → (f h).target ≡ h.target) where
    -- each of them comes from a lock that was held
    map_back : (h : HeldLock) → In h (map f locks) → (g : HeldLock) × In g locks × (f g ≡ h) × (g.lock ≡ h.lock)
    map_back h i = let r = in_map f h locks i in (r.0, r.1, r.2, sym (lock r.0) ∙ ap (λ (g : HeldLock). g.lock) r.2)

    -- they don't conflict
    map_apart : AreApart (map f locks)
    map_apart h g x y i j same a b w m =
        let p = map_back h i in
        let q = map_back g j in
        let object = ap (λ (l : Lock). l.resource) p.3 ∙ same ∙ ap (λ (l : Lock). l.resource) (sym q.3) in
        sym p.2
        ∙ ap f
        (s.apart p.0 q.0 x y p.1 q.1 object (ap (λ (l : Lock). l.ask.policy) p.3 ∙ a) (ap (λ (l : Lock). l.ask.policy) q.3 ∙ b)
        (ap (λ (l : Lock). is_write l.ask.mode || is_write q.0.lock.ask.mode) p.3
        ∙ ap (λ (l : Lock). is_write h.lock.ask.mode || is_write l.ask.mode) q.3 ∙ w) m)
        ∙ q.2

    -- one for writing still is
    abbrev map_writer : {r : Resource} {P : Extent → Type 0} (w : Writer locks r P) → Writer (map f locks) r P
    map_writer w =
        record {
          lock = f w.lock;
          held = in_mapped f w.lock locks w.held;
          object = ap (λ (l : Lock). l.resource) (lock w.lock) ∙ w.object;
          mode = ap (λ (l : Lock). l.ask.mode) (lock w.lock) ∙ w.mode;
          extent = w.extent;
          range = ap (λ (l : Lock). l.ask.policy) (lock w.lock) ∙ w.range;
          over = w.over;
        }

    -- what is asked still is so under such a lock
    map_asked : (t : ℕ) (o : Op) → IsAsked locks patches t o → IsAsked (map f locks) patches t o
    map_asked t o b = by o b
      where
        backed : (c : Cookie) (r : Resource) → IsBacked locks (patch_at r patches) t c r → IsBacked (map f locks) (patch_at r patches) t c r
        backed c r b =
            record {
              under = map_writer b.under;
              target = ap (λ (t : TargetId). t.0) (target b.under.lock) ∙ b.target;
              cookie =
                  ap (λ (l : Lock). l.cookie) (lock b.under.lock) ∙ b.cookie;
            }

        by : (o : Op) → IsAsked locks patches t o → IsAsked (map f locks) patches t o
        by (op.Put r c at bytes) b = backed c r b
        by (op.Cut r c size) b = backed c r b
        by _ b = tt

    -- the state is sound with them
    pub sound_map : IsSoundOf (map f locks) patches imports
    sound_map =
        record {
          once = once_map f (λ h. rw (lock h, target h) refl) locks s.once;
          ranges = λ h x i e. let r = map_back h i in s.ranges r.0 x r.1 (ap (λ (l : Lock). l.ask.policy) r.3 ∙ e);
          apart = map_apart;
          objects = λ r. record {
            rises = (s.objects r).rises;
            dirty = λ p b. map_writer ((s.objects r).dirty p b);
            cut = λ size e. map_writer ((s.objects r).cut size e);
          };
          asked = λ t o a. map_asked t o (s.asked t o a);
          single = s.single;
        }

-- ---- gets

pub gets_without : (locks : List HeldLock) (imports : List Import) (h : HeldLock) → IsOnce locks → In h locks → h.pins ≡ 0
    → AreGetsPinned locks imports → AreGetsPinned (without (name_of h) locks) imports
gets_without locks imports h once i free gets t r c page a = by (is_named (name_of h) b.lock) refl
  where
    b : IsPinned locks t c
    b = gets t r c page a

    by : (v : Bool) → is_named (name_of h) b.lock ≡ v → IsPinned (without (name_of h) locks) t c
    by true e = absurd (let p : b.lock.pins ≡ 0 = ap (λ (g : HeldLock). g.pins) (sym (one_name h b.lock locks once i b.held e)) ∙ free
        in let q = b.pinned in omega (arith, p, q))
    by false e = record {
      lock = b.lock;
      held = without_other (name_of h) b.lock locks b.held e;
      target = b.target;
      cookie = b.cookie;
      pinned = b.pinned;
    }

pub gets_map : (locks : List HeldLock) (imports : List Import) (f : HeldLock → HeldLock) → ((h : HeldLock) → (f h).lock ≡ h.lock)
    → ((h : HeldLock) → (f h).target ≡ h.target) → ((h : HeldLock) → 0 < h.pins → 0 < (f h).pins)
    → AreGetsPinned locks imports → AreGetsPinned (map f locks) imports
gets_map locks imports f lock target pins gets t r c page a =
    let b = gets t r c page a in
    record {
      lock = f b.lock;
      held = in_mapped f b.lock locks b.held;
      target = ap (λ (t : TargetId). t.0) (target b.lock) ∙ b.target;
      cookie = ap (λ (l : Lock). l.cookie) (lock b.lock) ∙ b.cookie;
      pinned = pins b.lock b.pinned;
    }

-- a write-back is no get
pub gets_back : (locks : List HeldLock) (imports : List Import) (n : ℕ) (s : Resource) (d : Cookie) (change : Flush)
    → AreGetsPinned locks imports
    → AreGetsPinned locks (imports_after imports (Queues n (record { slot = None; op = operation s d change })))
gets_back locks imports n s d change gets t r c page a =
    ⊎_elim (λ (b : Asked imports t (op.Get r c page)). gets t r c page b)
    (λ (b : (n ≡ t) × (operation s d change ≡ op.Get r c page)). absurd (other change b.1))
    (queued_asked t n (record { slot = None; op = operation s d change }) (op.Get r c page) imports a)
  where
    other : (change : Flush) → operation s d change ≡ op.Get r c page → ⊥
    other (flush.Put at bytes) e = cc
    other (flush.Cut size) e = cc
