-- A narrow read that has reached its last offset knows so from then on: by the size that was told with the lock to the end that it uses
-- there, or by
-- what was shown under its lock, or under another one over that offset that isn't called back.
use Rattle.std.proofs.Common.{◌≡◌, ℕ, ◌≤◌, Bool, true, false, List, [], ◌∷◌, Option, Some, None, ◌⊎◌, inl, inr, ⊎_elim, refl, sym, subst}
use Rattle.std.proofs.Common.{ap, ◌∙◌, arith}
use Rattle.std.specs.Prelude.{slice_index, nat_eq, nat_lt, nat_le, ◌&&◌, ◌||◌, ◌==◌, not, if◌then◌else◌}
use Rattle.std.proofs.lemmas.Bool.{and_parts, eqb-true, leb-true, ltb-true, not-true}
use Rattle.lu_base.specs.declared.ids.Fid.{Fid}
use Rattle.lu_base.specs.declared.locks.Extent.{Extent}
use Rattle.lu_base.specs.declared.locks.Lock.{Lock}
use Rattle.lu_base.specs.declared.locks.Mode.{Mode}
use Rattle.lu_base.specs.declared.locks.Mode.TheVariants.{PR, PW}
use Rattle.lu_base.specs.declared.locks.Policy.{Policy}
use Rattle.lu_base.specs.declared.locks.Policy.TheVariants.{Bits, Range}
use Rattle.lu_base.specs.declared.locks.Resource.{Resource}
use Rattle.lu_layout.specs.Raid0.{Raid0, stripe_of, offset_of}
use Rattle.lu_lock.specs.Growth.{the_end}
use Rattle.lu_held.specs.declared.locks.HeldLock.{HeldLock}
use Rattle.lu_held.specs.declared.locks.Wanted.TheVariants.{Holding}
use Rattle.lu_held.specs.Held.{in_order, those}
use Rattle.lu_held.specs.Locks.{same_resource, is_for, holds_offset, reaches_end, matches}
use Rattle.lu_spec_entries.specs.declared.uses.Using.{Using}
use Rattle.lu_spec_entries.specs.Words.{Line}
use Rattle.lu_spec_client.specs.Caches.{noted, shown_at, held_at}
use Rattle.lu_spec_client.specs.Looks.{size_under, has_reached, reached_under, shown_under, shown_elsewhere, reaches}
use Rattle.lu_spec_client.specs.States.{Store, store_at}
use Rattle.lu_spec_client.specs.Stripes.{below_on, object}
use Rattle.lu_proof_lawful.specs.Covered.Calls.{life_at}
use Rattle.lu_proof_lawful.specs.Covered.Heads.{Head, IsHead}
use Rattle.lu_proof_lawful.proofs.Preconditions.Guards.{In}
use Rattle.lu_proof_lawful.proofs.Preconditions.Grown.{Grown}
use Rattle.lu_proof_lawful.proofs.Preconditions.HeedMarks.{owed_of}
use Rattle.lu_proof_lawful.proofs.Preconditions.Heeds.{AllHeed}
use Rattle.lu_proof_lawful.proofs.Preconditions.Lists.{in_filter}
use Rattle.lu_proof_lawful.proofs.Preconditions.PinsFit.{PinsFit}
use Rattle.lu_proof_lawful.proofs.Preconditions.ClientLocks.{in_ordered, any_true}
use Rattle.lu_proof_lawful.proofs.Preconditions.Speaks.{AllSpeak}
use Rattle.lu_proof_lawful.proofs.Invariants.TargetGroups.{IsKind}
use Rattle.lu_proof_objects.proofs.Tables.{object_is}
use Rattle.lu_proof_lawful.specs.Projection.Lives.{is_over}
use Rattle.lu_proof_lawful.proofs.Laws.KnownLooks.{Now, Free, UseOn, size_of, reaches_last}
use Rattle.lu_proof_lawful.proofs.Laws.KnownPlaces.{Locks, ReadsLock, ShownOf, ReachedOf, LastOf}
use Rattle.lu_proof_lawful.proofs.Laws.NotesStay.{IsShown}
use Rattle.lu_proof_lawful.proofs.Laws.SoundLocks.{held_kind_is}

-- the lock in use there has reached
pub record ReachedBy (e : ℕ) (y : Raid0) (us : List Using) (s : Store) : Type 0 where
  pub using : Using
  pub among : In using us
  pub on : using.want.resource.stripe ≡ stripe_of y e
  pub reached : reached_under (offset_of y e) using s ≡ true

reached_by : (y : Raid0) (e : ℕ) (us : List Using) (s : Store) → has_reached y e us s ≡ true → ReachedBy e y us s
reached_by y e [] s h = absurd (cc)
reached_by y e (u ∷ us) s h = by (u.want.resource.stripe == stripe_of y e) refl h (reached_by y e us s)
  where
    by : (b : Bool) → (u.want.resource.stripe == stripe_of y e) ≡ b
        → (if b then reached_under (offset_of y e) u s else has_reached y e us s) ≡ true
        → (has_reached y e us s ≡ true → ReachedBy e y us s) → ReachedBy e y (u ∷ us) s
    by true q h ih = record { using = u; among = inl refl; on = eqb-true u.want.resource.stripe (stripe_of y e) q; reached = h }
    by false q h ih = let r = ih h in record { using = r.using; among = inr r.among; on = r.on; reached = r.reached }

either : (a b : Bool) → (a || b) ≡ true → (a ≡ true) ⊎ (b ≡ true)
either true b e = inl refl
either false b e = inr e

-- a lock over that offset is on a range
over_range : (q : ℕ) (p : Policy) → holds_offset q p ≡ true → (x : Extent) × (p ≡ Range x) × (x.first ≤ q) × (q ≤ x.last)
over_range q (Bits bits) e = absurd (cc)
over_range q (Range x) e = let r = and_parts (nat_le x.first q) (nat_le q x.last) e
    in (x, refl, leb-true x.first q r.0, leb-true q x.last r.1)

module _ (head : Head) (ranges : IsHead head) (past : List Line) (g : Grown head past) (fit : PinsFit past) (heeds : AllHeed past)
    (speaks : AllSpeak past) (c : ℕ) (alive : is_over c (life_at c past) past ≡ false) (none : owed_of c past ≡ [])
    (no_write : (h : HeldLock) → In h (held_at c past) → h.lock.ask.mode ≡ PW → ⊥) (L : Locks)
    (now : (t : ℕ) (k : Lock) → L t k → Now head ranges past g fit heeds speaks c alive none no_write t k)
    (free : (t : ℕ) (k : Lock) → Free head ranges past g fit heeds speaks c alive none no_write t k → L t k) where
  -- under one that was noted so
  shown_is : (r : Resource) (q : ℕ) (k : Lock) → k.resource ≡ r → shown_under q (store_at c past) k ≡ true
      → IsShown (shown_at c past) r k.cookie q
  shown_is r q k on e = by (noted k.resource k.cookie (shown_at c past)) refl e
    where
      by : (o : Option ℕ) → noted k.resource k.cookie (shown_at c past) ≡ o → reaches q o ≡ true → IsShown (shown_at c past) r k.cookie q
      by None n e = absurd (cc)
      by (Some last) n e = (last, ap (λ (z : Resource). noted z k.cookie (shown_at c past)) (sym on) ∙ n, leb-true q last e)

  short_is : (k : Lock) (x : Extent) → k.ask.policy ≡ Range x → reaches_end k.ask.policy ≡ false → (x.last == the_end) ≡ false
  short_is k x range e = ap reaches_end (sym range) ∙ e

  reading : (m : Mode) (x : Extent) → IsKind m (Range x) → (m ≡ PW → ⊥) → m ≡ PR
  reading m x k never = ⊎_elim (λ (e : m ≡ PR). e) (λ (e : m ≡ PW). absurd (never e)) k.2

  -- under another one
  other_shown : (t : ℕ) (r : Resource) (q : ℕ) (h : HeldLock) → In h (held_at c past) → h.target.0 ≡ t → h.lock.resource ≡ r → h.marked
      ≡ false → holds_offset q h.lock.ask.policy ≡ true → reaches_end h.lock.ask.policy ≡ false
      → shown_under q (store_at c past) h.lock ≡ true → ShownOf L c past t r q
  other_shown t r q h i target on clean holds short shown =
      let o = over_range q h.lock.ask.policy holds in
      let kind : IsKind h.lock.ask.mode (Range o.0) = subst (IsKind h.lock.ask.mode) o.1 (held_kind_is head past g c h i) in
      record {
        lock = h.lock;
        extent = o.0;
        reads = record {
          is = free t h.lock (h, i, target, refl, clean);
          of_object = on;
          mode =
              reading h.lock.ask.mode o.0 kind (no_write h i);
          range = o.1;
        };
        short = short_is h.lock o.0 o.1 short;
        first = o.2;
        last = o.3;
        shown = shown_is r q h.lock on shown;
      }

  elsewhere : (u : Using) (t : ℕ) (r : Resource) (q : ℕ) → u.want.target.0 ≡ t → u.want.resource ≡ r
      → shown_elsewhere q (store_at c past) (those (Holding u.want.target u.want.resource q) (held_at c past)) ≡ true
      → ShownOf L c past t r q
  elsewhere u t r q target on e =
      let hs = those (Holding u.want.target u.want.resource q) (held_at c past) in
      let found = any_true (λ (h : HeldLock). not (reaches_end h.lock.ask.policy) && shown_under q (store_at c past) h.lock) hs e in
      let h = found.0 in
      let both = and_parts (not (reaches_end h.lock.ask.policy)) (shown_under q (store_at c past) h.lock) found.2 in
      let place = in_filter (matches (Holding u.want.target u.want.resource q)) h (in_order (held_at c past)) found.1 in
      let m = and_parts (is_for u.want.target u.want.resource h) (holds_offset q h.lock.ask.policy) place.1 in
      let n = and_parts (nat_eq h.target.0 u.want.target.0 && same_resource h.lock.resource u.want.resource) (not h.marked) m.0 in
      let o = and_parts (nat_eq h.target.0 u.want.target.0) (same_resource h.lock.resource u.want.resource) n.0 in
      other_shown t r q h (in_ordered h (held_at c past) place.0) (eqb-true h.target.0 u.want.target.0 o.0 ∙ target)
      (object_is h.lock.resource u.want.resource o.1 ∙ on) (not-true h.marked n.1) m.1
      (not-true (reaches_end h.lock.ask.policy) both.0) both.1

  -- by a lock in use
  used_reached : (t : ℕ) (r : Resource) (first q : ℕ) (u : Using) (x : Extent) → ReadsLock L t r u.lock x → u.want.target.0 ≡ t
      → u.want.resource ≡ r → x.first ≤ first → first ≤ q → q ≤ x.last → reached_under q u (store_at c past) ≡ true
      → ReachedOf L c past t r first q
  used_reached t r first q u x f target on low from far e = by (reaches_end u.lock.ask.policy) refl e
    where
      by : (b : Bool) → reaches_end u.lock.ask.policy ≡ b
          → (if b then nat_lt q (size_under u.lock (store_at c past)) else shown_under q (store_at c past) u.lock
          || shown_elsewhere q (store_at c past) (those (Holding u.want.target u.want.resource q) (held_at c past))) ≡ true
          → ReachedOf L c past t r first q
      by true b e =
          let ends = reaches_last head ranges past g fit heeds speaks c alive none no_write u.lock x f.range b in
          let n = size_of head ranges past g fit heeds speaks c alive none no_write t r u.lock x
          (record { is = now t u.lock f.is; of_object = f.of_object; mode = f.mode; range = f.range }) ends in
          inl (
            record { lock = u.lock; extent = x; reads = f; ends = ends; low = low; size = n.size; tells = n.tells },
            ltb-true q n.size (sym (n.same q (omega (arith, low, from))) ∙ e),
          )
      by false b e =
          inr (⊎_elim
          (λ (s : shown_under q (store_at c past) u.lock ≡ true).
          record {
            lock = u.lock;
            extent = x;
            reads = f;
            short = short_is u.lock x f.range b;
            first = omega (arith, low, from);
            last = far;
            shown = shown_is r q u.lock f.of_object s;
          })
          (λ (s : shown_elsewhere q (store_at c past) (those (Holding u.want.target u.want.resource q) (held_at c past)) ≡ true). elsewhere
          u t r q target on s)
          (either (shown_under q (store_at c past) u.lock) (shown_elsewhere q (store_at c past)
          (those (Holding u.want.target u.want.resource q) (held_at c past))) e))

  -- each lock in use on that stripe goes as far
  pub told_last : (y : Raid0) (fid : Fid) (p e : ℕ) (us : List Using) → has_reached y e us (store_at c past) ≡ true
      → below_on y (stripe_of y e) p ≤ offset_of y e → ((u : Using) → In u us → UseOn L y fid p u)
      → ((u : Using) → In u us → u.want.resource.stripe ≡ stripe_of y e → (x : Extent) → u.lock.ask.policy ≡ Range x
      → offset_of y e ≤ x.last) → LastOf L c past y fid p e
  told_last y fid p e us h from uses far = by (reached_by y e us (store_at c past) h)
    where
      by : ReachedBy e y us (store_at c past) → LastOf L c past y fid p e
      by b =
          let u = b.using in
          let k = uses u b.among in
          let at : k.stripe ≡ stripe_of y e = ap (λ (r : Resource). r.stripe) (sym k.of_object) ∙ b.on in
          let f : ReadsLock L (slice_index y.targets (stripe_of y e)) (object fid (stripe_of y e)) u.lock k.extent =
          subst (λ (j : ℕ). ReadsLock L (slice_index y.targets j) (object fid j) u.lock k.extent) at k.lock in
          let low : k.extent.first ≤ below_on y (stripe_of y e) p =
          (let a = k.low in let z = k.from in let i = ap (λ (j : ℕ). below_on y j p) at in omega (arith, a, z, i)) in
          used_reached (slice_index y.targets (stripe_of y e)) (object fid (stripe_of y e)) (below_on y (stripe_of y e) p) (offset_of y e) u
          k.extent f
          (k.of_target ∙ ap (λ (j : ℕ). slice_index y.targets j) at) (k.of_object ∙ ap (λ (j : ℕ). object fid j) at) low from
          (far u b.among b.on k.extent f.range) b.reached
