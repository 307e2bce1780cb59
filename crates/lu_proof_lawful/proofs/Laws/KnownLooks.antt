-- What a client that owes nothing, and holds no lock to write, finds of a read as it looks: what it was told of the offsets it knows from
-- then on; and
-- where it knows that, no page is missing under whatever locks it uses, and the last offset is reached.
use Rattle.std.proofs.Common.{◌≡◌, ℕ, zero, suc, ◌+◌, ◌-◌, ◌/◌, ◌<◌, ◌≤◌, Bool, true, false, List, [], ◌∷◌, length, Option, Some, None, ◌⊎◌}
use Rattle.std.proofs.Common.{inl, inr, refl, sym, subst, ap, ◌∙◌, arith}
use Rattle.std.specs.Prelude.{min, max, slice_get, slice_index, nat_eq, nat_lt, nat_le, ◌&&◌, ◌||◌, ◌==◌, not, if◌then◌else◌, is_some}
use Rattle.std.specs.List.{list_any}
use Rattle.std.specs.Option.{unwrap_or}
use Rattle.std.proofs.lemmas.Bool.{and_from, eqb-true, eq-eqb, ltb-true}
use Rattle.std.proofs.lemmas.Bool.Decides.{nat_tests}
use Rattle.lu_base.specs.declared.ids.Fid.{Fid}
use Rattle.lu_base.specs.declared.ids.Who.{Who}
use Rattle.lu_base.specs.declared.locks.Extent.{Extent}
use Rattle.lu_base.specs.declared.locks.Lock.{Lock}
use Rattle.lu_base.specs.declared.locks.Mode.{Mode}
use Rattle.lu_base.specs.declared.locks.Mode.TheVariants.{PR, PW}
use Rattle.lu_base.specs.declared.locks.Policy.{Policy}
use Rattle.lu_base.specs.declared.locks.Policy.TheVariants.{Range}
use Rattle.lu_base.specs.declared.locks.Resource.{Resource}
use Rattle.lu_layout.specs.Raid0.{Raid0, stripe_of, offset_of}
use Rattle.lu_lock.specs.Growth.{the_end}
use Rattle.lu_lock.specs.Modes.{serves}
use Rattle.lu_lock.specs.Overlap.{covers}
use Rattle.lu_held.specs.declared.locks.HeldLock.{HeldLock}
use Rattle.lu_held.specs.declared.locks.Use.{Use}
use Rattle.lu_held.specs.declared.locks.Wanted.TheVariants.{Holding, Serving, ServingToTheEnd}
use Rattle.lu_held.specs.Held.{in_order, those, serving}
use Rattle.lu_held.specs.Locks.{same_resource, is_for, holds_offset, reaches_end, serves_use, matches}
use Rattle.lu_spec_machine.specs.Places.{Places, found_at, end_of}
use Rattle.lu_spec_machine.proofs.Places.{end_last}
use Rattle.lu_spec_entries.specs.declared.changes.Dirty.{Dirty}
use Rattle.lu_spec_entries.specs.declared.uses.Using.{Using}
use Rattle.lu_spec_entries.specs.Words.{Line}
use Rattle.lu_spec_entries.specs.Concerns.{only}
use Rattle.lu_spec_client.specs.Bytes.{Bytes, page_size}
use Rattle.lu_spec_client.specs.Caches.{noted, patch_at, bytes_at, known_bytes_at, patches_at, shown_at, held_at}
use Rattle.lu_spec_client.specs.Looks.{is_there, first_missing, end_under, missing_under, Page, missing, size_under, has_reached}
use Rattle.lu_spec_client.specs.Looks.{reached_under, shown_under, shown_elsewhere, reaches}
use Rattle.lu_spec_client.specs.Patches.{base, size_over}
use Rattle.lu_spec_client.specs.States.{Store, store_at}
use Rattle.lu_spec_client.specs.Stripes.{below_on, object}
use Rattle.lu_proof_lawful.specs.Covered.Calls.{life_at}
use Rattle.lu_proof_lawful.specs.Covered.ClientStates.{life_of}
use Rattle.lu_proof_lawful.specs.Covered.Heads.{Head, IsHead}
use Rattle.lu_proof_lawful.proofs.Preconditions.Guards.{In, HasRange}
use Rattle.lu_proof_lawful.proofs.Preconditions.Grown.{Grown}
use Rattle.lu_proof_lawful.proofs.Preconditions.HeedMarks.{owed_of}
use Rattle.lu_proof_lawful.proofs.Preconditions.Heeds.{AllHeed}
use Rattle.lu_proof_lawful.proofs.Preconditions.Held.{held_into}
use Rattle.lu_proof_lawful.proofs.Preconditions.Lists.{self, in_filtered}
use Rattle.lu_proof_lawful.proofs.Preconditions.PinsFit.{PinsFit}
use Rattle.lu_proof_lawful.proofs.Preconditions.ClientLocks.{ordered_in}
use Rattle.lu_proof_lawful.proofs.Invariants.All.{holds}
use Rattle.lu_proof_lawful.proofs.Preconditions.Speaks.{AllSpeak}
use Rattle.lu_proof_lawful.proofs.Invariants.TargetGroups.{Gave, IsOver, Holding as HoldsOf}
use Rattle.lu_proof_objects.proofs.Tables.{object_self}
use Rattle.lu_proof_objects.proofs.Using.{none_missing}
use Rattle.lu_proof_objects.specs.Points.{byte_of}
use Rattle.lu_proof_bytes.specs.Object.Folds as folds
use Rattle.lu_proof_lawful.specs.Projection.Lives.{is_over}
use Rattle.lu_proof_lawful.proofs.Refinement.TellsAgree.{TellsSize, TellsByte, ToRead, TwoLocks, sizes_agree, byte_below}
use Rattle.lu_proof_lawful.proofs.Refinement.Uses.{held_high}
use Rattle.lu_proof_lawful.proofs.Laws.HeldLists.{Has}
use Rattle.lu_proof_lawful.proofs.Laws.KnownPlaces.{Locks, ReadsLock, EndOf, ShownOf, ServedOf, ByteOf, ReachedOf, PlacesOf, LastOf}
use Rattle.lu_proof_lawful.proofs.Laws.NotesStay.{IsShown}
use Rattle.lu_proof_lawful.proofs.Laws.NotesTell.{SizeNoted, size_noted, byte_noted}
use Rattle.lu_proof_lawful.proofs.Laws.SoundLocks.{held_not_over, of_client, to_client}
use Rattle.lu_proof_lawful.proofs.Laws.SoundRuns.{sound_at}

-- a lock in use for a read, of the offsets on its stripe from position p on
pub record UseOn (L : Locks) (y : Raid0) (fid : Fid) (p : ℕ) (u : Using) : Type 0 where
  pub stripe : ℕ
  pub here : stripe < length y.targets
  pub of_target : u.want.target.0 ≡ slice_index y.targets stripe
  pub of_object : u.want.resource ≡ object fid stripe
  pub mode : u.want.mode ≡ PR
  pub wanted : Extent
  pub policy : u.want.policy ≡ Range wanted
  pub from : wanted.first ≡ below_on y stripe p
  pub limited : wanted.last ≤ the_end
  pub extent : Extent
  pub lock : ReadsLock L (slice_index y.targets stripe) (object fid stripe) u.lock extent
  pub low : extent.first ≤ wanted.first

-- ---- what is missing

same_some : {A : Type 0} (o : Option A) → o ≡ None → is_some o ≡ false
same_some None e = refl
same_some (Some x) e = absurd (cc)

known_some : (o : Option ℕ) → is_some o ≡ folds.is_some o
known_some None = refl
known_some (Some x) = refl

first_is : (known : Bytes) (dirty : Places Dirty) (p n q : ℕ) → first_missing known dirty p n ≡ Some q → (p ≤ q) × (q < p + n)
    × (is_there known dirty q ≡ false)
first_is known dirty p zero q e = absurd (cc)
first_is known dirty p (suc n) q e = by (is_there known dirty p) refl e (first_is known dirty (p + 1) n q)
  where
    by : (v : Bool) → is_there known dirty p ≡ v → (if v then first_missing known dirty (p + 1) n else Some p) ≡ Some q
        → (first_missing known dirty (p + 1) n ≡ Some q → (p + 1 ≤ q) × (q < p + 1 + n) × (is_there known dirty q ≡ false)) → (p ≤ q)
        × (q < p + suc n) × (is_there known dirty q ≡ false)
    by true t e ih = let r = ih e in let a = r.0 in let b = r.1 in (omega (arith, a), omega (arith, b), r.2)
    by false t e ih = let is : p ≡ q = cc in (omega (arith, is), omega (arith, is), ap (is_there known dirty) (sym is) ∙ t)

record MissingAt (l : Raid0) (p end : ℕ) (s : Store) (us : List Using) : Type 0 where
  under : Using
  among : In under us
  offset : ℕ
  first : below_on l under.want.resource.stripe p ≤ offset
  last : offset < end_under under.lock (below_on l under.want.resource.stripe end) s
  not_there : is_there (bytes_at under.lock.resource s.bytes) (patch_at under.lock.resource s.patches).dirty offset ≡ false

missing_is : (l : Raid0) (p end : ℕ) (s : Store) (us : List Using) (g : Page) → missing l p end s us ≡ Some g → MissingAt l p end s us
missing_is l p end s [] g e = absurd (cc)
missing_is l p end s (u ∷ us) g e = by (missing_under u.lock first last s) refl e (missing_is l p end s us g)
  where
    first : ℕ
    first = below_on l u.want.resource.stripe p

    last : ℕ
    last = below_on l u.want.resource.stripe end

    by : (o : Option ℕ) → missing_under u.lock first last s ≡ o
        → (elim o as (λ o. Option Page) [
          | None ↦ missing l p end s us
          | Some offset
              ↦ Some (record { under = u; page = offset / page_size })
        ]) ≡ Some g
        → (missing l p end s us ≡ Some g → MissingAt l p end s us) → MissingAt l p end s (u ∷ us)
    by None m e ih = let r = ih e in record {
      under = r.under;
      among = inr r.among;
      offset = r.offset;
      first = r.first;
      last = r.last;
      not_there = r.not_there;
    }
    by (Some q) m e ih =
        let f = first_is (bytes_at u.lock.resource s.bytes) (patch_at u.lock.resource s.patches).dirty first
        (end_under u.lock last s - first) q m in
        let a = f.0 in
        let b = f.1 in
        record { under = u; among = inl refl; offset = q; first = f.0; last = omega (arith, a, b); not_there = f.2 }

-- where none is
all_there : (l : Raid0) (p end : ℕ) (s : Store) (us : List Using) → missing l p end s us ≡ None → (u : Using) (q : ℕ) → In u us
    → below_on l u.want.resource.stripe p ≤ q → q < end_under u.lock (below_on l u.want.resource.stripe end) s
    → is_there (bytes_at u.lock.resource s.bytes) (patch_at u.lock.resource s.patches).dirty q ≡ true
all_there l p end s us e u q i low high = none_missing l p end s us e u q (to_client u us i) low high

-- ---- a read has reached, by each lock on the stripe of its last position

reached_all : (l : Raid0) (e : ℕ) (us : List Using) (s : Store)
    → ((u : Using) → In u us → u.want.resource.stripe ≡ stripe_of l e → reached_under (offset_of l e) u s ≡ true) → (u : Using) → In u us
    → u.want.resource.stripe ≡ stripe_of l e
    → has_reached l e us s ≡ true
reached_all l e [] s all u i on = absurd i
reached_all l e (v ∷ us) s all u i on = by (v.want.resource.stripe == stripe_of l e) refl i
    (λ j. reached_all l e us s (λ x k. all x (inr k)) u j on)
  where
    by : (b : Bool) → (v.want.resource.stripe == stripe_of l e) ≡ b → (v ≡ u) ⊎ In u us → (In u us → has_reached l e us s ≡ true)
        → (if b then reached_under (offset_of l e) v s else has_reached l e us s) ≡ true
    by true f j ih = all v (inl refl) (eqb-true v.want.resource.stripe (stripe_of l e) f)
    by false f (inr j) ih = ih j
    by false f (inl q) ih = absurd (let z : (u.want.resource.stripe == stripe_of l e) ≡ false =
        ap (λ (x : Using). x.want.resource.stripe == stripe_of l e) (sym q) ∙ f in let y : (u.want.resource.stripe == stripe_of l e)
        ≡ true = eq-eqb u.want.resource.stripe (stripe_of l e) on in let x : true ≡ false = sym y ∙ z in cc)

any_of : {A : Type 0} (f : A → Bool) (x : A) (xs : List A) → In x xs → f x ≡ true → list_any f xs ≡ true
any_of f x [] i e = absurd i
any_of f x (y ∷ xs) (inl q) e = ap (λ (b : Bool). b || list_any f xs) (ap f q ∙ e)
any_of {A} f x (y ∷ xs) (inr i) e = by (f y) (any_of f x xs i e)
  where
    by : (b : Bool) → list_any f xs ≡ true → (b || list_any f xs) ≡ true
    by true r = refl
    by false r = r

or_true : (z : Bool) → (z || true) ≡ true
or_true true = refl
or_true false = refl

below_is : (a b : ℕ) → a < b → nat_lt a b ≡ true
below_is a b l = grind (arith, nat_tests, l)

not_below : (a b : ℕ) → b ≤ a → nat_lt a b ≡ false
not_below a b l = grind (arith, nat_tests, l)

below_not : (a b : ℕ) → nat_lt a b ≡ false → b ≤ a
below_not a b e = grind (arith, nat_tests, e)

le_is : (a b : ℕ) → a ≤ b → nat_le a b ≡ true
le_is a b l = grind (arith, nat_tests, l)

module _ (head : Head) (ranges : IsHead head) (past : List Line) (g : Grown head past) (fit : PinsFit past) (heeds : AllHeed past)
    (speaks : AllSpeak past) (c : ℕ) (alive : is_over c (life_at c past) past ≡ false) (none : owed_of c past ≡ [])
    (no_write : (h : HeldLock) → In h (held_at c past) → h.lock.ask.mode ≡ PW → ⊥) where
  abbrev s : Store
  s = store_at c past

  -- the locks that it holds, and those of them that aren't marked
  abbrev pub Now : Locks
  Now t k = Has t k (held_at c past)

  abbrev pub Free : Locks
  Free t k = (h : HeldLock) × In h (held_at c past) × (h.target.0 ≡ t) × (h.lock ≡ k) × (h.marked ≡ false)

  free_now : (t : ℕ) (k : Lock) → Free t k → Now t k
  free_now t k f = (f.0, f.1, f.2, f.3)

  free_reads : (t : ℕ) (r : Resource) (k : Lock) (x : Extent) → ReadsLock Free t r k x → ReadsLock Now t r k x
  free_reads t r k x f = record { is = free_now t k f.is; of_object = f.of_object; mode = f.mode; range = f.range }

  free_end : (t : ℕ) (r : Resource) (first : ℕ) → (e : EndOf Free past t r first) → (f : EndOf Now past t r first) × (f.size ≡ e.size)
  free_end t r first e = (
    record {
      lock = e.lock;
      extent = e.extent;
      reads = free_reads t r e.lock e.extent e.reads;
      ends = e.ends;
      low =
          e.low;
      size = e.size;
      tells = e.tells;
    },
    refl,
  )

  -- ---- nothing of its own

  no_dirty : (r : Resource) (q : ℕ) → found_at (patch_at r (patches_at c past)).dirty q ≡ None
  no_dirty r q = by (found_at (patch_at r (patches_at c past)).dirty q) refl
    where
      by : (o : Option Dirty) → found_at (patch_at r (patches_at c past)).dirty q ≡ o → o ≡ None
      by None e = refl
      by (Some d) e =
          absurd (let w = ((sound_at head ranges past g fit heeds c alive).now.objects r).dirty q
          (ap (λ (o : Option Dirty). folds.is_some (byte_of o)) e) in no_write w.lock (of_client w.lock (held_at c past) w.held) w.mode)

  no_pending : (r : Resource) → (patch_at r (patches_at c past)).pending ≡ None
  no_pending r = by (patch_at r (patches_at c past)).pending refl
    where
      by : (o : Option ℕ) → (patch_at r (patches_at c past)).pending ≡ o → o ≡ None
      by None e = refl
      by (Some n) e = absurd (let w = ((sound_at head ranges past g fit heeds c alive).now.objects r).cut n e
          in no_write w.lock (of_client w.lock (held_at c past) w.held) w.mode)

  size_clean : (r : Resource) (n : ℕ) → size_over n (patch_at r (patches_at c past)) ≡ n
  size_clean r n = ap (λ (o : Option ℕ). max (base o n) (end_of (patch_at r (patches_at c past)).dirty)) (no_pending r)
      ∙ ends (nat_lt 0 (end_of (patch_at r (patches_at c past)).dirty)) refl
    where
      ends : (b : Bool) → nat_lt 0 (end_of (patch_at r (patches_at c past)).dirty) ≡ b
          → max n (end_of (patch_at r (patches_at c past)).dirty) ≡ n
      ends false e = let z = below_not 0 (end_of (patch_at r (patches_at c past)).dirty) e in omega (arith, z)
      ends true e = absurd (end_last (patch_at r (patches_at c past)).dirty (ltb-true 0 (end_of (patch_at r (patches_at c past)).dirty) e)
          (no_dirty r (end_of (patch_at r (patches_at c past)).dirty - 1)))

  there_is : (r : Resource) (q : ℕ) → is_there (bytes_at r s.bytes) (patch_at r s.patches).dirty q
      ≡ folds.is_some (found_at (bytes_at r (known_bytes_at c past)) q)
  there_is r q =
      ap (λ (b : Bool). is_some (found_at (bytes_at r (known_bytes_at c past)) q) || b)
      (same_some (found_at (patch_at r (patches_at c past)).dirty q) (no_dirty r q))
      ∙ or_false (is_some (found_at (bytes_at r (known_bytes_at c past)) q)) ∙ known_some (found_at (bytes_at r (known_bytes_at c past)) q)
    where
      or_false : (b : Bool) → (b || false) ≡ b
      or_false true = refl
      or_false false = refl

  -- ---- its locks, as they were given

  high : (t : ℕ) (k : Lock) (x : Extent) → Now t k → k.ask.policy ≡ Range x → 0 < t
  high t k x h range =
      let at = held_high head past g c h.0 h.1 (subst HasRange (sym (ap (λ (l : Lock). l.ask.policy) h.3 ∙ range)) tt) in
      let there = h.2 in
      omega (arith, at, there)

  abbrev holding : (t : ℕ) (k : Lock) → (h : Now t k) → HoldsOf head.osts (only t past) c h.0
  holding t k h = ((holds head past g).at t).locks.held c h.0 (held_into c t past h.0 h.2 h.1)

  whose : (t : ℕ) (k : Lock) → Now t k → k.ask.who ≡ life_of c (only t past)
  whose t k h = ap (λ (l : Lock). l.ask.who) (sym h.3) ∙ ((holds head past g).at t).locks.whose (holding t k h).deed h.0.lock
      (holding t k h).gave ∙ (holding t k h).who

  abbrev to_read : (t : ℕ) (r : Resource) (k : Lock) (x : Extent) → ReadsLock Now t r k x → ToRead head t past k
  to_read t r k x f =
      record {
        deed = (holding t k f.is).deed;
        gave = subst (λ (l : Lock). Gave (only t past) (holding t k f.is).deed l) f.is.3 (holding t k f.is).gave;
        there = subst (λ (l : Lock). IsOver (only t past) (holding t k f.is).deed l → ⊥) f.is.3
            (held_not_over head past g c t f.is.0 (holding t k f.is).deed f.is.2 f.is.1
            (ap (λ (w : Who). w.client) (holding t k f.is).who ∙ ((holds head past g).at t).phase.client c));
        mode = f.mode;
        extent = x;
        range = f.range;
      }

  abbrev two : (t : ℕ) (r : Resource) (k : Lock) (x : Extent) (j : Lock) (z : Extent) → ReadsLock Now t r k x → ReadsLock Now t r j z
      → z.last ≡ the_end → TwoLocks head t past k j
  two t r k x j z a b ends =
      record {
        one = to_read t r k x a;
        other = to_read t r j z b;
        same_life = whose t k a.is ∙ sym (whose t j b.is);
        same_object =
            a.of_object ∙ sym b.of_object;
        ends = ends;
      }

  -- ---- the size under one to the end

  pub record SizeOf (t : ℕ) (k : Lock) (x : Extent) : Type 0 where
    pub size : ℕ
    pub tells : TellsSize (only t past) k size
    pub same : (q : ℕ) → x.first ≤ q → nat_lt q (size_under k s) ≡ nat_lt q size

  pub size_of : (t : ℕ) (r : Resource) (k : Lock) (x : Extent) → ReadsLock Now t r k x → x.last ≡ the_end → SizeOf t k x
  size_of t r k x f ends =
      subst (λ (l : Lock). SizeOf t l x) f.is.3
      (record {
        size = n.size;
        tells = subst (λ (u : ℕ). TellsSize (only u past) f.is.0.lock n.size) f.is.2 n.tells;
        same = λ q low. ap (nat_lt q) (ap (λ (o : Option ℕ). size_over (unwrap_or o 0) (patch_at f.is.0.lock.resource (patches_at c past)))
            n.noted ∙ size_clean f.is.0.lock.resource n.number) ∙ n.same q low;
      })
    where
      n : SizeNoted c past f.is.0 x
      n = size_noted head ranges past g fit heeds c alive none f.is.0 f.is.1 (ap (λ (l : Lock). l.ask.mode) f.is.3 ∙ f.mode) x
          (ap (λ (l : Lock). l.ask.policy) f.is.3 ∙ f.range) ends

  -- all to the end agree
  end_same : (t : ℕ) (r : Resource) (first : ℕ) (e : EndOf Now past t r first) (k : Lock) (x : Extent) (f : ReadsLock Now t r k x) → x.last
      ≡ the_end → (q : ℕ) → first ≤ q → x.first ≤ q → nat_lt q (size_under k s) ≡ nat_lt q e.size
  end_same t r first e k x f ends q from low =
      let n = size_of t r k x f ends in
      n.same q low
      ∙ sizes_agree head ranges past t (high t k x f.is f.range) g fit heeds speaks k e.lock (two t r k x e.lock e.extent f e.reads e.ends)
      ends n.size e.size n.tells e.tells q low (let a = e.low in omega (arith, a, from))

  -- ---- what it has told

  reads_now : (L : Locks) (now : (t : ℕ) (k : Lock) → L t k → Now t k) (t : ℕ) (r : Resource) (k : Lock) (x : Extent) → ReadsLock L t r k x
      → ReadsLock Now t r k x
  reads_now L now t r k x f = record { is = now t k f.is; of_object = f.of_object; mode = f.mode; range = f.range }

  ends_of : (L : Locks) (now : (t : ℕ) (k : Lock) → L t k → Now t k) (t : ℕ) (r : Resource) (first q : ℕ) (k : Lock) (x : Extent)
      → ReadsLock L t r k x → x.first ≤ first → first ≤ q → x.last ≡ the_end → size_under k s ≤ q
      → (e : EndOf L past t r first) × (e.size ≤ q)
  ends_of L now t r first q k x f low from ends less =
      let n = size_of t r k x (reads_now L now t r k x f) ends in (
        record { lock = k; extent = x; reads = f; ends = ends; low = low; size = n.size; tells = n.tells },
        below_not q n.size (sym (n.same q (omega (arith, low, from))) ∙ not_below q (size_under k s) less),
      )

  pub reaches_last : (k : Lock) (x : Extent) → k.ask.policy ≡ Range x → reaches_end k.ask.policy ≡ true → x.last ≡ the_end
  reaches_last k x range e = eqb-true x.last the_end (ap reaches_end (sym range) ∙ e)

  pub told_places : (L : Locks) (now : (t : ℕ) (k : Lock) → L t k → Now t k) (y : Raid0) (fid : Fid) (p n : ℕ) (us : List Using)
      → missing y p (p + n) s us ≡ None → ((u : Using) → In u us → UseOn L y fid p u)
      → ((i : ℕ) → i < length y.targets → below_on y i p < below_on y i (p + n) → (u : Using) × In u us × (u.want.resource.stripe ≡ i))
      → PlacesOf L c past y fid p n
  told_places L now y fid p n us all uses some i low q first last =
      by (nat_lt q (end_under u.lock (below_on y u.want.resource.stripe (p + n)) s)) refl
    where
      found : (v : Using) × In v us × (v.want.resource.stripe ≡ i)
      found = some i low (omega (arith, first, last))

      u : Using
      u = found.0

      used_there : UseOn L y fid p found.0
      used_there = uses found.0 found.1

      at : used_there.stripe ≡ i
      at = ap (λ (r : Resource). r.stripe) (sym used_there.of_object) ∙ found.2

      lock : ReadsLock L (slice_index y.targets i) (object fid i) found.0.lock used_there.extent
      lock = subst (λ (j : ℕ). ReadsLock L (slice_index y.targets j) (object fid j) found.0.lock used_there.extent) at used_there.lock

      from : used_there.extent.first ≤ below_on y i p
      from = let a = used_there.low in let b = used_there.from in let e = ap (λ (j : ℕ). below_on y j p) at in omega (arith, a, b, e)

      starts : below_on y found.0.want.resource.stripe p ≤ q
      starts = let e = ap (λ (j : ℕ). below_on y j p) found.2 in omega (arith, first, e)

      stops : q < below_on y found.0.want.resource.stripe (p + n)
      stops = let e = ap (λ (j : ℕ). below_on y j (p + n)) found.2 in omega (arith, last, e)

      past_end : (b : Bool) → reaches_end found.0.lock.ask.policy ≡ b
          → (if b then min (below_on y found.0.want.resource.stripe (p + n)) (size_under found.0.lock s)
          else below_on y found.0.want.resource.stripe (p + n)) ≤ q
          → (e : EndOf L past (slice_index y.targets i) (object fid i) (below_on y i p)) × (e.size ≤ q)
      past_end false e less = absurd (omega (arith, less, stops))
      past_end true e less = ends_of L now (slice_index y.targets i) (object fid i) (below_on y i p) q found.0.lock used_there.extent lock
          from first (reaches_last found.0.lock used_there.extent lock.range e) (omega (arith, less, stops))

      by : (b : Bool) → nat_lt q (end_under found.0.lock (below_on y found.0.want.resource.stripe (p + n)) s) ≡ b
          → ByteOf L c past (slice_index y.targets i) (object fid i) (below_on y i p) q
      by true e =
          inl (sym (there_is (object fid i) q) ∙ ap (λ (r : Resource). is_there (bytes_at r s.bytes) (patch_at r s.patches).dirty q)
          (sym lock.of_object)
          ∙ all_there y p (p + n) s us all found.0 q found.1 starts
          (ltb-true q (end_under found.0.lock (below_on y found.0.want.resource.stripe (p + n)) s) e))
      by false e = inr (past_end (reaches_end found.0.lock.ask.policy) refl
          (below_not q (end_under found.0.lock (below_on y found.0.want.resource.stripe (p + n)) s) e))

  -- ---- what it finds again

  -- one to the end goes first
  abbrev pub GoesFirst : Using → Type 0
  GoesFirst u = (h : HeldLock) → In h (held_at c past) → matches (ServingToTheEnd u.want) h ≡ true → reaches_end u.lock.ask.policy ≡ true

  end_fits : (y : Raid0) (fid : Fid) (p : ℕ) (u : Using) (used_there : UseOn Now y fid p u)
      (e : EndOf Free past (slice_index y.targets used_there.stripe) (object fid used_there.stripe) (below_on y used_there.stripe p))
      → matches (ServingToTheEnd u.want) e.reads.is.0 ≡ true
  end_fits y fid p u used_there e =
      let h = e.reads.is.0 in
      let range : h.lock.ask.policy ≡ Range e.extent = ap (λ (l : Lock). l.ask.policy) e.reads.is.3 ∙ e.reads.range in
      let one : is_for u.want.target u.want.resource h ≡ true =
      and_from (nat_eq h.target.0 u.want.target.0 && same_resource h.lock.resource u.want.resource) (not h.marked)
      (and_from (nat_eq h.target.0 u.want.target.0) (same_resource h.lock.resource u.want.resource)
      (ap (λ (t : ℕ). nat_eq t u.want.target.0) (e.reads.is.2 ∙ sym used_there.of_target) ∙ self u.want.target.0)
      (ap (λ (r : Resource). same_resource r u.want.resource) (ap (λ (l : Lock). l.resource) e.reads.is.3 ∙ e.reads.of_object
      ∙ sym used_there.of_object) ∙ object_self u.want.resource))
      (ap not e.reads.is.4) in
      let does : serves h.lock.ask.mode u.want.mode ≡ true = ap (λ (m : Mode). serves m u.want.mode)
      (ap (λ (l : Lock). l.ask.mode) e.reads.is.3 ∙ e.reads.mode) ∙ ap (λ (m : Mode). serves PR m) used_there.mode in
      let over : covers h.lock.ask.policy u.want.policy ≡ true =
      ap (λ (q : Policy). covers q u.want.policy) range ∙ ap (λ (q : Policy). covers (Range e.extent) q) used_there.policy
      ∙ and_from (nat_le e.extent.first used_there.wanted.first) (nat_le used_there.wanted.last e.extent.last)
      (le_is e.extent.first used_there.wanted.first (let a = e.low in let b = used_there.from in omega (arith, a, b)))
      (le_is used_there.wanted.last e.extent.last (let a = e.ends in let b = used_there.limited in omega (arith, a, b))) in
      let end : reaches_end h.lock.ask.policy ≡ true = ap reaches_end range ∙ eq-eqb e.extent.last the_end e.ends in
      and_from (is_for u.want.target u.want.resource h && serves h.lock.ask.mode u.want.mode && covers h.lock.ask.policy u.want.policy)
      (reaches_end h.lock.ask.policy)
      (and_from (is_for u.want.target u.want.resource h && serves h.lock.ask.mode u.want.mode) (covers h.lock.ask.policy u.want.policy)
      (and_from (is_for u.want.target u.want.resource h) (serves h.lock.ask.mode u.want.mode) one does) over) end

  pub none_misses : (y : Raid0) (fid : Fid) (p n : ℕ) (us : List Using) (page : Page) → PlacesOf Free c past y fid p n
      → ((u : Using) → In u us → UseOn Now y fid p u) → ((u : Using) → In u us → GoesFirst u) → missing y p (p + n) s us ≡ Some page → ⊥
  none_misses y fid p n us page places uses first e = by (places used_there.stripe used_there.here m.offset starts stops)
    where
      m : MissingAt y p (p + n) s us
      m = missing_is y p (p + n) s us page e

      used_there : UseOn Now y fid p m.under
      used_there = uses m.under m.among

      at : m.under.want.resource.stripe ≡ used_there.stripe
      at = ap (λ (r : Resource). r.stripe) used_there.of_object

      starts : below_on y used_there.stripe p ≤ m.offset
      starts = let a = m.first in let b = ap (λ (j : ℕ). below_on y j p) at in omega (arith, a, b)

      within : (b : Bool) → (end size q : ℕ) → q < (if b then min end size else end) → q < end
      within true end size q l = omega (arith, l)
      within false end size q l = l

      stops : m.offset < below_on y used_there.stripe (p + n)
      stops =
          let a = within (reaches_end m.under.lock.ask.policy) (below_on y m.under.want.resource.stripe (p + n)) (size_under m.under.lock s)
          m.offset m.last in
          let b = ap (λ (j : ℕ). below_on y j (p + n)) at in
          omega (arith, a, b)

      by : ByteOf Free c past (slice_index y.targets used_there.stripe) (object fid used_there.stripe) (below_on y used_there.stripe p)
          m.offset → ⊥
      by (inl k) =
          let z : true ≡ false = sym k ∙ sym (there_is (object fid used_there.stripe) m.offset)
          ∙ ap (λ (r : Resource). is_there (bytes_at r s.bytes) (patch_at r s.patches).dirty m.offset) (sym used_there.lock.of_object)
          ∙ m.not_there in
          cc
      by (inr k) =
          let reach = first m.under m.among k.0.reads.is.0 k.0.reads.is.1 (end_fits y fid p m.under used_there k.0) in
          let last = reaches_last m.under.lock used_there.extent used_there.lock.range reach in
          let e = free_end (slice_index y.targets used_there.stripe) (object fid used_there.stripe) (below_on y used_there.stripe p) k.0 in
          let same = end_same (slice_index y.targets used_there.stripe) (object fid used_there.stripe) (below_on y used_there.stripe p) e.0
          m.under.lock used_there.extent used_there.lock last m.offset starts
          (let a = used_there.low in let b = used_there.from in omega (arith, a, b, starts)) in
          let low : m.offset < size_under m.under.lock s = sized (reaches_end m.under.lock.ask.policy) reach m.last in
          let short = k.1 in
          let eq = e.1 in
          let z : true ≡ false = sym (below_is m.offset (size_under m.under.lock s) low) ∙ same
          ∙ not_below m.offset e.0.size (omega (arith, short, eq)) in
          cc
        where
          sized : (b : Bool) → b ≡ true → m.offset < (if b then min (below_on y m.under.want.resource.stripe (p + n))
              (size_under m.under.lock s) else below_on y m.under.want.resource.stripe (p + n)) → m.offset < size_under m.under.lock s
          sized true r l = omega (arith, l)
          sized false r l = absurd (cc)

  -- ---- it has reached

  -- by what is noted under one that doesn't go to the end
  noted_below : (t : ℕ) (r : Resource) (q : ℕ) (o : ShownOf Now c past t r q) (k : Lock) (x : Extent) (f : ReadsLock Now t r k x) → x.last
      ≡ the_end → x.first ≤ q → q < size_under k s
  noted_below t r q o k x f ends low =
      let h = o.reads.is in
      let last = o.shown.0 in
      let far = o.shown.2 in
      let noted_is : noted h.0.lock.resource h.0.lock.cookie (shown_at c past) ≡ Some last =
      ap (λ (l : Lock). noted l.resource l.cookie (shown_at c past)) h.3
      ∙ ap (λ (z : Resource). noted z o.lock.cookie (shown_at c past)) o.reads.of_object ∙ o.shown.1 in
      let told = byte_noted head ranges past g fit heeds c alive h.0 h.1 (ap (λ (l : Lock). l.ask.mode) h.3 ∙ o.reads.mode) o.extent
      (ap (λ (l : Lock). l.ask.policy) h.3 ∙ o.reads.range) last noted_is in
      let tells : TellsByte (only t past) o.lock last = subst (λ (l : Lock). TellsByte (only t past) l last) h.3
      (subst (λ (u : ℕ). TellsByte (only u past) h.0.lock last) h.2 told) in
      let n = size_of t r k x f ends in
      let under = byte_below head ranges past t (high t k x f.is f.range) g fit heeds speaks o.lock k
      (two t r o.lock o.extent k x o.reads f ends) last n.size tells n.tells (omega (arith, low, far)) in
      let less = ltb-true last (size_under k s) (n.same last (omega (arith, low, far)) ∙ below_is last n.size under) in
      omega (arith, less, far)

  shown_there : (r : Resource) (q : ℕ) (k : Lock) → k.resource ≡ r → IsShown (shown_at c past) r k.cookie q → shown_under q s k ≡ true
  shown_there r q k on sh = ap (reaches q) (ap (λ (z : Resource). noted z k.cookie (shown_at c past)) on ∙ sh.1) ∙ le_is q sh.0 sh.2

  pub reached_again : (y : Raid0) (fid : Fid) (p e : ℕ) (us : List Using) → LastOf Free c past y fid p e
      → below_on y (stripe_of y e) p ≤ offset_of y e → ((u : Using) → In u us → UseOn Now y fid p u) → ((u : Using) → In u us → GoesFirst u)
      → (u : Using) → In u us → u.want.resource.stripe ≡ stripe_of y e → has_reached y e us s ≡ true
  reached_again y fid p e us last from uses first u i on = reached_all y e us s each u i on
    where
      q : ℕ
      q = offset_of y e

      each : (v : Using) → In v us → v.want.resource.stripe ≡ stripe_of y e → reached_under (offset_of y e) v s ≡ true
      each v j here = by (reaches_end v.lock.ask.policy) refl last_there
        where
          used_there : UseOn Now y fid p v
          used_there = uses v j

          at : stripe_of y e ≡ used_there.stripe
          at = sym here ∙ ap (λ (r : Resource). r.stripe) used_there.of_object

          last_there : ReachedOf Free c past (slice_index y.targets used_there.stripe) (object fid used_there.stripe)
              (below_on y used_there.stripe p) (offset_of y e)
          last_there = subst (λ (n : ℕ). ReachedOf Free c past (slice_index y.targets n) (object fid n) (below_on y n p) (offset_of y e)) at
              last

          starts : below_on y used_there.stripe p ≤ offset_of y e
          starts = subst (λ (n : ℕ). below_on y n p ≤ offset_of y e) at from

          low : used_there.extent.first ≤ offset_of y e
          low = let a = used_there.low in let b = used_there.from in omega (arith, a, b, starts)

          now_shown : ShownOf Free c past (slice_index y.targets used_there.stripe) (object fid used_there.stripe) (offset_of y e)
              → ShownOf Now c past (slice_index y.targets used_there.stripe) (object fid used_there.stripe) (offset_of y e)
          now_shown o = record {
            lock = o.lock;
            extent = o.extent;
            reads =
                free_reads (slice_index y.targets used_there.stripe) (object fid used_there.stripe) o.lock o.extent o.reads;
            short = o.short;
            first = o.first;
            last = o.last;
            shown = o.shown;
          }

          beside : ShownOf Free c past (slice_index y.targets used_there.stripe) (object fid used_there.stripe) (offset_of y e)
              → shown_elsewhere (offset_of y e) s (those (Holding v.want.target v.want.resource (offset_of y e)) s.held) ≡ true
          beside o =
              let h = o.reads.is.0 in
              let range : h.lock.ask.policy ≡ Range o.extent = ap (λ (l : Lock). l.ask.policy) o.reads.is.3 ∙ o.reads.range in
              let one : is_for v.want.target v.want.resource h ≡ true =
              and_from (nat_eq h.target.0 v.want.target.0 && same_resource h.lock.resource v.want.resource) (not h.marked)
              (and_from (nat_eq h.target.0 v.want.target.0) (same_resource h.lock.resource v.want.resource)
              (ap (λ (t : ℕ). nat_eq t v.want.target.0) (o.reads.is.2 ∙ sym used_there.of_target) ∙ self v.want.target.0)
              (ap (λ (r : Resource). same_resource r v.want.resource)
              (ap (λ (l : Lock). l.resource) o.reads.is.3 ∙ o.reads.of_object ∙ sym used_there.of_object)
              ∙ object_self v.want.resource))
              (ap not o.reads.is.4) in
              let over : holds_offset (offset_of y e) h.lock.ask.policy ≡ true =
              ap (holds_offset (offset_of y e)) range ∙ and_from (nat_le o.extent.first (offset_of y e))
              (nat_le (offset_of y e) o.extent.last) (le_is o.extent.first (offset_of y e) o.first)
              (le_is (offset_of y e) o.extent.last o.last) in
              let k = in_filtered (matches (Holding v.want.target v.want.resource (offset_of y e))) h (in_order s.held)
              (ordered_in h s.held o.reads.is.1) (and_from (is_for v.want.target v.want.resource h)
              (holds_offset (offset_of y e) h.lock.ask.policy) one over) in
              let sh : shown_under (offset_of y e) s h.lock ≡ true = ap (shown_under (offset_of y e) s) o.reads.is.3
              ∙ shown_there (object fid used_there.stripe) (offset_of y e) o.lock o.reads.of_object o.shown in
              any_of (λ (x : HeldLock). not (reaches_end x.lock.ask.policy) && shown_under (offset_of y e) s x.lock) h
              (those (Holding v.want.target v.want.resource (offset_of y e)) s.held) k
              (and_from (not (reaches_end h.lock.ask.policy)) (shown_under (offset_of y e) s h.lock)
              (ap not (ap reaches_end range ∙ o.short)) sh)

          by : (b : Bool) → reaches_end v.lock.ask.policy ≡ b → ReachedOf Free c past (slice_index y.targets used_there.stripe)
              (object fid used_there.stripe) (below_on y used_there.stripe p) (offset_of y e)
              → (if b then nat_lt (offset_of y e) (size_under v.lock s) else shown_under (offset_of y e) s v.lock
              || shown_elsewhere (offset_of y e) s (those (Holding v.want.target v.want.resource (offset_of y e)) s.held)) ≡ true
          by true t (inl k) =
              let f = free_end (slice_index y.targets used_there.stripe) (object fid used_there.stripe) (below_on y used_there.stripe p) k.0
              in
              let less = k.1 in
              let eq = f.1 in
              end_same (slice_index y.targets used_there.stripe) (object fid used_there.stripe) (below_on y used_there.stripe p) f.0 v.lock
              used_there.extent used_there.lock (reaches_last v.lock used_there.extent used_there.lock.range t) (offset_of y e) starts
              low ∙ below_is (offset_of y e) f.0.size (omega (arith, less, eq))
          by true t (inr o) = below_is (offset_of y e) (size_under v.lock s)
              (noted_below (slice_index y.targets used_there.stripe) (object fid used_there.stripe) (offset_of y e) (now_shown o) v.lock
              used_there.extent used_there.lock (reaches_last v.lock used_there.extent used_there.lock.range t) low)
          by false t (inl k) = absurd (let z : true ≡ false = sym
              (first v j k.0.reads.is.0 k.0.reads.is.1 (end_fits y fid p v used_there k.0)) ∙ t in cc)
          by false t (inr o) = ap (λ (b : Bool). shown_under (offset_of y e) s v.lock || b) (beside o)
              ∙ or_true (shown_under (offset_of y e) s v.lock)

  -- ---- the locks serve again

  pub served_again : (wanted : Use) → wanted.mode ≡ PR → ServedOf Free wanted → serving wanted (held_at c past) ≡ None → ⊥
  served_again wanted mode k e = by (slice_get (those (ServingToTheEnd wanted) (held_at c past)) 0) refl
    where
      h : HeldLock
      h = k.reads.is.0

      does : serves_use wanted k.reads.is.0 ≡ true
      does =
          and_from (is_for wanted.target wanted.resource h && serves h.lock.ask.mode wanted.mode) (covers h.lock.ask.policy wanted.policy)
          (and_from (is_for wanted.target wanted.resource h) (serves h.lock.ask.mode wanted.mode)
          (and_from (nat_eq h.target.0 wanted.target.0 && same_resource h.lock.resource wanted.resource) (not h.marked)
          (and_from (nat_eq h.target.0 wanted.target.0) (same_resource h.lock.resource wanted.resource)
          (ap (λ (t : ℕ). nat_eq t wanted.target.0) k.reads.is.2 ∙ self wanted.target.0)
          (ap (λ (r : Resource). same_resource r wanted.resource) (ap (λ (l : Lock). l.resource) k.reads.is.3 ∙ k.reads.of_object)
          ∙ object_self wanted.resource))
          (ap not k.reads.is.4))
          (ap (λ (m : Mode). serves m wanted.mode) (ap (λ (l : Lock). l.ask.mode) k.reads.is.3 ∙ k.reads.mode)
          ∙ ap (λ (m : Mode). serves PR m) mode))
          (ap (λ (l : Lock). covers l.ask.policy wanted.policy) k.reads.is.3 ∙ k.covers)

      there : In k.reads.is.0 (those (Serving wanted) (held_at c past))
      there = in_filtered (matches (Serving wanted)) k.reads.is.0 (in_order (held_at c past))
          (ordered_in k.reads.is.0 (held_at c past) k.reads.is.1) does

      some : (xs : List HeldLock) → In k.reads.is.0 xs → slice_get xs 0 ≡ None → ⊥
      some [] i q = i
      some (x ∷ xs) i q = cc

      by : (o : Option HeldLock) → slice_get (those (ServingToTheEnd wanted) (held_at c past)) 0 ≡ o → ⊥
      by None q = let f : serving wanted (held_at c past) ≡ slice_get (those (Serving wanted) (held_at c past)) 0 = rw q refl
          in some (those (Serving wanted) (held_at c past)) there (sym f ∙ e)
      by (Some x) q = let f : serving wanted (held_at c past) ≡ Some x = rw q refl in let z : Some x ≡ None = sym f ∙ e in cc
