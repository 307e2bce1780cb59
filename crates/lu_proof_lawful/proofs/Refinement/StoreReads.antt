-- What a read and a stat of a file are told rests on what the stories of its objects say that the client knows: the end under each lock in
-- use, the
-- offsets that were shown, and each byte.
use Rattle.std.proofs.Common.{◌≡◌, ℕ, zero, suc, ◌≤◌, ◌<◌, ◌+◌, ◌-◌, Bool, true, false, List, [], ◌∷◌, length, Option, Some, None, ◌⊎◌, inl}
use Rattle.std.proofs.Common.{inr, ⊎_elim, refl, sym, subst, ap, ◌∙◌, arith, add-one}
use Rattle.std.specs.Prelude.{map, min, slice_index, ◌^◌, nat_eq, nat_lt, nat_le, ◌&&◌, ◌||◌, ◌==◌, not, if◌then◌else◌, is_some}
use Rattle.std.specs.List.{range_with_len}
use Rattle.std.specs.Option.{unwrap_or}
use Rattle.std.proofs.lemmas.Bool.{and_parts, eqb-true, eq-eqb, not-true, ltb-true}
use Rattle.std.proofs.lemmas.Bool.Decides.{nat_tests}
use Rattle.lu_base.specs.declared.ids.Fid.{Fid}
use Rattle.lu_base.specs.declared.locks.Extent.{Extent}
use Rattle.lu_base.specs.declared.locks.Lock.{Lock as TableLock}
use Rattle.lu_base.specs.declared.locks.Mode.{Mode}
use Rattle.lu_base.specs.declared.locks.Mode.TheVariants.{PR}
use Rattle.lu_base.specs.declared.locks.Policy.{Policy}
use Rattle.lu_base.specs.declared.locks.Policy.TheVariants.{Bits, Range}
use Rattle.lu_base.specs.declared.locks.Resource.{Resource}
use Rattle.lu_layout.specs.Raid0.{Raid0, stripe_of, offset_of, below_of}
use Rattle.lu_layout.specs.Sound.{IsLayout}
use Rattle.lu_layout.proofs.Places.{stripe_of-lt}
use Rattle.lu_lock.specs.Growth.{the_end}
use Rattle.lu_lock.specs.Overlap.{covers as covers_policy}
use Rattle.lu_held.specs.declared.locks.HeldLock.{HeldLock}
use Rattle.lu_held.specs.declared.locks.Use.{Use}
use Rattle.lu_held.specs.declared.locks.Wanted.TheVariants.{Holding}
use Rattle.lu_held.specs.Held.{in_order, those}
use Rattle.lu_held.specs.Locks.{same_resource, is_for, holds_offset, reaches_end}
use Rattle.lu_spec_machine.specs.Places.{found_at}
use Rattle.lu_spec_entries.specs.declared.changes.Dirty.{Dirty}
use Rattle.lu_spec_entries.specs.declared.uses.Using.{Using}
use Rattle.lu_spec_entries.specs.Carried.{Narrow, Wide, Stats, Kind, Work}
use Rattle.lu_spec_entries.specs.Words.{Line}
use Rattle.lu_spec_client.specs.Bytes.{Bytes}
use Rattle.lu_spec_client.specs.Caches.{noted, patch_at, bytes_at, held_at}
use Rattle.lu_spec_client.specs.Looks.{missing, content, file_size, has_reached, byte_of, size_on, size_under, is_there, end_under}
use Rattle.lu_spec_client.specs.Looks.{shown_under, shown_elsewhere, reaches}
use Rattle.lu_spec_client.specs.Patches as rows
use Rattle.lu_spec_client.specs.Patches.{Patch, to_end}
use Rattle.lu_spec_client.specs.States.{Store, store_at, store_turn}
use Rattle.lu_spec_client.specs.Stripes.{stripes, object, below_on}
use Rattle.lu_spec_client.specs.Wants.{want, wants_run, wants_rest}
use Rattle.lu_proof_lawful.specs.Covered.Heads.{Head}
use Rattle.lu_proof_lawful.proofs.Preconditions.Grown.{Grown}
use Rattle.lu_proof_lawful.proofs.Preconditions.Heard.{In, HasRange}
use Rattle.lu_proof_lawful.proofs.Preconditions.HeedMarks.{owed_of}
use Rattle.lu_proof_lawful.proofs.Preconditions.CallGuards.{wanted_by, NotChanging}
use Rattle.lu_proof_lawful.proofs.Preconditions.PinsFit.{PinsFit}
use Rattle.lu_proof_lawful.proofs.Invariants.TargetGroups.{IsKind}
use Rattle.lu_proof_objects.specs.Sound as client
use Rattle.lu_proof_objects.proofs.Calls.{any_true, reached_is}
use Rattle.lu_proof_objects.proofs.Lists.{in_filter, in_ordered}
use Rattle.lu_proof_objects.proofs.Pieces.{below_is, below_low, offset_within, run_wanted, rest_wanted}
use Rattle.lu_proof_objects.proofs.Tables.{object_is}
use Rattle.lu_proof_objects.proofs.Using.{none_missing}
use Rattle.lu_proof_bytes.specs.Object.Words.{Lock, Entry, overlay, covers}
use Rattle.lu_proof_bytes.specs.Object.Folds.{HeldBy, pending, dirty, known, reads_at, shown}
use Rattle.lu_proof_bytes.specs.Object.Guards.{EndAt, ShownAt, in_run}
use Rattle.lu_proof_bytes.proofs.Object.Spot.{run_some, run_bounds}
use Rattle.lu_proof_objects.specs.Points.{lock_at}
use Rattle.lu_proof_objects.specs.Points as points
use Rattle.lu_proof_bytes.specs.Files.Layouts.{known_on, tops, WideOn, NarrowOn, StatOn}
use Rattle.lu_proof_bytes.proofs.Files.Striped.{striped, tops_is}
use Rattle.lu_proof_lawful.specs.Projection.Lives.{is_live, number_of}
use Rattle.lu_proof_lawful.specs.Projection.Locks.{lock_of}
use Rattle.lu_proof_lawful.specs.Projection.Stories.{story}
use Rattle.lu_proof_lawful.proofs.Refinement.ChangesFound.{in_client, covers_in, range_covers, held_there, use_held}
use Rattle.lu_proof_lawful.proofs.Refinement.Place.{place}
use Rattle.lu_proof_lawful.proofs.Refinement.StoreEnds.{end_at}
use Rattle.lu_proof_lawful.proofs.Refinement.StoreSettled.{shown_all, not_put}
use Rattle.lu_proof_lawful.proofs.Refinement.TiedAsked.{AskedTied}
use Rattle.lu_proof_lawful.proofs.Refinement.TiedStore.{StoreBy, StoreTied, life_number, store_owed}
use Rattle.lu_proof_lawful.proofs.Refinement.Uses.{InUse}

-- the story of each stripe's object
abbrev pub stripe_story : Raid0 → Fid → List Line → ℕ → List Entry
stripe_story l fid past i = story (slice_index l.targets i) (object fid i) past

-- a client that lives at each of the file's targets has all the locks in use that its call wants, and owes nothing
pub record Reads (head : Head) (past : List Line) (c : ℕ) (work : Work) : Type 0 where
  pub good : IsLayout work.layout
  pub grown : Grown head past
  pub fit : PinsFit past
  pub owed : owed_of c past ≡ []
  pub still : NotChanging past
  pub wants : wanted_by work ≡ map (λ (u : Using). u.want) work.used
  pub used : (u : Using) → In u work.used → InUse c past u
  pub lies : (i : ℕ) → i < length work.layout.targets → slice_index work.layout.targets i ≡ place head.osts (object work.fid i)
  pub live : (i : ℕ) → i < length work.layout.targets → is_live c past (stripe_story work.layout work.fid past i) ≡ true
  pub asked : (i : ℕ) → i < length work.layout.targets → AskedTied head (slice_index work.layout.targets i) (object work.fid i) past
  pub store : (i : ℕ) → i < length work.layout.targets → StoreTied head (slice_index work.layout.targets i) (object work.fid i) past

-- ---- stripes, and what is wanted on them

in_back : {A : Type 0} (x : A) (xs : List A) → client.In x xs → In x xs
in_back x [] i = absurd i
in_back x (y ∷ ys) (inl e) = inl e
in_back x (y ∷ ys) (inr i) = inr (in_back x ys i)

in_range : (a n i : ℕ) → a ≤ i → i < a + n → In i (range_with_len a n)
in_range a zero i low high = absurd (omega (arith, low, high))
in_range a (suc n) i low high = by (nat_eq a i) refl (λ l h. in_range (a + 1) n i l h)
  where
    by : (b : Bool) → nat_eq a i ≡ b → (a + 1 ≤ i → i < a + 1 + n → In i (range_with_len (a + 1) n)) → (a ≡ i)
        ⊎ In i (range_with_len (a + 1) n)
    by true e ih = inl (eqb-true a i e)
    by false e ih = inr (ih (grind (arith, nat_tests, low, e)) (omega (arith, high)))

on_stripes : (l : Raid0) (i : ℕ) → i < length l.targets → In i (stripes l)
on_stripes l i low = in_range 0 (length l.targets) i (omega arith) (omega (arith, low))

rest_there : (l : Raid0) (fid : Fid) (p : ℕ) (is : List ℕ) (i : ℕ) → In i is
    → In (want l fid PR i (to_end (below_on l i p))) (wants_rest l fid p is)
rest_there l fid p [] i j = absurd j
rest_there l fid p (k ∷ is) i (inl e) = inl (ap (λ (n : ℕ). want l fid PR n (to_end (below_on l n p))) e)
rest_there l fid p (k ∷ is) i (inr j) = inr (rest_there l fid p is i j)

-- what a run wants of a stripe
abbrev run_on : Raid0 → (p end i : ℕ) → Extent
run_on l p end i = record { first = below_on l i p; last = below_on l i end - 1 }

run_there : (l : Raid0) (fid : Fid) (p end : ℕ) (is : List ℕ) (i : ℕ) → In i is → below_on l i p < below_on l i end
    → In (want l fid PR i (run_on l p end i)) (wants_run l fid PR p end is)
run_there l fid p end [] i j less = absurd j
run_there l fid p end (k ∷ is) i j less = by (nat_lt (below_on l k p) (below_on l k end)) refl j (λ x. run_there l fid p end is i x less)
  where
    by : (b : Bool) → nat_lt (below_on l k p) (below_on l k end) ≡ b → (k ≡ i) ⊎ In i is
        → (In i is → In (want l fid PR i (run_on l p end i)) (wants_run l fid PR p end is))
        → In (want l fid PR i (run_on l p end i)) (if b then want l fid PR k (run_on l p end k) ∷ wants_run l fid PR p end is
        else wants_run l fid PR p end is)
    by true e (inl q) ih = inl (ap (λ (n : ℕ). want l fid PR n (run_on l p end n)) q)
    by true e (inr x) ih = inr (ih x)
    by false e (inr x) ih = ih x
    by false e (inl q) ih = absurd (let z : nat_lt (below_on l i p) (below_on l i end) ≡ false =
        ap (λ (n : ℕ). nat_lt (below_on l n p) (below_on l n end)) (sym q) ∙ e in grind (arith, nat_tests, less, z))

in_map : (w : Use) (us : List Using) → In w (map (λ (u : Using). u.want) us) → (u : Using) × In u us × (u.want ≡ w)
in_map w [] i = absurd i
in_map w (u ∷ us) (inl e) = (u, inl refl, e)
in_map w (u ∷ us) (inr i) = let r = in_map w us i in (r.0, inr r.1, r.2)

mapped : (u : Using) (us : List Using) → In u us → In u.want (map (λ (v : Using). v.want) us)
mapped u [] i = absurd i
mapped u (v ∷ us) (inl e) = inl (ap (λ (x : Using). x.want) e)
mapped u (v ∷ us) (inr i) = inr (mapped u us i)

-- ---- the first lock in use on a stripe

abbrev first_lock : ℕ → List Using → Lock
first_lock i [] = record { cookie = 0; life = 0; write = false; first = 0; last = None }
first_lock i (u ∷ us) = if u.want.resource.stripe == i then lock_of u.lock else first_lock i us

record FirstOn (i : ℕ) (us : List Using) (s : Store) : Type 0 where
  under : Using
  among : In under us
  stripe : under.want.resource.stripe ≡ i
  size : size_on i us s ≡ size_under under.lock s
  lock : first_lock i us ≡ lock_of under.lock

first_on : (i : ℕ) (us : List Using) (s : Store) (u : Using) → In u us → u.want.resource.stripe ≡ i → FirstOn i us s
first_on i [] s u j on = absurd j
first_on i (v ∷ us) s u j on = by (v.want.resource.stripe == i) refl (λ k. first_on i us s u k on) j
  where
    by : (b : Bool) → (v.want.resource.stripe == i) ≡ b → (In u us → FirstOn i us s) → (v ≡ u) ⊎ In u us → FirstOn i (v ∷ us) s
    by true e ih j = record {
      under = v;
      among = inl refl;
      stripe = eqb-true v.want.resource.stripe i e;
      size = rw e refl;
      lock =
          rw e refl;
    }
    by false e ih (inr k) = let f = ih k in record {
      under = f.under;
      among = inr f.among;
      stripe = f.stripe;
      size = rw e f.size;
      lock =
          rw e f.lock;
    }
    by false e ih (inl q) = absurd (let z : (u.want.resource.stripe == i) ≡ false = ap (λ (x : Using). x.want.resource.stripe == i) (sym q)
        ∙ e in let y : (u.want.resource.stripe == i) ≡ true = eq-eqb u.want.resource.stripe i on in let x : true ≡ false = sym y ∙ z in cc)

-- ---- bytes that are told

content_length : (l : Raid0) (fid : Fid) (s : Store) (p n : ℕ) → length (content l fid s p n) ≡ n
content_length l fid s p zero = refl
content_length l fid s p (suc n) = ap suc (content_length l fid s (p + 1) n)

content_at : (l : Raid0) (fid : Fid) (s : Store) (p n q v : ℕ) → overlay p (content l fid s p n) q None ≡ Some v → byte_of l fid q s ≡ v
content_at l fid s p zero q v e = absurd (cc)
content_at l fid s p (suc n) q v e = by (nat_eq p q) refl e (content_at l fid s (p + 1) n q v)
  where
    by : (b : Bool) → nat_eq p q ≡ b → (if b then Some (byte_of l fid p s) else overlay (suc p) (content l fid s (p + 1) n) q None) ≡ Some v
        → (overlay (p + 1) (content l fid s (p + 1) n) q None ≡ Some v → byte_of l fid q s ≡ v) → byte_of l fid q s ≡ v
    by true f e ih = let same = eqb-true p q f in let z : byte_of l fid p s ≡ v = cc in ap (λ (k : ℕ). byte_of l fid k s) (sym same) ∙ z
    by false f e ih = ih (ap (λ (k : ℕ). overlay k (content l fid s (p + 1) n) q None) (add-one p) ∙ e)

content_within : (l : Raid0) (fid : Fid) (s : Store) (p n q v : ℕ) → overlay p (content l fid s p n) q None ≡ Some v → (p ≤ q) × (q < p + n)
content_within l fid s p n q v e =
    let b = run_bounds p (content l fid s p n) q (run_some p (content l fid s p n) q v e) in
    let count = content_length l fid s p n in
    let high = b.1 in
    (b.0, omega (arith, high, count))

-- ---- a byte that a client takes an offset for

reads_same : (d : Option Dirty) (o : Option ℕ) (p : ℕ) (k : Option ℕ) → rows.over_at d o p k ≡ reads_at o (points.byte_of d) k p
reads_same (Some d) o p k = refl
reads_same None None p k = refl
reads_same None (Some q) p k = by (nat_lt p q) refl (nat_lt q (suc p)) refl
  where
    by : (a : Bool) → nat_lt p q ≡ a → (b : Bool) → nat_lt q (suc p) ≡ b → (if a then k else Some 0) ≡ (if b then Some 0 else k)
    by true e true f = absurd (grind (arith, nat_tests, e, f))
    by true e false f = refl
    by false e true f = refl
    by false e false f = absurd (grind (arith, nat_tests, e, f))

none_there : (bytes : Bytes) (patch : Patch) (p : ℕ) → rows.reads_at patch p (found_at bytes p) ≡ None → is_there bytes patch.dirty p
    ≡ false
none_there bytes patch p e = by (found_at patch.dirty p) refl patch.pending (found_at bytes p) refl e
  where
    by : (d : Option Dirty) → found_at patch.dirty p ≡ d → (o : Option ℕ) (k : Option ℕ) → found_at bytes p ≡ k → rows.over_at d o p k
        ≡ None → (is_some k || is_some d) ≡ false
    by (Some d) f o k g e = absurd (cc)
    by None f o None g e = refl
    by None f None (Some v) g e = absurd (cc)
    by None f (Some q) (Some v) g e = absurd (cut (nat_lt p q) e)
      where
        cut : (b : Bool) → (if b then Some v else Some 0) ≡ None → ⊥
        cut true e = cc
        cut false e = cc

-- ---- a lock on a range

lock_shape : (m : TableLock) (x : Extent) → m.ask.policy ≡ Range x → lock_of m ≡ lock_at m.cookie.0 (number_of m.ask.who) m.ask.mode x
lock_shape m x e = rw e refl

last_none : (m : TableLock) (x : Extent) → m.ask.policy ≡ Range x → (x.last == the_end) ≡ true → (lock_of m).last ≡ None
last_none m x e f = ap (λ (k : Lock). k.last) (lock_shape m x e) ∙ rw f refl

last_some : (m : TableLock) (x : Extent) → m.ask.policy ≡ Range x → (x.last == the_end) ≡ false → (lock_of m).last ≡ Some x.last
last_some m x e f = ap (λ (k : Lock). k.last) (lock_shape m x e) ∙ rw f refl

reached_some : (q : ℕ) (o : Option ℕ) → reaches q o ≡ true → (most : ℕ) × (o ≡ Some most) × (q ≤ most)
reached_some q None e = absurd (cc)
reached_some q (Some most) e = (most, refl, le q most e)
  where
    le : (a b : ℕ) → nat_le a b ≡ true → a ≤ b
    le a b e = grind (arith, nat_tests, e)

offset_range : (q : ℕ) (policy : Policy) → holds_offset q policy ≡ true → (x : Extent) × (policy ≡ Range x) × (x.first ≤ q) × (q ≤ x.last)
offset_range q (Bits b) e = absurd (cc)
offset_range q (Range x) e = let p = and_parts (nat_le x.first q) (nat_le q x.last) e in (x, refl, le x.first q p.0, le q x.last p.1)
  where
    le : (a b : ℕ) → nat_le a b ≡ true → a ≤ b
    le a b e = grind (arith, nat_tests, e)

-- ---- a call's locks and bytes

module _ (head : Head) (past : List Line) (c : ℕ) (work : Work) (reads : Reads head past c work) where
  abbrev s : Store
  s = store_at c past

  abbrev l : Raid0
  l = work.layout

  abbrev fid : Fid
  fid = work.fid

  abbrev h : ℕ → List Entry
  h = stripe_story work.layout work.fid past

  abbrev w : ℕ
  w = life_number c past

  now : store_owed c past ≡ store_at c past
  now = ap (store_turn (store_at c past)) reads.owed

  by_store : (i : ℕ) → i < length work.layout.targets → StoreBy (slice_index work.layout.targets i) (object work.fid i) past (h i) c
  by_store i low = (reads.store i low).of c (reads.live i low)

  -- a lock in use on a stripe, over what is wanted there
  record UsedOn (i : ℕ) (x : Extent) (u : Using) : Type 0 where
    held : HeldBy (h i) (lock_of u.lock)
    life : (lock_of u.lock).life ≡ w
    of_object : u.lock.resource ≡ object work.fid i
    extent : Extent
    range : u.lock.ask.policy ≡ Range extent
    low : extent.first ≤ x.first
    high : x.last ≤ extent.last
    most : extent.last ≤ the_end

  used_on : (i : ℕ) (mode : Mode) (x : Extent) (u : Using) → i < length work.layout.targets → In u work.used → u.want
      ≡ want work.layout work.fid mode i x → UsedOn i x u
  used_on i mode x u low j is =
      let uses = reads.used u j in
      let on = ap (λ (v : Use). v.resource) is in
      let f = use_held head (slice_index work.layout.targets i) (object work.fid i) past (reads.lies i low) reads.grown reads.fit c
      ((reads.asked i low).of c (reads.live i low)) reads.owed u uses on in
      let r = range_covers u.lock.ask.policy x (ap (λ (v : Use). covers_policy u.lock.ask.policy v.policy) (sym is) ∙ uses.covers) in
      let kind : IsKind u.lock.ask.mode (Range r.0) = subst (IsKind u.lock.ask.mode) r.1 f.2 in
      record { held = f.0; life = f.1; of_object = uses.of_object ∙ on; extent = r.0; range = r.1; low = r.2; high = r.3; most = kind.1 }

  first_is : (m : TableLock) (x : Extent) → m.ask.policy ≡ Range x → (lock_of m).first ≡ x.first
  first_is m x e = ap (λ (k : Lock). k.first) (lock_shape m x e)

  -- one to the end knows the end
  ends_at : (i : ℕ) (x : Extent) (u : Using) → i < length work.layout.targets → (k : UsedOn i x u) → (k.extent.last == the_end) ≡ true
      → (at : ℕ) → k.extent.first ≤ at → EndAt (h i) w at (size_under u.lock s)
  ends_at i x u low k end at first =
      end_at (slice_index work.layout.targets i) (object work.fid i) past (h i) c reads.owed (by_store i low) u.lock k.of_object k.held
      k.life (last_none u.lock k.extent k.range end) at
      (let e = first_is u.lock k.extent k.range in omega (arith, e, first))

  -- what the client takes an offset for
  taken_for : (i q : ℕ) → i < length work.layout.targets → q ≤ the_end
      → rows.reads_at (patch_at (object work.fid i) s.patches) q (found_at (bytes_at (object work.fid i) s.bytes) q)
      ≡ reads_at (pending w (h i)) (dirty w (h i) q) (known w (h i) q) q
  taken_for i q low small =
      ap (λ (z : Store). rows.reads_at (patch_at r z.patches) q (found_at (bytes_at r z.bytes) q)) (sym now)
      ∙ reads_same (found_at patch.dirty q) patch.pending q (found_at (bytes_at r (store_owed c past).bytes) q)
      ∙ ap (λ (o : Option ℕ). reads_at o (points.dirty_at patch q) (found_at (bytes_at r (store_owed c past).bytes) q) q) by.patch.pending
      ∙ ap (λ (d : Option ℕ). reads_at (pending w (h i)) d (found_at (bytes_at r (store_owed c past).bytes) q) q) (by.patch.dirty q)
      ∙ ap (λ (k : Option ℕ). reads_at (pending w (h i)) (dirty w (h i) q) k q) (by.known q small)
    where
      r : Resource
      r = object work.fid i

      patch : Patch
      patch = patch_at r (store_owed c past).patches

      by : StoreBy (slice_index work.layout.targets i) (object work.fid i) past (h i) c
      by = by_store i low

  abbrev Known : ℕ → ℕ → Type 0
  Known q v = known_on h (striped work.layout reads.good) w q v

  -- a byte of the run is known, or lies at or past the end of its object
  byte_case : (p n : ℕ) → p + n ≤ 2 ^ 40 → missing work.layout p (p + n) s work.used ≡ None → (q v : ℕ) → p ≤ q → q < p + n
      → byte_of work.layout work.fid q s ≡ v
      → (u : Using) → In u work.used → u.want.resource.stripe ≡ stripe_of work.layout q → u.lock.resource
      ≡ object work.fid (stripe_of work.layout q)
      → Known q v ⊎ ((reaches_end u.lock.ask.policy ≡ true) × (size_under u.lock s ≤ offset_of work.layout q) × (v ≡ 0))
  byte_case p n small none q v low high is u j stripe on = by (rows.reads_at (patch_at r s.patches) offset
      (found_at (bytes_at r s.bytes) offset)) refl
    where
      i : ℕ
      i = stripe_of work.layout q

      offset : ℕ
      offset = offset_of work.layout q

      r : Resource
      r = object work.fid i

      here : i < length work.layout.targets
      here = stripe_of-lt work.layout q reads.good

      within : (below_on work.layout i p ≤ offset) × (offset < below_on work.layout i (p + n))
      within = offset_within work.layout i p n q reads.good here low high refl

      near : offset ≤ the_end
      near = let a = within.1 in let b = below_is work.layout i (p + n) reads.good here in let d = below_low work.layout i (p + n)
          in omega (arith, a, b, d, small)

      past_end : (b : Bool) → reaches_end u.lock.ask.policy ≡ b
          → (offset < (if b then min (below_on work.layout i (p + n)) (size_under u.lock s) else below_on work.layout i (p + n)) → ⊥)
          → (reaches_end u.lock.ask.policy ≡ true) × (size_under u.lock s ≤ offset)
      past_end false e out = absurd (out within.1)
      past_end true e out = (e, by_cases (nat_lt offset (size_under u.lock s)) refl)
        where
          by_cases : (b : Bool) → nat_lt offset (size_under u.lock s) ≡ b → size_under u.lock s ≤ offset
          by_cases false f = grind (arith, nat_tests, f)
          by_cases true f = absurd (out (let a = ltb-true offset (size_under u.lock s) f in let b = within.1 in omega (arith, a, b)))

      by : (o : Option ℕ) → rows.reads_at (patch_at r s.patches) offset (found_at (bytes_at r s.bytes) offset) ≡ o → Known q v
          ⊎ ((reaches_end u.lock.ask.policy ≡ true) × (size_under u.lock s ≤ offset) × (v ≡ 0))
      by (Some b) e =
          let same : b ≡ v = ap (λ (o : Option ℕ). unwrap_or o 0) (sym e) ∙ is in
          inl (sym (taken_for i offset here near) ∙ e ∙ ap Some same)
      by None e =
          let zero_is : 0 ≡ v = ap (λ (o : Option ℕ). unwrap_or o 0) (sym e) ∙ is in
          let not_there = none_there (bytes_at r s.bytes) (patch_at r s.patches) offset e in
          let out : offset < end_under u.lock (below_on work.layout i (p + n)) s → ⊥ = λ less.
          let there = none_missing work.layout p (p + n) s work.used none u offset (in_client u work.used j)
          (let a = within.0 in let k = ap (λ (m : ℕ). below_on work.layout m p) stripe in omega (arith, a, k))
          (subst (λ (m : ℕ). offset < end_under u.lock (below_on work.layout m (p + n)) s) (sym stripe) less) in
          let same : is_there (bytes_at r s.bytes) (patch_at r s.patches).dirty offset ≡ true =
          ap (λ (z : Resource). is_there (bytes_at z s.bytes) (patch_at z s.patches).dirty offset) (sym on) ∙ there in
          let z : true ≡ false = sym same ∙ not_there in
          cc in
          let f = past_end (reaches_end u.lock.ask.policy) refl out in
          inr (f.0, f.1, sym zero_is)

  -- ---- a read to the end

  abbrev IsRest : ℕ → Type 0
  IsRest p = wanted_by work ≡ wants_rest work.layout work.fid p (stripes work.layout)

  rest_on : (p : ℕ) → IsRest p → (i : ℕ) → i < length work.layout.targets → (f : FirstOn i work.used s)
      × UsedOn i (to_end (below_on work.layout i p)) f.under
  rest_on p is i low =
      let there : In (want work.layout work.fid PR i (to_end (below_on work.layout i p))) (map (λ (u : Using). u.want) work.used) =
      subst (λ (ws : List Use). In (want work.layout work.fid PR i (to_end (below_on work.layout i p))) ws) (sym is ∙ reads.wants)
      (rest_there work.layout work.fid p (stripes work.layout) i (on_stripes work.layout i low)) in
      let u = in_map (want work.layout work.fid PR i (to_end (below_on work.layout i p))) work.used there in
      let f = first_on i work.used s u.0 u.1 (ap (λ (v : Use). v.resource.stripe) u.2) in
      let wanted : In f.under.want (wants_rest work.layout work.fid p (stripes work.layout)) =
      subst (λ (ws : List Use). In f.under.want ws) (sym reads.wants ∙ is) (mapped f.under work.used f.among) in
      let k = rest_wanted work.layout work.fid p (stripes work.layout) f.under.want
      (in_client f.under.want (wants_rest work.layout work.fid p (stripes work.layout)) wanted) in
      let same : k.0 ≡ i = ap (λ (v : Use). v.resource.stripe) k.2 ∙ f.stripe in (
        f,
        used_on i PR (to_end (below_on work.layout i p)) f.under low f.among
            (sym k.2 ∙ ap (λ (n : ℕ). want work.layout work.fid PR n (to_end (below_on work.layout n p))) same),
      )

  to_the_end : (p i : ℕ) (u : Using) (k : UsedOn i (to_end (below_on work.layout i p)) u) → (k.extent.last == the_end) ≡ true
  to_the_end p i u k = eq-eqb k.extent.last the_end (let a = k.high in let b = k.most in both k.extent.last the_end b a)
    where
      both : (a b : ℕ) → a ≤ b → b ≤ a → a ≡ b
      both a b x y = omega (arith, x, y)

  rest_ends : (p : ℕ) → IsRest p → (i : ℕ) → i < length work.layout.targets → (at : ℕ) → below_on work.layout i p ≤ at
      → EndAt (h i) w at (size_on i work.used s)
  rest_ends p is i low at first =
      let f = rest_on p is i low in
      subst (λ (z : ℕ). EndAt (h i) w at z) (sym f.0.size) (ends_at i (to_end (below_on work.layout i p)) f.0.under low f.1
      (to_the_end p i f.0.under f.1) at (let a = f.1.low in omega (arith, a, first)))

  size_is : tops (striped work.layout reads.good) (λ i. size_on i work.used s) (length work.layout.targets)
      ≡ file_size work.layout (stripes work.layout) work.used s
  size_is = tops_is work.layout reads.good (λ i. size_on i work.used s)

  -- ---- a read of a run

  abbrev IsRun : ℕ → ℕ → Type 0
  IsRun p n = wanted_by work ≡ wants_run work.layout work.fid PR p (p + n) (stripes work.layout)

  -- on the stripe of a position of the run
  run_used : (p n q : ℕ) → IsRun p n → p ≤ q → q < p + n → (u : Using) → In u work.used → u.want.resource.stripe ≡ stripe_of work.layout q
      → UsedOn (stripe_of work.layout q) (run_on work.layout p (p + n) (stripe_of work.layout q)) u
  run_used p n q is low high u j on =
      let wanted : In u.want (wants_run work.layout work.fid PR p (p + n) (stripes work.layout)) =
      subst (λ (ws : List Use). In u.want ws) (sym reads.wants ∙ is) (mapped u work.used j) in
      let k = run_wanted work.layout work.fid PR p (p + n) (stripes work.layout) u.want
      (in_client u.want (wants_run work.layout work.fid PR p (p + n) (stripes work.layout)) wanted) in
      let same : k.0 ≡ stripe_of work.layout q = ap (λ (v : Use). v.resource.stripe) k.3 ∙ on in
      used_on (stripe_of work.layout q) PR (run_on work.layout p (p + n) (stripe_of work.layout q)) u
      (stripe_of-lt work.layout q reads.good) j
      (sym k.3 ∙ ap (λ (m : ℕ). want work.layout work.fid PR m (run_on work.layout p (p + n) m)) same)

  run_first : (p n q : ℕ) → IsRun p n → p ≤ q → q < p + n → (f : FirstOn (stripe_of work.layout q) work.used s)
      × UsedOn (stripe_of work.layout q) (run_on work.layout p (p + n) (stripe_of work.layout q)) f.under
  run_first p n q is low high =
      let i = stripe_of work.layout q in
      let here = stripe_of-lt work.layout q reads.good in
      let within = offset_within work.layout i p n q reads.good here low high refl in
      let a = within.0 in
      let b = within.1 in
      let there : In (want work.layout work.fid PR i (run_on work.layout p (p + n) i)) (map (λ (u : Using). u.want) work.used) =
      subst (λ (ws : List Use). In (want work.layout work.fid PR i (run_on work.layout p (p + n) i)) ws) (sym is ∙ reads.wants)
      (run_there work.layout work.fid p (p + n) (stripes work.layout) i (on_stripes work.layout i here) (omega (arith, a, b))) in
      let u = in_map (want work.layout work.fid PR i (run_on work.layout p (p + n) i)) work.used there in
      let f = first_on i work.used s u.0 u.1 (ap (λ (v : Use). v.resource.stripe) u.2) in
      (f, run_used p n q is low high f.under f.among f.stripe)

  -- the lock in use there is over the position's offset
  over_offset : (p n q : ℕ) → p ≤ q → q < p + n → (u : Using) → (k : UsedOn (stripe_of work.layout q)
      (run_on work.layout p (p + n) (stripe_of work.layout q)) u) → (k.extent.first ≤ offset_of work.layout q)
      × (offset_of work.layout q ≤ k.extent.last)
  over_offset p n q low high u k =
      let within = offset_within work.layout (stripe_of work.layout q) p n q reads.good (stripe_of-lt work.layout q reads.good) low high
      refl in
      let a = within.0 in
      let b = within.1 in
      let x = k.low in
      let y = k.high in
      (omega (arith, a, x), omega (arith, b, y))

  range_covered : (m : TableLock) (x : Extent) (q : ℕ) → m.ask.policy ≡ Range x → x.first ≤ q → q ≤ x.last → covers (lock_of m) q ≡ true
  range_covered m x q e low high = ap (λ (k : Lock). covers k q) (lock_shape m x e)
      ∙ covers_in m.cookie.0 (number_of m.ask.who) m.ask.mode x q low high

  -- ---- what was shown

  shown_at : (i q : ℕ) → i < length work.layout.targets → (m : TableLock) (x : Extent) → m.resource ≡ object work.fid i
      → HeldBy (h i) (lock_of m) → (lock_of m).life ≡ w → m.ask.policy ≡ Range x → (x.last == the_end) ≡ false
      → x.first ≤ q → q ≤ x.last → shown_under q s m ≡ true → ShownAt (h i) w q
  shown_at i q low m x on held life range short first last e =
      record {
        lock = lock_of m;
        held = held;
        life = life;
        covered = range_covered m x q range first last;
        last = x.last;
        short =
            last_some m x range short;
        most = f.0;
        shown = told;
        reached = f.2;
      }
    where
      r : Resource
      r = object work.fid i

      by : StoreBy (slice_index work.layout.targets i) (object work.fid i) past (h i) c
      by = by_store i low

      same : noted m.resource m.cookie s.shown ≡ noted r m.cookie (store_owed c past).shown
      same = ap (λ (z : Resource). noted z m.cookie s.shown) on ∙ ap (λ (z : Store). noted r m.cookie z.shown) (sym now)

      f : (most : ℕ) × (noted r m.cookie (store_owed c past).shown ≡ Some most) × (q ≤ most)
      f = reached_some q (noted r m.cookie (store_owed c past).shown) (ap (reaches q) (sym same) ∙ e)

      told : shown (lock_of m).life (lock_of m).cookie (h i) ≡ Some f.0
      told =
          ap (λ (v : ℕ). shown v (lock_of m).cookie (h i)) life
          ∙ ap (shown w (lock_of m).cookie) (sym (shown_all c r past (h i) (not_put past reads.still)))
          ∙ sym (by.shown (lock_of m) held life)
          ∙ f.1

  abbrev ReachedAt : ℕ → Type 0
  ReachedAt e = ((z : ℕ) × EndAt (h (stripe_of work.layout e)) w (offset_of work.layout e) z × (offset_of work.layout e < z))
      ⊎ ShownAt (h (stripe_of work.layout e)) w (offset_of work.layout e)

  -- under another lock
  elsewhere : (e : ℕ) (u : Using) → u.want.resource ≡ object work.fid (stripe_of work.layout e)
      → shown_elsewhere (offset_of work.layout e) s (those (Holding u.want.target u.want.resource (offset_of work.layout e)) s.held) ≡ true
      → ReachedAt e
  elsewhere e u on t =
      let i = stripe_of work.layout e in
      let q = offset_of work.layout e in
      let low = stripe_of-lt work.layout e reads.good in
      let x = any_true (λ (k : HeldLock). not (reaches_end k.lock.ask.policy) && shown_under q s k.lock)
      (those (Holding u.want.target u.want.resource q) s.held) t in
      let k = x.0 in
      let a = in_filter (λ (g : HeldLock). is_for u.want.target u.want.resource g && holds_offset q g.lock.ask.policy) k (in_order s.held)
      x.1 in
      let one = and_parts (is_for u.want.target u.want.resource k) (holds_offset q k.lock.ask.policy) a.1 in
      let two = and_parts (nat_eq k.target.0 u.want.target.0 && same_resource k.lock.resource u.want.resource) (not k.marked) one.0 in
      let three = and_parts (nat_eq k.target.0 u.want.target.0) (same_resource k.lock.resource u.want.resource) two.0 in
      let four = and_parts (not (reaches_end k.lock.ask.policy)) (shown_under q s k.lock) x.2 in
      let its : k.lock.resource ≡ object work.fid i = object_is k.lock.resource u.want.resource three.1 ∙ on in
      let range = offset_range q k.lock.ask.policy one.1 in
      let f = held_there head (slice_index work.layout.targets i) (object work.fid i) past (reads.lies i low) reads.grown reads.fit c
      ((reads.asked i low).of c (reads.live i low)) reads.owed k (in_back k (held_at c past) (in_ordered k s.held a.0)) its
      (subst HasRange (sym range.1) tt) in
      let short : (range.0.last == the_end) ≡ false = ap reaches_end (sym range.1) ∙ not-true (reaches_end k.lock.ask.policy) four.0 in
      inr (shown_at i q low k.lock range.0 its f.0 f.1 range.1 short range.2 range.3 four.1)

  reached_at : (p n : ℕ) → IsRun p n → 0 < n → has_reached work.layout (p + n - 1) work.used s ≡ true → ReachedAt (p + n - 1)
  reached_at p n is some t =
      let r = reached_is work.layout (p + n - 1) work.used s t in
      let j = in_back r.0 work.used r.1 in
      let k = run_used p n (p + n - 1) is (omega (arith, some)) (omega (arith, some)) r.0 j r.2 in
      let over = over_offset p n (p + n - 1) (omega (arith, some)) (omega (arith, some)) r.0 k in
      by r.0 k over.0 over.1 ((reads.used r.0 j).of_object) (reaches_end r.0.lock.ask.policy) refl
      (shown_under (offset_of work.layout (p + n - 1)) s r.0.lock) refl r.3
    where
      e : ℕ
      e = p + n - 1

      by : (u : Using) (k : UsedOn (stripe_of work.layout e) (run_on work.layout p (p + n) (stripe_of work.layout e)) u)
          → k.extent.first ≤ offset_of work.layout e → offset_of work.layout e ≤ k.extent.last → u.lock.resource ≡ u.want.resource
          → (v : Bool) → reaches_end u.lock.ask.policy ≡ v → (z : Bool) → shown_under (offset_of work.layout e) s u.lock ≡ z
          → (if v then nat_lt (offset_of work.layout e) (size_under u.lock s) else z
          || shown_elsewhere (offset_of work.layout e) s (those (Holding u.want.target u.want.resource (offset_of work.layout e))
          s.held)) ≡ true
          → ReachedAt e
      by u k low high on true f z g t =
          inl (
            size_under u.lock s,
            ends_at (stripe_of work.layout e) (run_on work.layout p (p + n) (stripe_of work.layout e)) u
                (stripe_of-lt work.layout e reads.good) k (ap reaches_end (sym k.range) ∙ f) (offset_of work.layout e) low,
            ltb-true (offset_of work.layout e) (size_under u.lock s) t,
          )
      by u k low high on false f true g t =
          inr (shown_at (stripe_of work.layout e) (offset_of work.layout e) (stripe_of-lt work.layout e reads.good) u.lock k.extent
          k.of_object k.held k.life k.range (ap reaches_end (sym k.range) ∙ f) low high g)
      by u k low high on false f false g t = elsewhere e u (sym on ∙ k.of_object) t

pub wide_reads : (head : Head) (past : List Line) (c : ℕ) (work : Work) (reads : Reads head past c work) (p n : ℕ) → work.kind ≡ Wide p n
    → p + n ≤ 2 ^ 40
    → missing work.layout p (p + n) (store_at c past) work.used ≡ None
    → WideOn (stripe_story work.layout work.fid past) (striped work.layout reads.good) (life_number c past) p n
    (content work.layout work.fid (store_at c past) p (min n (file_size work.layout (stripes work.layout) work.used (store_at c past) - p)))
wide_reads head past c work reads p n kind small none =
    record {
      ends = λ i. size_on i work.used (store_at c past);
      locks = λ i low has. rest_ends head past c work reads p rest i low (below_of work.layout i p)
          (let e = below_is work.layout i p reads.good low in omega (arith, e));
      count = content_length work.layout work.fid (store_at c past) p m
          ∙ ap (λ (z : ℕ). min n (z - p)) (sym (size_is head past c work reads));
      each = each;
    }
  where
    m : ℕ
    m = min n (file_size work.layout (stripes work.layout) work.used (store_at c past) - p)

    rest : IsRest head past c work reads p
    rest = ap (λ (k : Kind). wanted_by (record work { kind = k })) kind

    each : (q v : ℕ) → overlay p (content work.layout work.fid (store_at c past) p m) q None ≡ Some v
        → known_on (stripe_story work.layout work.fid past) (striped work.layout reads.good) (life_number c past) q v
        ⊎ ((size_on (stripe_of work.layout q) work.used (store_at c past) ≤ offset_of work.layout q) × (v ≡ 0))
    each q v e =
        let b = content_within work.layout work.fid (store_at c past) p m q v e in
        let low = b.0 in
        let high = b.1 in
        let f = rest_on head past c work reads p rest (stripe_of work.layout q) (stripe_of-lt work.layout q reads.good) in
        ⊎_elim (λ k. inl k)
        (λ (k : (reaches_end f.0.under.lock.ask.policy ≡ true) × (size_under f.0.under.lock (store_at c past) ≤ offset_of work.layout q)
        × (v ≡ 0)). inr (let a = k.1 in let z = f.0.size in omega (arith, a, z), k.2))
        (byte_case head past c work reads p n small none q v low (omega (arith, high))
        (content_at work.layout work.fid (store_at c past) p m q v e) f.0.under f.0.among f.0.stripe f.1.of_object)

pub narrow_reads : (head : Head) (past : List Line) (c : ℕ) (work : Work) (reads : Reads head past c work) (p n : ℕ) → work.kind
    ≡ Narrow p n → 0 < n → p + n ≤ 2 ^ 40
    → missing work.layout p (p + n) (store_at c past) work.used ≡ None → has_reached work.layout (p + n - 1) work.used (store_at c past)
    ≡ true
    → NarrowOn (stripe_story work.layout work.fid past) (striped work.layout reads.good) (life_number c past) p n
    (content work.layout work.fid (store_at c past) p n)
narrow_reads head past c work reads p n kind some small none reached =
    record {
      lock = λ q. first_lock (stripe_of work.layout q) work.used;
      held = λ q e. let b = within q e in let f = run_first head past c work reads p n q run b.0 b.1
          in subst (HeldBy (stripe_story work.layout work.fid past (stripe_of work.layout q))) (sym f.0.lock) f.1.held;
      life = λ q e. let b = within q e in let f = run_first head past c work reads p n q run b.0 b.1 in ap (λ (k : Lock). k.life) f.0.lock
          ∙ f.1.life;
      covered = λ q e.
          let b = within q e in
          let f = run_first head past c work reads p n q run b.0 b.1 in
          let over = over_offset head past c work reads p n q b.0 b.1 f.0.under f.1 in
          ap (λ (k : Lock). covers k (offset_of work.layout q)) f.0.lock
          ∙ range_covered head past c work reads f.0.under.lock f.1.extent (offset_of work.layout q) f.1.range over.0 over.1;
      count = content_length work.layout work.fid (store_at c past) p n;
      each = each;
      final = p + n - 1;
      is_final = omega (arith, some);
      reached = reached_at head past c work reads p n run some reached;
    }
  where
    run : IsRun head past c work reads p n
    run = ap (λ (k : Kind). wanted_by (record work { kind = k })) kind

    within : (q : ℕ) → in_run p n q ≡ true → (p ≤ q) × (q < p + n)
    within q e = let b = and_parts (nat_lt p (suc q)) (nat_lt q (p + n)) e in let x = ltb-true p (suc q) b.0
        in (omega (arith, x), ltb-true q (p + n) b.1)

    each : (q v : ℕ) → overlay p (content work.layout work.fid (store_at c past) p n) q None ≡ Some v
        → known_on (stripe_story work.layout work.fid past) (striped work.layout reads.good) (life_number c past) q v
        ⊎ ((z : ℕ) × EndAt (stripe_story work.layout work.fid past (stripe_of work.layout q)) (life_number c past) (offset_of work.layout q)
        z × (z ≤ offset_of work.layout q) × (v ≡ 0))
    each q v e =
        let b = content_within work.layout work.fid (store_at c past) p n q v e in
        let f = run_first head past c work reads p n q run b.0 b.1 in
        let over = over_offset head past c work reads p n q b.0 b.1 f.0.under f.1 in
        ⊎_elim (λ k. inl k)
        (λ (k : (reaches_end f.0.under.lock.ask.policy ≡ true) × (size_under f.0.under.lock (store_at c past) ≤ offset_of work.layout q)
        × (v ≡ 0)). inr (
          size_under f.0.under.lock (store_at c past),
          ends_at head past c work reads (stripe_of work.layout q) (run_on work.layout p (p + n) (stripe_of work.layout q)) f.0.under
              (stripe_of-lt work.layout q reads.good) f.1 (ap reaches_end (sym f.1.range) ∙ k.0) (offset_of work.layout q) over.0,
          k.1,
          k.2,
        ))
        (byte_case head past c work reads p n small none q v b.0 b.1 (content_at work.layout work.fid (store_at c past) p n q v e) f.0.under
        f.0.among f.0.stripe f.1.of_object)

pub stat_reads : (head : Head) (past : List Line) (c : ℕ) (work : Work) (reads : Reads head past c work) (mode links : ℕ) → work.kind
    ≡ Stats mode links
    → StatOn (stripe_story work.layout work.fid past) (striped work.layout reads.good) (life_number c past)
    (file_size work.layout (stripes work.layout) work.used (store_at c past))
stat_reads head past c work reads mode links kind =
    record {
      ends = λ i. size_on i work.used (store_at c past);
      locks = λ i low. rest_ends head past c work reads 0 rest i low 0 (first i low);
      size = sym (size_is head past c work reads);
    }
  where
    rest : IsRest head past c work reads 0
    rest = ap (λ (k : Kind). wanted_by (record work { kind = k })) kind

    first : (i : ℕ) → i < length work.layout.targets → below_on work.layout i 0 ≤ 0
    first i low = let e = below_is work.layout i 0 reads.good low in let z = below_low work.layout i 0 in omega (arith, e, z)
