-- What is known stays under held locks: where these only change places or marks, where one goes, and where an offset is shown.
use Rattle.std.proofs.Common.{◌≡◌, inl, inr, ℕ, Bool, true, false, List, [], ◌∷◌, Option, Some, None, refl, sym, ap, subst, ◌∙◌, arith}
use Rattle.std.specs.Prelude.{nat_eq, nat_le, max, not, if◌then◌else◌, map}
use Rattle.std.proofs.lemmas.Bool.Decides.{nat_tests}
use Rattle.std.proofs.lemmas.Bool.{and_parts, eqb-true, not-true}
use Rattle.lu_base.specs.declared.ids.Cookie.{Cookie}
use Rattle.lu_base.specs.declared.locks.Extent.{Extent}
use Rattle.lu_base.specs.declared.locks.Lock.{Lock}
use Rattle.lu_base.specs.declared.locks.Policy.{Policy}
use Rattle.lu_base.specs.declared.locks.Policy.TheVariants.{Bits, Range}
use Rattle.lu_base.specs.declared.locks.Resource.{Resource}
use Rattle.lu_held.specs.declared.locks.HeldLock.{HeldLock}
use Rattle.lu_held.specs.Locks.{name_of, is_named, same_resource, reaches_end}
use Rattle.lu_held.specs.Held.{without}
use Rattle.lu_spec_machine.specs.Places.{found_at, is_in}
use Rattle.lu_spec_machine.proofs.Places.{found_filter}
use Rattle.lu_spec_client.specs.Bytes.{Bytes, outside}
use Rattle.lu_spec_client.specs.Caches.{Note, on_object, bytes_at, forgotten_bytes, forgotten_notes, is_note, noted, with_note, shown_to}
use Rattle.lu_proof_objects.specs.Sound.{In, IsOnce, Holder, AreBytesHeld, AreShownHeld, IsKnownOf}
use Rattle.lu_proof_objects.specs.Known.{DropForgets, ShowStands, BytesMustGo}
use Rattle.lu_proof_objects.proofs.Lists.{self, in_filter, in_mapped, own_name, one_name, without_only, without_other}
use Rattle.lu_proof_objects.proofs.Tables.{object_is, object_self}

-- ---- the same locks, marked or in another order

-- each lock is still held, with its marks and pins changed or not
abbrev pub AreStill : List HeldLock → List HeldLock → Type 0
AreStill locks others = (h : HeldLock) → In h locks → (g : HeldLock) × In g others × (g.lock ≡ h.lock)

holder_still : {r : Resource} {P : Lock → Extent → Type 0} (locks others : List HeldLock) → AreStill locks others → Holder locks r P
    → Holder others r P
holder_still {r} {P} locks others still g =
    let f = still g.lock g.held in
    record {
      lock = f.0;
      held = f.1;
      object = ap (λ (l : Lock). l.resource) f.2 ∙ g.object;
      extent = g.extent;
      range = ap (λ (l : Lock). l.ask.policy) f.2 ∙ g.range;
      such = subst (λ (l : Lock). P l g.extent) (sym f.2) g.such;
    }

pub known_still : (locks others : List HeldLock) (bytes : List (Resource × Bytes)) (sizes shown : List Note) → AreStill locks others
    → IsKnownOf locks bytes sizes shown → IsKnownOf others bytes sizes shown
known_still locks others bytes sizes shown still k =
    record {
      bytes = λ r p b e. holder_still locks others still (k.bytes r p b e);
      sizes = λ n i. holder_still locks others still (k.sizes n i);
      shown = λ n i. holder_still locks others still (k.shown n i);
    }

pub still_map : (f : HeldLock → HeldLock) → ((h : HeldLock) → (f h).lock ≡ h.lock) → (locks : List HeldLock) → AreStill locks (map f locks)
still_map f same locks h i = (f h, in_mapped f h locks i, same h)

pub still_order : (locks others : List HeldLock) → ((h : HeldLock) → In h locks → In h others) → AreStill locks others
still_order locks others there h i = (h, there h i, refl)

-- ---- bytes outside a range

-- they were known before, and don't lie in it
outside_is : (x : Extent) (m : Bytes) (p b : ℕ) → found_at (outside x m) p ≡ Some b → (is_in x p ≡ false) × (found_at m p ≡ Some b)
outside_is x m p b e = by (is_in x p) refl (sym (found_filter (λ q. not (is_in x q)) m p) ∙ e)
  where
    by : (v : Bool) → is_in x p ≡ v → (if not v then found_at m p else None) ≡ Some b → (is_in x p ≡ false) × (found_at m p ≡ Some b)
    by true i f = absurd (cc)
    by false i f = (i, f)

-- what is known of any object after it was known before, and of this one it doesn't lie in the range
forgets : (r s : Resource) (x : Extent) (m : List (Resource × Bytes)) (p b : ℕ) → found_at (bytes_at s (on_object r (outside x) m)) p
    ≡ Some b → (r ≡ s → is_in x p ≡ false) × (found_at (bytes_at s m) p ≡ Some b)
forgets r s x [] p b e = absurd (cc)
forgets r s x (a ∷ m) p b e = by (same_resource a.0 r) refl e (forgets r s x m p b)
  where
    Left : Bytes → Type 0
    Left known = (r ≡ s → is_in x p ≡ false) × (found_at known p ≡ Some b)

    apart : same_resource a.0 r ≡ true → same_resource a.0 s ≡ false → r ≡ s → is_in x p ≡ false
    apart u v q = absurd (let t : same_resource a.0 s ≡ true = ap (λ (z : Resource). same_resource a.0 z) (sym q) ∙ u in let c : true
        ≡ false = sym t ∙ v in cc)

    other : same_resource a.0 r ≡ false → same_resource a.0 s ≡ true → r ≡ s → is_in x p ≡ false
    other u v q = absurd (let t : same_resource a.0 r ≡ true = ap (λ (z : Resource). same_resource a.0 z) q ∙ v in let c : true ≡ false =
        sym t ∙ u in cc)

    More : Type 0
    More = found_at (bytes_at s (on_object r (outside x) m)) p ≡ Some b → Left (bytes_at s m)

    here : same_resource a.0 r ≡ true → (v : Bool) → same_resource a.0 s ≡ v → found_at (if v then outside x a.1 else bytes_at s m) p
        ≡ Some b → Left (if v then a.1 else bytes_at s m)
    here u true v e = let o = outside_is x a.1 p b e in (λ q. o.0, o.1)
    here u false v e = (apart u v, e)

    there : same_resource a.0 r ≡ false → (v : Bool) → same_resource a.0 s ≡ v
        → found_at (if v then a.1 else bytes_at s (on_object r (outside x) m)) p ≡ Some b → More → Left (if v then a.1 else bytes_at s m)
    there u true v e more = (other u v, e)
    there u false v e more = more e

    by : (u : Bool) → same_resource a.0 r ≡ u → found_at (bytes_at s
        (if u then (a.0, outside x a.1) ∷ m else a ∷ on_object r (outside x) m)) p ≡ Some b → More → Left (bytes_at s (a ∷ m))
    by true u e more = here u (same_resource a.0 s) refl e
    by false u e more = there u (same_resource a.0 s) refl e more

-- ---- a lock goes

module _ (locks : List HeldLock) (h : HeldLock) (once : IsOnce locks) (i : In h locks) where
  -- what stands under a lock that isn't the one that goes still does
  stays : {r : Resource} {P : Lock → Extent → Type 0} (g : Holder locks r P) → (h ≡ g.lock → ⊥) → Holder (without (name_of h) locks) r P
  stays {r} {P} g other = by (is_named (name_of h) g.lock) refl
    where
      by : (v : Bool) → is_named (name_of h) g.lock ≡ v → Holder (without (name_of h) locks) r P
      by true e = absurd (other (one_name h g.lock locks once i g.held e))
      by false e = record {
        lock = g.lock;
        held = without_other (name_of h) g.lock locks g.held e;
        object = g.object;
        extent = g.extent;
        range = g.range;
        such = g.such;
      }

  -- no byte under it is known any more
  bytes_go : (policy : Policy) → h.lock.ask.policy ≡ policy → (bytes : List (Resource × Bytes)) → AreBytesHeld locks bytes
      → AreBytesHeld (without (name_of h) locks) (forgotten_bytes policy h.lock.resource bytes)
  bytes_go (Bits bits) is bytes known r p b e = let g = known r p b e
      in stays g (λ same. let q : Bits bits ≡ Range g.extent = sym is ∙ ap (λ (f : HeldLock). f.lock.ask.policy) same ∙ g.range in cc)
  bytes_go (Range x) is bytes known r p b e = let f = forgets h.lock.resource r x bytes p b e in let g = known r p b f.1
      in stays g (refuted f.0 g)
    where
      refuted : (h.lock.resource ≡ r → is_in x p ≡ false) → (g : Holder locks r (λ l y. is_in y p ≡ true)) → h ≡ g.lock → ⊥
      refuted out g same =
          let object : h.lock.resource ≡ r = ap (λ (f : HeldLock). f.lock.resource) same ∙ g.object in
          let range : Range x ≡ Range g.extent = sym is ∙ ap (λ (f : HeldLock). f.lock.ask.policy) same ∙ g.range in
          let extent : x ≡ g.extent = cc in
          let t : is_in x p ≡ true = ap (λ (y : Extent). is_in y p) extent ∙ g.such in
          let q : true ≡ false = sym t ∙ out object in
          cc

  -- and no note of it
  notes_go : (P : Note → Lock → Extent → Type 0) → ((n : Note) (l : Lock) (x : Extent) → P n l x → l.cookie ≡ n.cookie) → (policy : Policy)
      → h.lock.ask.policy ≡ policy → (notes : List Note)
      → ((n : Note) → In n notes → Holder locks n.resource (P n)) → (n : Note) → In n (forgotten_notes policy h.lock notes)
      → Holder (without (name_of h) locks) n.resource (P n)
  notes_go P cookie (Bits bits) is notes known n j = let g = known n j
      in stays g (λ same. let q : Bits bits ≡ Range g.extent = sym is ∙ ap (λ (f : HeldLock). f.lock.ask.policy) same ∙ g.range in cc)
  notes_go P cookie (Range x) is notes known n j =
      let f = in_filter (λ (m : Note). not (is_note h.lock.resource h.lock.cookie m)) n notes j in let g = known n f.0
      in stays g (refuted (not-true (is_note h.lock.resource h.lock.cookie n) f.1) g)
    where
      refuted : is_note h.lock.resource h.lock.cookie n ≡ false → (g : Holder locks n.resource (P n)) → h ≡ g.lock → ⊥
      refuted out g same =
          let object : h.lock.resource ≡ n.resource = ap (λ (f : HeldLock). f.lock.resource) same ∙ g.object in
          let its : h.lock.cookie ≡ n.cookie = ap (λ (f : HeldLock). f.lock.cookie) same ∙ cookie n g.lock.lock g.extent g.such in
          let one : same_resource n.resource h.lock.resource ≡ true = ap (λ (z : Resource). same_resource n.resource z) object
          ∙ object_self n.resource in
          let two : nat_eq n.cookie.0 h.lock.cookie.0 ≡ true = ap (λ (c : Cookie). nat_eq n.cookie.0 c.0) its ∙ self n.cookie.0 in
          let t : is_note h.lock.resource h.lock.cookie n ≡ true = rw (one, two) refl in
          let q : true ≡ false = sym t ∙ out in
          cc

  pub known_without : (bytes : List (Resource × Bytes)) (sizes shown : List Note) → IsKnownOf locks bytes sizes shown
      → IsKnownOf (without (name_of h) locks) (forgotten_bytes h.lock.ask.policy h.lock.resource bytes)
      (forgotten_notes h.lock.ask.policy h.lock sizes) (forgotten_notes h.lock.ask.policy h.lock shown)
  known_without bytes sizes shown k =
      record {
        bytes = bytes_go h.lock.ask.policy refl bytes k.bytes;
        sizes = notes_go (λ n l x. (l.cookie ≡ n.cookie) × (reaches_end l.ask.policy ≡ true)) (λ n l x a. a.0) h.lock.ask.policy refl sizes
            k.sizes;
        shown = notes_go (λ n l x. (l.cookie ≡ n.cookie) × (is_in x n.number ≡ true)) (λ n l x a. a.0) h.lock.ask.policy refl shown k.shown;
      }

-- ---- an offset is shown

cookie_is : (a b : Cookie) → a.0 ≡ b.0 → a ≡ b
cookie_is a b e = subst (λ (n : ℕ). a ≡ record { 0 = n }) e refl

-- what was shown so far is one of the notes
noted_is : (r : Resource) (c : Cookie) (notes : List Note) (before : ℕ) → noted r c notes ≡ Some before → (n : Note) × In n notes
    × (n.resource ≡ r) × (n.cookie ≡ c) × (n.number ≡ before)
noted_is r c [] before e = absurd (cc)
noted_is r c (n ∷ notes) before e = by (is_note r c n) refl e (noted_is r c notes before)
  where
    Found : List Note → Type 0
    Found ns = (n : Note) × In n ns × (n.resource ≡ r) × (n.cookie ≡ c) × (n.number ≡ before)

    by : (v : Bool) → is_note r c n ≡ v → (if v then Some n.number else noted r c notes) ≡ Some before
        → (noted r c notes ≡ Some before → Found notes) → Found (n ∷ notes)
    by true t e more =
        let both = and_parts (same_resource n.resource r) (nat_eq n.cookie.0 c.0) t in
        (n, inl refl, object_is n.resource r both.0, cookie_is n.cookie c (eqb-true n.cookie.0 c.0 both.1), cc)
    by false t e more = let m = more e in (m.0, inr m.1, m.2, m.3, m.4)

module _ (locks : List HeldLock) (r : Resource) (c : Cookie) (last : ℕ)
    (w : Holder locks r (λ l x. (l.cookie ≡ c) × (is_in x last ≡ true))) where
  -- what is shown is under this lock, or what was shown before was greater
  shown_now : (shown : List Note) → AreShownHeld locks shown → (before : Option ℕ) → noted r c shown ≡ before
      → Holder locks r (λ l x. (l.cookie ≡ c) × (is_in x (shown_to before last) ≡ true))
  shown_now shown known None e = w
  shown_now shown known (Some before) e = by (nat_le before last) refl
    where
      by : (v : Bool) → nat_le before last ≡ v → Holder locks r (λ l x. (l.cookie ≡ c) × (is_in x (max before last) ≡ true))
      by true t =
          let same : last ≡ max before last = grind (arith, nat_tests, t) in
          record {
            lock = w.lock;
            held = w.held;
            object = w.object;
            extent = w.extent;
            range = w.range;
            such =
                (w.such.0, ap (is_in w.extent) (sym same) ∙ w.such.1);
          }
      by false t =
          let n = noted_is r c shown before e in
          let g = known n.0 n.1 in
          let same : max before last ≡ before = grind (arith, nat_tests, t) in
          record {
            lock = g.lock;
            held = g.held;
            object = g.object ∙ n.2;
            extent = g.extent;
            range = g.range;
            such =
                (g.such.0 ∙ n.3, ap (is_in g.extent) (same ∙ sym n.4) ∙ g.such.1);
          }

  pub known_shows : (bytes : List (Resource × Bytes)) (sizes shown : List Note) → IsKnownOf locks bytes sizes shown
      → IsKnownOf locks bytes sizes (with_note r c (shown_to (noted r c shown) last) shown)
  known_shows bytes sizes shown k = record { bytes = k.bytes; sizes = k.sizes; shown = notes }
    where
      notes : AreShownHeld locks (with_note r c (shown_to (noted r c shown) last) shown)
      notes n (inl e) = subst (λ (m : Note). Holder locks m.resource (λ l x. (l.cookie ≡ m.cookie) × (is_in x m.number ≡ true))) e
          (shown_now shown k.shown (noted r c shown) refl)
      notes n (inr j) = k.shown n (in_filter (λ (m : Note). not (is_note r c m)) n shown j).0

-- ---- what the claims say

pub drop_forgets : DropForgets
drop_forgets k h s i = known_without k.store.held h s.bytes.once i k.store.bytes k.store.sizes k.store.shown s.known

pub show_stands : ShowStands
show_stands k r c last s g = known_shows k.store.held r c last g k.store.bytes k.store.sizes k.store.shown s.known

pub bytes_must_go : BytesMustGo
bytes_must_go k h r p b e only held =
    let g = held r p b e in
    let there = without_only (name_of h) g.lock k.store.held g.held in
    let same : g.lock ≡ h = only g.lock g.extent there.0 g.object g.range g.such in
    let t : is_named (name_of h) g.lock ≡ true = ap (λ (f : HeldLock). is_named (name_of h) f) same ∙ own_name (name_of h) in
    let q : true ≡ false = sym t ∙ there.1 in
    cc
