-- The locks that a call uses: how one comes to be in use, and what a page that is missing, or none, says under them.
use Rattle.std.proofs.Common.{◌≡◌, inl, inr, ⊎_elim, ℕ, zero, suc, ◌+◌, ◌-◌, ◌*◌, ◌/◌, ◌<◌, ◌≤◌, Bool, true, false, List, [], ◌∷◌, ◌++◌}
use Rattle.std.proofs.Common.{length, Option, Some, None, Contains, IfSome, refl, sym, ap, subst, ◌∙◌, arith}
use Rattle.std.specs.Prelude.{nat_eq, nat_le, min, ◌&&◌, not, if◌then◌else◌, filter}
use Rattle.std.proofs.lemmas.Bool.Decides.{nat_tests}
use Rattle.std.proofs.lemmas.Bool.{and_parts, eqb-true}
use Rattle.lu_base.specs.declared.ids.Fid.{Fid}
use Rattle.lu_base.specs.declared.locks.Extent.{Extent}
use Rattle.lu_base.specs.declared.locks.Lock.{Lock}
use Rattle.lu_base.specs.declared.locks.Mode.{Mode}
use Rattle.lu_base.specs.declared.locks.Mode.TheVariants.{EX, PW, PR, CW, CR, NL}
use Rattle.lu_base.specs.declared.locks.Policy.{Policy}
use Rattle.lu_base.specs.declared.locks.Policy.TheVariants.{Bits, Range}
use Rattle.lu_lock.specs.Growth.{the_end}
use Rattle.lu_lock.specs.Modes.{serves}
use Rattle.lu_lock.specs.Overlap.{covers}
use Rattle.lu_layout.specs.Raid0.{Raid0}
use Rattle.lu_layout.specs.Sound.{IsLayout}
use Rattle.lu_held.specs.declared.locks.Change.{Change}
use Rattle.lu_held.specs.declared.locks.Change.TheVariants as lock
use Rattle.lu_held.specs.declared.locks.HeldLock.{HeldLock}
use Rattle.lu_held.specs.declared.locks.Use.{Use}
use Rattle.lu_held.specs.declared.names.LockName.{LockName}
use Rattle.lu_held.specs.Locks.{name_of, is_named, is_for, reaches_end, same_resource, serves_use, after}
use Rattle.lu_held.specs.Held.{changed, used, without, serving}
use Rattle.lu_held.proofs.Choices.{serving_held, serving_serves}
use Rattle.lu_spec_machine.specs.Places.{Places, is_in}
use Rattle.lu_spec_machine.proofs.Places.{in_whole}
use Rattle.lu_spec_entries.specs.declared.changes.Dirty.{Dirty}
use Rattle.lu_spec_entries.specs.declared.uses.Using.{Using}
use Rattle.lu_spec_entries.specs.Carried.{Kind, Narrow, Wide}
use Rattle.lu_spec_client.specs.Bytes.{Bytes, page_size}
use Rattle.lu_spec_client.specs.Patches.{to_end}
use Rattle.lu_spec_client.specs.Stripes.{below_on, stripes}
use Rattle.lu_spec_client.specs.Looks.{is_there, first_missing, end_under, missing_under, Page, missing, size_under}
use Rattle.lu_spec_client.specs.Caches.{bytes_at, patch_at}
use Rattle.lu_spec_client.specs.States.{Store}
use Rattle.lu_spec_client.specs.Wants.{want, wants_of}
use Rattle.lu_spec_client.specs.Advances.{name_under}
use Rattle.lu_proof_objects.specs.Sound.{In, IsOnce}
use Rattle.lu_proof_objects.specs.Uses.{IsFor, IsUsed}
use Rattle.lu_proof_objects.specs.Oks.{page_extent}
use Rattle.lu_proof_objects.proofs.Lists.{self, in_append, in_left, in_filter, in_filtered, in_mapped, names_same, once_filter}
use Rattle.lu_proof_objects.proofs.Lists.{without_only, without_other}
use Rattle.lu_proof_objects.proofs.Tables.{object_is}
use Rattle.lu_proof_objects.proofs.Pieces.{stripe_there, below_is, below_low, run_wanted, rest_wanted}

-- ---- a held lock that serves

contains_in : (h : HeldLock) (locks : List HeldLock) → Contains locks h → In h locks
contains_in h [] (k, less, is) = absurd (omega (arith, less))
contains_in h (g ∷ locks) (zero, less, is) = inl is
contains_in h (g ∷ locks) (suc k, less, is) = inr (contains_in h locks (k, omega (arith, less), is))

pub served : (wanted : Use) (locks : List HeldLock) (h : HeldLock) → serving wanted locks ≡ Some h → IsFor locks wanted h.lock
served wanted locks h e =
    let held : Contains locks h = subst (λ (o : Option HeldLock). IfSome o (Contains locks)) e (serving_held wanted locks) in
    let does : serves_use wanted h ≡ true = subst (λ (o : Option HeldLock). IfSome o (λ g. serves_use wanted g ≡ true)) e
    (serving_serves wanted locks) in
    let one = and_parts (is_for wanted.target wanted.resource h && serves h.lock.ask.mode wanted.mode)
    (covers h.lock.ask.policy wanted.policy) does in
    let two = and_parts (is_for wanted.target wanted.resource h) (serves h.lock.ask.mode wanted.mode) one.0 in
    let three = and_parts (nat_eq h.target.0 wanted.target.0 && same_resource h.lock.resource wanted.resource) (not h.marked) two.0 in
    let four = and_parts (nat_eq h.target.0 wanted.target.0) (same_resource h.lock.resource wanted.resource) three.0 in
    record {
      lock = h;
      held = contains_in h locks held;
      target = eqb-true h.target.0 wanted.target.0 four.0;
      same = refl;
      object = object_is h.lock.resource wanted.resource four.1;
      serves = two.1;
      covers = one.1;
    }

-- ---- what is done to the lock of a name

abbrev pub done : Change → LockName → HeldLock → HeldLock
done change name g = if is_named name g then after change g else g

pub done_same : {A : Type 0} (f : HeldLock → A) (change : Change) (name : LockName) → ((g : HeldLock) → f (after change g) ≡ f g)
    → (g : HeldLock) → f (done change name g) ≡ f g
done_same f change name same g = by (is_named name g)
  where
    by : (v : Bool) → f (if v then after change g else g) ≡ f g
    by true = same g
    by false = refl

pub pinned_still : (name : LockName) (g : HeldLock) → 0 < g.pins → 0 < (done lock.Pin name g).pins
pinned_still name g p = by (is_named name g)
  where
    by : (v : Bool) → 0 < (if v then after lock.Pin g else g).pins
    by true = omega (arith, p)
    by false = p

abbrev pub for_pinned : (name : LockName) (locks : List HeldLock) (wanted : Use) (l : Lock) → IsFor locks wanted l
    → IsFor (changed name lock.Pin locks) wanted l
for_pinned name locks wanted l d =
    record {
      lock = done lock.Pin name d.lock;
      held = in_mapped (done lock.Pin name) d.lock locks d.held;
      target = done_same (λ g. g.target.0) lock.Pin name (λ g. refl) d.lock ∙ d.target;
      same = done_same (λ g. g.lock) lock.Pin name (λ g. refl) d.lock ∙ d.same;
      object = d.object;
      serves = d.serves;
      covers = d.covers;
    }

pub used_still : (name : LockName) (locks : List HeldLock) (u : Using) → IsUsed locks u → IsUsed (changed name lock.Pin locks) u
used_still name locks u d = record { does = for_pinned name locks u.want u.lock d.does; pinned = pinned_still name d.does.lock d.pinned }

pub used_now : (locks : List HeldLock) (wanted : Use) (l : Lock) → IsFor locks wanted l
    → IsUsed (changed (name_under wanted l) lock.Pin locks) (record { want = wanted; lock = l })
used_now locks wanted l d = record {
  does = for_pinned (name_under wanted l) locks wanted l d;
  pinned =
      by (is_named (name_under wanted l) d.lock) named;
}
  where
    named : is_named (name_under wanted l) d.lock ≡ true
    named =
        let one : nat_eq wanted.target.0 d.lock.target.0 ≡ true = ap (λ (n : ℕ). nat_eq wanted.target.0 n) d.target ∙ self wanted.target.0
        in
        let two : nat_eq l.cookie.0 d.lock.lock.cookie.0 ≡ true = ap (λ (m : Lock). nat_eq l.cookie.0 m.cookie.0) d.same ∙ self l.cookie.0
        in
        rw (one, two) refl

    by : (v : Bool) → v ≡ true → 0 < (if v then after lock.Pin d.lock else d.lock).pins
    by true e = omega arith
    by false e = absurd (cc)

-- ---- one that was used is the last used

in_right : {A : Type 0} (x : A) (xs ys : List A) → In x ys → In x (xs ++ ys)
in_right x [] ys i = i
in_right x (y ∷ xs) ys i = inr (in_right x xs ys i)

once_append : (hs gs : List HeldLock) → IsOnce hs → IsOnce gs → ((h : HeldLock) → In h hs → (g : HeldLock) → In g gs
    → is_named (name_of h) g ≡ false) → IsOnce (hs ++ gs)
once_append [] gs o p a = p
once_append (h ∷ hs) gs o p a = (
  λ g i. ⊎_elim (λ (j : In g hs). o.0 g j) (λ (j : In g gs). a h (inl refl) g j) (in_append g hs gs i),
  once_append hs gs o.1 p (λ k i. a k (inr i)),
)

pub once_used : (n : LockName) (hs : List HeldLock) → IsOnce hs → IsOnce (used n hs)
once_used n hs o = once_append (filter (is_named n) hs) (without n hs) (once_filter (is_named n) hs o)
    (once_filter (λ (g : HeldLock). not (is_named n g)) hs o) apart
  where
    apart : (h : HeldLock) → In h (filter (is_named n) hs) → (g : HeldLock) → In g (without n hs) → is_named (name_of h) g ≡ false
    apart h i g j = ap (λ (m : LockName). is_named m g) (sym (names_same n (name_of h) (in_filter (is_named n) h hs i).1))
        ∙ (without_only n g hs j).1

pub used_only : (n : LockName) (g : HeldLock) (hs : List HeldLock) → In g (used n hs) → In g hs
used_only n g hs i = ⊎_elim (λ (j : In g (filter (is_named n) hs)). (in_filter (is_named n) g hs j).0)
    (λ (j : In g (without n hs)). (without_only n g hs j).0) (in_append g (filter (is_named n) hs) (without n hs) i)

pub used_there : (n : LockName) (g : HeldLock) (hs : List HeldLock) → In g hs → In g (used n hs)
used_there n g hs i = by (is_named n g) refl
  where
    by : (v : Bool) → is_named n g ≡ v → In g (used n hs)
    by true e = in_left g (filter (is_named n) hs) (without n hs) (in_filtered (is_named n) g hs i e)
    by false e = in_right g (filter (is_named n) hs) (without n hs) (without_other n g hs i e)

-- ---- missing offsets

first_is : (known : Bytes) (dirty : Places Dirty) (p n q : ℕ) → first_missing known dirty p n ≡ Some q → (p ≤ q) × (q < p + n)
first_is known dirty p zero q e = absurd (cc)
first_is known dirty p (suc n) q e = by (is_there known dirty p) e (first_is known dirty (p + 1) n q)
  where
    by : (v : Bool) → (if v then first_missing known dirty (p + 1) n else Some p) ≡ Some q
        → (first_missing known dirty (p + 1) n ≡ Some q → (p + 1 ≤ q) × (q < p + 1 + n)) → (p ≤ q) × (q < p + suc n)
    by true e ih = let r = ih e in let a = r.0 in let b = r.1 in (omega (arith, a), omega (arith, b))
    by false e ih = let is : p ≡ q = cc in (omega (arith, is), omega (arith, is))

none_first : (known : Bytes) (dirty : Places Dirty) (p n : ℕ) → first_missing known dirty p n ≡ None → (q : ℕ) → p ≤ q → q < p + n
    → is_there known dirty q ≡ true
none_first known dirty p zero e q low high = absurd (omega (arith, low, high))
none_first known dirty p (suc n) e q low high = by (is_there known dirty p) refl e (none_first known dirty (p + 1) n)
  where
    by : (v : Bool) → is_there known dirty p ≡ v → (if v then first_missing known dirty (p + 1) n else Some p) ≡ None
        → (first_missing known dirty (p + 1) n ≡ None → (q : ℕ) → p + 1 ≤ q → q < p + 1 + n → is_there known dirty q ≡ true)
        → is_there known dirty q ≡ true
    by false t e ih = absurd (cc)
    by true t e ih = here (nat_eq p q) refl
      where
        here : (w : Bool) → nat_eq p q ≡ w → is_there known dirty q ≡ true
        here true s = ap (is_there known dirty) (sym (eqb-true p q s)) ∙ t
        here false s = ih e q (grind (arith, nat_tests, low, s)) (omega (arith, high))

ends_by : (l : Lock) (end : ℕ) (s : Store) → end_under l end s ≤ end
ends_by l end s = by (reaches_end l.ask.policy)
  where
    by : (v : Bool) → (if v then min end (size_under l s) else end) ≤ end
    by true = omega arith
    by false = omega arith

-- a page that is missing has an offset of the part on that stripe
pub page_is : (l : Raid0) (p end : ℕ) (s : Store) (us : List Using) (g : Page) → missing l p end s us ≡ Some g
    → In g.under us × ((q : ℕ) × (below_on l g.under.want.resource.stripe p ≤ q) × (q < below_on l g.under.want.resource.stripe end)
    × (q / page_size ≡ g.page))
page_is l p end s [] g e = absurd (cc)
page_is l p end s (u ∷ us) g e = by (missing_under u.lock (below_on l u.want.resource.stripe p) (below_on l u.want.resource.stripe end) s)
    refl e (page_is l p end s us g)
  where
    PageOf : Page → Type 0
    PageOf h = (q : ℕ) × (below_on l h.under.want.resource.stripe p ≤ q) × (q < below_on l h.under.want.resource.stripe end)
        × (q / page_size ≡ h.page)

    first : ℕ
    first = below_on l u.want.resource.stripe p

    last : ℕ
    last = below_on l u.want.resource.stripe end

    by : (o : Option ℕ) → missing_under u.lock first last s ≡ o
        → (elim o [ None ↦ missing l p end s us | Some offset ↦ Some (record { under = u; page = offset / page_size }) ]) ≡ Some g
        → (missing l p end s us ≡ Some g → In g.under us × PageOf g) → In g.under (u ∷ us) × PageOf g
    by None m e ih = let r = ih e in (inr r.0, r.1)
    by (Some q) m e ih =
        let is : record { under = u; page = q / page_size } ≡ g = some_page (record { under = u; page = q / page_size }) g e in
        let f = first_is (bytes_at u.lock.resource s.bytes) (patch_at u.lock.resource s.patches).dirty first
        (end_under u.lock last s - first) q m in
        let a = f.0 in
        let b = f.1 in
        let c = ends_by u.lock last s in
        (inl (ap (λ (h : Page). h.under) is), subst PageOf is (q, a, omega (arith, a, b, c), refl))
      where
        some_page : (a b : Page) → Some a ≡ Some b → a ≡ b
        some_page a b e = cc

pub none_missing : (l : Raid0) (p end : ℕ) (s : Store) (us : List Using) → missing l p end s us ≡ None → (u : Using) (q : ℕ) → In u us
    → below_on l u.want.resource.stripe p ≤ q → q < end_under u.lock (below_on l u.want.resource.stripe end) s
    → is_there (bytes_at u.lock.resource s.bytes) (patch_at u.lock.resource s.patches).dirty q ≡ true
none_missing l p end s [] e u q i low high = absurd i
none_missing l p end s (v ∷ us) e u q i low high = by (missing_under v.lock (below_on l v.want.resource.stripe p)
    (below_on l v.want.resource.stripe end) s) refl e i (λ f j. none_missing l p end s us f u q j low high)
  where
    by : (o : Option ℕ) → missing_under v.lock (below_on l v.want.resource.stripe p) (below_on l v.want.resource.stripe end) s ≡ o
        → (elim o as (λ o. Option Page) [
          | None ↦ missing l p end s us
          | Some offset
              ↦ Some (record { under = v; page = offset / page_size })
        ]) ≡ None → In u (v ∷ us)
        → (missing l p end s us ≡ None → In u us → is_there (bytes_at u.lock.resource s.bytes) (patch_at u.lock.resource s.patches).dirty q
        ≡ true)
        → is_there (bytes_at u.lock.resource s.bytes) (patch_at u.lock.resource s.patches).dirty q ≡ true
    by (Some offset) m e i ih = absurd (cc)
    by None m e (inr j) ih = ih e j
    by None m e (inl is) ih =
        none_first (bytes_at u.lock.resource s.bytes) (patch_at u.lock.resource s.patches).dirty (below_on l u.want.resource.stripe p)
        (end_under u.lock (below_on l u.want.resource.stripe end) s - below_on l u.want.resource.stripe p)
        (ap (λ (x : Using). missing_under x.lock (below_on l x.want.resource.stripe p) (below_on l x.want.resource.stripe end) s) (sym is)
        ∙ m) q low (omega (arith, low, high))

-- ---- what a lock in use covers

pub covers_range : (policy : Policy) (x : Extent) → covers policy (Range x) ≡ true → (y : Extent) × (policy ≡ Range y) × (y.first ≤ x.first)
    × (x.last ≤ y.last)
covers_range (Range y) x e = let p = and_parts (nat_le y.first x.first) (nat_le x.last y.last) e
    in (y, refl, le y.first x.first p.0, le x.last y.last p.1)
  where
    le : (a b : ℕ) → nat_le a b ≡ true → a ≤ b
    le a b e = grind (arith, nat_tests, e)
covers_range (Bits b) x e = absurd (cc)

-- a read's want, and its offsets
abbrev pub IsReadOf : Kind → ℕ → ℕ → Type 0
IsReadOf (Narrow a m) p n = (a ≡ p) × (m ≡ n) × (p + n ≤ the_end)
IsReadOf (Wide a m) p n = (a ≡ p) × (m ≡ n) × (p + n ≤ the_end)
IsReadOf _ p n = ⊥

abbrev pub WantsOver : Raid0 → Use → ℕ → ℕ → Type 0
WantsOver l u p end =
    (u.resource.stripe < length l.targets) × ((x : Extent) × (u.policy ≡ Range x)
    × ((q : ℕ) → below_on l u.resource.stripe p ≤ q → q < below_on l u.resource.stripe end → (x.first ≤ q) × (q ≤ x.last)))

pub read_wanted : (l : Raid0) (fid : Fid) (kind : Kind) (p n : ℕ) (u : Use) → IsLayout l → IsReadOf kind p n → In u (wants_of l fid kind)
    → WantsOver l u p (p + n)
read_wanted l fid (Narrow a m) p n u good is i =
    let r = run_wanted l fid PR a (a + m) (stripes l) u i in
    subst (λ (v : Use). WantsOver l v p (p + n)) r.3
    (subst (λ (b : ℕ). WantsOver l (want l fid PR r.0 (record { first = below_on l r.0 a; last = below_on l r.0 (a + m) - 1 })) p b)
    (let x = is.0 in let y = is.1 in let z : a + m ≡ p + n = omega (arith, x, y) in z)
    (subst (λ (b : ℕ). WantsOver l (want l fid PR r.0 (record { first = below_on l r.0 a; last = below_on l r.0 (a + m) - 1 })) b (a + m))
    is.0 (
      stripe_there l r.0 r.1,
      (
        record { first = below_on l r.0 a; last = below_on l r.0 (a + m) - 1 },
        refl,
        λ q low high. (low, omega (arith, high)),
      ),
    )))
read_wanted l fid (Wide a m) p n u good is i =
    let r = rest_wanted l fid a (stripes l) u i in
    let here = stripe_there l r.0 r.1 in
    subst (λ (v : Use). WantsOver l v p (p + n)) r.2
    (subst (λ (b : ℕ). WantsOver l (want l fid PR r.0 (to_end (below_on l r.0 a))) b (p + n)) is.0 (
      here,
      (
        to_end (below_on l r.0 a),
        refl,
        λ q low high. (
          low,
          let is_below = below_is l r.0 (p + n) good here in let few =
              below_low l r.0 (p + n) in let short = is.2 in omega (arith, high, is_below, few, short),
        ),
      ),
    ))
read_wanted l fid _ p n u good is i = absurd is

pub in_page : (q page : ℕ) → q / page_size ≡ page → is_in (page_extent page) q ≡ true
in_page q page e = in_whole (page_extent page) q (let low : q / 4096 * 4096 ≤ q = omega arith in omega (arith, low, e))
    (let high : q ≤ q / 4096 * 4096 + 4095 = omega arith in omega (arith, high, e))

-- ---- modes

pub writes_only : (m : Mode) → serves m PW ≡ true → m ≡ PW
writes_only PW e = refl
writes_only EX e = absurd (cc)
writes_only PR e = absurd (cc)
writes_only CW e = absurd (cc)
writes_only CR e = absurd (cc)
writes_only NL e = absurd (cc)
