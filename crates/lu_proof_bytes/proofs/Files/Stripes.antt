-- What is known of each stripe by the story of its object gives what is known of the file: where its bytes are the plain bytes of those
-- stories, whatever gives them, each read and stat of a life that isn't out is right, through whatever layout.
use Rattle.std.proofs.Common.{◌≡◌, ℕ, suc, zero, ◌<◌, ◌≤◌, ◌-◌, ◌⊎◌, inl, inr, ⊎_elim, List, [], ◌∷◌, length, min, max, Option, Some, None}
use Rattle.std.proofs.Common.{Bool, true, false, refl, sym, ap, ◌∙◌, subst, arith}
use Rattle.std.specs.Prelude.{nat_eq, nat_lt}
use Rattle.std.proofs.lemmas.Bool.{and_parts, eqb-true, eqb-false, eq-eqb, ne_eqb, both_ways, ltb-true, ltb-false}
use Rattle.std.proofs.lemmas.Bool.Decides.{nat_tests}
use Rattle.lu_proof_bytes.specs.Object.Words.{Lock, Entry, covers, overlay, value}
use Rattle.lu_proof_bytes.specs.Object.Folds.{object, pending, dirty, known, is_some, over, base, HeldBy}
use Rattle.lu_proof_bytes.specs.Object.History.{Item, IsSize, plain, history, size_of}
use Rattle.lu_proof_bytes.specs.Object.Guards.{EndAt, ShownAt, in_run}
use Rattle.lu_proof_bytes.proofs.Object.Spot.{run_some, run_bounds, reads_value, over_none, over_some}
use Rattle.lu_proof_bytes.proofs.Object.Facts.{Outs}
use Rattle.lu_proof_bytes.proofs.Object.Ends.{Bounds, hides, covers_on}
use Rattle.lu_proof_bytes.proofs.Object.Views.{covered, size_is, same_end, none_some}
use Rattle.lu_proof_bytes.proofs.Object.Narrow.{shown_reach}
use Rattle.lu_proof_bytes.proofs.Object.World.{Later, World}
use Rattle.lu_proof_bytes.specs.Files.Layouts.{Layout, top, tops, read_on, IsSizeOn, known_on, WideOn, NarrowOn, StatOn}

-- ---- one stripe

-- what holds of the allowed story of a stripe's object, for what may be lost later too; whoever the story says was evicted is out
pub record Stripe (out lost : ℕ → Bool) (h : List Entry) : Type 0 where
  pub all : World h
  pub later : Later out lost h
  pub outs : Outs out h

module _ (out lost : ℕ → Bool) (h : List Entry) (st : Stripe out lost h) where
  abbrev items : List Item
  items = history out lost h

  pub stripe_view : (c q : ℕ) (l : Lock) → out c ≡ false
      → HeldBy h l → l.life ≡ c → covers l q ≡ true
      → plain items q ≡ over (pending c h) (dirty c h q) q (object lost h q)
  stripe_view c q l o held life cov = covered out lost h c q l st.outs st.all.numbers st.all.locks st.all.patches st.later.views o held life
      cov

  stripe_bounds : (c at z : ℕ) → out c ≡ false
      → (u : EndAt h c at z) → Bounds lost h u.lock.first u.end (hides h c)
  stripe_bounds c at z o u = subst (λ (d : ℕ). Bounds lost h u.lock.first u.end (hides h d)) u.life
      (st.later.ends.kept u.lock u.end u.held (ap out u.life ∙ o) u.last u.known)

  pub end_view : (c at z q : ℕ) → out c ≡ false
      → EndAt h c at z → at ≤ q
      → plain items q ≡ over (pending c h) (dirty c h q) q (object lost h q)
  end_view c at z q o u low = let f = u.first in stripe_view c q u.lock o u.held u.life (covers_on u.lock q u.last (omega arith))

  pub stripe_none : (c at z q : ℕ) → out c ≡ false → EndAt h c at z → at ≤ q → z ≤ q → plain items q ≡ None
  stripe_none c at z q o u low high =
      let f = u.first in
      let b = u.over.0 in
      let k = stripe_bounds c at z o u in
      end_view c at z q o u low ∙ over_none (pending c h) (dirty c h q) u.end q (object lost h q) (u.over.1 q high) (omega arith)
      (λ x j. k.none q (omega arith) x j)

  pub stripe_some : (c at z q : ℕ) → out c ≡ false
      → EndAt h c at z → at ≤ q → suc q ≡ z → is_some (plain items q) ≡ true
  stripe_some c at z q o u low is =
      let f = u.first in
      let k = stripe_bounds c at z o u in
      ap is_some (end_view c at z q o u low) ∙ over_some (pending c h) (dirty c h q) u.end q (object lost h q) (edge u.over.2)
      (λ x j. k.some q (omega arith) x j)
    where
      edge : (z ≡ base (pending c h) u.end) ⊎ ((r : ℕ) × (suc r ≡ z) × (is_some (dirty c h r) ≡ true)) → (suc q ≡ base (pending c h) u.end)
          ⊎ (is_some (dirty c h q) ≡ true)
      edge (inl e) = inl (is ∙ e)
      edge (inr (r, e, f)) = let it : r ≡ q = omega arith in inr (subst (λ (m : ℕ). is_some (dirty c h m) ≡ true) it f)

  -- what a holder to the end knows, from a position on
  pub known_end : (c at e : ℕ) → out c ≡ false
      → EndAt h c at e
      → (at < e → e ≤ size_of items) × (at < size_of items → size_of items ≤ e)
  known_end c at e o u =
      let z = size_is items in (
        same_end (λ q. plain items q) at (size_of items) e (λ q l j. z.0 q j) (λ q l j. stripe_some c at e q o u l j),
        same_end (λ q. plain items q) at e (size_of items) (λ q l j. stripe_none c at e q o u l j) (λ q l j. z.1 q j),
      )

  -- under a lock on the whole of it, it knows its size
  pub whole_end : (c e : ℕ) → out c ≡ false → EndAt h c 0 e → e ≡ size_of items
  whole_end c e o u = let x = known_end c 0 e o u in both e (size_of items) x.0 x.1
    where
      both : (a b : ℕ) → (0 < a → a ≤ b) → (0 < b → b ≤ a) → a ≡ b
      both zero zero f g = refl
      both zero (suc b) f g = let x = g (omega arith) in absurd (omega arith)
      both (suc a) zero f g = let x = f (omega arith) in absurd (omega arith)
      both (suc a) (suc b) f g = let x = f (omega arith) in let y = g (omega arith) in omega arith

-- ---- what is read

read_is : (y : Layout) (bytes : ℕ → ℕ → Option ℕ) (at : ℕ) (vs : List ℕ) (n : ℕ) → length vs ≡ n
    → ((p v : ℕ) → overlay at vs p None ≡ Some v → value (bytes (y.stripe p) (y.offset p)) ≡ v) → vs ≡ read_on y bytes at n
read_is y bytes at [] zero e each = refl
read_is y bytes at [] (suc n) e each = absurd (omega arith)
read_is y bytes at (v ∷ vs) zero e each = absurd (omega arith)
read_is y bytes at (v ∷ vs) (suc n) e each = rw (each at v (rw (eq-eqb at at refl)), ← read_is y bytes (suc at) vs n (omega arith) later)
  where
    later : (p u : ℕ) → overlay (suc at) vs p None ≡ Some u → value (bytes (y.stripe p) (y.offset p)) ≡ u
    later p u o =
        let low = (run_bounds (suc at) vs p (run_some (suc at) vs p u o)).0 in
        each p u (rw (ne_eqb at p (λ q. absurd (omega arith))) o)

-- ---- ends

cap_low : (y : Layout) (i e : ℕ) → y.cap i e ≤ e
cap_low y i e = by (nat_lt e (y.cap i e)) refl
  where
    by : (v : Bool) → nat_lt e (y.cap i e) ≡ v → y.cap i e ≤ e
    by false f = ltb-false e (y.cap i e) f
    by true f = absurd (let a = (and_parts (nat_lt e e) (y.has i e) (sym (y.cap_is i e e) ∙ f)).0 in let b = ltb-true e e a in omega arith)

cap_has : (y : Layout) (i e q : ℕ) → q < y.cap i e → y.has i q ≡ true
cap_has y i e q low = (and_parts (nat_lt q e) (y.has i q) (sym (y.cap_is i e q) ∙ is_below q (y.cap i e) low)).1
  where
    is_below : (a b : ℕ) → a < b → nat_lt a b ≡ true
    is_below a b l = grind (arith, nat_tests)

-- an end at or below the first offset past a position is at or below the position
top_low : (y : Layout) (i at e : ℕ) → e ≤ y.below i at → top y i e ≤ at
top_low y i at zero low = omega arith
top_low y i at (suc q) low =
    let a = ltb-true (y.position i q) at (sym (y.below_is i at q (y.below_has i at q (omega arith)))
    ∙ is_below q (y.below i at) (omega arith)) in
    omega arith
  where
    is_below : (a b : ℕ) → a < b → nat_lt a b ≡ true
    is_below a b l = grind (arith, nat_tests)

-- two ends of a stripe that agree past a position agree there for the file
tail_one : (y : Layout) (i at e s : ℕ) → (y.below i at < e → e ≤ s) → (y.below i at < s → s ≤ e) → (top y i (y.cap i e) - at)
    ≡ (top y i (y.cap i s) - at)
tail_one y i at e s a b = by (nat_lt (y.below i at) e) refl (nat_lt (y.below i at) s) refl
  where
    equal : e ≡ s → (top y i (y.cap i e) - at) ≡ (top y i (y.cap i s) - at)
    equal q = ap (λ (k : ℕ). top y i (y.cap i k) - at) q

    by : (v : Bool) → nat_lt (y.below i at) e ≡ v → (x : Bool) → nat_lt (y.below i at) s ≡ x → (top y i (y.cap i e) - at)
        ≡ (top y i (y.cap i s) - at)
    by true f x g = let c = ltb-true (y.below i at) e f in let d = a c in equal (let k = b (omega arith) in omega arith)
    by false f true g = let c = ltb-true (y.below i at) s g in let d = b c in equal (let k = a (omega arith) in omega arith)
    by false f false g =
        let c = ltb-false (y.below i at) e f in
        let d = ltb-false (y.below i at) s g in
        let l1 = cap_low y i e in
        let l2 = cap_low y i s in
        let t1 = top_low y i at (y.cap i e) (omega arith) in
        let t2 = top_low y i at (y.cap i s) (omega arith) in
        omega arith

-- a stripe that has no offset past the position ends below it
tail_none : (y : Layout) (i at e s : ℕ) → y.has i (y.below i at) ≡ false → (top y i (y.cap i e) - at) ≡ (top y i (y.cap i s) - at)
tail_none y i at e s none = let t1 = top_low y i at (y.cap i e) (low e) in let t2 = top_low y i at (y.cap i s) (low s) in omega arith
  where
    low : (k : ℕ) → y.cap i k ≤ y.below i at
    low k = by (nat_lt (y.below i at) (y.cap i k)) refl
      where
        by : (v : Bool) → nat_lt (y.below i at) (y.cap i k) ≡ v → y.cap i k ≤ y.below i at
        by false f = ltb-false (y.below i at) (y.cap i k) f
        by true f = absurd (both_ways (y.has i (y.below i at)) none (cap_has y i k (y.below i at) (ltb-true (y.below i at) (y.cap i k) f)))

tails : (y : Layout) (at : ℕ) (ends sizes : ℕ → ℕ) (k : ℕ) → ((i : ℕ) → i < k → (top y i (y.cap i (ends i)) - at)
    ≡ (top y i (y.cap i (sizes i)) - at)) → (tops y ends k - at) ≡ (tops y sizes k - at)
tails y at ends sizes zero f = refl
tails y at ends sizes (suc k) f = let a = tails y at ends sizes k (λ i l. f i (omega arith)) in let b = f k (omega arith) in omega arith

pub tops_same : (y : Layout) (ends sizes : ℕ → ℕ) (k : ℕ) → ((i : ℕ) → i < k → ends i ≡ sizes i) → tops y ends k ≡ tops y sizes k
tops_same y ends sizes zero f = refl
tops_same y ends sizes (suc k) f = let a = tops_same y ends sizes k (λ i l. f i (omega arith)) in let b =
    ap (λ (e : ℕ). top y k (y.cap k e)) (f k (omega arith)) in omega arith

tops_above : (y : Layout) (ends : ℕ → ℕ) (k t : ℕ) → t < k → top y t (y.cap t (ends t)) ≤ tops y ends k
tops_above y ends zero t low = absurd (omega arith)
tops_above y ends (suc k) t low = by (nat_eq t k) refl (tops_above y ends k t)
  where
    by : (v : Bool) → nat_eq t k ≡ v → (t < k → top y t (y.cap t (ends t)) ≤ tops y ends k)
        → top y t (y.cap t (ends t)) ≤ max (tops y ends k) (top y k (y.cap k (ends k)))
    by true e ih = let s : top y t (y.cap t (ends t)) ≡ top y k (y.cap k (ends k)) =
        ap (λ (j : ℕ). top y j (y.cap j (ends j))) (eqb-true t k e) in omega arith
    by false e ih = let ne = eqb-false t k e in let i = ih (grind arith) in omega arith

-- ---- the file

module _ (out : ℕ → Bool) (lost : ℕ → ℕ → Bool) (story : ℕ → List Entry) (bytes : ℕ → ℕ → Option ℕ)
    (stripe : (i : ℕ) → Stripe out (lost i) (story i)) (same : (i q : ℕ) → bytes i q ≡ plain (history out (lost i) (story i)) q) where
  abbrev items_on : ℕ → List Item
  items_on i = history out (lost i) (story i)

  -- the sizes of the objects
  pub sizes_are : (i : ℕ) → IsSize (bytes i) (size_of (items_on i))
  sizes_are i =
      let z = size_is (items_on i) in
      (λ q l. same i q ∙ z.0 q l, λ q e n. none_some (plain (items_on i) q) (sym (same i q) ∙ n) (z.1 q e))

  -- ---- a read under locks to the end
  pub wide_right : (y : Layout) (c at n : ℕ) (vs : List ℕ) → out c ≡ false → WideOn story y c at n vs
      → (z : ℕ) × IsSizeOn y bytes z × (vs ≡ read_on y bytes at (min n (z - at)))
  wide_right y c at n vs o u = (
    tops y (λ i. size_of (items_on i)) y.stripes,
    ((λ i. size_of (items_on i)), sizes_are, refl),
    read_is y bytes at vs (min n (tops y (λ i. size_of (items_on i)) y.stripes - at)) (u.count ∙ ap (λ (j : ℕ). min n j) tail_same) each,
  )
    where
      one : (i : ℕ) → i < y.stripes → (v : Bool) → y.has i (y.below i at) ≡ v → (top y i (y.cap i (u.ends i)) - at)
          ≡ (top y i (y.cap i (size_of (items_on i))) - at)
      one i low false e = tail_none y i at (u.ends i) (size_of (items_on i)) e
      one i low true e = let z = known_end out (lost i) (story i) (stripe i) c (y.below i at) (u.ends i) o (u.locks i low e)
          in tail_one y i at (u.ends i) (size_of (items_on i)) z.0 z.1

      tail_same : (tops y u.ends y.stripes - at) ≡ (tops y (λ i. size_of (items_on i)) y.stripes - at)
      tail_same = tails y at u.ends (λ i. size_of (items_on i)) y.stripes (λ i low. one i low (y.has i (y.below i at)) refl)

      -- the offset of a position at or past the first is at or past the first of its stripe
      starts : (p : ℕ) → at ≤ p → y.below (y.stripe p) at ≤ y.offset p
      starts p low = by (nat_lt (y.offset p) (y.below (y.stripe p) at)) refl
        where
          by : (v : Bool) → nat_lt (y.offset p) (y.below (y.stripe p) at) ≡ v → y.below (y.stripe p) at ≤ y.offset p
          by false e = ltb-false (y.offset p) (y.below (y.stripe p) at) e
          by true e = absurd (let a = ltb-true (y.position (y.stripe p) (y.offset p)) at
              (sym (y.below_is (y.stripe p) at (y.offset p) (y.inside p)) ∙ e) in let b = y.there p in omega arith)

      lock : (p : ℕ) → at ≤ p → EndAt (story (y.stripe p)) c (y.below (y.stripe p) at) (u.ends (y.stripe p))
      lock p low = u.locks (y.stripe p) (y.low p) (y.begins (y.stripe p) (y.below (y.stripe p) at) (y.offset p) (y.inside p) (starts p low))

      each : (p v : ℕ) → overlay at vs p None ≡ Some v → value (bytes (y.stripe p) (y.offset p)) ≡ v
      each p v i = by (u.each p v i)
        where
          low : at ≤ p
          low = (run_bounds at vs p (run_some at vs p v i)).0

          by : known_on story y c p v ⊎ ((u.ends (y.stripe p) ≤ y.offset p) × (v ≡ 0)) → value (bytes (y.stripe p) (y.offset p)) ≡ v
          by (inl e) =
              ap value (same (y.stripe p) (y.offset p) ∙ end_view out (lost (y.stripe p)) (story (y.stripe p)) (stripe (y.stripe p)) c
              (y.below (y.stripe p) at) (u.ends (y.stripe p)) (y.offset p) o (lock p low) (starts p low))
              ∙ reads_value (pending c (story (y.stripe p))) (dirty c (story (y.stripe p)) (y.offset p))
              (known c (story (y.stripe p)) (y.offset p)) (y.offset p) v (object (lost (y.stripe p)) (story (y.stripe p)) (y.offset p))
              e (λ m j. ((stripe (y.stripe p)).later.facts.known c (y.offset p) v o j).is m)
          by (inr e) = ap value (same (y.stripe p) (y.offset p)
              ∙ stripe_none out (lost (y.stripe p)) (story (y.stripe p)) (stripe (y.stripe p)) c (y.below (y.stripe p) at)
              (u.ends (y.stripe p)) (y.offset p) o (lock p low) (starts p low) e.0) ∙ sym e.1

  -- ---- a read under locks over what it asks
  pub narrow_right : (y : Layout) (c at n : ℕ) (vs : List ℕ) → out c ≡ false → NarrowOn story y c at n vs
      → (z : ℕ) × IsSizeOn y bytes z × (vs ≡ read_on y bytes at (min n (z - at)))
  narrow_right y c at n vs o u = (
    tops y (λ i. size_of (items_on i)) y.stripes,
    ((λ i. size_of (items_on i)), sizes_are, refl),
    read_is y bytes at vs (min n (tops y (λ i. size_of (items_on i)) y.stripes - at)) (u.count ∙ all) each,
  )
    where
      -- the last stripe's object ends past the last position
      far : y.offset u.final < size_of (items_on (y.stripe u.final))
      far = ⊎_elim
          (λ (e : (z : ℕ) × EndAt (story (y.stripe u.final)) c (y.offset u.final) z × (y.offset u.final < z)). let a =
          (known_end out (lost (y.stripe u.final)) (story (y.stripe u.final)) (stripe (y.stripe u.final)) c (y.offset u.final) e.0 o
          e.1).0 e.2 in let b = e.2 in omega arith)
          (λ (e : ShownAt (story (y.stripe u.final)) c (y.offset u.final)).
          let x = stripe (y.stripe u.final) in
          let r = shown_reach out (lost (y.stripe u.final)) (story (y.stripe u.final)) c (y.offset u.final) x.later.narrows o e in
          by r.0 r.1 r.2 (nat_lt r.0 (size_of (items_on (y.stripe u.final)))) refl)
          u.reached
        where
          by : (q : ℕ) → y.offset u.final ≤ q → is_some (plain (items_on (y.stripe u.final)) q) ≡ true → (v : Bool)
              → nat_lt q (size_of (items_on (y.stripe u.final))) ≡ v
              → y.offset u.final < size_of (items_on (y.stripe u.final))
          by q l e true f = let a = ltb-true q (size_of (items_on (y.stripe u.final))) f in omega arith
          by q l e false f = absurd (none_some (plain (items_on (y.stripe u.final)) q)
              ((size_is (items_on (y.stripe u.final))).0 q (ltb-false q (size_of (items_on (y.stripe u.final))) f)) e)

      is_below : (a b : ℕ) → a < b → nat_lt a b ≡ true
      is_below a b l = grind (arith, nat_tests)

      capped : y.offset u.final < y.cap (y.stripe u.final) (size_of (items_on (y.stripe u.final)))
      capped = ltb-true (y.offset u.final) (y.cap (y.stripe u.final) (size_of (items_on (y.stripe u.final))))
          (y.cap_is (y.stripe u.final) (size_of (items_on (y.stripe u.final))) (y.offset u.final)
          ∙ rw (is_below (y.offset u.final) (size_of (items_on (y.stripe u.final))) far, y.inside u.final))

      -- so the file ends past it
      past : u.final < tops y (λ i. size_of (items_on i)) y.stripes
      past = let a = tops_above y (λ i. size_of (items_on i)) y.stripes (y.stripe u.final) (y.low u.final) in let b =
          high (y.cap (y.stripe u.final) (size_of (items_on (y.stripe u.final)))) refl capped in omega arith
        where
          high : (e : ℕ) → y.cap (y.stripe u.final) (size_of (items_on (y.stripe u.final))) ≡ e → y.offset u.final < e
              → u.final < top y (y.stripe u.final) e
          high zero q l = absurd (omega arith)
          high (suc e) q l =
              let has = cap_has y (y.stripe u.final) (size_of (items_on (y.stripe u.final))) e (omega arith) in
              let a = y.rises (y.stripe u.final) (y.offset u.final) e has (omega arith) in
              let b = y.there u.final in
              omega arith

      all : n ≡ min n (tops y (λ i. size_of (items_on i)) y.stripes - at)
      all = let a = past in let f = u.is_final in omega arith

      each : (p v : ℕ) → overlay at vs p None ≡ Some v → value (bytes (y.stripe p) (y.offset p)) ≡ v
      each p v i =
          let b = run_bounds at vs p (run_some at vs p v i) in
          let b0 = b.0 in
          let b1 = b.1 in
          let len = u.count in
          let within : in_run at n p ≡ true = grind (arith, nat_tests) in
          ⊎_elim
          (λ (e : known_on story y c p v).
          ap value (same (y.stripe p) (y.offset p) ∙ stripe_view out (lost (y.stripe p)) (story (y.stripe p)) (stripe (y.stripe p)) c
          (y.offset p) (u.lock p) o (u.held p within) (u.life p within) (u.covered p within))
          ∙ reads_value (pending c (story (y.stripe p))) (dirty c (story (y.stripe p)) (y.offset p))
          (known c (story (y.stripe p)) (y.offset p)) (y.offset p) v (object (lost (y.stripe p)) (story (y.stripe p)) (y.offset p)) e
          (λ m j. ((stripe (y.stripe p)).later.facts.known c (y.offset p) v o j).is m))
          (λ (e : (z : ℕ) × EndAt (story (y.stripe p)) c (y.offset p) z × (z ≤ y.offset p) × (v ≡ 0)).
          ap value (same (y.stripe p) (y.offset p) ∙ stripe_none out (lost (y.stripe p)) (story (y.stripe p)) (stripe (y.stripe p)) c
          (y.offset p) e.0 (y.offset p) o e.1 (omega arith) e.2) ∙ sym e.3)
          (u.each p v i)

  -- ---- a stat under locks on the whole of each object
  pub stat_right : (y : Layout) (c z : ℕ) → out c ≡ false → StatOn story y c z → IsSizeOn y bytes z
  stat_right y c z o u = (
    (λ i. size_of (items_on i)),
    sizes_are,
    u.size
        ∙ tops_same y u.ends (λ i. size_of (items_on i)) y.stripes (λ i low. one i low),
  )
    where
      one : (i : ℕ) → i < y.stripes → u.ends i ≡ size_of (items_on i)
      one i low = whole_end out (lost i) (story i) (stripe i) c (u.ends i) o (u.locks i low)
