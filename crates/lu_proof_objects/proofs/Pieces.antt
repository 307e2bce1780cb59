-- The part of a call on bytes that lies on one stripe, and the locks that the call wants there.
use Rattle.std.proofs.Common.{◌≡◌, inl, inr, ℕ, zero, suc, ◌+◌, ◌-◌, ◌%◌, ◌<◌, ◌≤◌, Bool, true, false, List, [], ◌∷◌, length, refl, sym, ap}
use Rattle.std.proofs.Common.{subst, ◌∙◌, arith}
use Rattle.std.specs.Prelude.{nat_eq, nat_lt, ◌==◌, if◌then◌else◌}
use Rattle.std.specs.List.{range_with_len}
use Rattle.std.proofs.lemmas.Bool.{eq-eqb}
use Rattle.std.proofs.lemmas.Bool.Decides.{nat_tests}
use Rattle.lu_base.specs.declared.ids.Fid.{Fid}
use Rattle.lu_base.specs.declared.locks.Mode.{Mode}
use Rattle.lu_base.specs.declared.locks.Mode.TheVariants.{PR, PW}
use Rattle.lu_layout.specs.Raid0.{Raid0, stripe_of, offset_of, below_of}
use Rattle.lu_layout.specs.Sound.{IsLayout}
use Rattle.lu_layout.proofs.Below.{IsCount-is, before_reached, at_reached, after_reached}
use Rattle.lu_held.specs.declared.locks.Use.{Use}
use Rattle.lu_spec_client.specs.Patches.{to_end, cut_extent}
use Rattle.lu_spec_client.specs.Stripes.{below_on, stripes, bytes_on}
use Rattle.lu_spec_client.specs.Wants.{want, wants_run, wants_rest, wants_cut}
use Rattle.lu_proof_objects.specs.Sound.{In}

-- ---- stripes

range_in : (a n i : ℕ) → In i (range_with_len a n) → (a ≤ i) × (i < a + n)
range_in a zero i j = absurd j
range_in a (suc n) i (inl e) = (omega (arith, e), omega (arith, e))
range_in a (suc n) i (inr j) = let r = range_in (a + 1) n i j in let p = r.0 in let q = r.1 in (omega (arith, p), omega (arith, q))

pub stripe_there : (l : Raid0) (i : ℕ) → In i (stripes l) → i < length l.targets
stripe_there l i j = let r = (range_in 0 (length l.targets) i j).1 in omega (arith, r)

-- ---- offsets below a position

pub below_is : (l : Raid0) (i n : ℕ) → IsLayout l → i < length l.targets → below_of l i n ≡ below_on l i n
below_is l i n good in_range = by (nat_lt i (stripe_of l n)) (nat_eq i (stripe_of l n)) refl refl
  where
    by : (v w : Bool) → nat_lt i (stripe_of l n) ≡ v → nat_eq i (stripe_of l n) ≡ w → below_of l i n
        ≡ (if v then offset_of l n - n % l.size + l.size else if w then offset_of l n else offset_of l n - n % l.size)
    by true w less same = sym (IsCount-is l i n (offset_of l n - n % l.size + l.size) good in_range
        (before_reached l i n (stripe_of l n) (offset_of l n) l.size good refl refl refl (grind (arith, nat_tests))))
    by false true less same = sym (IsCount-is l i n (offset_of l n) good in_range
        (at_reached l i n (stripe_of l n) (offset_of l n) good refl refl (grind (arith, nat_tests))))
    by false false less same = sym (IsCount-is l i n (offset_of l n - n % l.size) good in_range
        (after_reached l i n (stripe_of l n) (offset_of l n) l.size good refl refl refl (grind (arith, nat_tests)) in_range))

below_step : (l : Raid0) (i n : ℕ) → below_of l i (suc n) ≡ below_of l i n + (if stripe_of l n == i then 1 else 0)
unfolding below_of
below_step l i n = refl

below_zero : (l : Raid0) (i : ℕ) → below_of l i 0 ≡ 0
unfolding below_of
below_zero l i = refl

one_most : (v : Bool) → (if v then 1 else 0) ≤ 1
one_most true = omega arith
one_most false = omega arith

pub below_low : (l : Raid0) (i n : ℕ) → below_of l i n ≤ n
below_low l i zero = let z = below_zero l i in omega (arith, z)
below_low l i (suc n) = let s = below_step l i n in let h = below_low l i n in let o = one_most (stripe_of l n == i)
    in omega (arith, s, h, o)

-- the bytes that lie on a stripe are as many as its offsets there
on_count : (l : Raid0) (i p : ℕ) (bs : List ℕ) → below_of l i p + length (bytes_on l i p bs) ≡ below_of l i (p + length bs)
on_count l i p [] = let same : p + 0 ≡ p = omega arith in omega (arith, ap (below_of l i) same)
on_count l i p (b ∷ bs) = by (stripe_of l p == i) refl (on_count l i (p + 1) bs)
  where
    moved : below_of l i (p + 1 + length bs) ≡ below_of l i (p + suc (length bs))
    moved = ap (below_of l i) (let same : p + 1 + length bs ≡ p + suc (length bs) = omega arith in same)

    next : below_of l i (p + 1) ≡ below_of l i (suc p)
    next = ap (below_of l i) (let same : p + 1 ≡ suc p = omega arith in same)

    by : (v : Bool) → (stripe_of l p == i) ≡ v → below_of l i (p + 1) + length (bytes_on l i (p + 1) bs) ≡ below_of l i (p + 1 + length bs)
        → below_of l i p + length (if v then b ∷ bytes_on l i (p + 1) bs else bytes_on l i (p + 1) bs) ≡ below_of l i (p + suc (length bs))
    by true e ih = let s : below_of l i (suc p) ≡ below_of l i p + 1 = below_step l i p ∙ rw e refl in omega (arith, moved, next, s, ih)
    by false e ih = let s : below_of l i (suc p) ≡ below_of l i p + 0 = below_step l i p ∙ rw e refl in omega (arith, moved, next, s, ih)

pub on_length : (l : Raid0) (i p : ℕ) (bs : List ℕ) → IsLayout l → i < length l.targets → below_on l i p + length (bytes_on l i p bs)
    ≡ below_on l i (p + length bs)
on_length l i p bs good here =
    ap (λ (n : ℕ). n + length (bytes_on l i p bs)) (sym (below_is l i p good here)) ∙ on_count l i p bs
    ∙ below_is l i (p + length bs) good here

below_more : (l : Raid0) (i p n : ℕ) → below_of l i p ≤ below_of l i (p + n)
below_more l i p zero = let same : p + 0 ≡ p = omega arith in let e = ap (below_of l i) same in omega (arith, e)
below_more l i p (suc n) =
    let same : p + suc n ≡ suc (p + n) = omega arith in
    let e = ap (below_of l i) same in
    let s = below_step l i (p + n) in
    let h = below_more l i p n in
    omega (arith, e, s, h)

-- the offset of a position of a run lies among those of the run
pub offset_within : (l : Raid0) (i p n e : ℕ) → IsLayout l → i < length l.targets → p ≤ e → e < p + n → i ≡ stripe_of l e
    → (below_on l i p ≤ offset_of l e) × (offset_of l e < below_on l i (p + n))
offset_within l i p n e good here low high on =
    let is : below_of l i e ≡ offset_of l e = sym (IsCount-is l i e (offset_of l e) good here
    (at_reached l i e (stripe_of l e) (offset_of l e) good refl refl on)) in
    let test : (stripe_of l e == i) ≡ true = eq-eqb (stripe_of l e) i (sym on) in
    let step : below_of l i (suc e) ≡ below_of l i e + 1 = below_step l i e ∙ rw test refl in
    let first : below_of l i p ≤ below_of l i e = subst (λ (m : ℕ). below_of l i p ≤ below_of l i m)
    (let q : p + (e - p) ≡ e = omega (arith, low) in q) (below_more l i p (e - p)) in
    let last : below_of l i (suc e) ≤ below_of l i (p + n) = subst (λ (m : ℕ). below_of l i (suc e) ≤ below_of l i m)
    (let q : suc e + (p + n - suc e) ≡ p + n = omega (arith, high) in q) (below_more l i (suc e) (p + n - suc e)) in
    let a = below_is l i p good here in
    let b = below_is l i (p + n) good here in
    (omega (arith, is, first, a), omega (arith, is, step, last, b))

-- ---- what is wanted

pub run_wanted : (l : Raid0) (fid : Fid) (mode : Mode) (p end : ℕ) (is : List ℕ) (u : Use) → In u (wants_run l fid mode p end is)
    → (i : ℕ) × In i is × (below_on l i p < below_on l i end) × (want l fid mode i
    (record { first = below_on l i p; last = below_on l i end - 1 }) ≡ u)
run_wanted l fid mode p end [] u j = absurd j
run_wanted l fid mode p end (i ∷ is) u j = by (nat_lt (below_on l i p) (below_on l i end)) refl j (run_wanted l fid mode p end is u)
  where
    Found : List ℕ → Type 0
    Found ns = (n : ℕ) × In n ns × (below_on l n p < below_on l n end)
        × (want l fid mode n (record { first = below_on l n p; last = below_on l n end - 1 }) ≡ u)

    more : In u (wants_run l fid mode p end is) → (In u (wants_run l fid mode p end is) → Found is) → Found (i ∷ is)
    more k ih = let r = ih k in (r.0, inr r.1, r.2, r.3)

    by : (v : Bool) → nat_lt (below_on l i p) (below_on l i end) ≡ v
        → In u (if v then want l fid mode i (record { first = below_on l i p; last = below_on l i end - 1 }) ∷ wants_run l fid mode p end is
        else wants_run l fid mode p end is)
        → (In u (wants_run l fid mode p end is) → Found is) → Found (i ∷ is)
    by true e (inl s) ih = (i, inl refl, grind (arith, nat_tests), s)
    by true e (inr k) ih = more k ih
    by false e k ih = more k ih

pub rest_wanted : (l : Raid0) (fid : Fid) (p : ℕ) (is : List ℕ) (u : Use) → In u (wants_rest l fid p is) → (i : ℕ) × In i is
    × (want l fid PR i (to_end (below_on l i p)) ≡ u)
rest_wanted l fid p [] u j = absurd j
rest_wanted l fid p (i ∷ is) u (inl s) = (i, inl refl, s)
rest_wanted l fid p (i ∷ is) u (inr j) = let r = rest_wanted l fid p is u j in (r.0, inr r.1, r.2)

pub cut_wanted : (l : Raid0) (fid : Fid) (n : ℕ) (is : List ℕ) (u : Use) → In u (wants_cut l fid n is) → (i : ℕ) × In i is
    × (want l fid PW i (cut_extent (below_on l i n)) ≡ u)
cut_wanted l fid n [] u j = absurd j
cut_wanted l fid n (i ∷ is) u (inl s) = (i, inl refl, s)
cut_wanted l fid n (i ∷ is) u (inr j) = let r = cut_wanted l fid n is u j in (r.0, inr r.1, r.2)
