-- What a read wants: of each object that it wants a lock on, it wants one to the end too, and it wants one on that of its last position.
-- The file of a
-- read that stands calm is that of its handle.
use Rattle.std.proofs.Common.{◌≡◌, ℕ, zero, suc, ◌+◌, ◌-◌, ◌*◌, ◌/◌, ◌%◌, ◌<◌, ◌≤◌, Bool, true, false, List, [], ◌∷◌, ◌⊎◌, inl, inr, ⊎_elim}
use Rattle.std.proofs.Common.{Some, None, length, refl, sym, subst, ap, ◌∙◌, arith}
use Rattle.std.specs.Prelude.{nat_eq, nat_lt, if◌then◌else◌}
use Rattle.std.specs.List.{range_with_len}
use Rattle.std.proofs.Math.Nat.{div-le_self, mul-le-mul_right}
use Rattle.std.proofs.lemmas.Nat.{div-add-mod'}
use Rattle.std.proofs.lemmas.Bool.{cond_both, eqb-true}
use Rattle.std.proofs.lemmas.Bool.Decides.{nat_tests}
use Rattle.lu_base.specs.declared.ids.Fid.{Fid}
use Rattle.lu_base.specs.declared.locks.Extent.{Extent}
use Rattle.lu_base.specs.declared.locks.Mode.TheVariants.{PR}
use Rattle.lu_base.specs.declared.locks.Policy.TheVariants.{Range}
use Rattle.lu_layout.specs.Raid0.{Raid0, stripe_of, offset_of}
use Rattle.lu_layout.specs.Sound.{IsLayout}
use Rattle.lu_layout.proofs.Places.{stripe_of-lt}
use Rattle.lu_lock.specs.Growth.{the_end}
use Rattle.lu_msg.specs.declared.calls.Call.{Call}
use Rattle.lu_msg.specs.declared.calls.Call.TheVariants as call
use Rattle.lu_held.specs.declared.locks.Use.{Use}
use Rattle.lu_spec_entries.specs.Carried.{HandleFile, Running}
use Rattle.lu_spec_entries.specs.Words.{Line}
use Rattle.lu_spec_entries.specs.Printed.{printed}
use Rattle.lu_spec_client.specs.Patches.{to_end}
use Rattle.lu_spec_client.specs.Stripes.{below_on, stripes}
use Rattle.lu_spec_client.specs.Wants.{want, wants_run, wants_rest}
use Rattle.lu_proof_objects.proofs.Pieces.{offset_within}
use Rattle.lu_proof_lawful.specs.Covered.Calls.{call_at, file_at, file_for}
use Rattle.lu_proof_lawful.specs.Covered.Heads.{Head}
use Rattle.lu_spec_laws.specs.Words.Calls.{call_in}
use Rattle.lu_spec_laws.specs.Words.Lives.{who_is}
use Rattle.lu_spec_laws.specs.Words.Repeats.{calm}
use Rattle.lu_proof_lawful.proofs.Preconditions.Guards.{In, Begins}
use Rattle.lu_proof_lawful.proofs.Preconditions.Grown.{Grown}
use Rattle.lu_proof_lawful.proofs.Preconditions.Calls.{Came, call_cases}
use Rattle.lu_proof_lawful.proofs.Invariants.Groups.{turn}
use Rattle.lu_proof_lawful.proofs.Laws.SilentOpens.{file_still}
use Rattle.lu_proof_lawful.proofs.Laws.SilentCalm.{called, call_is, calm_stands, StandsIn, calm_stays, calm_before, calm_keeps, every_in}

-- ---- a stripe has few offsets below a position

offset_low : (l : Raid0) (n : ℕ) → offset_of l n ≤ n
unfolding offset_of
offset_low l n =
    let split = div-add-mod' n l.size in
    let rounds = div-add-mod' (n / l.size) (length l.targets) in
    let low : n / l.size / length l.targets ≤ n / l.size = div-le_self (n / l.size) (length l.targets) in
    let times : n / l.size / length l.targets * l.size ≤ n / l.size * l.size = mul-le-mul_right l.size low in
    omega (arith, split, times)

size_low : (l : Raid0) (i n : ℕ) → i < stripe_of l n → l.size ≤ n
unfolding stripe_of
size_low l i n less = by (n / l.size) refl less
  where
    by : (q : ℕ) → n / l.size ≡ q → i < q % length l.targets → l.size ≤ n
    by zero e less = absurd (omega arith)
    by (suc q) e less =
        let split : n / l.size * l.size + n % l.size ≡ n = div-add-mod' n l.size in
        let some : 1 * l.size ≤ n / l.size * l.size = mul-le-mul_right l.size (omega (arith, e)) in
        omega (arith, split, some)

pub below_low : (l : Raid0) (i n : ℕ) → below_on l i n ≤ n + n
below_low l i n = by (nat_lt i (stripe_of l n)) (nat_eq i (stripe_of l n)) refl
  where
    low : offset_of l n ≤ n
    low = offset_low l n

    by : (v w : Bool) → nat_lt i (stripe_of l n) ≡ v → (if v then offset_of l n - n % l.size + l.size else if w then offset_of l n
        else offset_of l n - n % l.size) ≤ n + n
    by true w e = let less = size_low l i n (grind (arith, nat_tests, e)) in omega (arith, low, less)
    by false true e = omega (arith, low)
    by false false e = omega (arith, low)

-- ---- what a read wants: of each object that it wants a lock on, it wants one to the end too

-- it is wanted for reading, up to some offset
pub record ToRead (u : Use) : Type 0 where
  pub extent : Extent
  pub policy : u.policy ≡ Range extent
  pub reads : u.mode ≡ PR
  pub limited : extent.last ≤ the_end

-- and so is another use on its object
abbrev pub WithWide : List Use → Use → Type 0
WithWide wide u = ToRead u × ((w : Use) × (In w wide × ((w.target ≡ u.target) × (w.resource ≡ u.resource))))

with_more : (x u : Use) (wide : List Use) → WithWide wide u → WithWide (x ∷ wide) u
with_more x u wide h = (h.0, (h.1.0, (inr h.1.1.0, h.1.1.1)))

pub run_with : (l : Raid0) (fid : Fid) (p end : ℕ) → end + end ≤ the_end → (is : List ℕ) (u : Use) → In u (wants_run l fid PR p end is)
    → WithWide (wants_rest l fid p is) u
run_with l fid p end limit [] u j = absurd j
run_with l fid p end limit (i ∷ is) u j = by (run_with l fid p end limit is u) j
  where
    it : Use
    it = want l fid PR i (record { first = below_on l i p; last = below_on l i end - 1 })

    low : below_on l i end ≤ end + end
    low = below_low l i end

    here : WithWide (wants_rest l fid p (i ∷ is)) it
    here = (
      record {
        extent = record { first = below_on l i p; last = below_on l i end - 1 };
        policy = refl;
        reads = refl;
        limited =
            omega (arith, low, limit);
      },
      (want l fid PR i (to_end (below_on l i p)), (inl refl, (refl, refl))),
    )

    by : (In u (wants_run l fid PR p end is) → WithWide (wants_rest l fid p is) u) → In u (wants_run l fid PR p end (i ∷ is))
        → WithWide (wants_rest l fid p (i ∷ is)) u
    by before =
        cond_both (nat_lt (below_on l i p) (below_on l i end)) (it ∷ wants_run l fid PR p end is) (wants_run l fid PR p end is)
        (λ (v : List Use). In u v → WithWide (wants_rest l fid p (i ∷ is)) u)
        (λ t k. ⊎_elim (λ (e : it ≡ u). subst (WithWide (wants_rest l fid p (i ∷ is))) e here)
        (λ (m : In u (wants_run l fid PR p end is)). more (before m)) k)
        (λ t k. more (before k))
      where
        more : WithWide (wants_rest l fid p is) u → WithWide (wants_rest l fid p (i ∷ is)) u
        more = with_more (want l fid PR i (to_end (below_on l i p))) u (wants_rest l fid p is)

pub rest_with : (l : Raid0) (fid : Fid) (p : ℕ) (is : List ℕ) (u : Use) → In u (wants_rest l fid p is) → WithWide (wants_rest l fid p is) u
rest_with l fid p [] u j = absurd j
rest_with l fid p (i ∷ is) u (inl e) =
    subst (WithWide (wants_rest l fid p (i ∷ is))) e (
      record { extent = to_end (below_on l i p); policy = refl; reads = refl; limited = omega arith },
      (want l fid PR i (to_end (below_on l i p)), (inl refl, (refl, refl))),
    )
rest_with l fid p (i ∷ is) u (inr j) = with_more (want l fid PR i (to_end (below_on l i p))) u (wants_rest l fid p is)
    (rest_with l fid p is u j)

-- ---- and of the object of its last position

pub range_has : (a n i : ℕ) → a ≤ i → i < a + n → In i (range_with_len a n)
range_has a zero i low high = absurd (omega (arith, low, high))
range_has a (suc n) i low high = by (nat_eq a i) refl (λ from to. range_has (a + 1) n i from to)
  where
    by : (b : Bool) → nat_eq a i ≡ b → (a + 1 ≤ i → i < a + 1 + n → In i (range_with_len (a + 1) n)) → In i (range_with_len a (suc n))
    by true e more = inl (eqb-true a i e)
    by false e more = let apart : a < i = grind (arith, nat_tests) in inr (more (omega (arith, apart)) (omega (arith, high)))

pub run_has : (l : Raid0) (fid : Fid) (p end : ℕ) (is : List ℕ) (i : ℕ) → In i is → below_on l i p < below_on l i end → (w : Use)
    × In w (wants_run l fid PR p end is) × (w.resource.stripe ≡ i)
run_has l fid p end [] i j less = absurd j
run_has l fid p end (k ∷ is) i (inl e) less =
    let here : below_on l k p < below_on l k end = subst (λ (v : ℕ). below_on l v p < below_on l v end) (sym e) less in
    cond_both (nat_lt (below_on l k p) (below_on l k end)) (want l fid PR k (record { first = below_on l k p; last = below_on l k end - 1 })
    ∷ wants_run l fid PR p end is) (wants_run l fid PR p end is)
    (λ (v : List Use). (w : Use) × In w v × (w.resource.stripe ≡ i))
    (λ t. (want l fid PR k (record { first = below_on l k p; last = below_on l k end - 1 }), inl refl, e))
    (λ t. absurd (grind (arith, nat_tests)))
run_has l fid p end (k ∷ is) i (inr j) less =
    let r = run_has l fid p end is i j less in
    cond_both (nat_lt (below_on l k p) (below_on l k end)) (want l fid PR k (record { first = below_on l k p; last = below_on l k end - 1 })
    ∷ wants_run l fid PR p end is) (wants_run l fid PR p end is)
    (λ (v : List Use). (w : Use) × In w v × (w.resource.stripe ≡ i)) (λ t. (r.0, inr r.1, r.2)) (λ t. r)

pub rest_has : (l : Raid0) (fid : Fid) (p : ℕ) (is : List ℕ) (i : ℕ) → In i is → (w : Use) × In w (wants_rest l fid p is)
    × (w.resource.stripe ≡ i)
rest_has l fid p [] i j = absurd j
rest_has l fid p (k ∷ is) i (inl e) = (want l fid PR k (to_end (below_on l k p)), inl refl, e)
rest_has l fid p (k ∷ is) i (inr j) = let r = rest_has l fid p is i j in (r.0, inr r.1, r.2)

pub last_wanted : (l : Raid0) → IsLayout l → (fid : Fid) (p n : ℕ) → 0 < n → (w : Use) × In w (wants_run l fid PR p (p + n) (stripes l))
    × (w.resource.stripe ≡ stripe_of l (p + n - 1))
last_wanted l good fid p n some =
    let here = stripe_of-lt l (p + n - 1) good in
    let o = offset_within l (stripe_of l (p + n - 1)) p n (p + n - 1) good here (omega (arith, some)) (omega (arith, some)) refl in
    let a = o.0 in
    let b = o.1 in
    run_has l fid p (p + n) (stripes l) (stripe_of l (p + n - 1))
    (range_has 0 (length l.targets) (stripe_of l (p + n - 1)) (omega arith) (omega (arith, here))) (omega (arith, a, b))

-- ---- the file of a read that stands calm is that of its handle

module _ (head : Head) (c : ℕ) where
  pub calm_file : (past : List Line) → Grown head past → (x : ℕ × Call) → In x (calm (who_is c (printed past)) (printed past))
      → (r : Running) → call_at c x.0 past ≡ Some r → (f : HandleFile) → r.file ≡ Some f
      → (h offset count : ℕ) → x.1 ≡ call.Read h offset count → file_at c h past ≡ Some f
  calm_file [] g x i r is f file h offset count reads = absurd i
  calm_file (l ∷ past) g x i r is f file h offset count reads =
      file_still head c h offset count l past f g (calm_stays head c l past g x i).0 (calm_keeps head c l past g x i h offset count reads)
      (by (λ q e same. calm_file past g.1 x (calm_before head c x.0 q l past g e x refl i) q e f (same ∙ file) h offset count reads)
      (call_cases past l.at.stamp l.at.node l.entry g.0.ok c x.0 r is))
    where
      began : Begins c past r → r.call ≡ call.Read h offset count → file_at c h past ≡ Some f
      began (inl b) k = ap (file_for c past) (sym k) ∙ sym b.2 ∙ file
      began (inr b) k = let none : None ≡ Some f = sym b.2 ∙ file in absurd (cc)

      by : ((q : Running) → call_at c x.0 past ≡ Some q → q.file ≡ r.file → file_at c h past ≡ Some f)
          → Came past (turn l.at.stamp l.at.node) l.at.node l.entry c x.0 r → file_at c h past ≡ Some f
      by before (inl e) = before r e refl
      by before (inr (inl b)) =
          let here : call_in c x.0 (printed (l ∷ past)) ≡ Some r.call = call_is head c x.0 (l ∷ past) g ∙ ap called is in
          let stands : call_in c x.0 (printed (l ∷ past)) ≡ Some x.1 =
          every_in (StandsIn (λ k. call_in c k (printed (l ∷ past)))) x (calm (who_is c (printed (l ∷ past))) (printed (l ∷ past)))
          (calm_stands head c (l ∷ past) g) i
          in
          began b.begins (one_call r.call x.1 (sym here ∙ stands) ∙ reads)
        where
          one_call : (a b : Call) → Some a ≡ Some b → a ≡ b
          one_call a b e = cc
      by before (inr (inr (inl t))) = before t.before t.call t.file
      by before (inr (inr (inr s))) = before s.before s.call s.file
