-- The locks that a call on bytes wants, stripe by stripe: each is one on a stripe of the layout.
use Rattle.std.proofs.Common.{◌≡◌, ℕ, zero, suc, ◌+◌, ◌-◌, ◌<◌, ◌≤◌, ◌^◌, List, [], ◌∷◌, ◌++◌, length, Bool, true, false, refl, sym, ap}
use Rattle.std.proofs.Common.{◌∙◌, add-one, arith}
use Rattle.std.specs.Prelude.{nat_lt, if◌then◌else◌, All}
use Rattle.std.specs.List.{range_with_len}
use Rattle.std.proofs.lemmas.Bool.Decides.{nat_tests}
use Rattle.std.proofs.lemmas.List.Elements.{All-nil, All-cons, All-head, All-tail}
use Rattle.lu_base.specs.declared.ids.Fid.{Fid}
use Rattle.lu_base.specs.declared.locks.Mode.{Mode}
use Rattle.lu_base.specs.declared.locks.Mode.TheVariants.{PR, PW}
use Rattle.lu_layout.specs.Raid0.{Raid0}
use Rattle.lu_layout.specs.Sound.{IsLayout}
use Rattle.lu_held.specs.declared.locks.Use.{Use}
use Rattle.lu_spec_entries.specs.Carried.{Kind, Narrow, Wide, Writes, Cuts, Stats, Glimpses}
use Rattle.lu_spec_client.specs.Patches.{to_end, cut_extent}
use Rattle.lu_spec_client.specs.Stripes.{below_on, stripes}
use Rattle.lu_spec_client.specs.Starts.{work_on}
use Rattle.lu_spec_client.specs.Wants.{want, wants_run, wants_rest, wants_cut, wants_on, wants_of}
use Rattle.lu_call.specs.Ranges.{IsInRange, IsWant, IsWork}
use Rattle.lu_call.proofs.Stripes.{below-le}

-- ---- stripe by stripe

run_more : (l : Raid0) (fid : Fid) (mode : Mode) (p end : ℕ) (is js : List ℕ) → wants_run l fid mode p end (is ++ js)
    ≡ wants_run l fid mode p end is ++ wants_run l fid mode p end js
run_more l fid mode p end [] js = refl
run_more l fid mode p end (i ∷ is) js = by (nat_lt (below_on l i p) (below_on l i end)) (run_more l fid mode p end is js)
  where
    w : Use
    w = want l fid mode i (record { first = below_on l i p; last = below_on l i end - 1 })

    whole : List Use
    whole = wants_run l fid mode p end (is ++ js)

    first : List Use
    first = wants_run l fid mode p end is

    rest : List Use
    rest = wants_run l fid mode p end js

    by : (v : Bool) → whole ≡ first ++ rest → (if v then w ∷ whole else whole) ≡ (if v then w ∷ first else first) ++ rest
    by true ih = ap (λ us. w ∷ us) ih
    by false ih = ih

rest_more : (l : Raid0) (fid : Fid) (p : ℕ) (is js : List ℕ) → wants_rest l fid p (is ++ js) ≡ wants_rest l fid p is
    ++ wants_rest l fid p js
rest_more l fid p [] js = refl
rest_more l fid p (i ∷ is) js = ap (λ us. want l fid PR i (to_end (below_on l i p)) ∷ us) (rest_more l fid p is js)

cut_more : (l : Raid0) (fid : Fid) (n : ℕ) (is js : List ℕ) → wants_cut l fid n (is ++ js) ≡ wants_cut l fid n is ++ wants_cut l fid n js
cut_more l fid n [] js = refl
cut_more l fid n (i ∷ is) js = ap (λ us. want l fid PW i (cut_extent (below_on l i n)) ∷ us) (cut_more l fid n is js)

pub wants_more : (l : Raid0) (fid : Fid) (kind : Kind) (is js : List ℕ) → wants_on l fid kind (is ++ js) ≡ wants_on l fid kind is
    ++ wants_on l fid kind js
wants_more l fid (Narrow p n) is js = run_more l fid PR p (p + n) is js
wants_more l fid (Wide p n) is js = rest_more l fid p is js
wants_more l fid (Writes p bs) is js = run_more l fid PW p (p + length bs) is js
wants_more l fid (Cuts n) is js = cut_more l fid n is js
wants_more l fid (Stats mode links) is js = rest_more l fid 0 is js
wants_more l fid (Glimpses sizes) is js = rest_more l fid 0 is js

range_more : (a n j : ℕ) → j ≡ a + n → range_with_len a (suc n) ≡ range_with_len a n ++ j ∷ []
range_more a zero j e = ap (λ i. i ∷ []) (omega (arith, e))
range_more a (suc n) j e = ap (λ is. a ∷ is) (range_more (a + 1) n j (omega (arith, e)))

-- those of one more stripe
pub wants_step : (l : Raid0) (fid : Fid) (kind : Kind) (n : ℕ) (wants more next : List Use) → wants
    ≡ wants_on l fid kind (range_with_len 0 n) → more ≡ wants_on l fid kind (n ∷ []) → next ≡ wants ++ more → next
    ≡ wants_on l fid kind (range_with_len 0 (n + 1))
wants_step l fid kind n wants more next so_far here is =
    is ∙ ap (λ us. us ++ more) so_far ∙ ap (λ us. wants_on l fid kind (range_with_len 0 n) ++ us) here
    ∙ sym (wants_more l fid kind (range_with_len 0 n) (n ∷ []))
    ∙ ap (wants_on l fid kind) (sym (range_more 0 n n (omega arith)))
    ∙ ap (λ m. wants_on l fid kind (range_with_len 0 m)) (sym (add-one n))

-- ---- each is a lock on a stripe

run_sound : (l : Raid0) (fid : Fid) (mode : Mode) (p end : ℕ) (is : List ℕ) → All (λ i. i < length l.targets) is
    → All (IsWant fid l) (wants_run l fid mode p end is)
run_sound l fid mode p end [] all = All-nil (IsWant fid l)
run_sound l fid mode p end (i ∷ is) all =
    by (nat_lt (below_on l i p) (below_on l i end)) refl (run_sound l fid mode p end is (All-tail (λ i. i < length l.targets) i is all))
  where
    w : Use
    w = want l fid mode i (record { first = below_on l i p; last = below_on l i end - 1 })

    by : (v : Bool) → nat_lt (below_on l i p) (below_on l i end) ≡ v → All (IsWant fid l) (wants_run l fid mode p end is)
        → All (IsWant fid l) (if v then w ∷ wants_run l fid mode p end is else wants_run l fid mode p end is)
    by true less ih =
        All-cons (IsWant fid l) w (wants_run l fid mode p end is)
        (record {
          stripe = All-head (λ i. i < length l.targets) i is all;
          object = refl;
          target = refl;
          range =
              grind (arith, nat_tests);
        }) ih
    by false less ih = ih

rest_sound : (l : Raid0) (fid : Fid) (p : ℕ) → IsLayout l → p ≤ 2 ^ 40 → (is : List ℕ) → All (λ i. i < length l.targets) is
    → All (IsWant fid l) (wants_rest l fid p is)
rest_sound l fid p good fits [] all = All-nil (IsWant fid l)
rest_sound l fid p good fits (i ∷ is) all =
    let here : i < length l.targets = All-head (λ i. i < length l.targets) i is all in
    All-cons (IsWant fid l) (want l fid PR i (to_end (below_on l i p))) (wants_rest l fid p is)
    (record { stripe = here; object = refl; target = refl; range = omega (arith, below-le l i p good here) })
    (rest_sound l fid p good fits is (All-tail (λ i. i < length l.targets) i is all))

cut_sound : (l : Raid0) (fid : Fid) (n : ℕ) → IsLayout l → n ≤ 2 ^ 40 → (is : List ℕ) → All (λ i. i < length l.targets) is
    → All (IsWant fid l) (wants_cut l fid n is)
cut_sound l fid n good fits [] all = All-nil (IsWant fid l)
cut_sound l fid n good fits (i ∷ is) all =
    let here : i < length l.targets = All-head (λ i. i < length l.targets) i is all in
    All-cons (IsWant fid l) (want l fid PW i (cut_extent (below_on l i n))) (wants_cut l fid n is)
    (record { stripe = here; object = refl; target = refl; range = omega (arith, below-le l i n good here) })
    (cut_sound l fid n good fits is (All-tail (λ i. i < length l.targets) i is all))

on_sound : (l : Raid0) (fid : Fid) (kind : Kind) (is : List ℕ) → IsLayout l → IsInRange kind → All (λ i. i < length l.targets) is
    → All (IsWant fid l) (wants_on l fid kind is)
on_sound l fid (Narrow p n) is good range all = run_sound l fid PR p (p + n) is all
on_sound l fid (Wide p n) is good range all = rest_sound l fid p good (omega (arith, range.ends)) is all
on_sound l fid (Writes p bs) is good range all = run_sound l fid PW p (p + length bs) is all
on_sound l fid (Cuts n) is good range all = cut_sound l fid n good range is all
on_sound l fid (Stats mode links) is good range all = rest_sound l fid 0 good (omega arith) is all
on_sound l fid (Glimpses sizes) is good range all = rest_sound l fid 0 good (omega arith) is all

range_below : (a n m : ℕ) → a + n ≤ m → All (λ i. i < m) (range_with_len a n)
range_below a zero m fits = All-nil (λ i. i < m)
range_below a (suc n) m fits = All-cons (λ i. i < m) a (range_with_len (a + 1) n) (omega arith) (range_below (a + 1) n m (omega arith))

pub wants_sound : (l : Raid0) (fid : Fid) (kind : Kind) → IsLayout l → IsInRange kind → All (IsWant fid l) (wants_of l fid kind)
wants_sound l fid kind good range = on_sound l fid kind (stripes l) good range
    (range_below 0 (length l.targets) (length l.targets) (omega arith))

-- a call that begins carries nothing else along
pub work_sound : (l : Raid0) (fid : Fid) (kind : Kind) → IsLayout l → IsInRange kind → IsWork (work_on fid l kind)
work_sound l fid kind good range = record {
  kind = range;
  layout = good;
  used = All-nil (λ u. IsWant fid l u.want);
  left =
      wants_sound l fid kind good range;
}
