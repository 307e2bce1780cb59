-- How many bytes are dirty after each change, by what stood in the range that it touched.
use Rattle.std.proofs.Common.{◌≡◌, ℕ, ◌+◌, ◌-◌, ◌^◌, ◌<◌, ◌≤◌, Bool, true, false, cond, List, [], ◌∷◌, ◌++◌, length, length-append, refl}
use Rattle.std.proofs.Common.{sym, ap, subst, arith}
use Rattle.std.specs.Prelude.{nat_lt, nat_le, ◌&&◌, filter, not}
use Rattle.std.proofs.lemmas.Bool.Decides.{nat_tests}
use Rattle.lu_spec_entries.specs.declared.changes.Dirty.{Dirty}
use Rattle.lu_spec_machine.specs.Places.{Places, RisingFrom, below, from, placed, laid}
use Rattle.lu_spec_bytes.specs.Maps.{AllBelow, IsMap}
use Rattle.lu_spec_bytes.proofs.Rising.{kept_filter}
use Rattle.lu_spec_client.specs.Patches.{landed}
use Rattle.lu_patch.specs.Counted.{between, IsCounted}
use Rattle.lu_patch.specs.Flights.{FlyBetween}
use Rattle.lu_patch.proofs.Kept.{map_laid}

-- ---- an empty range

pub nothing_between : {A : Type 0} (first end : ℕ) (m : Places A) → end ≤ first → between first end m ≡ []
nothing_between first end [] none = refl
nothing_between first end (e ∷ m) none =
    let out : (nat_le first e.0 && nat_lt e.0 end) ≡ false = grind (arith, nat_tests, none) in
    rw out (nothing_between first end m none)

-- ---- a run that is laid

length_placed : {A : Type 0} (at : ℕ) (xs : List A) → length (placed at xs) ≡ length xs
length_placed at [] = refl
length_placed at (x ∷ xs) = let rest : length (placed (at + 1) xs) ≡ length xs = length_placed (at + 1) xs in omega (arith, rest)

three_parts : {A : Type 0} (at k : ℕ) (m : Places A) → at ≤ k → length (below at m) + (length (between at k m) + length (from k m))
    ≡ length m
three_parts at k [] less = omega arith
three_parts {A} at k (e ∷ m) less = by (nat_lt e.0 at) (nat_le k e.0) refl refl (three_parts at k m less)
  where
    by : (u v : Bool) → nat_lt e.0 at ≡ u → nat_le k e.0 ≡ v → length (below at m) + (length (between at k m) + length (from k m))
        ≡ length m
        → length (cond u (e ∷ below at m) (below at m)) + (length (between at k (e ∷ m)) + length (cond v (e ∷ from k m) (from k m)))
        ≡ length (e ∷ m)
    by true true low high rest = absurd (grind (arith, nat_tests, less))
    by true false low high rest = let out : (nat_le at e.0 && nat_lt e.0 k) ≡ false = grind (arith, nat_tests)
        in rw out (omega (arith, rest))
    by false true low high rest = let out : (nat_le at e.0 && nat_lt e.0 k) ≡ false = grind (arith, nat_tests)
        in rw out (omega (arith, rest))
    by false false low high rest = let here : (nat_le at e.0 && nat_lt e.0 k) ≡ true = grind (arith, nat_tests)
        in rw here (omega (arith, rest))

pub count_laid : {A : Type 0} (at : ℕ) (xs : List A) (m : Places A) → length (laid at xs m) + length (between at (at + length xs) m)
    ≡ length m + length xs
count_laid at xs m =
    let all : length (laid at xs m) ≡ length (below at m) + length (placed at xs ++ from (at + length xs) m) =
    length-append (below at m) (placed at xs ++ from (at + length xs) m) in
    let rest : length (placed at xs ++ from (at + length xs) m) ≡ length (placed at xs) + length (from (at + length xs) m) =
    length-append (placed at xs) (from (at + length xs) m) in
    let run : length (placed at xs) ≡ length xs = length_placed at xs in
    let parts : length (below at m) + (length (between at (at + length xs) m) + length (from (at + length xs) m)) ≡ length m =
    three_parts at (at + length xs) m (omega arith) in
    omega (arith, all, rest, run, parts)

-- ---- a cut

pub count_below : {A : Type 0} (n k end : ℕ) (m : Places A) → k ≤ end → AllBelow k m → length (below n m) + length (between n end m)
    ≡ length m
count_below n k end [] less h = omega arith
count_below {A} n k end (e ∷ m) less h = by (nat_lt e.0 n) refl (count_below n k end m less h.1)
  where
    by : (v : Bool) → nat_lt e.0 n ≡ v → length (below n m) + length (between n end m) ≡ length m
        → length (cond v (e ∷ below n m) (below n m)) + length (between n end (e ∷ m)) ≡ length (e ∷ m)
    by true low rest = let out : (nat_le n e.0 && nat_lt e.0 end) ≡ false = grind (arith, nat_tests) in rw out (omega (arith, rest))
    by false low rest =
        let short : e.0 < k = h.0 in
        let here : (nat_le n e.0 && nat_lt e.0 end) ≡ true = grind (arith, nat_tests, less, short) in
        rw here (omega (arith, rest))

-- ---- an answer

pub count_landed : (first end : ℕ) (m : Places Dirty) → FlyBetween first end m → length (landed m) + length (between first end m)
    ≡ length m + length (between first end (landed m))
count_landed first end [] h = omega arith
count_landed first end (e ∷ m) h = by e.1.flies refl (count_landed first end m h.1)
  where
    stays : (v : Bool) → length (landed m) + length (between first end m) ≡ length m + length (between first end (landed m))
        → length (e ∷ landed m) + length (cond v (e ∷ between first end m) (between first end m))
        ≡ length (e ∷ m) + length (cond v (e ∷ between first end (landed m)) (between first end (landed m)))
    stays true rest = omega (arith, rest)
    stays false rest = omega (arith, rest)

    by : (v : Bool) → e.1.flies ≡ v → length (landed m) + length (between first end m) ≡ length m + length (between first end (landed m))
        → length (cond (not v) (e ∷ landed m) (landed m)) + length (between first end (e ∷ m))
        ≡ length (e ∷ m) + length (between first end (cond (not v) (e ∷ landed m) (landed m)))
    by true flies rest =
        let range : (first ≤ e.0) × (e.0 < end) = h.0 flies in
        let low : first ≤ e.0 = range.0 in
        let high : e.0 < end = range.1 in
        let here : (nat_le first e.0 && nat_lt e.0 end) ≡ true = grind (arith, nat_tests, low, high) in
        rw here (omega (arith, rest))
    by false flies rest = stays (nat_le first e.0 && nat_lt e.0 end) rest

-- ---- the most

pub count_filter : {A : Type 0} (test : ℕ × A → Bool) (m : Places A) → length (filter test m) ≤ length m
count_filter test [] = omega arith
count_filter {A} test (e ∷ m) = by (test e) (count_filter test m)
  where
    by : (v : Bool) → length (filter test m) ≤ length m → length (cond v (e ∷ filter test m) (filter test m)) ≤ length (e ∷ m)
    by true rest = omega (arith, rest)
    by false rest = omega (arith, rest)

most_from : {A : Type 0} (n k : ℕ) (m : Places A) → n ≤ k → RisingFrom n m → AllBelow k m → n + length m ≤ k
most_from n k [] less rises short = omega (arith, less)
most_from n k (e ∷ m) less rises short =
    let rest : e.0 + 1 + length m ≤ k = most_from (e.0 + 1) k m (omega (arith, short.0)) rises.1 short.1 in
    let low : n ≤ e.0 = rises.0 in
    omega (arith, rest, low)

pub count_most : (m : Places Dirty) → IsMap m → length m ≤ 2 ^ 62
count_most m h = let most : 0 + length m ≤ 2 ^ 62 = most_from 0 (2 ^ 62) m (omega arith) h.rising h.below in omega (arith, most)

count_part : {A : Type 0} (first end : ℕ) (m : Places A) → length (between first end m) ≤ length m
count_part {A} first end m = count_filter (λ (e : ℕ × A). nat_le first e.0 && nat_lt e.0 end) m

-- ---- the count that is kept

pub part_counted : (count part first end : ℕ) (m : Places Dirty) → IsCounted count m → part ≡ length (between first end m) → part ≤ count
part_counted count part first end m h is = let few : length (between first end m) ≤ length m = count_part first end m
    in omega (arith, h.all, is, few)

pub fits_counted : (count : ℕ) (m : Places Dirty) → IsCounted count m → count ≤ 2 ^ 62
fits_counted count m h = let most : length m ≤ 2 ^ 62 = count_most m h.map in omega (arith, h.all, most)

pub laid_counted : (count replaced at : ℕ) (xs : List Dirty) (m new : Places Dirty) → at + length xs ≤ 2 ^ 62 → IsCounted count m → replaced
    ≡ length (between at (at + length xs) m) → new ≡ laid at xs m
    → IsCounted (count - replaced + length xs) new
laid_counted count replaced at xs m new fits h is made =
    let all : length (laid at xs m) + length (between at (at + length xs) m) ≡ length m + length xs = count_laid at xs m in
    let part : replaced ≤ count = part_counted count replaced at (at + length xs) m h is in
    let now : count - replaced + length xs ≡ length (laid at xs m) = omega (arith, h.all, is, part, all) in
    subst (IsCounted (count - replaced + length xs)) (sym made) (record { map = map_laid at xs m fits h.map; all = now })

pub below_counted : (count cut n : ℕ) (m new : Places Dirty) → IsCounted count m → cut ≡ length (between n (2 ^ 64 - 1) m) → new ≡ below n m
    → IsCounted (count - cut) new
below_counted count cut n m new h is made =
    let all : length (below n m) + length (between n (2 ^ 64 - 1) m) ≡ length m =
    count_below n (2 ^ 62) (2 ^ 64 - 1) m (omega arith) h.map.below in
    let now : count - cut ≡ length (below n m) = omega (arith, h.all, is, all) in
    subst (IsCounted (count - cut)) (sym made) (record { map = kept_filter (λ (e : ℕ × Dirty). nat_lt e.0 n) m h.map; all = now })

pub landed_counted : (count flown left first end : ℕ) (m new : Places Dirty) → FlyBetween first end m → IsCounted count m → flown
    ≡ length (between first end m) → left ≡ length (between first end new) → new ≡ landed m
    → IsCounted (count - flown + left) new
landed_counted count flown left first end m new fly h was is made =
    let all : length (landed m) + length (between first end m) ≡ length m + length (between first end (landed m)) =
    count_landed first end m fly in
    let part : flown ≤ count = part_counted count flown first end m h was in
    let rest : length (between first end new) ≡ length (between first end (landed m)) =
    ap (λ (n : Places Dirty). length (between first end n)) made in
    let now : count - flown + left ≡ length (landed m) = omega (arith, h.all, was, is, part, all, rest) in
    subst (IsCounted (count - flown + left)) (sym made) (record { map = kept_filter (λ (e : ℕ × Dirty). not e.1.flies) m h.map; all = now })
