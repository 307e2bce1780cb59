-- What changes keep of a patch's bytes: they are a map, and what flies lies where the patch says.
use Rattle.std.proofs.Common.{◌≡◌, ℕ, zero, suc, ◌+◌, ◌^◌, ◌<◌, ◌≤◌, Bool, true, false, cond, List, [], ◌∷◌, ◌++◌, length, Option, Some}
use Rattle.std.proofs.Common.{None, refl, sym, ap, subst, ◌∙◌, arith}
use Rattle.std.specs.Prelude.{nat_eq, nat_lt, nat_le, is_some, Result, Ok, Err, OnOk, OnErr, filter, not, if◌then◌else◌}
use Rattle.std.proofs.lemmas.Bool.Decides.{nat_tests}
use Rattle.std.proofs.lemmas.List.{length-map}
use Rattle.lu_spec_entries.specs.declared.changes.Dirty.{Dirty}
use Rattle.lu_spec_machine.specs.Places.{Places, found_at, RisingFrom, below, from, placed, laid}
use Rattle.lu_spec_machine.proofs.Places.{overlay, found_filter, found_laid, rising_below, rising_laid}
use Rattle.lu_spec_bytes.specs.Maps.{IsMap}
use Rattle.lu_spec_bytes.proofs.Rising.{same_map, placed_all, all_filter, kept_filter}
use Rattle.lu_spec_client.specs.Patches.{Patch, fresh, sent, ended, cut_over, cut, landed}
use Rattle.lu_patch.specs.declared.flight.Flight.{Flight}
use Rattle.lu_patch.specs.declared.flight.Flight.TheVariants.{Cut, Bytes}
use Rattle.lu_patch.specs.Sound.{NoneFlies, IsSound}
use Rattle.lu_patch.specs.Flights.{flight_of, FlyBetween, FlyUnder, IsKept}
use Rattle.lu_patch.proofs.Maps.{all_on}
use Rattle.lu_patch.proofs.Landings.{none_flies_filter, none_flies_landed}

-- ---- a map

pub map_laid : (at : ℕ) (xs : List Dirty) (m : Places Dirty) → at + length xs ≤ 2 ^ 62 → IsMap m → IsMap (laid at xs m)
map_laid at xs m fits h =
    record {
      rising = rising_laid at xs m h.rising;
      below =
          all_on (2 ^ 62) (below at m) (placed at xs ++ from (at + length xs) m)
          (all_filter (2 ^ 62) (λ (e : ℕ × Dirty). nat_lt e.0 at) m h.below)
          (all_on (2 ^ 62) (placed at xs) (from (at + length xs) m) (placed_all at xs (2 ^ 62) fits)
          (all_filter (2 ^ 62) (λ (e : ℕ × Dirty). nat_le (at + length xs) e.0) m h.below));
    }

-- ---- what flies

none_on : (a b : Places Dirty) → NoneFlies a → NoneFlies b → NoneFlies (a ++ b)
none_on [] b g h = h
none_on (e ∷ a) b g h = (g.0, none_on a b g.1 h)

none_fresh : (at : ℕ) (bs : List ℕ) → NoneFlies (placed at (fresh bs))
none_fresh at [] = tt
none_fresh at (b ∷ bs) = (refl, none_fresh (at + 1) bs)

module _ (first end : ℕ) where
  between_on : (a b : Places Dirty) → FlyBetween first end a → FlyBetween first end b → FlyBetween first end (a ++ b)
  between_on [] b g h = h
  between_on (e ∷ a) b g h = (g.0, between_on a b g.1 h)

  between_filter : (test : ℕ × Dirty → Bool) (m : Places Dirty) → FlyBetween first end m → FlyBetween first end (filter test m)
  between_filter test [] h = tt
  between_filter test (e ∷ m) h = by (test e) (between_filter test m h.1)
    where
      by : (v : Bool) → FlyBetween first end (filter test m) → FlyBetween first end (cond v (e ∷ filter test m) (filter test m))
      by true rest = (h.0, rest)
      by false rest = rest

  between_none : (m : Places Dirty) → NoneFlies m → FlyBetween first end m
  between_none [] h = tt
  between_none (e ∷ m) h = ((λ flies. absurd (cc (flies, h.0))), between_none m h.1)

  between_sent : (at : ℕ) (bs : List ℕ) → first ≤ at → at + length bs ≤ end → FlyBetween first end (placed at (sent bs))
  between_sent at [] low high = tt
  between_sent at (b ∷ bs) low high = (
    (λ flies. (omega (arith, low), omega (arith, high))),
    between_sent (at + 1) bs (omega (arith, low)) (omega (arith, high)),
  )

under_filter : (flight : Option Flight) (test : ℕ × Dirty → Bool) (m : Places Dirty) → FlyUnder flight m → FlyUnder flight (filter test m)
under_filter None test m h = none_flies_filter test m h
under_filter (Some (Cut n)) test m h = none_flies_filter test m h
under_filter (Some (Bytes first end)) test m h = between_filter first end test m h

under_on : (flight : Option Flight) (a b : Places Dirty) → FlyUnder flight a → FlyUnder flight b → FlyUnder flight (a ++ b)
under_on None a b g h = none_on a b g h
under_on (Some (Cut n)) a b g h = none_on a b g h
under_on (Some (Bytes first end)) a b g h = between_on first end a b g h

under_none : (flight : Option Flight) (m : Places Dirty) → NoneFlies m → FlyUnder flight m
under_none None m h = h
under_none (Some (Cut n)) m h = h
under_none (Some (Bytes first end)) m h = between_none first end m h

-- ---- what a change keeps

pub kept_written : (flight : Option Flight) (at : ℕ) (bs : List ℕ) (m : Places Dirty) → at + length bs ≤ 2 ^ 62 → IsKept flight m
    → IsKept flight (laid at (fresh bs) m)
kept_written flight at bs m fits h =
    let count : length (fresh bs) ≡ length bs = length-map bs (λ b. record { byte = b; flies = false }) in
    record {
      map = map_laid at (fresh bs) m (omega (arith, count, fits)) h.map;
      flies =
          under_on flight (below at m) (placed at (fresh bs) ++ from (at + length (fresh bs)) m)
          (under_filter flight (λ (e : ℕ × Dirty). nat_lt e.0 at) m h.flies)
          (under_on flight (placed at (fresh bs)) (from (at + length (fresh bs)) m)
          (under_none flight (placed at (fresh bs)) (none_fresh at bs))
          (under_filter flight (λ (e : ℕ × Dirty). nat_le (at + length (fresh bs)) e.0) m h.flies));
    }

pub kept_below : (flight : Option Flight) (n : ℕ) (m : Places Dirty) → IsKept flight m → IsKept flight (below n m)
kept_below flight n m h =
    record {
      map = kept_filter (λ (e : ℕ × Dirty). nat_lt e.0 n) m h.map;
      flies = under_filter flight (λ (e : ℕ × Dirty). nat_lt e.0 n) m h.flies;
    }

-- a run that is sent while nothing flies
pub kept_sent : (at : ℕ) (bs : List ℕ) (m : Places Dirty) → at + length bs ≤ 2 ^ 62 → IsKept None m
    → IsKept (Some (Bytes at (at + length bs))) (laid at (sent bs) m)
kept_sent at bs m fits h =
    let count : length (sent bs) ≡ length bs = length-map bs (λ b. record { byte = b; flies = true }) in
    let around : (test : ℕ × Dirty → Bool) → FlyBetween at (at + length bs) (filter test m) =
    λ test. between_filter at (at + length bs) test m (between_none at (at + length bs) m h.flies) in
    record {
      map = map_laid at (sent bs) m (omega (arith, count, fits)) h.map;
      flies =
          between_on at (at + length bs) (below at m) (placed at (sent bs) ++ from (at + length (sent bs)) m) (around (λ e. nat_lt e.0 at))
          (between_on at (at + length bs) (placed at (sent bs)) (from (at + length (sent bs)) m)
          (between_sent at (at + length bs) at bs (omega arith) (omega arith)) (around (λ e. nat_le (at + length (sent bs)) e.0)));
    }

pub kept_landed : (m : Places Dirty) → IsMap m → IsKept None (landed m)
kept_landed m h = record { map = kept_filter (λ (e : ℕ × Dirty). not e.1.flies) m h; flies = none_flies_landed m }

pub kept_sound : (pending : Option ℕ) (flight : Option Flight) (m : Places Dirty) → IsKept flight m
    → IsSound (record { pending = pending; dirty = m; flight = flight_of flight })
kept_sound pending None m h = record { map = h.map; flies = h.flies }
kept_sound pending (Some (Cut n)) m h = record { map = h.map; flies = h.flies }
kept_sound pending (Some (Bytes first end)) m h = record { map = h.map; flies = tt }

-- ---- a longer cut over a pending one

one_below : (n : ℕ) (x : Dirty) (m : Places Dirty) → RisingFrom 0 m → below (suc n) (laid n (x ∷ []) m) ≡ laid n (x ∷ []) (below (suc n) m)
one_below n x m h =
    same_map 0 (below (suc n) (laid n (x ∷ []) m)) (laid n (x ∷ []) (below (suc n) m))
    (rising_below 0 (suc n) (laid n (x ∷ []) m) (rising_laid n (x ∷ []) m h))
    (rising_laid n (x ∷ []) (below (suc n) m) (rising_below 0 (suc n) m h))
    (λ q from.
    found_filter (λ k. nat_lt k (suc n)) (laid n (x ∷ []) m) q
    ∙ ap (λ y. if nat_lt q (suc n) then y else None) (found_laid n (x ∷ []) m q)
    ∙ by q (nat_eq q n) (nat_lt q (suc n)) refl refl
    ∙ ap (λ y. overlay n (x ∷ []) q y) (sym (found_filter (λ k. nat_lt k (suc n)) m q))
    ∙ sym (found_laid n (x ∷ []) (below (suc n) m) q))
  where
    by : (q : ℕ) (v w : Bool) → nat_eq q n ≡ v → nat_lt q (suc n) ≡ w
        → (if nat_lt q (suc n) then overlay n (x ∷ []) q (found_at m q) else None)
        ≡ overlay n (x ∷ []) q (if nat_lt q (suc n) then found_at m q else None)
    by q true true same less = rw (same, less) refl
    by q true false same less = absurd (grind (arith, nat_tests))
    by q false true same less = rw (same, less) refl
    by q false false same less = rw (same, less) refl

-- the end may be made before the bytes past it go
pub ended_below : (n : ℕ) (p : Patch) → RisingFrom 0 p.dirty → record (ended n p) { dirty = below n (ended n p).dirty }
    ≡ ended n (record p { dirty = below n p.dirty })
ended_below zero p h = refl
ended_below (suc n) p h = by (found_at p.dirty n) refl
  where
    there : found_at (below (suc n) p.dirty) n ≡ found_at p.dirty n
    there = let test : nat_lt n (suc n) ≡ true = grind (arith, nat_tests) in found_filter (λ k. nat_lt k (suc n)) p.dirty n ∙ rw test refl

    by : (x : Option Dirty) → found_at p.dirty n ≡ x
        → record (ended (suc n) p) { dirty = below (suc n) (ended (suc n) p).dirty }
        ≡ ended (suc n) (record p { dirty = below (suc n) p.dirty })
    by (Some d) is = rw (there, is) refl
    by None is = rw (there, is) (ap (λ (r : Places Dirty). record p { dirty = r })
        (one_below n (record { byte = 0; flies = false }) p.dirty h))

pub cut_longer : (n q : ℕ) (p : Patch) → RisingFrom 0 p.dirty → p.pending ≡ Some q → q < n
    → record (ended n p) { dirty = below n (ended n p).dirty } ≡ cut n p
cut_longer n q p rises is less =
    let test : nat_lt q n ≡ true = grind (arith, nat_tests, less) in
    ended_below n p rises ∙ rw (is, test) refl

pub cut_other : (n : ℕ) (p : Patch) → ((q : ℕ) → p.pending ≡ Some q → n ≤ q) → record p { pending = Some n; dirty = below n p.dirty }
    ≡ cut n p
cut_other n p h = by p.pending h
  where
    by : (pending : Option ℕ) → ((q : ℕ) → pending ≡ Some q → n ≤ q) → record p { pending = Some n; dirty = below n p.dirty }
        ≡ cut_over n (record p { dirty = below n p.dirty }) pending
    by None h = refl
    by (Some q) h =
        let less : n ≤ q = h q refl in
        let test : nat_lt q n ≡ false = grind (arith, nat_tests, less) in
        rw test refl

-- ---- by what a call answers

pub kept_either : {T E : Type 0} (r : Result T E) (flight : Option Flight) (old made new : Places Dirty) → OnOk r (new ≡ made)
    → OnErr r (new ≡ old) → IsKept flight made → IsKept flight old → IsKept flight new
kept_either (Ok x) flight old made new ok err g h = subst (IsKept flight) (sym ok) g
kept_either (Err x) flight old made new ok err g h = subst (IsKept flight) (sym err) h

pub no_flight : (flight : Option Flight) → is_some (flight_of flight) ≡ false → flight ≡ None
no_flight None h = refl
no_flight (Some (Cut n)) h = absurd (cc (h))
no_flight (Some (Bytes first end)) h = absurd (cc (h))
