-- Items laid keep a map's bounds.
use Rattle.std.proofs.Common.{◌≡◌, ℕ, ◌+◌, ◌*◌, ◌<◌, ◌≤◌, Bool, true, false, cond, List, [], ◌∷◌, ◌++◌, length, refl, sym, ap, subst, arith}
use Rattle.std.specs.Prelude.{nat_lt, nat_le, filter}
use Rattle.std.proofs.lemmas.Bool.Decides.{nat_tests}
use Rattle.lu_spec_machine.specs.Places.{Places, RisingFrom, below, from, placed, laid}
use Rattle.lu_spec_bytes.specs.Maps.{AllBelow}
use Rattle.lu_spec_bytes.proofs.Rising.{rising_filter, rising_placed, below_all, placed_all, all_filter}
use Rattle.lu_page.specs.Sheets.{Sheet, IsSheet}
use Rattle.lu_page.specs.Pages.{IsPage}
use Rattle.lu_page.proofs.Joined.{rising_two, all_two}

from_rises : {A : Type 0} (n k : ℕ) (m : Places A) → RisingFrom n m → RisingFrom k (from k m)
from_rises n k [] h = tt
from_rises {A} n k (e ∷ m) h = by (nat_le k e.0) refl (from_rises (e.0 + 1) k m h.1)
  where
    by : (v : Bool) → nat_le k e.0 ≡ v → RisingFrom k (from k m) → RisingFrom k (cond v (e ∷ from k m) (from k m))
    by true less rest = (grind (arith, nat_tests), rising_filter (e.0 + 1) (λ (e : ℕ × A). nat_le k e.0) m h.1)
    by false less rest = rest

laid_rises : {A : Type 0} (n at : ℕ) (xs : List A) (m : Places A) → n ≤ at → RisingFrom n m → RisingFrom n (laid at xs m)
laid_rises {A} n at xs m less h =
    rising_two n at (below at m) (placed at xs ++ from (at + length xs) m) less (rising_filter n (λ (e : ℕ × A). nat_lt e.0 at) m h)
    (below_all at at m (omega arith))
    (rising_two at (at + length xs) (placed at xs) (from (at + length xs) m) (omega arith) (rising_placed at at xs (omega arith))
    (placed_all at xs (at + length xs) (omega arith)) (from_rises n (at + length xs) m h))

laid_below : {A : Type 0} (k at : ℕ) (xs : List A) (m : Places A) → at + length xs ≤ k → AllBelow k m → AllBelow k (laid at xs m)
laid_below {A} k at xs m less h =
    all_two k (below at m) (placed at xs ++ from (at + length xs) m) (all_filter k (λ (e : ℕ × A). nat_lt e.0 at) m h)
    (all_two k (placed at xs) (from (at + length xs) m) (placed_all at xs k less)
    (all_filter k (λ (e : ℕ × A). nat_le (at + length xs) e.0) m h))

pub page_laid : {A : Type 0} (k at : ℕ) (xs : List A) (s t : Sheet A) → IsPage k s → t
    ≡ record { first = s.first; here = laid at xs s.here } → k * 4096 ≤ at → at + length xs ≤ (k + 1) * 4096 → IsPage k t
page_laid {A} k at xs s t h is low high = subst (λ (t : Sheet A). IsPage k t) (sym is)
    (record {
      first = h.first;
      sheet = record {
        rising = laid_rises s.first at xs s.here (omega (arith, h.first, low)) h.sheet.rising;
        below = laid_below (s.first + 4096) at xs s.here (omega (arith, h.first, high)) h.sheet.below;
      };
      most = h.most;
    })
