-- Maps: their end, their bound, and what is left of one round a hole.
use Rattle.std.proofs.Common.{◌≡◌, ℕ, ◌+◌, ◌<◌, ◌≤◌, Bool, true, false, cond, List, [], ◌∷◌, ◌++◌, refl, ◌∙◌, arith}
use Rattle.std.specs.Prelude.{nat_lt, nat_le, max, filter}
use Rattle.std.proofs.lemmas.Bool.Decides.{nat_tests}
use Rattle.lu_spec_machine.specs.Places.{Places, below, from, laid, end_of}
use Rattle.lu_spec_bytes.specs.Maps.{AllBelow}

-- ---- the end

end_on : {A : Type 0} (a b : Places A) → end_of (a ++ b) ≡ max (end_of a) (end_of b)
end_on [] b = omega arith
end_on (e ∷ a) b = let ih : end_of (a ++ b) ≡ max (end_of a) (end_of b) = end_on a b in omega (arith, ih)

end_parts : {A : Type 0} (at : ℕ) (m : Places A) → max (end_of (below at m)) (max (at + 1) (end_of (from (at + 1) m)))
    ≡ max (at + 1) (end_of m)
end_parts at [] = omega arith
end_parts {A} at (e ∷ m) = by (nat_lt e.0 at) (nat_le (at + 1) e.0) refl refl (end_parts at m)
  where
    by : (v w : Bool) → nat_lt e.0 at ≡ v → nat_le (at + 1) e.0 ≡ w → max (end_of (below at m)) (max (at + 1) (end_of (from (at + 1) m)))
        ≡ max (at + 1) (end_of m)
        → max (end_of (cond v (e ∷ below at m) (below at m))) (max (at + 1) (end_of (cond w (e ∷ from (at + 1) m) (from (at + 1) m))))
        ≡ max (at + 1) (max (e.0 + 1) (end_of m))
    by true true low high ih = absurd (grind (arith, nat_tests))
    by true false low high ih = let less : e.0 < at = grind (arith, nat_tests) in omega (arith, ih, less)
    by false true low high ih = omega (arith, ih)
    by false false low high ih = let less : e.0 ≤ at = grind (arith, nat_tests) in omega (arith, ih, less)

-- one item is laid
pub end_laid : {A : Type 0} (at : ℕ) (x : A) (m : Places A) → end_of (laid at (x ∷ []) m) ≡ max (at + 1) (end_of m)
end_laid {A} at x m = end_on (below at m) ((at, x) ∷ from (at + 1) m) ∙ end_parts at m

-- ---- a bound

pub all_on : {A : Type 0} (k : ℕ) (a b : Places A) → AllBelow k a → AllBelow k b → AllBelow k (a ++ b)
all_on k [] b g h = h
all_on k (e ∷ a) b g h = (g.0, all_on k a b g.1 h)

-- ---- what is left round a hole

abbrev pub around : {A : Type 0} → ℕ → ℕ → Places A → Places A
around at n m = below at m ++ from (at + n) m
