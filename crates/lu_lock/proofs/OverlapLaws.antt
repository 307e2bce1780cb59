-- The tests of meeting are what they stand for, and are symmetric.
use Rattle.std.proofs.Common.{◌≡◌, ◌≢◌, ℕ, zero, suc, ◌*◌, ◌/◌, ◌%◌, ◌^◌, ◌<◌, ◌≤◌, Bool, true, false, not, ◌&&◌, IsTrue, ◌↔◌, nat_le, refl}
use Rattle.std.proofs.Common.{arith, min, max, bit_and, ap, sym, ◌∙◌, ◌==◌}
use Rattle.std.specs.Int.{bit_at, IsBitSet}
use Rattle.std.proofs.Math.Nat.{max_comm, min_comm, pow-suc, pow-zero, one-mul, zero-mul}
use Rattle.std.proofs.lemmas.Nat.{and_comm, and_assoc}
use Rattle.std.specs.Int.Bits.{and_self}
use Rattle.std.proofs.lemmas.Nat.Bits.{bit_at_and, bit_at-zero, bit_at-lt, bit_at-suc, bit_at_lowest, and_pow}
use Rattle.std.proofs.lemmas.Bool.{leb-true, le-leb, eqb-true, eq-eqb, eqb-false, not-true}
use Rattle.std.proofs.lemmas.Bool.Decides.{nat_tests}
use Rattle.lu_base.specs.declared.locks.Extent.{Extent}
use Rattle.lu_base.specs.declared.locks.Policy.{Policy}
use Rattle.lu_base.specs.declared.locks.Policy.TheVariants.{Bits, Range}
use Rattle.lu_lock.specs.Overlap.{ExtentsMeet, extents_meet, BitsMeet, bits_meet, PoliciesMeet, policies_meet, Covers, covers}

pub extents_meet_symmetric : (a b : Extent) → extents_meet a b ≡ extents_meet b a
extents_meet_symmetric a b = rw (max_comm a.first b.first, min_comm a.last b.last) refl

pub extents_meet_rule : (a b : Extent) → IsTrue (extents_meet a b) ↔ ExtentsMeet a b
extents_meet_rule a b = (there, back) where
  there : IsTrue (extents_meet a b) → ExtentsMeet a b
  there h =
      let met : max a.first b.first ≤ min a.last b.last = leb-true _ _ h in
      (max a.first b.first, (omega arith, omega arith), (omega arith, omega arith))

  back : ExtentsMeet a b → IsTrue (extents_meet a b)
  back (offset, in_a, in_b) = le-leb _ _ (omega (arith, in_a, in_b))

-- Where the ends are in order, two comparisons tell.
pub extents_meet_ordered : (a b : Extent) → a.first ≤ a.last → b.first ≤ b.last →
    extents_meet a b ≡ (nat_le a.first b.last && nat_le b.first a.last)
extents_meet_ordered a b in_a in_b = grind (arith, nat_tests)

pub bits_meet_symmetric : (a b : ℕ) → bits_meet a b ≡ bits_meet b a
bits_meet_symmetric a b = rw (and_comm a b) refl

-- A power of 2 isn't 0, and is above its exponent.
pow_above : (n : ℕ) → n < 2 ^ n
pow_above zero = grind arith
pow_above (suc n) = let below : n < 2 ^ n = pow_above n in let e = pow-suc 2 n in omega arith

-- A number that isn't 0 has a bit.
some_bit : (width n : ℕ) → 0 < n → n < 2 ^ width → (place : ℕ) × (bit_at n place ≡ 1)
some_bit zero n above below = absurd (let e = pow-zero 2 in omega arith)
some_bit (suc width) n above below = by (n % 2 == 1) refl (some_bit width (n / 2)) where
  by : (v : Bool) → (n % 2 == 1) ≡ v →
      (0 < n / 2 → n / 2 < 2 ^ width → (place : ℕ) × (bit_at (n / 2) place ≡ 1)) →
      (place : ℕ) × (bit_at n place ≡ 1)
  by true odd _ = (zero, bit_at_lowest n ∙ eqb-true _ _ odd)
  by false even half =
      let e = pow-suc 2 width in
      let other : n % 2 ≢ 1 = eqb-false _ _ even in
      let rest = half (omega arith) (omega arith) in
      (suc rest.0, bit_at-suc n rest.0 ∙ rest.1)

-- A bit that is set is 1.
is_set : (n place : ℕ) → bit_at n place ≡ 1 → IsBitSet n place
is_set n place one none =
    let e = and_pow n place in
    let above = pow_above place in
    let same : bit_at n place * 2 ^ place ≡ 2 ^ place = rw one (one-mul (2 ^ place)) in
    omega arith

is_one : (n place : ℕ) → IsBitSet n place → bit_at n place ≡ 1
is_one n place set = by (bit_at n place == 0) refl where
  by : (v : Bool) → (bit_at n place == 0) ≡ v → bit_at n place ≡ 1
  by true none = absurd (set (and_pow n place ∙ ap (λ x. x * 2 ^ place) (eqb-true _ _ none) ∙ zero-mul (2 ^ place)))
  by false some =
      let small = bit_at-lt n place in
      let other : bit_at n place ≢ 0 = eqb-false _ _ some in
      omega arith

pub bits_meet_rule : (a b : ℕ) → IsTrue (bits_meet a b) ↔ BitsMeet a b
bits_meet_rule a b = (there, back) where
  there : IsTrue (bits_meet a b) → BitsMeet a b
  there h =
      let some : bit_and a b ≢ 0 = eqb-false _ _ (not-true _ h) in
      let bit = some_bit (bit_and a b) (bit_and a b) (omega arith) (pow_above (bit_and a b)) in
      let both = bit_at_and a b bit.0 in
      let at_a = bit_at-lt a bit.0 in
      let at_b = bit_at-lt b bit.0 in
      (bit.0, is_set a bit.0 (omega (arith, both, bit.1)), is_set b bit.0 (omega (arith, both, bit.1)))

  back : BitsMeet a b → IsTrue (bits_meet a b)
  back (place, in_a, in_b) = by (bit_and a b == 0) refl where
    by : (v : Bool) → (bit_and a b == 0) ≡ v → IsTrue (not v)
    by false _ = refl
    by true none =
        let zeros : bit_at (bit_and a b) place ≡ 0 = rw (eqb-true _ _ none) (bit_at-zero place) in
        let both = bit_at_and a b place in
        let at_a = is_one a place in_a in
        let at_b = is_one b place in_b in
        absurd (omega arith)

pub policies_meet_symmetric : (a b : Policy) → policies_meet a b ≡ policies_meet b a
policies_meet_symmetric (Bits a) (Bits b) = bits_meet_symmetric a b
policies_meet_symmetric (Range a) (Range b) = extents_meet_symmetric a b
policies_meet_symmetric (Bits _) (Range _) = refl
policies_meet_symmetric (Range _) (Bits _) = refl

pub policies_meet_rule : (a b : Policy) → IsTrue (policies_meet a b) ↔ PoliciesMeet a b
policies_meet_rule (Bits a) (Bits b) = bits_meet_rule a b
policies_meet_rule (Range a) (Range b) = extents_meet_rule a b
policies_meet_rule (Bits _) (Range _) = (λ h. cc, λ h. absurd h)
policies_meet_rule (Range _) (Bits _) = (λ h. cc, λ h. absurd h)

-- ---- covering

pub covers_rule : (outer inner : Policy) → IsTrue (covers outer inner) ↔ Covers outer inner
covers_rule (Bits outer) (Bits inner) = (eqb-true _ _, eq-eqb _ _)
covers_rule (Range outer) (Range inner) = (there, back) where
  there : IsTrue (covers (Range outer) (Range inner)) → Covers (Range outer) (Range inner)
  there h = (grind (arith, nat_tests), grind (arith, nat_tests))

  back : Covers (Range outer) (Range inner) → IsTrue (covers (Range outer) (Range inner))
  back (low, high) = grind (arith, nat_tests)
covers_rule (Bits _) (Range _) = (λ h. cc, λ h. absurd h)
covers_rule (Range _) (Bits _) = (λ h. cc, λ h. absurd h)

pub covers_itself : (policy : Policy) → Covers policy policy
covers_itself (Bits bits) = and_self bits
covers_itself (Range extent) = (omega arith, omega arith)

pub covers_through : (outer middle inner : Policy) → Covers outer middle → Covers middle inner → Covers outer inner
covers_through (Bits outer) (Bits middle) (Bits inner) f g =
    ap (bit_and outer) (sym g) ∙ sym (and_assoc inner outer middle) ∙ ap (λ bits. bit_and bits inner) f ∙ g
covers_through (Range outer) (Range middle) (Range inner) f g = (omega arith, omega arith)
covers_through (Bits _) (Bits _) (Range _) f g = absurd g
covers_through (Bits _) (Range _) inner f g = absurd f
covers_through (Range _) (Bits _) inner f g = absurd f
covers_through (Range _) (Range _) (Bits _) f g = absurd g

-- What covers a policy meets all that it meets.
pub covers_meets : (outer inner other : Policy) → Covers outer inner → PoliciesMeet inner other → PoliciesMeet outer other
covers_meets (Bits outer) (Bits inner) (Bits other) f (place, here, there) = (place, held, there) where
  held : IsBitSet outer place
  held =
      let one = is_one inner place here in
      let both : bit_at inner place ≡ min (bit_at outer place) (bit_at inner place) =
      ap (λ bits. bit_at bits place) (sym f) ∙ bit_at_and outer inner place in
      let small = bit_at-lt outer place in
      is_set outer place (omega arith)
covers_meets (Range outer) (Range inner) (Range other) f (offset, here, there) =
    (offset, (omega (arith, here, f), omega (arith, here, f)), there)
covers_meets (Bits _) (Bits _) (Range _) f h = absurd h
covers_meets (Bits _) (Range _) other f h = absurd f
covers_meets (Range _) (Bits _) other f h = absurd f
covers_meets (Range _) (Range _) (Bits _) f h = absurd h
