-- The laws of places and positions.
use Rattle.std.specs.Prelude.{◌≡◌, ℕ, ◌+◌, ◌*◌, ◌/◌, ◌%◌, ◌<◌, ◌≤◌, ◌↔◌, length}
use Rattle.std.proofs.Common.{arith, inl, inr, ap}
use Rattle.std.proofs.Math.Nat.{mod-lt, mul-le-mul_right, mul-lt-mul_of_pos_right, le-mul_of_pos_right}
use Rattle.std.proofs.lemmas.Bool.{cases_lt, cases_order}
use Rattle.std.proofs.lemmas.Nat.{div-mul-add, mod-mul-add, div-add-mod'}
use Rattle.lu_layout.proofs.Units.{earlier_unit, div_monotone}
use Rattle.lu_layout.specs.Raid0.{Raid0, stripe_of, offset_of, position_of}
use Rattle.lu_layout.specs.Sound.{IsLayout}

-- the unit of a position, and the place in it
position_of-unit : (l : Raid0) (i q : ℕ) → IsLayout l → position_of l i q / l.size ≡ q / l.size * length l.targets + i
unfolding position_of
position_of-unit l i q good =
    div-mul-add (q / l.size * length l.targets + i) l.size (q % l.size) (mod-lt q good.size.0)

position_of-rest : (l : Raid0) (i q : ℕ) → IsLayout l → position_of l i q % l.size ≡ q % l.size
unfolding position_of
position_of-rest l i q good =
    mod-mul-add (q / l.size * length l.targets + i) l.size (q % l.size) (mod-lt q good.size.0)

pub stripe_of-position_of : (l : Raid0) (i q : ℕ) → IsLayout l → i < length l.targets → stripe_of l (position_of l i q) ≡ i
unfolding stripe_of
stripe_of-position_of l i q good h =
    rw (position_of-unit l i q good) (mod-mul-add (q / l.size) (length l.targets) i h)

pub offset_of-position_of : (l : Raid0) (i q : ℕ) → IsLayout l → i < length l.targets → offset_of l (position_of l i q) ≡ q
unfolding offset_of
offset_of-position_of l i q good h =
    rw (position_of-unit l i q good, position_of-rest l i q good, div-mul-add (q / l.size) (length l.targets) i h) (div-add-mod' q l.size)

pub position_of-place : (l : Raid0) (p : ℕ) → IsLayout l → position_of l (stripe_of l p) (offset_of l p) ≡ p
unfolding position_of stripe_of offset_of
position_of-place l p good =
    rw (
      div-mul-add (p / l.size / length l.targets) l.size (p % l.size) (mod-lt p good.size.0),
      mod-mul-add (p / l.size / length l.targets) l.size (p % l.size) (mod-lt p good.size.0),
      div-add-mod' (p / l.size) (length l.targets),
    ) (div-add-mod' p l.size)

pub stripe_of-lt : (l : Raid0) (p : ℕ) → IsLayout l → stripe_of l p < length l.targets
unfolding stripe_of
stripe_of-lt l p good = mod-lt (p / l.size) good.targets.0

-- a greater offset of a stripe stands for a greater position
pub position_of-lt : (l : Raid0) (i q r : ℕ) → IsLayout l → q < r → position_of l i q < position_of l i r
unfolding position_of
position_of-lt l i q r good h =
    let order : q / l.size ≤ r / l.size = div_monotone l.size q r good.size.0 (omega arith) in
    let at_q : q / l.size * l.size + q % l.size ≡ q = div-add-mod' q l.size in
    let at_r : r / l.size * l.size + r % l.size ≡ r = div-add-mod' r l.size in
    elim (cases_lt (q / l.size) (r / l.size)) [
      | inl before ↦
          earlier_unit
          (q / l.size * length l.targets + i) l.size (q % l.size)
          (r / l.size * length l.targets + i) (r % l.size)
          (let more : q / l.size * length l.targets < r / l.size * length l.targets = mul-lt-mul_of_pos_right before good.targets.0
          in omega arith)
          (mod-lt q good.size.0)
      | inr rest ↦
          let same : q / l.size ≡ r / l.size = omega arith in
          let units : q / l.size * l.size ≡ r / l.size * l.size = ap (λ (u : ℕ). u * l.size) same in
          let places : (q / l.size * length l.targets + i) * l.size ≡ (r / l.size * length l.targets + i) * l.size =
          ap (λ (u : ℕ). (u * length l.targets + i) * l.size) same in
          omega arith
    ]

pub position_of-rising : (l : Raid0) (i q r : ℕ) → IsLayout l → (q < r) ↔ (position_of l i q < position_of l i r)
position_of-rising l i q r good = (
  position_of-lt l i q r good,
  λ h. elim (cases_order q r) [
    | inl same ↦ absurd (let e : position_of l i q ≡ position_of l i r = ap (λ (x : ℕ). position_of l i x) same in omega arith)
    | inr other ↦ elim other [
      | inl less ↦ less
      | inr more ↦ absurd (let back : position_of l i r < position_of l i q = position_of-lt l i r q good more in omega arith)
    ]
  ],
)

-- an offset is at most the position for which it stands
pub offset-le-position_of : (l : Raid0) (i q : ℕ) → IsLayout l → q ≤ position_of l i q
unfolding position_of
offset-le-position_of l i q good =
    let at_q : q / l.size * l.size + q % l.size ≡ q = div-add-mod' q l.size in
    let wide : q / l.size ≤ q / l.size * length l.targets + i =
    (let more : q / l.size ≤ q / l.size * length l.targets = le-mul_of_pos_right (q / l.size) good.targets.0 in omega arith) in
    let far : q / l.size * l.size ≤ (q / l.size * length l.targets + i) * l.size = mul-le-mul_right l.size wide in
    omega arith
