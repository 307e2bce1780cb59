-- How many offsets of a stripe stand for positions below n.
use Rattle.std.specs.Prelude.{◌≡◌, ◌≢◌, ℕ, zero, suc, ◌+◌, ◌-◌, ◌*◌, ◌/◌, ◌%◌, ◌<◌, ◌≤◌, ◌↔◌, length}
use Rattle.std.proofs.Common.{arith, inl, inr, ap, sym, subst, ◌∙◌}
use Rattle.std.proofs.Math.Nat.{mod-lt, mul-le-mul_right, add-mul}
use Rattle.std.proofs.lemmas.Bool.{cases_lt, cases_order}
use Rattle.std.proofs.lemmas.Bool.Decides.{eqb_tells}
use Rattle.std.proofs.lemmas.Nat.{div-add-mod', le-div, div_below}
use Rattle.lu_layout.specs.Raid0.{Raid0, stripe_of, offset_of, position_of, below_of}
use Rattle.lu_layout.specs.Sound.{IsLayout}
use Rattle.lu_layout.proofs.Places.{position_of-place, stripe_of-lt, stripe_of-position_of, position_of-rising, position_of-lt}
use Rattle.lu_layout.proofs.Places.{offset-le-position_of}
use Rattle.lu_layout.proofs.Units.{earlier_unit}

-- m is the number of the offsets of a stripe whose position is below n
pub record IsCount (l : Raid0) (i n m : ℕ) : Type 0 where
  pub counts : (q : ℕ) → (q < m) ↔ (position_of l i q < n)

-- the order of a position of a stripe and n, by their units
position_of-lt_unit : (l : Raid0) (i q n : ℕ) → IsLayout l → q / l.size * length l.targets + i < n / l.size → position_of l i q < n
unfolding position_of
position_of-lt_unit l i q n good h =
    let n_is : n / l.size * l.size + n % l.size ≡ n = div-add-mod' n l.size in
    let less : (q / l.size * length l.targets + i) * l.size + q % l.size < n / l.size * l.size + n % l.size =
    earlier_unit (q / l.size * length l.targets + i) l.size (q % l.size) (n / l.size) (n % l.size) h (mod-lt q good.size.0) in
    omega arith

lt_unit-position_of : (l : Raid0) (i q n : ℕ) → IsLayout l → n / l.size < q / l.size * length l.targets + i → n < position_of l i q
unfolding position_of
lt_unit-position_of l i q n good h =
    let n_is : n / l.size * l.size + n % l.size ≡ n = div-add-mod' n l.size in
    let more : n / l.size * l.size + n % l.size < (q / l.size * length l.targets + i) * l.size + q % l.size =
    earlier_unit (n / l.size) l.size (n % l.size) (q / l.size * length l.targets + i) (q % l.size) h (mod-lt n good.size.0) in
    omega arith

-- the unit of n is a round's first and the stripe
unit_is : (l : Raid0) (n : ℕ) → n / l.size / length l.targets * length l.targets + stripe_of l n ≡ n / l.size
unfolding stripe_of
unit_is l n = div-add-mod' (n / l.size) (length l.targets)

-- where the units of a stripe with u < b are those before the unit of n, its offsets below n are those below b * size
IsCount-units : (l : Raid0) (i n b : ℕ) → IsLayout l → ((u : ℕ) → u < b → u * length l.targets + i < n / l.size)
    → ((u : ℕ) → b ≤ u → n / l.size < u * length l.targets + i) → IsCount l i n (b * l.size)
IsCount-units l i n b good before after = record {
  counts = λ q. (
    (λ h. position_of-lt_unit l i q n good (before (q / l.size) (div_below q l.size b good.size.0 h))),
    (λ h. elim (cases_lt q (b * l.size)) [
      | inl less ↦ less
      | inr rest ↦
          absurd (let past : n < position_of l i q = lt_unit-position_of l i q n good
          (after (q / l.size) (le-div b q l.size good.size.0 rest)) in omega arith)
    ]),
  );
}

-- a stripe before that of n has its unit of the round below n
IsCount-before : (l : Raid0) (i n : ℕ) → IsLayout l → i < stripe_of l n → IsCount l i n ((n / l.size / length l.targets + 1) * l.size)
IsCount-before l i n good h =
    let unit : n / l.size / length l.targets * length l.targets + stripe_of l n ≡ n / l.size = unit_is l n in
    let lt : stripe_of l n < length l.targets = stripe_of-lt l n good in
    IsCount-units l i n (n / l.size / length l.targets + 1) good
    (λ u less. let le : u * length l.targets ≤ n / l.size / length l.targets * length l.targets =
    mul-le-mul_right (length l.targets) (omega arith) in omega arith)
    (λ u more. let le : (n / l.size / length l.targets + 1) * length l.targets ≤ u * length l.targets =
    mul-le-mul_right (length l.targets) more in omega (arith, add-mul (n / l.size / length l.targets) 1 (length l.targets)))

-- the stripe of n has the offsets below that of n
IsCount-at : (l : Raid0) (n : ℕ) → IsLayout l → IsCount l (stripe_of l n) n (offset_of l n)
IsCount-at l n good = record {
  counts = λ q.
      let P : ℕ → Type 0 = λ (p : ℕ). (q < offset_of l n) ↔ (position_of l (stripe_of l n) q < p) in
      subst P (position_of-place l n good) (position_of-rising l (stripe_of l n) q (offset_of l n) good);
}

-- a stripe after that of n has nothing of the round below n
IsCount-after : (l : Raid0) (i n : ℕ) → IsLayout l → stripe_of l n < i → i < length l.targets
    → IsCount l i n (n / l.size / length l.targets * l.size)
IsCount-after l i n good h here =
    let unit : n / l.size / length l.targets * length l.targets + stripe_of l n ≡ n / l.size = unit_is l n in
    IsCount-units l i n (n / l.size / length l.targets) good
    (λ u less. let le : (u + 1) * length l.targets ≤ n / l.size / length l.targets * length l.targets =
    mul-le-mul_right (length l.targets) (omega arith) in omega (arith, add-mul u 1 (length l.targets)))
    (λ u more. let le : n / l.size / length l.targets * length l.targets ≤ u * length l.targets = mul-le-mul_right (length l.targets) more
    in omega arith)

-- there is one such number
IsCount-one : (l : Raid0) (i n m w : ℕ) → IsCount l i n m → IsCount l i n w → m ≡ w
IsCount-one l i n m w a b =
    elim (cases_order m w) [
      | inl same ↦ same
      | inr other ↦ elim other [
        | inl less ↦ absurd (let here : m < m = (a.counts m).1 ((b.counts m).0 less) in omega arith)
        | inr more ↦ absurd (let here : w < w = (b.counts w).1 ((a.counts w).0 more) in omega arith)
      ]
    ]

-- and it is at most n
pub IsCount-le : (l : Raid0) (i n m : ℕ) → IsLayout l → IsCount l i n m → m ≤ n
IsCount-le l i n m good a =
    elim (cases_lt n m) [
      | inl more ↦ absurd (let here : position_of l i n < n = (a.counts n).0 more in omega (arith, offset-le-position_of l i n good))
      | inr rest ↦ rest
    ]

-- the count at the next n, where n lies on the stripe and where it does not
one_more : (l : Raid0) (i n m : ℕ) → IsLayout l → stripe_of l n ≡ i → IsCount l i n m → IsCount l i (suc n) (m + 1)
one_more l i n m good on a =
    let P : ℕ → Type 0 = λ (s : ℕ). IsCount l s n (offset_of l n) in
    let same : m ≡ offset_of l n = IsCount-one l i n m (offset_of l n) a (subst P on (IsCount-at l n good)) in
    let Q : ℕ → Type 0 = λ (s : ℕ). position_of l s (offset_of l n) ≡ n in
    let there : position_of l i (offset_of l n) ≡ n = subst Q on (position_of-place l n good) in
    let here : position_of l i m ≡ n = ap (λ (q : ℕ). position_of l i q) same ∙ there in
    record {
      counts = λ q. (
        (λ h. elim (cases_lt q m) [
          | inl less ↦ (let low : position_of l i q < n = (a.counts q).0 less in omega arith)
          | inr rest ↦ (let at : position_of l i q ≡ position_of l i m = ap (λ (x : ℕ). position_of l i x) (omega arith) in omega arith)
        ]),
        (λ h. elim (cases_lt m q) [
          | inl more ↦ absurd (let high : position_of l i m < position_of l i q = position_of-lt l i m q good more in omega arith)
          | inr rest ↦ omega arith
        ]),
      );
    }

none_more : (l : Raid0) (i n m : ℕ) → IsLayout l → i < length l.targets → stripe_of l n ≢ i → IsCount l i n m → IsCount l i (suc n) (m + 0)
none_more l i n m good here off a = record {
  counts = λ q.
      let apart : position_of l i q ≢ n = λ e. off (ap (stripe_of l) (sym e) ∙ stripe_of-position_of l i q good here) in (
        (λ h. let low : position_of l i q < n = (a.counts q).0 (omega arith) in omega arith),
        (λ h. let low : q < m = (a.counts q).1 (omega arith) in omega arith),
      );
}

-- what `below_of` counts
pub IsCount-below_of : (l : Raid0) (i n : ℕ) → IsLayout l → i < length l.targets → IsCount l i n (below_of l i n)
unfolding below_of
IsCount-below_of l i zero good here = record { counts = λ q. (λ h. omega arith, λ h. omega arith) }
IsCount-below_of l i (suc n) good here =
    elim (eqb_tells (stripe_of l n) i) [
      | inl on ↦ rw on.0 (one_more l i n (below_of l i n) good on.1 (IsCount-below_of l i n good here))
      | inr off ↦ rw off.0 (none_more l i n (below_of l i n) good here off.1 (IsCount-below_of l i n good here))
    ]

-- and so each such number is `below_of`
pub IsCount-is : (l : Raid0) (i n m : ℕ) → IsLayout l → i < length l.targets → IsCount l i n m → m ≡ below_of l i n
IsCount-is l i n m good here a = IsCount-one l i n m (below_of l i n) a (IsCount-below_of l i n good here)

-- what `below` answers at each order of the stripe and that of n
pub before_reached : (l : Raid0) (i n s o z : ℕ) → IsLayout l → z ≡ l.size → s ≡ stripe_of l n → o ≡ offset_of l n → i < s
    → IsCount l i n (o - n % z + z)
unfolding offset_of
before_reached l i n s o z good size stripe offset h =
    let less : i < stripe_of l n = omega arith in
    let m_is : (n / l.size / length l.targets + 1) * l.size ≡ o - n % z + z =
    rw size (omega (arith, add-mul (n / l.size / length l.targets) 1 l.size)) in
    let P : ℕ → Type 0 = λ (m : ℕ). IsCount l i n m in
    subst P m_is (IsCount-before l i n good less)

pub at_reached : (l : Raid0) (i n s o : ℕ) → IsLayout l → s ≡ stripe_of l n → o ≡ offset_of l n → i ≡ s → IsCount l i n o
at_reached l i n s o good stripe offset h = rw (h, stripe, offset) (IsCount-at l n good)

pub after_reached : (l : Raid0) (i n s o z : ℕ) → IsLayout l → z ≡ l.size → s ≡ stripe_of l n → o ≡ offset_of l n → s < i
    → i < length l.targets → IsCount l i n (o - n % z)
unfolding offset_of
after_reached l i n s o z good size stripe offset h here =
    let more : stripe_of l n < i = omega arith in
    let m_is : n / l.size / length l.targets * l.size ≡ o - n % z = rw size (omega arith) in
    let P : ℕ → Type 0 = λ (m : ℕ). IsCount l i n m in
    subst P m_is (IsCount-after l i n good more here)

pub rest-le-offset_of : (l : Raid0) (n o z : ℕ) → z ≡ l.size → o ≡ offset_of l n → n % z ≤ o
unfolding offset_of
rest-le-offset_of l n o z size offset = rw size (omega arith)
