-- A page of an object that a client fetched: its part under a lock, the bytes past its content, and a part without bytes.
use Rattle.std.proofs.Common.{◌≡◌, ℕ, zero, suc, ◌+◌, ◌-◌, ◌*◌, ◌^◌, ◌<◌, ◌≤◌, min, max, nat_le, nat_lt, if◌then◌else◌, Bool, true, false}
use Rattle.std.proofs.Common.{List, [], ◌∷◌, ◌++◌, length, get_or, Option, Some, None, refl, sym, ap, subst, ◌∙◌, append-nil, arith}
use Rattle.std.specs.Prelude.{IfSome}
use Rattle.std.proofs.lemmas.Bool.Decides.{nat_tests}
use Rattle.lu_base.specs.declared.locks.Extent.{Extent}
use Rattle.lu_spec_machine.specs.Places.{Places, below, from, laid, end_of, is_in, inside}
use Rattle.lu_spec_bytes.specs.Runs.{first_position}
use Rattle.lu_spec_client.specs.Messages.{padded, part_count, part_first}

-- ---- bytes, and then 0

padded_suc : (bs : List ℕ) (n : ℕ) → padded bs (suc n) ≡ padded bs n ++ get_or bs n 0 ∷ []
padded_suc [] zero = refl
padded_suc [] (suc n) = ap (λ (xs : List ℕ). 0 ∷ xs) (padded_suc [] n)
padded_suc (b ∷ bs) zero = refl
padded_suc (b ∷ bs) (suc n) = ap (λ (xs : List ℕ). b ∷ xs) (padded_suc bs n)

-- one byte more
pub padded_next : (bs : List ℕ) (n : ℕ) → padded bs (n + 1) ≡ padded bs n ++ get_or bs n 0 ∷ []
padded_next bs n = let next : n + 1 ≡ suc n = omega arith in ap (padded bs) next ∙ padded_suc bs n

-- as many as they were to be
pub padded_long : (bs : List ℕ) (n : ℕ) → length (padded bs n) ≡ n
padded_long bs zero = refl
padded_long [] (suc n) = ap suc (padded_long [] n)
padded_long (b ∷ bs) (suc n) = ap suc (padded_long bs n)

-- ---- the part of a page under a lock ends with the page

room : (page last first : ℕ) → page < 2 ^ 28 → 0 < min last (page * 4096 + 4095) + 1 - first
    → first + (min last (page * 4096 + 4095) + 1 - first) ≤ 2 ^ 62
room page last first small some = grind (arith, nat_tests)

pub part_fits : (page : ℕ) (extent : Extent) (first count : ℕ) (rest part : List ℕ) → page < 2 ^ 28 → first ≡ part_first page extent → count
    ≡ part_count page extent → part ≡ padded rest count → 0 < length part → first + length part ≤ 2 ^ 62
part_fits page extent first count rest part small from many is some =
    let long : length part ≡ part_count page extent = ap length is ∙ padded_long rest count ∙ many in
    subst (λ (n : ℕ). n + length part ≤ 2 ^ 62) (sym from)
    (subst (λ (n : ℕ). part_first page extent + n ≤ 2 ^ 62) (sym long)
    (room page extent.last (part_first page extent) small (subst (λ (n : ℕ). 0 < n) long some)))

-- ---- no byte stands at 2^62 or after it

abbrev far : Extent
far = record { first = 2 ^ 62; last = 2 ^ 64 - 1 }

-- the first byte there is none below
not_far : (p : ℕ) → p < 2 ^ 62 → is_in far p ≡ true → ⊥
not_far p near there = grind (arith, nat_tests)

near_one : (p : ℕ) → p < 2 ^ 64 → is_in far p ≡ false → p < 2 ^ 62
near_one p short out = grind (arith, nat_tests)

none_far : (m : Places ℕ) → first_position (inside far m) ≡ None → end_of m < 2 ^ 64 → end_of m ≤ 2 ^ 62
none_far [] none short = omega arith
none_far (e ∷ m) none short = by (is_in far e.0) refl (λ rest. none_far m rest (omega (arith, short))) none where
  by : (v : Bool) → is_in far e.0 ≡ v → (first_position (inside far m) ≡ None → end_of m ≤ 2 ^ 62)
      → first_position (if v then e ∷ inside far m else inside far m) ≡ None → max (e.0 + 1) (end_of m) ≤ 2 ^ 62
  by true there next first = absurd (cc)
  by false out next first =
      let rest : end_of m ≤ 2 ^ 62 = next first in
      let here : e.0 < 2 ^ 62 = near_one e.0 (omega (arith, short)) out in
      omega arith

first_far : (p : ℕ) (m : Places ℕ) → first_position (inside far m) ≡ Some p → is_in far p ≡ true
first_far p [] some = absurd (cc)
first_far p (e ∷ m) some = by (is_in far e.0) refl (first_far p m) some where
  by : (v : Bool) → is_in far e.0 ≡ v → (first_position (inside far m) ≡ Some p → is_in far p ≡ true)
      → first_position (if v then e ∷ inside far m else inside far m) ≡ Some p → is_in far p ≡ true
  by true there next first = let same : e.0 ≡ p = cc in ap (is_in far) (sym same) ∙ there
  by false out next first = next first

-- so what is known ends there at most
pub near_end : (m : Places ℕ) (o : Option ℕ) → o ≡ first_position (inside far m) → IfSome o (λ position. position < 2 ^ 62)
    → end_of m < 2 ^ 64 → end_of m ≤ 2 ^ 62
near_end m None first fits short = none_far m (sym first) short
near_end m (Some p) first fits short = absurd (not_far p fits (first_far p m (sym first)))

-- ---- no bytes, laid anywhere past the last

below_all : (n : ℕ) (m : Places ℕ) → end_of m ≤ n → below n m ≡ m
below_all n [] past = refl
below_all n (e ∷ m) past = by (nat_lt e.0 n) refl (below_all n m (omega (arith, past))) where
  by : (v : Bool) → nat_lt e.0 n ≡ v → below n m ≡ m → (if v then e ∷ below n m else below n m) ≡ e ∷ m
  by true less rest = ap (λ (xs : Places ℕ). e ∷ xs) rest
  by false more rest = absurd (grind (arith, nat_tests))

from_none : (n : ℕ) (m : Places ℕ) → end_of m ≤ n → from n m ≡ []
from_none n [] past = refl
from_none n (e ∷ m) past = by (nat_le n e.0) refl (from_none n m (omega (arith, past))) where
  by : (v : Bool) → nat_le n e.0 ≡ v → from n m ≡ [] → (if v then e ∷ from n m else from n m) ≡ []
  by true more rest = absurd (grind (arith, nat_tests))
  by false less rest = rest

laid_none : (n : ℕ) (m : Places ℕ) → end_of m ≤ n → laid n [] m ≡ m
laid_none n m past =
    let same : n + 0 ≡ n = omega arith in
    ap (λ (k : ℕ). below n m ++ from k m) same
    ∙ ap (λ (xs : Places ℕ). below n m ++ xs) (from_none n m past)
    ∙ append-nil (below n m)
    ∙ below_all n m past

-- so they may as well be laid at the end
pub laid_near : (n : ℕ) (m : Places ℕ) → laid (min n (end_of m)) [] m ≡ laid n [] m
laid_near n m = by (nat_le n (end_of m)) refl where
  by : (v : Bool) → nat_le n (end_of m) ≡ v → laid (min n (end_of m)) [] m ≡ laid n [] m
  by true short = let here : min n (end_of m) ≡ n = grind (arith, nat_tests) in ap (λ (k : ℕ). laid k [] m) here
  by false long =
      let end : min n (end_of m) ≡ end_of m = grind (arith, nat_tests) in
      let past : end_of m ≤ n = grind (arith, nat_tests) in
      ap (λ (k : ℕ). laid k [] m) end ∙ laid_none (end_of m) m (omega arith) ∙ sym (laid_none n m past)
