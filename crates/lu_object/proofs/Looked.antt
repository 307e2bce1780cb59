-- What is filled is what is looked up, up to the end.
use Rattle.std.proofs.Common.{◌≡◌, ℕ, zero, suc, ◌+◌, ◌-◌, ◌<◌, ◌≤◌, min, Bool, true, false, List, [], ◌∷◌, ◌++◌, length, Option, Some}
use Rattle.std.proofs.Common.{None, refl, sym, ap, ◌∙◌, subst, arith}
use Rattle.std.specs.Prelude.{nat_eq, ◌==◌, if◌then◌else◌, replicate, map}
use Rattle.std.specs.Option.{unwrap_or}
use Rattle.std.proofs.lemmas.Bool.{eq-eqb}
use Rattle.std.proofs.lemmas.Bool.Decides.{nat_tests}
use Rattle.lu_base.specs.declared.locks.Extent.{Extent}
use Rattle.lu_spec_machine.specs.Places.{found_at, RisingFrom, end_of, is_in, inside}
use Rattle.lu_spec_machine.specs.Objects.{Object, filled}
use Rattle.lu_spec_machine.proofs.Places.{none_before, found_inside, rising_inside, end_inside, in_whole}
use Rattle.lu_spec_bytes.specs.Runs.{found_run}
use Rattle.lu_object.specs.Reading.{bytes_from, read_from}

-- so many bytes from an offset on, one look-up each
abbrev pub looked : ℕ → ℕ → Object → List ℕ
looked zero offset object = []
looked (suc count) offset object = unwrap_or (found_at object offset) 0 ∷ looked count (offset + 1) object

looked_past : (count offset : ℕ) (e : ℕ × ℕ) (object : Object) → e.0 + 1 ≤ offset → looked count offset (e ∷ object)
    ≡ looked count offset object
looked_past zero offset e object past = refl
looked_past (suc count) offset e object past =
    let here : nat_eq offset e.0 ≡ false = grind (arith, nat_tests) in
    rw here (ap (λ bs. unwrap_or (found_at object offset) 0 ∷ bs) (looked_past count (offset + 1) e object (omega (arith, past))))

apart : (a b : ℕ) → b ≤ a → (a ≡ b → ⊥) → b + 1 ≤ a
apart a b h ne = grind (arith, h, ne)

pub filled_looked : (count offset : ℕ) (object : Object) → RisingFrom offset object → filled count offset object
    ≡ looked (min count (end_of object - offset)) offset object
filled_looked zero offset object h = let none : min zero (end_of object - offset) ≡ 0 = omega arith in rw none refl
filled_looked (suc count) offset [] h = let none : min (suc count) (end_of {A = ℕ} [] - offset) ≡ 0 = omega arith in rw none refl
filled_looked (suc count) offset (e ∷ object) h = by (e.0 == offset) refl (filled_looked count (offset + 1) object)
    (filled_looked count (offset + 1) (e ∷ object))
  where
    by : (v : Bool) → (e.0 == offset) ≡ v
        → (RisingFrom (offset + 1) object → filled count (offset + 1) object
        ≡ looked (min count (end_of object - (offset + 1))) (offset + 1) object)
        → (RisingFrom (offset + 1) (e ∷ object) → filled count (offset + 1) (e ∷ object)
        ≡ looked (min count (end_of (e ∷ object) - (offset + 1))) (offset + 1) (e ∷ object))
        → (if v then e.1 ∷ filled count (offset + 1) object else 0 ∷ filled count (offset + 1) (e ∷ object))
        ≡ looked (min (suc count) (end_of (e ∷ object) - offset)) offset (e ∷ object)
    by true is one two =
        let same : e.0 ≡ offset = grind (arith, nat_tests) in
        let more : min (suc count) (end_of (e ∷ object) - offset) ≡ suc (min count (end_of object - (offset + 1))) = omega (arith, same) in
        let here : nat_eq offset e.0 ≡ true = eq-eqb offset e.0 (sym same) in
        let ih = one (subst (λ n. RisingFrom (n + 1) object) same h.1) in
        let past = looked_past (min count (end_of object - (offset + 1))) (offset + 1) e object (omega (arith, same)) in
        ap (λ bs. e.1 ∷ bs) (ih ∙ sym past) ∙ rw more (rw here refl)
    by false is one two =
        let above : offset + 1 ≤ e.0 = apart e.0 offset h.0 (λ q. absurd (cc (is, eq-eqb e.0 offset q))) in
        let more : min (suc count) (end_of (e ∷ object) - offset) ≡ suc (min count (end_of (e ∷ object) - (offset + 1))) =
        omega (arith, above) in
        let none : found_at (e ∷ object) offset ≡ None = none_before (offset + 1) offset (e ∷ object) (above, h.1) (omega arith) in
        ap (λ bs. 0 ∷ bs) (two (above, h.1)) ∙ rw more (rw none refl)

-- nothing is there in the gap
pub looked_gap : (gap count offset : ℕ) (object : Object) → RisingFrom (offset + gap) object → looked (gap + count) offset object
    ≡ replicate gap 0 ++ looked count (offset + gap) object
looked_gap zero count offset object h =
    let all : zero + count ≡ count = omega arith in
    let here : offset + zero ≡ offset = omega arith in
    rw (all, here) refl
looked_gap (suc gap) count offset object h =
    let all : suc gap + count ≡ suc (gap + count) = omega arith in
    let none : found_at object offset ≡ None = none_before (offset + suc gap) offset object h (omega arith) in
    let moved : offset + suc gap ≡ offset + 1 + gap = omega arith in
    let ih = looked_gap gap count (offset + 1) object (subst (λ n. RisingFrom n object) moved h) in
    ap (λ n. looked n offset object) all ∙ ap (λ x. unwrap_or x 0 ∷ looked (gap + count) (offset + 1) object) none
    ∙ ap (λ bs. 0 ∷ bs) (ih ∙ ap (λ at. replicate gap 0 ++ looked count at object) (sym moved))

-- what is looked up where all that stands is in the range
pub looked_inside : (count offset : ℕ) (extent : Extent) (object : Object) → extent.first ≤ offset → offset + count ≤ extent.last + 1
    → looked count offset (inside extent object) ≡ map {A = Option ℕ} {B = ℕ} (λ byte. unwrap_or byte 0) (found_run count object offset)
looked_inside zero offset extent object low high = refl
looked_inside (suc count) offset extent object low high =
    let on : is_in extent offset ≡ true = in_whole extent offset low (omega (arith, high)) in
    let here : found_at (inside extent object) offset ≡ found_at object offset = found_inside extent object offset ∙ rw on refl in
    let ih = looked_inside count (offset + 1) extent object (omega (arith, low)) (omega (arith, high)) in
    ap (λ x. unwrap_or x 0 ∷ looked count (offset + 1) (inside extent object)) here
    ∙ ap (λ bs. unwrap_or (found_at object offset) 0 ∷ bs) ih

-- so much is read
pub read_is : (offset count : ℕ) (object : Object) → 0 < count → RisingFrom 0 object
    → map {A = Option ℕ} {B = ℕ} (λ byte. unwrap_or byte 0) (found_run (end_of (inside (bytes_from offset count) object) - offset) object
    offset) ≡ read_from offset count object
read_is offset count object some rises =
    let ends : end_of (inside (bytes_from offset count) object) ≤ offset + (count - 1) + 1 = end_inside (bytes_from offset count) object in
    let least : min count (end_of (inside (bytes_from offset count) object) - offset)
    ≡ end_of (inside (bytes_from offset count) object) - offset = omega (arith, ends, some) in
    let rest = filled_looked count offset (inside (bytes_from offset count) object) (rising_inside 0 (bytes_from offset count) object rises)
    in
    sym (rest ∙ ap (λ n. looked n offset (inside (bytes_from offset count) object)) least
    ∙ looked_inside (end_of (inside (bytes_from offset count) object) - offset) offset (bytes_from offset count) object (omega arith)
    (omega (arith, ends, some)))

pub none_stands : (object : Object) → end_of object ≡ 0 → object ≡ []
none_stands [] is = refl
none_stands (e ∷ object) is = absurd (omega (arith, is))
