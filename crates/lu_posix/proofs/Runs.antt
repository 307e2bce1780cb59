-- What an object reads, filled with zeros, is its bytes one by one.
use Rattle.std.proofs.Common.{◌≡◌, ℕ, zero, suc, ◌+◌, ◌-◌, ◌≤◌, ◌⊎◌, ⊎_elim, min, List, ◌∷◌, ◌++◌, length, Bool, true, Option, None, refl}
use Rattle.std.proofs.Common.{sym, ap, ◌∙◌, arith, append_assoc}
use Rattle.std.specs.Prelude.{replicate, if◌then◌else◌}
use Rattle.std.specs.Option.{unwrap_or}
use Rattle.lu_base.specs.declared.locks.Extent.{Extent}
use Rattle.lu_spec_machine.specs.Places.{found_at, RisingFrom, end_of, is_in, inside}
use Rattle.lu_spec_machine.specs.Objects.{Object}
use Rattle.lu_spec_machine.proofs.Places.{found_inside, rising_inside, in_whole, end_past}
use Rattle.lu_object.specs.Reading.{bytes_from, read_from}
use Rattle.lu_object.proofs.Looked.{looked, filled_looked}
use Rattle.lu_posix.specs.Files.{run_in}

run_looked : (o : Object) (offset count : ℕ) → looked count offset o ≡ run_in o offset count
run_looked o offset zero = refl
run_looked o offset (suc count) = ap (λ bs. unwrap_or (found_at o offset) 0 ∷ bs) (run_looked o (offset + 1) count)

run_length : (o : Object) (offset count : ℕ) → length (run_in o offset count) ≡ count
run_length o offset zero = refl
run_length o offset (suc count) = let rest = run_length o (offset + 1) count in omega (arith, rest)

run_more : (o : Object) (offset a b : ℕ) → run_in o offset (a + b) ≡ run_in o offset a ++ run_in o (offset + a) b
run_more o offset zero b = let n : zero + b ≡ b = omega arith in let p : offset + zero ≡ offset = omega arith in ap (run_in o offset) n
    ∙ ap (λ q. run_in o q b) (sym p)
run_more o offset (suc a) b =
    let n : suc a + b ≡ suc (a + b) = omega arith in
    let p : offset + 1 + a ≡ offset + suc a = omega arith in
    ap (run_in o offset) n ∙ ap (λ bs. unwrap_or (found_at o offset) 0 ∷ bs)
    (run_more o (offset + 1) a b ∙ ap (λ q. run_in o (offset + 1) a ++ run_in o q b) p)

-- past the end
pub run_none : (o : Object) (offset count : ℕ) → end_of o ≤ offset → run_in o offset count ≡ replicate count 0
run_none o offset zero past = refl
run_none o offset (suc count) past =
    ap (λ (x : Option ℕ). unwrap_or x 0 ∷ run_in o (offset + 1) count) (end_past o offset past)
    ∙ ap (λ bs. 0 ∷ bs) (run_none o (offset + 1) count (omega (arith, past)))

-- where all that stands is in the range
run_inside : (extent : Extent) (o : Object) (offset count : ℕ) → extent.first ≤ offset → offset + count ≤ extent.last + 1
    → run_in (inside extent o) offset count ≡ run_in o offset count
run_inside extent o offset zero low high = refl
run_inside extent o offset (suc count) low high =
    let on : is_in extent offset ≡ true = in_whole extent offset low (omega (arith, high)) in
    let here : found_at (inside extent o) offset ≡ found_at o offset = found_inside extent o offset
    ∙ ap (λ (v : Bool). if v then found_at o offset else None) on in
    ap (λ (x : Option ℕ). unwrap_or x 0 ∷ run_in (inside extent o) (offset + 1) count) here
    ∙ ap (λ bs. unwrap_or (found_at o offset) 0 ∷ bs) (run_inside extent o (offset + 1) count (omega (arith, low)) (omega (arith, high)))

module _ (offset count : ℕ) (o : Object) (rises : RisingFrom 0 o) where
  abbrev part : Object
  part = inside (bytes_from offset count) o

  abbrev known : ℕ
  known = min count (end_of part - offset)

  read_known : read_from offset count o ≡ run_in part offset known
  read_known = filled_looked count offset part (rising_inside 0 (bytes_from offset count) o rises) ∙ run_looked part offset known

  pub read_length : length (read_from offset count o) ≤ count
  read_length = let n : length (read_from offset count o) ≡ known = ap (λ (bs : List ℕ). length bs) read_known
      ∙ run_length part offset known in omega (arith, n)

  rest_none : run_in part (offset + known) (count - known) ≡ replicate (count - known) 0
  rest_none = ⊎_elim all some split
    where
      split : (count ≤ end_of part - offset) ⊎ (end_of part - offset ≤ count)
      split = grind arith

      all : count ≤ end_of part - offset → run_in part (offset + known) (count - known) ≡ replicate (count - known) 0
      all less = let none : count - known ≡ 0 = omega (arith, less) in ap (λ n. run_in part (offset + known) n) none
          ∙ ap (λ (n : ℕ). replicate n 0) (sym none)

      some : end_of part - offset ≤ count → run_in part (offset + known) (count - known) ≡ replicate (count - known) 0
      some more = run_none part (offset + known) (count - known) (omega (arith, more))

  filled_up : read_from offset count o ++ replicate (count - length (read_from offset count o)) 0 ≡ run_in o offset count
  filled_up =
      let n : length (read_from offset count o) ≡ known = ap (λ (bs : List ℕ). length bs) read_known ∙ run_length part offset known in
      let all : count ≡ known + (count - known) = omega arith in
      ap (λ k. read_from offset count o ++ replicate (count - k) 0) n
      ∙ ap (λ bs. bs ++ replicate (count - known) 0) read_known
      ∙ ap (λ bs. run_in part offset known ++ bs) (sym rest_none)
      ∙ sym (run_more part offset known (count - known))
      ∙ ap (run_in part offset) (sym all)
      ∙ run_inside (bytes_from offset count) o offset count (omega arith) (omega arith)

  pub padded : (before : List ℕ) → (before ++ read_from offset count o) ++ replicate (count - length (read_from offset count o)) 0 ≡ before
      ++ run_in o offset count
  padded before = append_assoc before (read_from offset count o) (replicate (count - length (read_from offset count o)) 0)
      ∙ ap (λ bs. before ++ bs) filled_up
