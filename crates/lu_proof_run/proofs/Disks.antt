-- The calls to a target's disk: which of them fail, what a turn is where none of its own does, and how many a run has made.
use Rattle.std.proofs.Common.{◌≡◌, ◌≤◌, ◌<◌, ℕ, zero, suc, ◌+◌, ◌-◌, if◌then◌else◌, Bool, true, false, List, [], ◌∷◌, Some, None, refl, ap}
use Rattle.std.proofs.Common.{◌∙◌, arith}
use Rattle.std.specs.Prelude.{nat_eq, option_map}
use Rattle.std.specs.List.{list_any}
use Rattle.std.proofs.lemmas.Bool.Decides.{nat_tests}
use Rattle.lu_base.specs.declared.ids.At.{At}
use Rattle.lu_spec_entries.specs.Words.{Entry, Commit, Boot, Line, line, with_turn, is_target}
use Rattle.lu_spec_target.specs.Disks.{calls_of, calls, failing}
use Rattle.lu_spec_run.specs.Scenarios.{calls_at, first_failing}

-- ---- the first of the next calls that fails

-- one call more to look at
first_step : (failing : List ℕ) (from more : ℕ) (fails : Bool) → list_any (nat_eq from) failing ≡ fails
    → first_failing failing from (suc more) ≡ (if fails then Some 0 else option_map suc (first_failing failing (from + 1) more))
first_step failing from more fails is = ap (λ (b : Bool). if b then Some 0 else option_map suc (first_failing failing (from + 1) more)) is

pub first_failing_none : (failing : List ℕ) (from more : ℕ) → ((k : ℕ) → from ≤ k → k < from + more → list_any (nat_eq k) failing ≡ false)
    → first_failing failing from more ≡ None
first_failing_none failing from zero none = refl
first_failing_none failing from (suc more) none =
    first_step failing from more false (none from (omega arith) (omega arith))
    ∙ ap (option_map suc) (first_failing_none failing (from + 1) more (λ k low high. none k (omega arith) (omega arith)))

-- of one number alone
one_is : (k n : ℕ) → k ≡ n → list_any (nat_eq n) (k ∷ []) ≡ true
one_is k n same = let h : nat_eq n k ≡ true = grind (arith, nat_tests) in rw h refl

one_isnt : (k n : ℕ) → (k ≡ n → ⊥) → list_any (nat_eq n) (k ∷ []) ≡ false
one_isnt k n other = let h : nat_eq n k ≡ false = grind (arith, nat_tests) in rw h refl

pub first_failing_at : (k from more : ℕ) → from ≤ k → k < from + more → first_failing (k ∷ []) from more ≡ Some (k - from)
first_failing_at k from zero low high = absurd (omega arith)
first_failing_at k from (suc more) low high = by (nat_eq k from) refl (λ l h. first_failing_at k (from + 1) more l h)
  where
    by : (here : Bool) → nat_eq k from ≡ here → (from + 1 ≤ k → k < from + 1 + more → first_failing (k ∷ []) (from + 1) more
        ≡ Some (k - (from + 1)))
        → first_failing (k ∷ []) from (suc more) ≡ Some (k - from)
    by true here rest =
        let same : k ≡ from = grind (arith, nat_tests, here) in
        let first : 0 ≡ k - from = omega arith in
        first_step (k ∷ []) from more true (one_is k from same) ∙ ap (λ (n : ℕ). Some n) first
    by false here rest =
        let other : k ≡ from → ⊥ = λ same. grind (arith, nat_tests, here, same) in
        let later : from + 1 ≤ k = grind (arith, nat_tests, here, low) in
        let next : suc (k - (from + 1)) ≡ k - from = omega arith in
        first_step (k ∷ []) from more false (one_isnt k from other)
        ∙ ap (option_map suc) (rest later (omega arith))
        ∙ ap (λ (n : ℕ). Some n) next

pub first_failing_before : (k from more : ℕ) → k < from → first_failing (k ∷ []) from more ≡ None
first_failing_before k from more before = first_failing_none (k ∷ []) from more (λ n low high. one_isnt k n (λ same. omega arith))

pub first_failing_past : (k from more : ℕ) → from + more ≤ k → first_failing (k ∷ []) from more ≡ None
first_failing_past k from more past = first_failing_none (k ∷ []) from more (λ n low high. one_isnt k n (λ same. omega arith))

-- ---- a turn whose calls all succeed

none_more : (m n : ℕ) → 0 + m ≤ n → m ≤ n
none_more m n enough = omega arith

pub failing_past : (es : List Entry) (n : ℕ) → calls es ≤ n → failing es n ≡ es
failing_past [] n enough = refl
failing_past (Commit to batch ∷ es) zero enough = absurd (omega arith)
failing_past (Commit to batch ∷ es) (suc n) enough = ap (λ (more : List Entry). Commit to batch ∷ more) (failing_past es n (omega arith))
failing_past (Boot boot disk ∷ es) zero enough = absurd (omega arith)
failing_past (Boot boot disk ∷ es) (suc zero) enough = absurd (omega arith)
failing_past (Boot boot disk ∷ es) (suc (suc n)) enough = ap (λ (more : List Entry). Boot boot disk ∷ more)
    (failing_past es n (omega arith))
failing_past (e ∷ es) n enough = ap (λ (more : List Entry). e ∷ more) (failing_past es n (none_more (calls es) n enough))

-- ---- how often a target's disk was asked

calls_line : (t : ℕ) (past : List Line) (at : At) (e : Entry) → is_target t at.node ≡ true → calls_at t (line at e ∷ past)
    ≡ calls_at t past + calls (e ∷ [])
calls_line t past at e mine = ap (λ (own : Bool). if own then calls_at t past + calls (e ∷ []) else calls_at t past) mine

pub calls_own : (t : ℕ) (past : List Line) (at : At) (es : List Entry) → is_target t at.node ≡ true → calls_at t (with_turn at es past)
    ≡ calls_at t past + calls es
calls_own t past at [] mine = omega arith
calls_own t past at (e ∷ es) mine =
    let rest : calls_at t (with_turn at es (line at e ∷ past)) ≡ calls_at t (line at e ∷ past) + calls es =
    calls_own t (line at e ∷ past) at es mine in
    let one : calls_at t (line at e ∷ past) ≡ calls_at t past + calls (e ∷ []) = calls_line t past at e mine in
    rest ∙ ap (λ (n : ℕ). n + calls es) one ∙ joined
  where
    joined : calls_at t past + (calls_of e + 0) + calls es ≡ calls_at t past + (calls_of e + calls es)
    joined = omega arith

pub calls_other : (t : ℕ) (past : List Line) (at : At) (es : List Entry) → is_target t at.node ≡ false → calls_at t (with_turn at es past)
    ≡ calls_at t past
calls_other t past at [] other = refl
calls_other t past at (e ∷ es) other =
    calls_other t (line at e ∷ past) at es other ∙ ap (λ (own : Bool). if own then calls_at t past + calls (e ∷ []) else calls_at t past)
    other
