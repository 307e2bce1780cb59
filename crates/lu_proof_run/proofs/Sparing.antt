-- Disks of which no call so far fails fail none before the last turn, none in it and none at the start; and what one call that fails
-- makes of a start and of a turn.
use Rattle.std.proofs.Common.{◌≡◌, ◌≤◌, ◌<◌, ℕ, zero, suc, ◌+◌, ◌-◌, if◌then◌else◌, Bool, true, false, List, [], ◌∷◌, Option, Some, None}
use Rattle.std.proofs.Common.{refl, sym, subst, ap, ◌∙◌, arith, eq-eqb}
use Rattle.std.specs.Prelude.{nat_eq}
use Rattle.std.specs.List.{list_any}
use Rattle.std.proofs.lemmas.Bool.Decides.{nat_tests}
use Rattle.lu_base.specs.declared.ids.At.{At}
use Rattle.lu_base.specs.declared.ids.Node.{Node}
use Rattle.lu_base.specs.declared.ids.Node.TheVariants.{Client, Target}
use Rattle.lu_spec_entries.specs.Words.{Entry, Line, with_turn, is_target}
use Rattle.lu_spec_target.specs.Disks.{calls}
use Rattle.lu_spec_run.specs.Scenarios.{Disks, calls_at, first_failing, fails_at, start_fails}
use Rattle.lu_proof_run.proofs.Disks.{first_failing_none, first_failing_at, calls_own, calls_other}
use Rattle.lu_proof_run.specs.Steps.{Spares, one_failing, none_failing}

-- ---- the calls of the turns so far

own_node : (t : ℕ) (node : Node) → node ≡ Target t → is_target t node ≡ true
own_node t node is = ap (is_target t) is ∙ eq-eqb t t refl

as_many : (n : ℕ) → n ≤ n
as_many n = omega arith

and_more : (n more : ℕ) → n ≤ n + more
and_more n more = omega arith

-- one more turn makes them no fewer
pub calls_rise : (t : ℕ) (past : List Line) (at : At) (es : List Entry) → calls_at t past ≤ calls_at t (with_turn at es past)
calls_rise t past at es = by (is_target t at.node) refl
  where
    by : (own : Bool) → is_target t at.node ≡ own → calls_at t past ≤ calls_at t (with_turn at es past)
    by true own = subst (λ (n : ℕ). calls_at t past ≤ n) (sym (calls_own t past at es own)) (and_more (calls_at t past) (calls es))
    by false other = subst (λ (n : ℕ). calls_at t past ≤ n) (sym (calls_other t past at es other)) (as_many (calls_at t past))

-- ---- disks that spare the past

below : (k m n : ℕ) → k < m → m ≤ n → k < n
below k m n few more = omega arith

-- they spare what was before the last turn
pub spares_before : (disks : Disks) (past : List Line) (at : At) (es : List Entry) → Spares disks (with_turn at es past) → Spares disks past
spares_before disks past at es spares =
    λ t k few. spares t k (below k (calls_at t past) (calls_at t (with_turn at es past)) few (calls_rise t past at es))

-- they fail no call of the last turn
pub spares_turn : (disks : Disks) (past : List Line) (at : At) (es : List Entry) → Spares disks (with_turn at es past)
    → fails_at disks past at.node es ≡ None
spares_turn disks past at es spares = by at.node refl
  where
    by : (node : Node) → at.node ≡ node → fails_at disks past node es ≡ None
    by (Client c) is = refl
    by (Target t) is =
        first_failing_none (disks t) (calls_at t past) (calls es)
        (λ k low high. spares t k (subst (λ (n : ℕ). k < n) (sym (calls_own t past at es (own_node t at.node is))) high))

-- they fail no start of a target
pub starts_spared : (disks : Disks) (from more : ℕ) → Spares disks [] → start_fails disks from more ≡ None
starts_spared disks from zero spares = refl
starts_spared disks from (suc more) spares =
    by (first_failing (disks from) 0 2) (first_failing_none (disks from) 0 2 (λ k low high. spares from k high))
    (starts_spared disks (from + 1) more spares)
  where
    by : (first : Option ℕ) → first ≡ None → start_fails disks (from + 1) more ≡ None
        → ◌≡◌ {A = Option ℕ} (elim first [ Some n ↦ Some from | None ↦ start_fails disks (from + 1) more ]) None
    by (Some n) none rest = absurd (cc)
    by None none rest = rest

-- those that never fail spare each past
pub none_spares : (past : List Line) → Spares none_failing past
none_spares past = λ t k few. refl

-- ---- disks of which one call fails

isnt_among : (k n : ℕ) → n < k → list_any (nat_eq n) (k ∷ []) ≡ false
isnt_among k n less = let h : nat_eq n k ≡ false = grind (arith, nat_tests, less) in rw h refl

-- they spare the past where this call wasn't made
pub one_spares : (t k : ℕ) (past : List Line) → calls_at t past ≤ k → Spares (one_failing t k) past
one_spares t k past later = λ other n few. by other n few (nat_eq other t) refl
  where
    by : (other n : ℕ) → n < calls_at other past → (same : Bool) → nat_eq other t ≡ same
        → list_any (nat_eq n) (if same then k ∷ [] else []) ≡ false
    by other n few false is = refl
    by other n few true is =
        let same : other ≡ t = grind (arith, nat_tests, is) in
        isnt_among k n (below n (calls_at t past) k (subst (λ (u : ℕ). n < calls_at u past) same few) later)

one_own : (t k : ℕ) → one_failing t k t ≡ k ∷ []
one_own t k = let h : nat_eq t t ≡ true = grind (arith, nat_tests) in ap (λ (same : Bool). if same then k ∷ [] else []) h

beyond : (n more : ℕ) → n + more - n ≡ more
beyond n more = omega arith

sooner : (n more most : ℕ) → more < most → n + more < n + most
sooner n more most less = omega arith

-- so many calls after those of the past, one of a turn fails
pub one_fails : (t n : ℕ) (past : List Line) (es : List Entry) → n < calls es
    → fails_at (one_failing t (calls_at t past + n)) past (Target t) es ≡ Some n
one_fails t n past es few =
    let before = calls_at t past in
    ap (λ (failing : List ℕ). first_failing failing before (calls es)) (one_own t (before + n))
    ∙ first_failing_at (before + n) before (calls es) (and_more before n) (sooner before n (calls es) few)
    ∙ ap (λ (m : ℕ). Some m) (beyond before n)

-- the first call fails a start
pub one_starts : (t from more : ℕ) → from ≤ t → t < from + more → start_fails (one_failing t 0) from more ≡ Some t
one_starts t from zero low high = absurd (omega arith)
one_starts t from (suc more) low high = by (nat_eq from t) refl (λ l h. one_starts t (from + 1) more l h)
  where
    by : (here : Bool) → nat_eq from t ≡ here → (from + 1 ≤ t → t < from + 1 + more → start_fails (one_failing t 0) (from + 1) more
        ≡ Some t)
        → ◌≡◌ {A = Option ℕ} (elim (first_failing (if here then 0 ∷ [] else []) 0 2)
        [ Some n ↦ Some from | None ↦ start_fails (one_failing t 0) (from + 1) more ]) (Some t)
    by true is rest = let same : from ≡ t = grind (arith, nat_tests, is) in ap (λ (m : ℕ). Some m) same
    by false is rest =
        let later : from + 1 ≤ t = grind (arith, nat_tests, is, low) in
        rest later (omega arith)
