-- A law holds of a whole trace exactly where it holds at each place of it.
use Rattle.std.proofs.Common.{◌≡◌, ℕ, zero, suc, ◌+◌, ◌<◌, ◌≤◌, List, [], ◌∷◌, length, take, drop, refl, ap, ◌∙◌, sym, subst, ⊎_elim, arith}
use Rattle.std.specs.Prelude.{reverse, slice_index_or, Option, Some, None, ◌↔◌}
use Rattle.std.proofs.lemmas.Bool.{cases_lt}
use Rattle.std.proofs.lemmas.List.{take_more, take_all, drop_more, drop_all, reverse-append}
use Rattle.lu_trace.specs.declared.entries.Line.{Line}
use Rattle.lu_spec_laws.specs.Words.Pasts.{Past}
use Rattle.lu_spec_laws.specs.Holds.{HoldsBefore, Holds}
use Rattle.lu_judge_pass.specs.Firsts.{before, HoldsAt, HoldsBelow, IsFirst}

pub before_more : (lines : List Line) (place : ℕ) (d : Line) → place < length lines → before lines (place + 1)
    ≡ slice_index_or lines place d ∷ before lines place
before_more lines place d below = ap reverse (take_more lines place d below)
    ∙ reverse-append (take place lines) (slice_index_or lines place d ∷ [])

some_line : (lines : List Line) (k : ℕ) → k < length lines → Line
some_line (l ∷ lines) k below = l
some_line [] k below = absurd (omega arith)

-- the law at the lines before a place, with all lines from there on
abbrev Until : (Past → Line → List Line → Type 0) → List Line → ℕ → Type 0
Until law lines k = HoldsBefore law (drop k lines) (before lines k)

-- the law at the line of a place, and before it
abbrev Next : (Past → Line → List Line → Type 0) → List Line → ℕ → Line → Type 0
Next law lines k d = law (before lines k) (slice_index_or lines k d) (drop (k + 1) lines) × Until law lines k

more : (law : Past → Line → List Line → Type 0) (lines : List Line) (k : ℕ) (d : Line) → k < length lines → Next law lines k d
    → Until law lines (k + 1)
more law lines k d below next =
    subst (λ (past : Past). HoldsBefore law (drop (k + 1) lines) past) (sym (before_more lines k d below))
    (next.0, subst (λ (later : List Line). HoldsBefore law later (before lines k)) (drop_more lines k d below) next.1)

less : (law : Past → Line → List Line → Type 0) (lines : List Line) (k : ℕ) (d : Line) → k < length lines → Until law lines (k + 1)
    → Next law lines k d
less law lines k d below until =
    let both = subst (λ (past : Past). HoldsBefore law (drop (k + 1) lines) past) (before_more lines k d below) until in
    (both.0, subst (λ (later : List Line). HoldsBefore law later (before lines k)) (sym (drop_more lines k d below)) both.1)

suc_is : (k : ℕ) → k + 1 ≡ suc k
suc_is k = omega arith

until : (law : Past → Line → List Line → Type 0) (lines : List Line) (k : ℕ) → k ≤ length lines → HoldsBelow law lines k → Until law lines k
until law lines zero within holds = tt
until law lines (suc k) within holds =
    let below : k < length lines = omega arith in
    let d = some_line lines k below in
    subst (λ (j : ℕ). Until law lines j) (suc_is k)
    (more law lines k d below (holds k (omega arith) d, until law lines k (omega arith) (λ j less. holds j (omega arith))))

each : (law : Past → Line → List Line → Type 0) (lines : List Line) (k : ℕ) → k ≤ length lines → Until law lines k → HoldsBelow law lines k
each law lines zero within holds = λ j below. absurd (omega arith)
each law lines (suc k) within holds = λ j below.
    let there : k < length lines = omega arith in
    let until : Until law lines (k + 1) = subst (λ (i : ℕ). Until law lines i) (sym (suc_is k)) holds in
    ⊎_elim (λ before. each law lines k (omega arith) (less law lines k (some_line lines k there) there until).1 j before)
    (λ past. let is : k ≡ j = omega arith in subst (λ (i : ℕ). HoldsAt law lines i) is (λ d. (less law lines k d there until).0))
    (cases_lt j k)

-- ---- of the whole trace

all_before : (lines : List Line) → before lines (length lines) ≡ reverse lines
all_before lines = ap reverse (take_all (length lines) lines (omega arith))

none_after : (lines : List Line) → drop (length lines) lines ≡ []
none_after lines = drop_all (length lines) lines (omega arith)

whole : (law : Past → Line → List Line → Type 0) (lines : List Line) → HoldsBelow law lines (length lines) → Holds law (reverse lines)
whole law lines holds =
    subst (λ (later : List Line). HoldsBefore law later (reverse lines)) (none_after lines)
    (subst (λ (past : Past). HoldsBefore law (drop (length lines) lines) past) (all_before lines)
    (until law lines (length lines) (omega arith) holds))

pub at_each : (law : Past → Line → List Line → Type 0) (lines : List Line) → Holds law (reverse lines) → HoldsBelow law lines (length lines)
at_each law lines holds =
    each law lines (length lines) (omega arith)
    (subst (λ (past : Past). HoldsBefore law (drop (length lines) lines) past) (sym (all_before lines))
    (subst (λ (later : List Line). HoldsBefore law later (reverse lines)) (sym (none_after lines)) holds))

pub none_is_whole : (law : Past → Line → List Line → Type 0) (lines : List Line) (place : Option ℕ) → IsFirst law lines place
    → (place ≡ None) ↔ Holds law (reverse lines)
none_is_whole law lines None first = (λ is. whole law lines first, λ holds. refl)
none_is_whole law lines (Some place) first = (
  λ is. absurd (cc),
  λ holds. let d = some_line lines place first.0 in absurd (first.2 d (at_each law lines holds place first.0 d)),
)
