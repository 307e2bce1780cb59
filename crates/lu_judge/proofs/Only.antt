-- A trace has no two verdicts.
use Rattle.std.proofs.Common.{◌≡◌, ℕ, ◌+◌, ◌-◌, ◌<◌, ◌≤◌, List, [], ◌∷◌, length, inl, inr, refl, sym, subst, arith}
use Rattle.std.specs.Prelude.{Some, None, ◌↔◌}
use Rattle.std.proofs.lemmas.Bool.{cases_lt}
use Rattle.lu_trace.specs.declared.entries.Line.{Line}
use Rattle.lu_trace.specs.declared.traces.Trace.{Trace}
use Rattle.lu_spec_laws.specs.Words.Pasts.{Past}
use Rattle.lu_judge_pass.specs.Firsts.{IsFirst}
use Rattle.lu_judge_pass.proofs.Wholes.{none_is_whole}
use Rattle.lu_judge.specs.declared.laws.Law.{Law}
use Rattle.lu_judge.specs.declared.verdicts.Verdict.{Verdict}
use Rattle.lu_judge.specs.declared.verdicts.Verdict.TheVariants.{Lawful, Broken}
use Rattle.lu_judge.specs.Laws.{law_of}
use Rattle.lu_judge.specs.Verdicts.{Keeps, IsLeastLine, IsFirstBroken, IsVerdict}
use Rattle.lu_judge.proofs.Orders.{rank_of, same_rank, each_kept, kept_before}

-- ---- a place, and the line of its number

pub least_line : (trace : Trace) (this : Law) (place n : ℕ) → n ≡ place → IsFirst (law_of trace this) trace.entries (Some place)
    → IsLeastLine trace this (n + 1)
least_line trace this place n same first =
    let is : place ≡ n + 1 - 1 = omega arith in
    (omega arith, subst (λ (k : ℕ). IsFirst (law_of trace this) trace.entries (Some k)) is first)

pub none_kept : (trace : Trace) (this : Law) → IsFirst (law_of trace this) trace.entries None → Keeps trace this
none_kept trace this first = (none_is_whole (law_of trace this) trace.entries None first).0 refl

pub some_broken : (trace : Trace) (this : Law) (place : ℕ) → IsFirst (law_of trace this) trace.entries (Some place) → ¬ Keeps trace this
some_broken trace this place first = λ kept.
    let is : Some place ≡ None = (none_is_whole (law_of trace this) trace.entries (Some place) first).1 kept in
    cc

not_kept : (trace : Trace) (this : Law) (line : ℕ) → IsLeastLine trace this line → ¬ Keeps trace this
not_kept trace this line least = some_broken trace this (line - 1) least.1

-- ---- the least line is one

pub some_of : (lines : List Line) (place : ℕ) → place < length lines → Line
some_of (l ∷ lines) place below = l
some_of [] place below = absurd (omega arith)

none_below : (law : Past → Line → List Line → Type 0) (lines : List Line) (a b : ℕ) → IsFirst law lines (Some a)
    → IsFirst law lines (Some b) → ¬ (a < b)
none_below law lines a b this other = λ less. let d = some_of lines a this.0 in this.2 d (other.1 a less d)

same_line : (trace : Trace) (this : Law) (a b : ℕ) → IsLeastLine trace this a → IsLeastLine trace this b → a ≡ b
same_line trace this a b x y =
    elim (cases_lt (a - 1) (b - 1)) [
      | inl less ↦ absurd (none_below (law_of trace this) trace.entries (a - 1) (b - 1) x.1 y.1 less)
      | inr up ↦ elim (cases_lt (b - 1) (a - 1)) [
        | inl less ↦ absurd (none_below (law_of trace this) trace.entries (b - 1) (a - 1) y.1 x.1 less)
        | inr down ↦ let some_a : 1 ≤ a = x.0 in let some_b : 1 ≤ b = y.0 in omega arith
      ]
    ]

-- ---- and so is the law

not_earlier : (trace : Trace) (a b : Law) (i j : ℕ) → IsFirstBroken trace a i → IsFirstBroken trace b j → ¬ (rank_of a < rank_of b)
not_earlier trace a b i j x y = λ less. not_kept trace b j y.least (kept_before trace a b less x.before)

same_law : (trace : Trace) (a b : Law) (i j : ℕ) → IsFirstBroken trace a i → IsFirstBroken trace b j → a ≡ b
same_law trace a b i j x y =
    elim (cases_lt (rank_of a) (rank_of b)) [
      | inl less ↦ absurd (not_earlier trace a b i j x y less)
      | inr up ↦ elim (cases_lt (rank_of b) (rank_of a)) [
        | inl less ↦ absurd (not_earlier trace b a j i y x less)
        | inr down ↦ same_rank a b (omega arith)
      ]
    ]

-- ---- so the verdict is

pub only : (trace : Trace) (this other : Verdict) → IsVerdict trace this → IsVerdict trace other → this ≡ other
only trace Lawful Lawful x y = refl
only trace Lawful (Broken law line) x y = absurd (not_kept trace law line y.least (each_kept trace x law))
only trace (Broken law line) Lawful x y = absurd (not_kept trace law line x.least (each_kept trace y law))
only trace (Broken a i) (Broken b j) x y =
    let law : a ≡ b = same_law trace a b i j x y in
    let there : IsLeastLine trace a j = subst (λ (l : Law). IsLeastLine trace l j) (sym law) y.least in
    let line : i ≡ j = same_line trace a i j x.least there in
    cc

pub exactly : (trace : Trace) (this other : Verdict) → IsVerdict trace this → (this ≡ other) ↔ IsVerdict trace other
exactly trace this other is = (λ same. subst (λ (v : Verdict). IsVerdict trace v) same is, λ holds. only trace this other is holds)
