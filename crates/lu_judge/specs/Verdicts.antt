-- What the verdict on a trace is.
use Rattle.std.specs.Prelude.{◌≡◌, ℕ, ◌-◌, ◌≤◌, List, [], ◌∷◌, ◌++◌, reverse, codes, decimal, Some}
use Rattle.lu_trace.specs.declared.traces.Trace.{Trace}
use Rattle.lu_spec_laws.specs.Holds.{Holds}
use Rattle.lu_spec_laws.specs.Lawful.{IsLawful}
use Rattle.lu_judge_pass.specs.Firsts.{IsFirst}
use Rattle.lu_judge.specs.declared.laws.Law.{Law}
use Rattle.lu_judge.specs.declared.verdicts.Verdict.{Verdict}
use Rattle.lu_judge.specs.declared.verdicts.Verdict.TheVariants.{Lawful, Broken}
use Rattle.lu_judge.specs.Laws.{law_text, law_of, laws_before}

-- the law is broken at no line of the trace
abbrev pub Keeps : Trace → Law → Type 0
Keeps trace law = Holds (law_of trace law) (reverse trace.entries)

-- each of these laws is
abbrev pub KeepsAll : Trace → List Law → Type 0
KeepsAll trace [] = Unit {0}
KeepsAll trace (law ∷ laws) = Keeps trace law × KeepsAll trace laws

-- each law before this one is
abbrev pub KeepsBefore : Trace → Law → Type 0
KeepsBefore trace law = KeepsAll trace (laws_before law)

-- the line of this number, counted from 1, breaks the law, and no line before it does
abbrev pub IsLeastLine : Trace → Law → ℕ → Type 0
IsLeastLine trace law line = (1 ≤ line) × IsFirst (law_of trace law) trace.entries (Some (line - 1))

-- this is the first law that is broken, and the first line that breaks it
pub record IsFirstBroken (trace : Trace) (law : Law) (line : ℕ) : Type 0 where
  pub before : KeepsBefore trace law
  pub least : IsLeastLine trace law line

abbrev pub IsVerdict : Trace → Verdict → Type 0
IsVerdict trace Lawful = IsLawful trace
IsVerdict trace (Broken law line) = IsFirstBroken trace law line

-- the text of a verdict
abbrev pub verdict_text : Verdict → List ℕ
verdict_text Lawful = codes "lawful"
verdict_text (Broken law line) = codes "broken " ++ law_text law ++ 32 ∷ decimal line

-- one verdict is that on a trace
abbrev pub HasOne : Trace → Type 0
HasOne trace = (verdict : Verdict) × IsVerdict trace verdict × ((other : Verdict) → IsVerdict trace other → other ≡ verdict)

abbrev pub EachHasOne : Type 0
EachHasOne = (trace : Trace) → HasOne trace
