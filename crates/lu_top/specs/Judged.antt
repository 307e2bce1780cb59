-- What `judge` reads, answers and writes.
use Rattle.std.specs.Prelude.{◌≡◌, ℕ, List, [], ◌∷◌, ◌++◌, Option, Result, Ok, Err}
use Rattle.std.specs.Io.KnownBytes.{Appends}
use Rattle.lu_base.specs.Faults.{Rose, WrotePrefix}
use Rattle.lu_trace.specs.declared.traces.Trace.{Trace}
use Rattle.lu_trace.specs.declared.traces.End.{End}
use Rattle.lu_trace.specs.Traces.{trace_text}
use Rattle.lu_trace.specs.WellFormed.{IsWellFormed}
use Rattle.lu_judge.specs.declared.verdicts.Verdict.{Verdict}
use Rattle.lu_judge.specs.declared.verdicts.Verdict.TheVariants.{Lawful, Broken}
use Rattle.lu_judge.specs.Verdicts.{IsVerdict, verdict_text}
use Rattle.lu_top.specs.declared.forms.Form.TheVariants.{Judge}
use Rattle.lu_top.specs.Forms.{Says}
use Rattle.lu_top.specs.Asked.{most_trace_bytes, WasRead}
use Rattle.lu_top.specs.declared.judging.NoTrace.{NoTrace}
use Rattle.lu_top.specs.declared.judging.NoTrace.TheVariants as no_trace
use Rattle.lu_top.specs.declared.status.Status.{Status}
use Rattle.lu_top.specs.declared.status.Status.TheVariants as status

-- ---- what is read

-- a text is that of this well formed trace
pub record IsTextOf (text : List ℕ) (trace : Trace) : Type 0 where
  pub formed : IsWellFormed trace
  pub end : End
  pub is : trace_text trace end ≡ text

-- there is no trace: the bytes are no text of one, or memory ran out
abbrev pub IsNoTrace : Result Trace NoTrace → Type 0
IsNoTrace (Ok trace) = ⊥
IsNoTrace (Err (no_trace.Bad line)) = Unit {0}
IsNoTrace (Err no_trace.Memory) = Unit {0}
IsNoTrace (Err _) = ⊥

-- ---- the verdict

-- the line of a verdict: `lawful`, or `broken`, the first law that is broken and the first line that breaks it
abbrev pub verdict_line : Verdict → List ℕ
verdict_line verdict = verdict_text verdict ++ 10 ∷ []

-- the trace whose text the source had, and that was read of it, has this verdict
pub record IsVerdictOf (left rest : Option (List ℕ)) (verdict : Verdict) : Type 0 where
  pub trace : Trace
  pub read : WasRead most_trace_bytes left rest (λ text. IsTextOf text trace)
  pub is : IsVerdict trace verdict

-- that, and this holds of the line of the verdict
abbrev pub WroteVerdictOf : Option (List ℕ) → Option (List ℕ) → Verdict → (List ℕ → Type 0) → Type 0
WroteVerdictOf left rest verdict P = IsVerdictOf left rest verdict × P (verdict_line verdict)

-- the same where the words ask for a verdict
abbrev pub WroteVerdict : List (List ℕ) → Option (List ℕ) → Option (List ℕ) → Verdict → (List ℕ → Type 0) → Type 0
WroteVerdict words left rest verdict P = Says words Judge × WroteVerdictOf left rest verdict P

-- ---- what telling the verdict on a trace comes to

abbrev pub IsTold : Trace → Option (List ℕ) → Option (List ℕ) → ℕ → ℕ → Status → Type 0
IsTold trace old new before now status.Done = IsVerdict trace Lawful × Appends old new (verdict_line Lawful) × (now ≡ before)
IsTold trace old new before now (status.Unlawful law line) =
    IsVerdict trace (Broken law line) × Appends old new (verdict_line (Broken law line)) × (now ≡ before)
IsTold trace old new before now status.WriteFault =
    (verdict : Verdict) × IsVerdict trace verdict × WrotePrefix old new (verdict_line verdict) × Rose before now
IsTold trace old new before now status.Memory = Unit {0}
IsTold trace old new before now _ = ⊥

-- ---- answers

-- the verdict on a trace; or it couldn't be written, or memory ran out
abbrev pub IsJudgedStatus : Trace → Status → Type 0
IsJudgedStatus trace status.Done = IsVerdict trace Lawful
IsJudgedStatus trace (status.Unlawful law line) = IsVerdict trace (Broken law line)
IsJudgedStatus trace status.WriteFault = Unit {0}
IsJudgedStatus trace status.Memory = Unit {0}
IsJudgedStatus trace _ = ⊥

-- the verdict on a trace was written whole, or memory ran out
abbrev pub IsVerdictStatus : Trace → Status → Type 0
IsVerdictStatus trace status.WriteFault = ⊥
IsVerdictStatus trace answer = IsJudgedStatus trace answer

-- refused as no text of a trace, or memory ran out
abbrev pub IsRefusedTrace : Status → Type 0
IsRefusedTrace (status.Trace line) = Unit {0}
IsRefusedTrace status.Memory = Unit {0}
IsRefusedTrace _ = ⊥

-- an answer that judging comes to, whatever is read and written
abbrev pub IsOfJudging : Status → Type 0
IsOfJudging status.Usage = ⊥
IsOfJudging (status.Scene line fault) = ⊥
IsOfJudging (status.DiskFault t) = ⊥
IsOfJudging status.Unforeseen = ⊥
IsOfJudging _ = Unit {0}
