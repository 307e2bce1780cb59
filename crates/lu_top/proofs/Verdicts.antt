-- What telling the verdict on a trace comes to is what the top call owes.
use Rattle.std.proofs.Common.{ℕ, List, Option}
use Rattle.lu_base.specs.Faults.{Rose}
use Rattle.lu_trace.specs.declared.traces.Trace.{Trace}
use Rattle.lu_top.specs.Judged.{IsTold, IsJudgedStatus, IsVerdictStatus}
use Rattle.lu_top.specs.declared.status.Status.{Status}
use Rattle.lu_top.specs.declared.status.Status.TheVariants as status

-- what is answered is the verdict on the trace
pub judged_of : (trace : Trace) (old new : Option (List ℕ)) (before now : ℕ) (answer : Status)
    → IsTold trace old new before now answer → IsJudgedStatus trace answer
judged_of trace old new before now status.Done out = out.0
judged_of trace old new before now (status.Unlawful law line) out = out.0
judged_of trace old new before now status.WriteFault out = tt
judged_of trace old new before now status.Memory out = tt
judged_of trace old new before now _ out = absurd out

-- where the sink met no fault, it is written whole
pub verdict_of : (trace : Trace) (old new : Option (List ℕ)) (before now : ℕ) (answer : Status)
    → IsTold trace old new before now answer → (Rose before now → ⊥) → IsVerdictStatus trace answer
verdict_of trace old new before now status.Done out calm = out.0
verdict_of trace old new before now (status.Unlawful law line) out calm = out.0
verdict_of trace old new before now status.WriteFault out calm = absurd (calm out.3)
verdict_of trace old new before now status.Memory out calm = tt
verdict_of trace old new before now _ out calm = absurd out
