use Rattle.std.proofs.Common.{ℕ, ◌≤◌, ◌-◌, List, length, take}
use Rattle.lu_base.specs.declared.ids.At.{At}
use Rattle.lu_base.specs.declared.ids.Who.{Who}
use Rattle.lu_trace.specs.declared.entries.Line.{Line}
use Rattle.lu_spec_machine.specs.Footprint.{Every}
use Rattle.lu_spec_laws.specs.Words.Pasts.{Past}
use Rattle.lu_spec_laws.specs.Words.Closes.{cause_at}
use Rattle.lu_spec_laws.specs.Laws.Recovery.{Evicts}
use Rattle.lu_judge_recovery.specs.Closings.{KnowsClose, AreCauses}
use Rattle.lu_judge_recovery.specs.Rest.{ShowsRest}
use Rattle.lu_judge_recovery.proofs.closes.evicts_all.Given as goal

abbrev pub invariant-loop-place : goal.invariant-loop-place
invariant-loop-place l = record {
  within : l.place ≤ length l.lives;
  evicts : (at : At) (later : List Line) (t : ℕ) (past : Past) (listed : List Who) → ShowsRest l.rest at later → KnowsClose l.close t past
      → AreCauses l.causes listed t past → Every (λ who. Evicts at later who (cause_at t past who)) (take l.place l.lives);
}

abbrev pub decreases-loop-place : goal.decreases-loop-place
decreases-loop-place l = length l.lives - l.place
