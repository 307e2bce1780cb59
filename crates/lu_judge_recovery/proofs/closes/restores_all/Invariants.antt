use Rattle.std.proofs.Common.{◌≡◌, ℕ, ◌≤◌, ◌-◌, true, List, length, take}
use Rattle.lu_base.specs.declared.ids.At.{At}
use Rattle.lu_base.specs.declared.ids.Who.{Who}
use Rattle.lu_trace.specs.declared.entries.Line.{Line}
use Rattle.lu_spec_machine.specs.Footprint.{Every}
use Rattle.lu_spec_laws.specs.Words.Pasts.{Past}
use Rattle.lu_spec_laws.specs.Words.Closes.{stays_at, lock_of}
use Rattle.lu_spec_laws.specs.Laws.Recovery.{Restores}
use Rattle.lu_judge_recovery.specs.Closings.{KnowsClose, AreCauses}
use Rattle.lu_judge_recovery.specs.Rest.{ShowsRest}
use Rattle.lu_judge_recovery.proofs.closes.restores_all.Given as goal

abbrev pub invariant-loop-place : goal.invariant-loop-place
invariant-loop-place l = record {
  within : l.place ≤ length l.handed;
  restores : (at : At) (later : List Line) (t : ℕ) (past : Past) (lives : List Who) → ShowsRest l.rest at later → KnowsClose l.close t past
      → AreCauses l.causes lives t past → Every (λ r. stays_at t past r.now.who ≡ true → Restores at later (lock_of r.now))
      (take l.place l.handed);
}

abbrev pub decreases-loop-place : goal.decreases-loop-place
decreases-loop-place l = length l.handed - l.place
