use Rattle.std.proofs.Common.{take}
use Rattle.lu_spec_laws.specs.Words.Pasts.{Past}
use Rattle.lu_spec_laws.specs.Words.Glimpses.{machine_cut}
use Rattle.lu_judge_glimpse.specs.Histories.{ShowsHistory}
use Rattle.lu_judge_glimpse.specs.Wanted.{meets, IsLeast}
use Rattle.lu_judge_glimpse.proofs.wanted.first_unmet.Given as goal

abbrev pub invariant-loop-one : goal.invariant-loop-one
invariant-loop-one l = (past : Past) → ShowsHistory l.history past
    → IsLeast (meets (machine_cut l.history.osts past)) (take l.one-index l.wanted) l.first
