-- It goes down, or the turn is passed over.
use Rattle.std.proofs.Common.{sym, ◌∙◌}
use Rattle.std.proofs.lemmas.Result.{IfOk-weaker}
use Rattle.lu_run_nodes.proofs.TargetsTurning.{goes_down}
use Rattle.lu_run_nodes.proofs.targets.TargetSeat.crash.Goals as goal

pub returns : goal.returns
returns g c = record {
  made = IfOk-weaker c.line-2.result _ _
      (λ step line. goes_down _ _ c.self.view_is c.args.stamp c.in-Some.target (sym c.take.ensures.value ∙ c.in-Some.is)
      (g.D.Disk.batches c.crash.result)
      (g.D.Disk.faults c.crash.result) c.crash.ensures.batches c.take.new.self c.take.ensures.after step line)
      c.line-2.ensures.step;
}
