use Rattle.std.specs.Prelude.{◌≡◌}
use Rattle.lu_judge_recovery.specs.Clients.{count_of}
use Rattle.lu_judge_recovery.proofs.Closed.{close_closings}
use Rattle.lu_judge_recovery.proofs.closings.Closings.close.Goals as goal

pub returns : goal.returns
returns c = record {
  shows = λ failing past ledger windows shown.
      close_closings c.args.self.now (record c.args.self.now { by_turn = c.insert.new.self }) failing (count_of c.args.greatest) past
      c.args.turn.stamp c.args.turn.target _
      (c.in_ok-closing.ensures.decides past ledger windows) c.in_ok-closing.ensures.fresh.0 c.in_ok-closing.ensures.fresh.1
      c.in_ok-closing.ensures.fresh.2
      (λ s t. c.in_ok-insert.ensures.updates.0 (s, t)) shown;
}
