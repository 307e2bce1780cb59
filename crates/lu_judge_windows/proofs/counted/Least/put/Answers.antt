use Rattle.std.proofs.Common.{sym, ◌∙◌}
use Rattle.std.specs.Prelude.{◌==◌, ◌&&◌}
use Rattle.std.specs.HashMap.{get_by}
use Rattle.lu_judge_windows.proofs.Counts.{least_comes}
use Rattle.lu_judge_windows.proofs.counted.Least.put.Goals as goal

pub returns : goal.returns
returns c = record {
  put =
      least_comes c.args.who c.args.key c.args.number (λ w k. get_by (λ e. (w.client == e.0.0 && w.life == e.0.1) && k == e.1)
      c.args.self.now.numbers) (λ w k. get_by (λ e. (w.client == e.0.0 && w.life == e.0.1) && k == e.1) c.insert.new.self)
      (sym c.is_within.ensures.within ∙ c.if-is_within.false) (λ w k. c.in_ok-insert.ensures.updates.0 ((w.client, w.life), k));
}
