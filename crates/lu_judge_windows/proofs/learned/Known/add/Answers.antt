use Rattle.std.proofs.Common.{◌∙◌}
use Rattle.std.specs.Prelude.{◌==◌}
use Rattle.lu_spec_machine.specs.Tree.{same_life}
use Rattle.lu_judge_windows.specs.Learned.{has_number}
use Rattle.lu_judge_windows.proofs.Tests.{put_known}
use Rattle.lu_judge_windows.proofs.learned.Known.add.Goals as goal

pub returns : goal.returns
returns c = record {
  added = λ t w n.
      c.in_ok-insert.ensures.updates.0 (t, ((w.client, w.life), n))
      ∙ put_known (c.args.target == t) (same_life c.args.who w) (c.args.number == n) (has_number c.args.self.now t w n);
}
