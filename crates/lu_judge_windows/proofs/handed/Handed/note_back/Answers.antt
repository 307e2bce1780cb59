use Rattle.std.proofs.Common.{Bool, ap, sym, ◌∙◌}
use Rattle.std.specs.Prelude.{◌&&◌, ◌||◌}
use Rattle.lu_spec_machine.specs.Tree.{same_life}
use Rattle.lu_judge_windows.specs.Handed.{is_back_in}
use Rattle.lu_judge_windows.proofs.Tests.{put_test}
use Rattle.lu_judge_windows.proofs.handed.Handed.note_back.Goals as goal

pub returns-in_ok-insert-clause-back : goal.returns-in_ok-insert-clause-back
returns-in_ok-insert-clause-back c = λ w.
    c.in_ok-insert.ensures.updates.0 (w.client, w.life) ∙ put_test (same_life c.args.who w) (is_back_in c.args.self.now w)
    ∙ sym (ap (λ (b : Bool). (b && same_life c.args.who w) || is_back_in c.args.self.now w) c.if-is_back.true)
