-- Whether something changes is asked of the outcome.
use Rattle.std.proofs.Common.{sym, ap, ◌∙◌}
use Rattle.lu_spec_machine.specs.Footprint as footprint
use Rattle.lu_spec_machine.specs.Footprint.{is_some_change}
use Rattle.lu_spec_machine.specs.Plan.{Outcome}
use Rattle.lu_tree.specs.State.{TreeState, asked}
use Rattle.lu_tree.proofs.trees.Tree.changes.Goals as goal

pub returns : goal.returns
returns c =
    record {
      changes = λ number.
          c.changes.ensures c.self.inside.osts c.self.inside.inodes number c.args._who
          ∙ sym (ap (λ (o : Outcome). is_some_change o.changes) (c.end.ensures.ends number c.args._who))
          ∙ ap (λ (s : TreeState). footprint.changes s.osts s.tree (asked number c.args._who c.args.op.now)) c.self.view_is;
    }
