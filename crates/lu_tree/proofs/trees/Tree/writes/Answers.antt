-- What is written is asked of the outcome.
use Rattle.std.proofs.Common.{sym, ap, ◌++◌, ◌∙◌}
use Rattle.lu_spec_machine.specs.Change.{written}
use Rattle.lu_spec_machine.specs.Footprint as footprint
use Rattle.lu_spec_machine.specs.Plan.{Outcome}
use Rattle.lu_tree.specs.Ends.{changes_of}
use Rattle.lu_tree.specs.State.{TreeState, asked}
use Rattle.lu_tree.proofs.trees.Tree.writes.Goals as goal

pub returns : goal.returns
returns c =
    let s : TreeState = record { osts = c.self.inside.osts; last = c.self.inside.last; tree = c.self.inside.inodes } in
    record {
      writes = λ number.
          c.in_ok-push_written.ensures.pushed s.osts s.tree number c.args._who
          ∙ ap (λ ps. ps ++ written (changes_of s.osts s.tree number c.args._who c.end.result)) c.new-parts.ensures.empty
          ∙ sym (ap (λ (o : Outcome). written o.changes) (c.end.ensures.ends number c.args._who))
          ∙ ap (λ (s : TreeState). footprint.writes s.osts s.tree (asked number c.args._who c.args.op.now)) c.self.view_is;
    }
