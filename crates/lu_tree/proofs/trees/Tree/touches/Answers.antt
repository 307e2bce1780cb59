-- The names come first, and then what the row has looked at.
use Rattle.std.proofs.Common.{sym, ap, ◌++◌, ◌∙◌}
use Rattle.lu_spec_machine.specs.Footprint as footprint
use Rattle.lu_tree.specs.Ends.{looked_of, names_of}
use Rattle.lu_tree.specs.State.{TreeState, asked}
use Rattle.lu_tree.proofs.trees.Tree.touches.Goals as goal

pub returns : goal.returns
returns c =
    let t = c.self.inside.inodes in
    record {
      touches = λ number.
          c.in_ok-push_looked.ensures.pushed
          ∙ ap (λ ps. ps ++ looked_of c.end.result) (c.in_ok-push_names.ensures.pushed
          ∙ ap (λ ps. ps ++ names_of t c.args.op.now) c.new-parts.ensures.empty)
          ∙ sym (c.end.ensures.looks number c.args._who)
          ∙ ap (λ (s : TreeState). footprint.touches s.osts s.tree (asked number c.args._who c.args.op.now)) c.self.view_is;
    }
