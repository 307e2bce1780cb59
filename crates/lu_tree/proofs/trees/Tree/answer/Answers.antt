-- What the row comes to is what the table says.
use Rattle.std.proofs.Common.{sym, ap, ◌∙◌}
use Rattle.std.proofs.lemmas.Result.{IfOk-weaker}
use Rattle.lu_spec_machine.specs.Footprint as footprint
use Rattle.lu_spec_machine.specs.Plan.{Outcome}
use Rattle.lu_tree.specs.State.{TreeState, asked}
use Rattle.lu_tree.proofs.trees.Tree.answer.Goals as goal

pub answer-requires-clause-seen : goal.answer-requires-clause-seen
answer-requires-clause-seen c = (c.self.inside.osts, c.end-end.ensures.seen)

pub returns : goal.returns
returns c =
    record {
      answer =
          IfOk-weaker c.answer.result _ _
          (λ told is.
          is ∙ sym (ap (λ (o : Outcome). o.answer) (c.end-end.ensures.ends c.args.number c.args.who))
          ∙ ap (λ (s : TreeState). footprint.answer s.osts s.tree (asked c.args.number c.args.who c.args.op.now)) c.self.view_is)
          c.answer.ensures.answer;
    }
