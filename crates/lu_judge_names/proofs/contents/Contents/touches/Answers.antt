use Rattle.std.proofs.Common.{◌∙◌}
use Rattle.std.specs.Option.{option_map}
use Rattle.std.proofs.lemmas.Result.{IfOk-weaker}
use Rattle.lu_judge_names.specs.Contents.{held}
use Rattle.lu_judge_names.proofs.Trees.{touches_shown}
use Rattle.lu_judge_names.proofs.contents.Contents.touches.Goals as goal

pub returns : goal.returns
returns c = record {
  touches = IfOk-weaker c.touches.result _ _ (λ parts is. λ osts past shows. is
      ∙ touches_shown osts (held c.args.self.now) past shows c.args.number c.args.who (option_map (λ o. o.now) c.args.op)
      c.args._answer.now) c.touches.ensures;
}
