use Rattle.std.proofs.Common.{◌∙◌}
use Rattle.std.specs.Option.{option_map}
use Rattle.std.proofs.lemmas.Result.{IfOk-weaker}
use Rattle.lu_judge_names.specs.Contents.{held}
use Rattle.lu_judge_names.proofs.Trees.{wants_shown}
use Rattle.lu_judge_names.proofs.contents.Contents.wants.Goals as goal

pub returns : goal.returns
returns c = record {
  wants = IfOk-weaker c.wants.result _ _ (λ parts is. λ osts past shows. is
      ∙ wants_shown osts (held c.args.self.now) past shows c.args.who (option_map (λ o. o.now) c.args.op)) c.wants.ensures;
}
