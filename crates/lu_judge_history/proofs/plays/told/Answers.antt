-- What the machine would tell.
use Rattle.std.proofs.Common.{sym, ap, ◌∙◌}
use Rattle.std.proofs.lemmas.Result.{IfOk-weaker}
use Rattle.lu_spec_machine.specs.Machine.{answer}
use Rattle.lu_judge_history.specs.declared.asked.Asked.{Asked}
use Rattle.lu_judge_history.specs.Deeds.{act_asked}
use Rattle.lu_judge_history.proofs.plays.told.Goals as goal

pub returns-then-is_within : goal.returns-then-is_within
returns-then-is_within c = record {
  told =
      IfOk-weaker c.would_tell.result _ _
      (λ told is osts m shown within. is osts m shown ∙ sym (ap (λ (a : Asked). answer osts m (act_asked c.args.who a)) c.in-Data.is))
      c.would_tell.ensures.answer;
}
