-- What the machine answers is kept, and the machine stays.
use Rattle.std.proofs.Common.{Option, refl, ap, ◌∙◌}
use Rattle.std.specs.Option.{option_map}
use Rattle.std.proofs.lemmas.Result.{on_ok_weaker}
use Rattle.lu_msg.specs.declared.messages.Request.{Request}
use Rattle.lu_msg.specs.declared.operations.Op.{Op}
use Rattle.lu_spec_laws.specs.Words.Histories.{none, request_answer, machine_of}
use Rattle.lu_judge_history.proofs.Playing.{act_shown}
use Rattle.lu_judge_history.proofs.played.Played.act.Goals as goal

pub returns : goal.returns
returns c = record {
  shows = on_ok_weaker c.put.result
      (λ puts osts out lost past said ledger shown.
      act_shown osts out lost past c.args.self.now shown c.args.at c.args.who c.args.xid _ said _ c.requires.own refl
      (c.in_ok-answer.ensures.answer osts _ shown.machine
      ∙ ap (λ (o : Option Op). request_answer osts (machine_of out lost osts past) c.args.who none o)
      (c.asked-op.ensures.asked ∙ ap (λ (r : Option Request). option_map (λ q. q.op) r) (ledger.requests 0 c.args.who c.args.xid.0)))
      puts)
      c.put.ensures.put;
}
