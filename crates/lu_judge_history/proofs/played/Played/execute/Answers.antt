-- What the machine answers is kept, and the operation is performed.
use Rattle.std.proofs.Common.{◌≡◌, Option, ap, subst, ◌∙◌}
use Rattle.std.specs.Option.{option_map}
use Rattle.std.proofs.lemmas.Result.{on_ok_weaker}
use Rattle.lu_msg.specs.declared.messages.Request.{Request}
use Rattle.lu_msg.specs.declared.operations.Op.{Op}
use Rattle.lu_posix.specs.Shown.{Shows}
use Rattle.lu_spec_laws.specs.Words.Requests.{asked}
use Rattle.lu_spec_laws.specs.Words.Histories.{names_act, after_item, request_answer, machine_of}
use Rattle.lu_judge_history.proofs.Playing.{txn_shown}
use Rattle.lu_judge_history.proofs.played.Played.execute.Goals as goal

pub returns : goal.returns
returns c = record {
  shows = on_ok_weaker c.put.result
      (λ puts osts out lost past seen said stands ledger shown.
      let asks : option_map (λ o. o.now) c.asked-op.result ≡ asked past 0 c.args.who c.args.xid.0 =
      c.asked-op.ensures.asked ∙ ap (λ (r : Option Request). option_map (λ q. q.op) r) (ledger.requests 0 c.args.who c.args.xid.0) in
      txn_shown osts out lost past c.args.self.now shown c.args.at c.args.who c.args.xid _ c.args.txn seen said _ c.requires.own stands
      (subst (λ (o : Option Op). Shows osts c.perform_names.new.machine
      (after_item osts (machine_of out lost osts past) (names_act c.args.who c.args.txn o))) asks
      (c.in_ok-answer.ensures.next osts _ shown.machine))
      (c.in_ok-answer.ensures.answer osts _ shown.machine ∙ ap (λ (o : Option Op). request_answer osts (machine_of out lost osts past)
      c.args.who c.args.txn o) asks)
      puts)
      c.put.ensures.put;
}
