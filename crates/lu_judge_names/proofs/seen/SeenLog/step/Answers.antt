use Rattle.std.proofs.Common.{ap, ◌∙◌}
use Rattle.std.specs.Option.{option_map}
use Rattle.std.proofs.lemmas.Result.{on_ok_weaker}
use Rattle.lu_judge_names.specs.Seen.{logged}
use Rattle.lu_judge_names.proofs.LogLines.{txn_step, commit_step}
use Rattle.lu_judge_names.proofs.seen.SeenLog.step.Goals as goal

pub returns-in_ok-writes-in-Txn : goal.returns-in_ok-writes-in-Txn
returns-in_ok-writes-in-Txn c = record {
  shows = on_ok_weaker c.add.result
      (λ is. λ osts past ledger contents formed rises shows.
      txn_step osts (logged c.args.self.now) (logged c.add.new.self) c.in-Target.target c.in_ok-writes-in-Txn.writes past c.args.line.now.at
      c.args.line.now.entry
      c.in-Txn.txn c.in-Txn.who c.in-Txn.xid c.in-Txn.seen c.in-Txn.answer (option_map (λ o. o.now) c.asked-op.result) c.in-Target.is
      c.in-Txn.is
      (c.asked-op.ensures.asked ∙ ap (option_map (λ r. r.op)) (ledger.requests c.in-Target.target c.in-Txn.who c.in-Txn.xid.0))
      (c.in_ok-writes-in-Txn.ensures.writes osts past contents) formed is shows)
      c.add.ensures;
}

pub returns-in-Commit : goal.returns-in-Commit
returns-in-Commit c = record {
  shows = on_ok_weaker c.trim.result
      (λ is. λ osts past ledger contents formed rises shows.
      commit_step osts (logged c.args.self.now) (logged c.trim.new.self) c.in-Target.target past c.args.line.now.at c.args.line.now.entry
      c.in-Commit.number c.in-Target.is c.in-Commit.is rises is shows)
      c.trim.ensures;
}
