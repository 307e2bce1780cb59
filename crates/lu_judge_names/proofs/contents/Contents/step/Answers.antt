use Rattle.std.proofs.Common.{ap, ◌∙◌, sym}
use Rattle.std.specs.Prelude.{◌∷◌}
use Rattle.std.specs.Option.{option_map}
use Rattle.std.proofs.lemmas.Result.{on_ok_weaker}
use Rattle.lu_judge_names.specs.Contents.{held}
use Rattle.lu_judge_names.proofs.Lines.{txn_step, evict_step, settle_step}
use Rattle.lu_judge_names.proofs.contents.Contents.step.Goals as goal

pub returns-in-Txn : goal.returns-in-Txn
returns-in-Txn c = record {
  shows = on_ok_weaker c.execute.result
      (λ is. λ osts past ledger windows shows.
      txn_step osts (held c.args.self.now) past c.args.line.now.at (sym c.is_names.ensures ∙ c.if-not-is_names.false) shows
      (held c.execute.new.self) c.args.line.now.entry
      c.in-Txn.txn c.in-Txn.who c.in-Txn.xid c.in-Txn.seen c.in-Txn.answer (option_map (λ o. o.now) c.asked.result) c.in-Txn.is
      (c.asked.ensures.asked ∙ ap (option_map (λ r. r.op)) (ledger.requests 0 c.in-Txn.who c.in-Txn.xid.0))
      (is (c.args.line.now ∷ past) windows))
      c.execute.ensures;
}

pub returns-in-Evict : goal.returns-in-Evict
returns-in-Evict c = record {
  shows = on_ok_weaker c.add.result
      (λ is. λ osts past ledger windows shows.
      evict_step osts (held c.args.self.now) past c.args.line.now.at (sym c.is_names.ensures ∙ c.if-not-is_names.false) shows
      (held c.add.new.self) c.args.line.now.entry
      c.in-Evict.who c.in-Evict.cause c.in-Evict.is is)
      c.add.ensures;
}

pub returns-in-Close : goal.returns-in-Close
returns-in-Close c = record {
  shows = on_ok_weaker c.settle.result
      (λ is. λ osts past ledger windows shows.
      settle_step osts (held c.args.self.now) past c.args.line.now.at (sym c.is_names.ensures ∙ c.if-not-is_names.false) shows
      (held c.settle.new.self) c.args.line.now.entry
      c.in-Close.is (is (c.args.line.now ∷ past) windows))
      c.settle.ensures;
}
