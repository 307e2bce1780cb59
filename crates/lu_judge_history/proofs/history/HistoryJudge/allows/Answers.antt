-- The law at a line, by what the line says.
use Rattle.std.proofs.Common.{sym, subst}
use Rattle.std.specs.Prelude.{IsTrue, ◌↔◌}
use Rattle.std.proofs.lemmas.Result.{IfOk-weaker}
use Rattle.lu_base.specs.declared.ids.Node.{Node}
use Rattle.lu_trace.specs.declared.entries.Entry.{Entry}
use Rattle.lu_spec_laws.specs.Words.Lives.{is_gone}
use Rattle.lu_spec_laws.specs.Words.Lost.{is_lost}
use Rattle.lu_spec_laws.specs.Laws.History.{ToldAt, ExecutedAt, HistoryAt}
use Rattle.lu_judge_history.specs.Shown.{whole_of}
use Rattle.lu_judge_history.proofs.Telling.{other_entry}
use Rattle.lu_judge_history.proofs.history.HistoryJudge.allows.Goals as goal

pub returns-in-Client : goal.returns-in-Client
returns-in-Client c = record {
  decided =
      IfOk-weaker c.allows_told.result _ _
      (λ holds is past shown given.
      let t = c.args.self.now in
      let at = c.args.line.now.at in
      subst (λ (e : Entry). IsTrue holds ↔ HistoryAt (is_gone (whole_of t)) (is_lost (whole_of t)) t.osts past at e) (sym c.in-Told.is)
      (subst (λ (n : Node). IsTrue holds ↔ ToldAt (is_gone (whole_of t)) (is_lost (whole_of t)) t.osts past at n c.in-Told.slot c.in-Told.at
      c.in-Told.answer) (sym c.in-Client.is)
      (is past shown given.placed.ordered given.placed.messages.order)))
      c.allows_told.ensures;
}

pub returns-in-Target-node : goal.returns-in-Target-node
returns-in-Target-node c = record {
  decided =
      IfOk-weaker c.allows_txn.result _ _
      (λ holds is past shown given.
      let t = c.args.self.now in
      let at = c.args.line.now.at in
      subst (λ (e : Entry). IsTrue holds ↔ HistoryAt (is_gone (whole_of t)) (is_lost (whole_of t)) t.osts past at e) (sym c.in-Txn.is)
      (subst (λ (n : Node). IsTrue holds ↔ ExecutedAt (is_gone (whole_of t)) (is_lost (whole_of t)) t.osts past n c.in-Txn.txn c.in-Txn.who
      c.in-Txn.xid.0) (sym c.in-Target-node.is)
      (is past shown)))
      c.allows_txn.ensures;
}

pub returns-in_default : goal.returns-in_default
returns-in_default c = record {
  decided = λ past shown given.
      let t = c.args.self.now in
      other_entry (is_gone (whole_of t)) (is_lost (whole_of t)) t.osts past c.args.line.now.at c.args.line.now.entry c.in_default.not-Told
      c.in_default.not-Txn;
}
