use Rattle.std.proofs.Common.{◌≡◌, false, refl, sym, ap, ◌∙◌, subst}
use Rattle.std.specs.Prelude.{reverse, IsTrue, ◌↔◌}
use Rattle.std.proofs.lemmas.Result.{IfOk-weaker}
use Rattle.lu_trace.specs.declared.entries.Entry.{Entry}
use Rattle.lu_trace.specs.declared.entries.Entry.TheVariants.{Send, Txn, Commit, Back, Close}
use Rattle.lu_spec_laws.specs.Words.Lost.{is_fail}
use Rattle.lu_spec_laws.specs.Laws.Messages.{Follows}
use Rattle.lu_judge_pass.specs.Places.{InOrder}
use Rattle.lu_judge_recovery.specs.Clients.{count_of}
use Rattle.lu_judge_recovery.specs.Handing.{named, BringsNamed}
use Rattle.lu_judge_recovery.proofs.AtLines.{at_entry, at_take, at_joined}
use Rattle.lu_judge_recovery.proofs.Wholly.{failing_is}
use Rattle.lu_judge_recovery.proofs.judge.Recovery.allows_other.Goals as goal

pub returns-in-Send : goal.returns-in-Send
returns-in-Send c = record {
  decided = IfOk-weaker c.allows_sent.result _ _
      (λ holds decides past shown placed.
      at_entry (count_of c.args.self.now.greatest) c.args.self.now.known.osts past c.args.line.now c.args.later.now c.args.turn.stamp
      c.args.turn.target
      (Send _ _ c.in-Send.message) holds c.requires.here c.in-Send.is
      (decides past shown.known shown.made shown.noted placed.ordered
      (subst (λ at. Follows past at) (ap (λ l. l.at) c.requires.here) placed.messages.order)))
      c.allows_sent.ensures.decided;
}

pub returns-in-Txn : goal.returns-in-Txn
returns-in-Txn c = record {
  decided = IfOk-weaker c.allows_transaction.result _ _
      (λ holds decides past shown placed.
      at_entry (count_of c.args.self.now.greatest) c.args.self.now.known.osts past c.args.line.now c.args.later.now c.args.turn.stamp
      c.args.turn.target
      (Txn c.in-Txn.txn c.in-Txn.who c.in-Txn.xid c.in-Txn.seen c.in-Txn.answer) holds c.requires.here c.in-Txn.is
      (decides past shown.known))
      c.allows_transaction.ensures.decided;
}

pub returns-in-Commit : goal.returns-in-Commit
returns-in-Commit c = record {
  decided = λ past shown placed.
      at_entry (count_of c.args.self.now.greatest) c.args.self.now.known.osts past c.args.line.now c.args.later.now c.args.turn.stamp
      c.args.turn.target
      (Commit c.in-Commit.number) c.allows_commit.result c.requires.here c.in-Commit.is
      (c.allows_commit.ensures.decided past shown.known.windows);
}

pub returns-in-Back : goal.returns-in-Back
returns-in-Back c = record {
  decided = λ past shown placed.
      at_entry (count_of c.args.self.now.greatest) c.args.self.now.known.osts past c.args.line.now c.args.later.now c.args.turn.stamp
      c.args.turn.target
      (Back c.in-Back.who) c.allows_back.result c.requires.here c.in-Back.is
      (c.allows_back.ensures.decided past shown.known.windows shown.marks shown.returns);
}

pub returns-in-Close : goal.returns-in-Close
returns-in-Close c = record {
  decided = IfOk-weaker c.allows_close.result _ _
      (λ holds decides past shown placed.
      at_entry (count_of c.args.self.now.greatest) c.args.self.now.known.osts past c.args.line.now c.args.later.now c.args.turn.stamp
      c.args.turn.target
      Close holds c.requires.here c.in-Close.is
      (decides past shown (subst (λ at. InOrder at c.args.later.now) (ap (λ l. l.at) c.requires.here) placed.later)
      (failing_is c.args.self.now.failing (reverse c.args.self.now.lines.now) past c.args.line.now c.args.later.now c.args.turn.stamp
      c.args.turn.target shown.failing placed.whole
      (ap is_fail c.in-Close.is))))
      c.allows_close.ensures.decided;
}

pub returns-in-Take : goal.returns-in-Take
returns-in-Take c = record {
  decided = λ past shown placed.
      at_take (count_of c.args.self.now.greatest) c.args.self.now.known.osts past c.args.line.now c.args.later.now c.args.turn.stamp
      c.args.turn.target c.in-Take.field-0 c.allows_handing.result
      c.requires.here c.in-Take.is (subst (λ (e : Entry). IsTrue c.allows_handing.result
      ↔ BringsNamed c.args.turn.target past c.args.line.now c.args.later.now (named past e)) c.in-Take.is
      (c.allows_handing.ensures.decided past shown placed.later));
}

pub returns-in-Joined : goal.returns-in-Joined
returns-in-Joined c = record {
  decided = λ past shown placed.
      at_joined (count_of c.args.self.now.greatest) c.args.self.now.known.osts past c.args.line.now c.args.later.now c.args.turn.stamp
      c.args.turn.target c.in-Joined.field-0 c.allows_handing-in-Joined.result
      c.requires.here c.in-Joined.is (subst (λ (e : Entry). IsTrue c.allows_handing-in-Joined.result
      ↔ BringsNamed c.args.turn.target past c.args.line.now c.args.later.now (named past e)) c.in-Joined.is
      (c.allows_handing-in-Joined.ensures.decided past shown placed.later));
}
