-- The first sending counts.
use Rattle.std.proofs.Common.{sym, ◌∙◌}
use Rattle.lu_judge_calls.proofs.Firsts.{stays, comes, same_sent}
use Rattle.lu_judge_calls.proofs.sent.Sent.add.Goals as goal

pub returns-then-contains_key : goal.returns-then-contains_key
returns-then-contains_key c = record {
  added = λ t who x.
      stays _ _ _ _ (same_sent c.args.self.now c.args.target c.args.request.now.who c.args.request.now.xid.0 t who x)
      (sym c.contains_key.ensures ∙ c.if-contains_key.true);
}

pub returns : goal.returns
returns c = record {
  added = λ t who x.
      comes _ _ _ _ _ (same_sent c.args.self.now c.args.target c.args.request.now.who c.args.request.now.xid.0 t who x)
      (sym c.contains_key.ensures ∙ c.if-contains_key.false)
      (c.in_ok-insert.ensures.updates.0 ((t, (who.client, who.life)), x));
}
