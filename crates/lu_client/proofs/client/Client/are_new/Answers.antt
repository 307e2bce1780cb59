use Rattle.std.proofs.Common.{sym, ◌∙◌}
use Rattle.lu_client.proofs.Brought.{news_step, news_stop}
use Rattle.lu_client.proofs.client.Client.are_new.Goals as goal

pub returns-then-not-is_new : goal.returns-then-not-is_new
returns-then-not-is_new c =
    record {
      new = sym (news_stop c.args.target.0 c.args.locks.now c.loop-at.at _ c.args.self.now.client.store.held c.loop-at-test.true
          c.loop-at.invariant (sym c.is_new.ensures.new ∙ c.if-not-is_new.true));
    }

pub loop-at-preserved : goal.loop-at-preserved
loop-at-preserved c = news_step c.args.target.0 c.args.locks.now c.loop-at.at _ c.args.self.now.client.store.held c.loop-at-test.true
    c.loop-at.invariant (sym c.is_new.ensures.new ∙ c.if-not-is_new.false)
