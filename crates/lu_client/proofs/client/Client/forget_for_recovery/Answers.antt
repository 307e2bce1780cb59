use Rattle.std.proofs.Common.{sym, ◌∙◌}
use Rattle.lu_client.proofs.Recovering.{forgot}
use Rattle.lu_client.proofs.client.Client.forget_for_recovery.Goals as goal

pub returns : goal.returns
returns c =
    record {
      forgets = λ making. forgot c.args.target.0 c.args.self.now c.unmark_locks.new.self c.forget_asks.new.self making
          (sym c.is_joining_at.ensures.joining ∙ c.if-is_joining_at.false) c.unmark_locks.ensures.unmarked
          (c.forget_asks.ensures.forgets making);
    }
