use Rattle.std.proofs.Common.{true, false, not, sym, ap, ◌∙◌}
use Rattle.lu_client.proofs.Brought.{grant_is, grant_waited}
use Rattle.lu_client.proofs.client.Client.accepts_grant.Goals as goal

pub returns-then-not-has_waiter : goal.returns-then-not-has_waiter
returns-then-not-has_waiter c =
    record {
      may = sym (grant_is c.args.target.0 c.args.grant.now c.args.self.now.client false c.if-not-is_present.ensures.present
          c.if-not-has_waiter.ensures.waits);
    }

pub returns-then-not-is_held : goal.returns-then-not-is_held
returns-then-not-is_held c =
    record {
      may = sym (grant_waited c.args.target.0 c.args.grant.now c.args.self.now.client false c.if-not-is_present.ensures.present
          c.if-not-has_waiter.ensures.waits c.if-not-is_held.ensures.held);
    }

pub returns-else-not-is_held : goal.returns-else-not-is_held
returns-else-not-is_held c =
    record {
      may = ap not c.if-not-is_held.false
          ∙ sym (grant_waited c.args.target.0 c.args.grant.now c.args.self.now.client true c.if-not-is_present.ensures.present
          c.if-not-has_waiter.ensures.waits c.if-not-is_held.ensures.held);
    }
