use Rattle.std.proofs.Common.{sym, ◌∙◌}
use Rattle.lu_held.specs.Locks.{named}
use Rattle.lu_client.proofs.Granting.{found_waits}
use Rattle.lu_client.proofs.client.Client.take_grant.Goals as goal

pub grant_to-requires-clause-waits : goal.grant_to-requires-clause-waits
grant_to-requires-clause-waits c =
    (found_waits (named c.args.target c.args.grant.now.cookie) c.args.self.now.client.calls c.in-Some.slot
    (sym c.waiter.ensures.waiter ∙ c.in-Some.is)).1
