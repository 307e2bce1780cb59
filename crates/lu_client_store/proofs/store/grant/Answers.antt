-- Marked at once, it is held as one that is called back.
use Rattle.lu_client_store.proofs.Holding.{granted_marked}
use Rattle.lu_client_store.proofs.store.grant.Goals as goal

pub returns-then-marked-clause-added : goal.returns-then-marked-clause-added
returns-then-marked-clause-added c =
    granted_marked c.args.target c.args.lock.now c.args.marked c.args.held.now c.granted.new.self c.block.new.self c.requires.absent
    c.in_ok-granted.ensures.added c.block.ensures.marked c.if-marked.true
