-- The lock is on the object.
use Rattle.std.proofs.Common.{◌≡◌, rules}
use Rattle.std.proofs.lemmas.Result.{IfOk-weaker}
use Rattle.lu_client_store.proofs.FirstFlush.{flush_here}
use Rattle.lu_client_store.proofs.store.Store.take_flush_of.Goals as goal

pub returns-clause-back : goal.returns-clause-back
returns-clause-back c =
    let here : c.args.held.now.lock.resource ≡ c.args.resource = search rules in
    IfOk-weaker c.take_flush_under.result _ _ (λ back is others. flush_here c.args.resource c.args.self.now.store.patches c.args.held.now
    back here is others) c.take_flush_under.ensures.back
