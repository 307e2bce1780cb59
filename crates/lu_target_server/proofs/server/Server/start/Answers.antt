-- The server over the new store shows the start.
use Rattle.std.proofs.Common.{◌≡◌, ap, ◌∙◌}
use Rattle.lu_target_store.specs.Stores.{StoreState}
use Rattle.lu_target_server.proofs.Starting.{starts}
use Rattle.lu_target_server.proofs.server.Server.start.Goals as goal

pub returns-in-Ok-clause-started : goal.returns-in-Ok-clause-started
returns-in-Ok-clause-started g c = λ setting clients is first. starts c.args.place g.S.Service.kind (g.S.Service.contents c.args.service)
    c.in-Ok.store c.over.result setting clients c.over.ensures.over is (c.in-Ok.ensures.started setting clients first)

pub returns-in-Ok-clause-stored : goal.returns-in-Ok-clause-stored
returns-in-Ok-clause-stored g c = λ clients first. ap (λ (store : StoreState). store.batches) c.over.ensures.over.stored
    ∙ c.in-Ok.ensures.stored clients first
