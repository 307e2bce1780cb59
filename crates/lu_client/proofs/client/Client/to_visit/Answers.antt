use Rattle.std.proofs.Common.{sym, ap, ◌∙◌}
use Rattle.std.proofs.lemmas.Result.{IfOk-weaker}
use Rattle.lu_held.specs.Held.{in_order}
use Rattle.lu_spec_client.specs.Locks.{visits_all}
use Rattle.lu_client.specs.Clients.{ClientState}
use Rattle.lu_client.proofs.Visiting.{ready_visited}
use Rattle.lu_client.proofs.client.Client.to_visit.Goals as goal

pub returns : goal.returns
returns c =
    record {
      visits = IfOk-weaker c.ready.result _ _
          (λ locks same k. ap (λ (s : ClientState). visits_all c.args.over (in_order s.client.store.held) k) (sym c.self.view_is)
          ∙ ready_visited c.args.over (in_order c.self.inside.store.store.held) locks.items c.if-over.false same k)
          c.ready.ensures.ready;
    }
