use Rattle.std.proofs.Common.{rules, ◌≡◌, is_some, ap, ◌∙◌}
use Rattle.lu_held.specs.Held.{is_held}
use Rattle.lu_held.specs.Locks.{is_named}
use Rattle.lu_client.specs.Clients.{ClientState}
use Rattle.lu_client.proofs.Brought.{found_any}
use Rattle.lu_client.proofs.client.Client.is_held.Goals as goal

pub returns : goal.returns
returns c =
    let some : c.is_some.result ≡ is_some c.held.result = search rules in
    record {
      held = some ∙ ap is_some c.held.ensures.held ∙ found_any (is_named c.args.name) c.self.inside.store.store.held
          ∙ ap (λ (s : ClientState). is_held c.args.name s.client.store.held) c.self.view_is;
    }
