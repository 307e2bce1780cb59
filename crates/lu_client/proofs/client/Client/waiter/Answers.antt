use Rattle.std.proofs.Common.{rules, ◌≡◌, List, Option, ap, ◌∙◌}
use Rattle.std.specs.Prelude.{position}
use Rattle.lu_spec_entries.specs.Carried.{Running}
use Rattle.lu_spec_client.specs.Messages.{is_waiter, waiter}
use Rattle.lu_client.specs.Clients.{ClientState}
use Rattle.lu_client.proofs.Granting.{waiter_is}
use Rattle.lu_client.proofs.client.Client.waiter.Goals as goal

pub returns : goal.returns
returns c =
    let calls : List (Option Running) = c.self.inside.calls.items in
    let first : c.first_waiter.result ≡ position (is_waiter c.args.name) calls = search rules in
    record { waiter = first ∙ waiter_is c.args.name calls ∙ ap (λ (s : ClientState). waiter c.args.name 0 s.client.calls) c.self.view_is }
