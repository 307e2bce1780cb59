-- Before its first turn a client has asked nothing.
use Rattle.std.proofs.Common.{sym, subst}
use Rattle.lu_spec_client.specs.States.{Limits}
use Rattle.lu_client.specs.Clients.{ClientState}
use Rattle.lu_client.specs.Numbers.{HasAsked}
use Rattle.lu_client.proofs.Asked.{asked_first}
use Rattle.lu_test_nodes.proofs.clients.begin.Goals as goal

pub returns : goal.returns
returns c =
    let limits : Limits = record { osts = 1; flight = 1; dirty = 1048576; unused = 64 } in
    record { first = subst (λ (s : ClientState). HasAsked 0 s.client.imports) (sym c.in_ok-client.ensures.first) (asked_first limits 0) }
