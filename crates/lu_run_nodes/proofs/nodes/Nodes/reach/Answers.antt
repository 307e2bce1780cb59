use Rattle.std.proofs.Common.{◌<◌, ◌≤◌, false, length, sym, subst}
use Rattle.std.proofs.lemmas.Result.{IfOk-weaker}
use Rattle.lu_spec_client.specs.Rows.{Comes}
use Rattle.lu_run_nodes.specs.States.{NodesState}
use Rattle.lu_run_nodes.specs.Shown.{AreShown}
use Rattle.lu_run_nodes.proofs.NodesForeseen.{client_says, no_client}
use Rattle.lu_run_nodes.proofs.NodesMade.{client_is_shown, client_step}
use Rattle.lu_run_nodes.proofs.nodes.Nodes.reach.Goals as goal

pub deliver-requires : goal.deliver-requires
deliver-requires g c =
    let nodes : NodesState = record {
      clients = c.self.inside.clients.items;
      names = c.self.inside.names;
      objects =
          c.self.inside.objects.items;
    } in
    let shown = subst (λ (n : NodesState). AreShown n) (sym c.self.view_is) c.requires.shown in
    let within : c.args.client < length nodes.clients = c.in-Some.ensures.item.3.0 in
    record { shown = client_is_shown nodes c.args.client c.in-Some.seat.now shown within c.in-Some.ensures.value }

pub returns-clause-made : goal.returns-clause-made
returns-clause-made g c =
    let nodes : NodesState = record {
      clients = c.self.inside.clients.items;
      names = c.self.inside.names;
      objects =
          c.self.inside.objects.items;
    } in
    let client = c.args.client in
    let message = c.args.message.now in
    let within : client < length nodes.clients = c.in-Some.ensures.item.3.0 in
    IfOk-weaker c.deliver.result _ _
    (λ step makes n.
    client_step nodes c.args.self.now c.args.stamp c.self.view_is client c.in-Some.seat.now c.deliver.new.self within
    c.in-Some.ensures.value (Comes 0 c.args.from message) (Comes n c.args.from message)
    step (makes n))
    c.deliver.ensures.made

pub returns-in_default-clause-foreseen : goal.returns-in_default-clause-foreseen
returns-in_default-clause-foreseen g c = λ is head turns past shows below t sent.
    let nodes : NodesState = record {
      clients = c.self.inside.clients.items;
      names = c.self.inside.names;
      objects =
          c.self.inside.objects.items;
    } in
    let beyond : length nodes.clients ≤ c.args.client = c.in_default.ensures.item.3 in
    absurd (no_client nodes c.args.self.now c.self.view_is head turns past shows c.args.client beyond below)

pub returns-clause-foreseen : goal.returns-clause-foreseen
returns-clause-foreseen g c = λ is head turns past shows below t sent.
    let nodes : NodesState = record {
      clients = c.self.inside.clients.items;
      names = c.self.inside.names;
      objects =
          c.self.inside.objects.items;
    } in
    let within : c.args.client < length nodes.clients = c.in-Some.ensures.item.3.0 in
    client_says nodes c.args.self.now c.self.view_is head turns past shows c.args.client c.in-Some.seat.now within c.in-Some.ensures.value
    c.args.from c.args.message.now false
    (c.deliver.ensures.foreseen is t sent)
