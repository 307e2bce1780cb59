use Rattle.std.proofs.Common.{◌<◌, length, sym, subst}
use Rattle.std.proofs.lemmas.Result.{IfOk-weaker}
use Rattle.lu_spec_client.specs.Rows.{Ticks}
use Rattle.lu_run_nodes.specs.States.{NodesState}
use Rattle.lu_run_nodes.specs.Shown.{AreShown}
use Rattle.lu_run_nodes.proofs.NodesMade.{client_is_shown, client_step}
use Rattle.lu_run_nodes.proofs.nodes.Nodes.tick.Goals as goal

pub tick-requires : goal.tick-requires
tick-requires g c =
    let nodes : NodesState = record {
      clients = c.self.inside.clients.items;
      names = c.self.inside.names;
      objects =
          c.self.inside.objects.items;
    } in
    let shown = subst (λ (n : NodesState). AreShown n) (sym c.self.view_is) c.requires.shown in
    let client = c.args.client in
    let within = subst (λ (n : NodesState). client < length n.clients) (sym c.self.view_is) c.requires.one in
    record { shown = client_is_shown nodes client c.index_mut.result.now shown within c.index_mut.ensures.value }

pub returns : goal.returns
returns g c =
    let nodes : NodesState = record {
      clients = c.self.inside.clients.items;
      names = c.self.inside.names;
      objects =
          c.self.inside.objects.items;
    } in
    let client = c.args.client in
    let within = subst (λ (n : NodesState). client < length n.clients) (sym c.self.view_is) c.requires.one in
    record {
      made =
          IfOk-weaker c.tick.result _ _
          (λ step makes. client_step nodes c.args.self.now c.args.stamp c.self.view_is client c.index_mut.result.now c.tick.new.self within
          c.index_mut.ensures.value Ticks Ticks step makes) c.tick.ensures.made;
    }
