use Rattle.std.proofs.Common.{◌≡◌, ◌+◌, ◌<◌, ◌≤◌, length, sym, subst, arith}
use Rattle.std.proofs.lemmas.Result.{IfOk-weaker}
use Rattle.lu_spec_target.specs.Rows.{Comes}
use Rattle.lu_run_nodes.specs.States.{NodesState}
use Rattle.lu_run_nodes.specs.Shown.{AreShown}
use Rattle.lu_run_nodes.proofs.NodesForeseen.{names_in, object_in, no_object}
use Rattle.lu_run_nodes.proofs.NodesMade.{names_are_shown, object_is_shown, names_step, names_stops, object_step, object_stops}
use Rattle.lu_run_nodes.proofs.nodes.Nodes.serve.Goals as goal

pub deliver-requires : goal.deliver-requires
deliver-requires g c =
    let nodes : NodesState = record {
      clients = c.self.inside.clients.items;
      names = c.self.inside.names;
      objects =
          c.self.inside.objects.items;
    } in
    let shown = subst (λ (n : NodesState). AreShown n) (sym c.self.view_is) c.requires.shown in
    record { shown = names_are_shown nodes shown }

pub deliver-requires-2 : goal.deliver-requires-2
deliver-requires-2 g c =
    let nodes : NodesState = record {
      clients = c.self.inside.clients.items;
      names = c.self.inside.names;
      objects =
          c.self.inside.objects.items;
    } in
    let shown = subst (λ (n : NodesState). AreShown n) (sym c.self.view_is) c.requires.shown in
    let place = c.in-Some.place in
    let within : place < length nodes.objects = c.in-Some-get_mut.ensures.item.3.0 in
    record { shown = object_is_shown nodes place c.in-Some-get_mut.seat.now shown within c.in-Some-get_mut.ensures.value }

pub returns-in_default-clause-made : goal.returns-in_default-clause-made
returns-in_default-clause-made g c =
    let nodes : NodesState = record {
      clients = c.self.inside.clients.items;
      names = c.self.inside.names;
      objects =
          c.self.inside.objects.items;
    } in
    let first : c.args.target.0 ≡ 0 = omega (arith, c.in_default.ensures) in
    let message = c.args.message.now in
    IfOk-weaker c.deliver.result _ _
    (λ step makes n from. names_step nodes c.args.self.now c.args.stamp c.self.view_is c.args.target.0 c.deliver.new.self first
    (Comes 0 from message) (Comes n from message) step (makes n from))
    c.deliver.ensures.made

pub returns-in_default-clause-failed : goal.returns-in_default-clause-failed
returns-in_default-clause-failed g c = λ step is from.
    let nodes : NodesState = record {
      clients = c.self.inside.clients.items;
      names = c.self.inside.names;
      objects =
          c.self.inside.objects.items;
    } in
    let first : c.args.target.0 ≡ 0 = omega (arith, c.in_default.ensures) in
    names_stops nodes c.args.self.now c.args.stamp c.self.view_is c.args.target.0 c.deliver.new.self first (Comes 0 from c.args.message.now)
    step (c.deliver.ensures.failed step is from)

pub returns-clause-made : goal.returns-clause-made
returns-clause-made g c =
    let nodes : NodesState = record {
      clients = c.self.inside.clients.items;
      names = c.self.inside.names;
      objects =
          c.self.inside.objects.items;
    } in
    let place = c.in-Some.place in
    let later : c.args.target.0 ≡ place + 1 = omega (arith, c.in-Some.ensures) in
    let within : place < length nodes.objects = c.in-Some-get_mut.ensures.item.3.0 in
    let message = c.args.message.now in
    IfOk-weaker c.deliver-2.result _ _
    (λ step makes n from.
    object_step nodes c.args.self.now c.args.stamp c.self.view_is c.args.target.0 place c.in-Some-get_mut.seat.now c.deliver-2.new.self later
    within c.in-Some-get_mut.ensures.value
    (Comes 0 from message) (Comes n from message) step (makes n from))
    c.deliver-2.ensures.made

pub returns-clause-failed : goal.returns-clause-failed
returns-clause-failed g c = λ step is from.
    let nodes : NodesState = record {
      clients = c.self.inside.clients.items;
      names = c.self.inside.names;
      objects =
          c.self.inside.objects.items;
    } in
    let place = c.in-Some.place in
    let later : c.args.target.0 ≡ place + 1 = omega (arith, c.in-Some.ensures) in
    let within : place < length nodes.objects = c.in-Some-get_mut.ensures.item.3.0 in
    object_stops nodes c.args.self.now c.args.stamp c.self.view_is c.args.target.0 place c.in-Some-get_mut.seat.now c.deliver-2.new.self later
    within c.in-Some-get_mut.ensures.value
    (Comes 0 from c.args.message.now) step (c.deliver-2.ensures.failed step is from)

pub returns-in_default-clause-foreseen : goal.returns-in_default-clause-foreseen
returns-in_default-clause-foreseen g c = λ is head turns past from shows one.
    let nodes : NodesState = record {
      clients = c.self.inside.clients.items;
      names = c.self.inside.names;
      objects =
          c.self.inside.objects.items;
    } in
    let first : c.args.target.0 ≡ 0 = omega (arith, c.in_default.ensures) in
    c.deliver.ensures.foreseen is head c.args.target.0 past from (names_in nodes c.args.self.now c.self.view_is head turns past shows
    c.args.target.0 first)

pub returns-in_default-get_mut-clause-foreseen : goal.returns-in_default-get_mut-clause-foreseen
returns-in_default-get_mut-clause-foreseen g c = λ is head turns past from shows one takes.
    let nodes : NodesState = record {
      clients = c.self.inside.clients.items;
      names = c.self.inside.names;
      objects =
          c.self.inside.objects.items;
    } in
    let place = c.in-Some.place in
    let later : c.args.target.0 ≡ place + 1 = omega (arith, c.in-Some.ensures) in
    let beyond : length nodes.objects ≤ place = c.in_default-get_mut.ensures.item.3 in
    no_object nodes c.args.self.now c.self.view_is head turns past shows c.args.target.0 place later beyond one

pub returns-clause-foreseen : goal.returns-clause-foreseen
returns-clause-foreseen g c = λ is head turns past from shows one.
    let nodes : NodesState = record {
      clients = c.self.inside.clients.items;
      names = c.self.inside.names;
      objects =
          c.self.inside.objects.items;
    } in
    let place = c.in-Some.place in
    let later : c.args.target.0 ≡ place + 1 = omega (arith, c.in-Some.ensures) in
    let within : place < length nodes.objects = c.in-Some-get_mut.ensures.item.3.0 in
    c.deliver-2.ensures.foreseen is head c.args.target.0 past from
    (object_in nodes c.args.self.now c.self.view_is head turns past shows c.args.target.0 place c.in-Some-get_mut.seat.now later within
    c.in-Some-get_mut.ensures.value)
