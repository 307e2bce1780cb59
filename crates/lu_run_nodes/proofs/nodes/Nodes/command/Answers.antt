use Rattle.std.proofs.Common.{◌≡◌, ◌+◌, ◌<◌, ◌≤◌, length, sym, subst, arith}
use Rattle.std.proofs.lemmas.Result.{IfOk-weaker}
use Rattle.lu_run_nodes.specs.States.{NodesState}
use Rattle.lu_run_nodes.specs.Shown.{AreShown}
use Rattle.lu_run_nodes.specs.Turns.{event_of}
use Rattle.lu_run_nodes.proofs.NodesForeseen.{names_in, object_in}
use Rattle.lu_run_nodes.proofs.NodesMade.{names_are_shown, object_is_shown, names_step, names_stops, object_step, object_stops}
use Rattle.lu_run_nodes.proofs.nodes.Nodes.command.Goals as goal

pub obey-requires : goal.obey-requires
obey-requires g c =
    let nodes : NodesState = record {
      clients = c.self.inside.clients.items;
      names = c.self.inside.names;
      objects =
          c.self.inside.objects.items;
    } in
    let shown = subst (λ (n : NodesState). AreShown n) (sym c.self.view_is) c.requires.shown in
    record { shown = names_are_shown nodes shown }

pub obey-requires-in-Some : goal.obey-requires-in-Some
obey-requires-in-Some g c =
    let nodes : NodesState = record {
      clients = c.self.inside.clients.items;
      names = c.self.inside.names;
      objects =
          c.self.inside.objects.items;
    } in
    let shown = subst (λ (n : NodesState). AreShown n) (sym c.self.view_is) c.requires.shown in
    let place = c.in-Some.place in
    let later : c.args.target.0 ≡ place + 1 = omega (arith, c.in-Some.ensures) in
    let one = subst (λ (n : NodesState). c.args.target.0 ≤ length n.objects) (sym c.self.view_is) c.requires.one in
    let within : place < length nodes.objects = omega (arith, later, one) in
    record { shown = object_is_shown nodes place c.index_mut.result.now shown within c.index_mut.ensures.value }

pub returns-in-None-clause-made : goal.returns-in-None-clause-made
returns-in-None-clause-made g c =
    let nodes : NodesState = record {
      clients = c.self.inside.clients.items;
      names = c.self.inside.names;
      objects =
          c.self.inside.objects.items;
    } in
    let first : c.args.target.0 ≡ 0 = omega (arith, c.in-None.ensures) in
    let event = event_of c.args.command in
    IfOk-weaker c.obey.result _ _ (λ step makes. names_step nodes c.args.self.now c.args.stamp c.self.view_is c.args.target.0 c.obey.new.seat
    first event event step makes) c.obey.ensures.made

pub returns-in-None-clause-failed : goal.returns-in-None-clause-failed
returns-in-None-clause-failed g c = λ step is.
    let nodes : NodesState = record {
      clients = c.self.inside.clients.items;
      names = c.self.inside.names;
      objects =
          c.self.inside.objects.items;
    } in
    let first : c.args.target.0 ≡ 0 = omega (arith, c.in-None.ensures) in
    names_stops nodes c.args.self.now c.args.stamp c.self.view_is c.args.target.0 c.obey.new.seat first (event_of c.args.command) step
    (c.obey.ensures.failed step is)

pub returns-in-Some-clause-made : goal.returns-in-Some-clause-made
returns-in-Some-clause-made g c =
    let nodes : NodesState = record {
      clients = c.self.inside.clients.items;
      names = c.self.inside.names;
      objects =
          c.self.inside.objects.items;
    } in
    let place = c.in-Some.place in
    let later : c.args.target.0 ≡ place + 1 = omega (arith, c.in-Some.ensures) in
    let one = subst (λ (n : NodesState). c.args.target.0 ≤ length n.objects) (sym c.self.view_is) c.requires.one in
    let within : place < length nodes.objects = omega (arith, later, one) in
    let event = event_of c.args.command in
    IfOk-weaker c.obey-in-Some.result _ _
    (λ step makes. object_step nodes c.args.self.now c.args.stamp c.self.view_is c.args.target.0 place c.index_mut.result.now
    c.obey-in-Some.new.seat later within c.index_mut.ensures.value event event step makes)
    c.obey-in-Some.ensures.made

pub returns-in-Some-clause-failed : goal.returns-in-Some-clause-failed
returns-in-Some-clause-failed g c = λ step is.
    let nodes : NodesState = record {
      clients = c.self.inside.clients.items;
      names = c.self.inside.names;
      objects =
          c.self.inside.objects.items;
    } in
    let place = c.in-Some.place in
    let later : c.args.target.0 ≡ place + 1 = omega (arith, c.in-Some.ensures) in
    let one = subst (λ (n : NodesState). c.args.target.0 ≤ length n.objects) (sym c.self.view_is) c.requires.one in
    let within : place < length nodes.objects = omega (arith, later, one) in
    object_stops nodes c.args.self.now c.args.stamp c.self.view_is c.args.target.0 place c.index_mut.result.now c.obey-in-Some.new.seat later
    within c.index_mut.ensures.value (event_of c.args.command) step
    (c.obey-in-Some.ensures.failed step is)

pub returns-in-None-clause-foreseen : goal.returns-in-None-clause-foreseen
returns-in-None-clause-foreseen g c = λ is tick head turns past shows.
    let nodes : NodesState = record {
      clients = c.self.inside.clients.items;
      names = c.self.inside.names;
      objects =
          c.self.inside.objects.items;
    } in
    let first : c.args.target.0 ≡ 0 = omega (arith, c.in-None.ensures) in
    c.obey.ensures.foreseen is tick head c.args.target.0 past (names_in nodes c.args.self.now c.self.view_is head turns past shows
    c.args.target.0 first)

pub returns-in-Some-clause-foreseen : goal.returns-in-Some-clause-foreseen
returns-in-Some-clause-foreseen g c = λ is tick head turns past shows.
    let nodes : NodesState = record {
      clients = c.self.inside.clients.items;
      names = c.self.inside.names;
      objects =
          c.self.inside.objects.items;
    } in
    let place = c.in-Some.place in
    let later : c.args.target.0 ≡ place + 1 = omega (arith, c.in-Some.ensures) in
    let one = subst (λ (n : NodesState). c.args.target.0 ≤ length n.objects) (sym c.self.view_is) c.requires.one in
    let within : place < length nodes.objects = omega (arith, later, one) in
    c.obey-in-Some.ensures.foreseen is tick head c.args.target.0 past
    (object_in nodes c.args.self.now c.self.view_is head turns past shows c.args.target.0 place c.index_mut.result.now later within
    c.index_mut.ensures.value)
