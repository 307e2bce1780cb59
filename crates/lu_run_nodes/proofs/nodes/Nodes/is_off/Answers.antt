use Rattle.std.proofs.Common.{◌≡◌, ◌+◌, ◌<◌, ◌≤◌, Bool, List, length, get_or, sym, subst, ap, ◌∙◌, arith}
use Rattle.std.specs.Prelude.{not}
use Rattle.lu_run_nodes.specs.States.{NodesState, TargetSeat, is_off, target_in}
use Rattle.lu_run_nodes.proofs.NodesMade.{off_at, off_past}
use Rattle.lu_run_nodes.proofs.nodes.Nodes.is_off.Goals as goal

pub returns-in-Some-get : goal.returns-in-Some-get
returns-in-Some-get g c =
    let nodes : NodesState = record {
      clients = c.self.inside.clients.items;
      names = c.self.inside.names;
      objects =
          c.self.inside.objects.items;
    } in
    let target = c.args.target.0 in
    let place = c.in-Some.place in
    let seat = c.in-Some-get.seat.now in
    let later : target ≡ place + 1 = omega (arith, c.in-Some.ensures) in
    let within = subst (λ (seats : List TargetSeat). place < length seats) c.deref.ensures.value c.in-Some-get.ensures.lookup.3.0 in
    let is = subst (λ (seats : List TargetSeat). seat ≡ get_or seats place seat) c.deref.ensures.value c.in-Some-get.ensures.lookup.1 in
    record {
      down =
          ap (λ (up : Bool). not up) c.is_up-in-Some-get.ensures.up
          ∙ sym (off_at nodes target place seat later within is)
          ∙ ap (λ (n : NodesState). is_off (target_in n target)) c.self.view_is;
    }

pub returns-in-None : goal.returns-in-None
returns-in-None g c =
    let nodes : NodesState = record {
      clients = c.self.inside.clients.items;
      names = c.self.inside.names;
      objects =
          c.self.inside.objects.items;
    } in
    let target = c.args.target.0 in
    let place = c.in-Some.place in
    let later : target ≡ place + 1 = omega (arith, c.in-Some.ensures) in
    let past = subst (λ (seats : List TargetSeat). length seats ≤ place) c.deref.ensures.value c.in-None.ensures.lookup.3 in
    record { down = sym (off_past nodes target place later past) ∙ ap (λ (n : NodesState). is_off (target_in n target)) c.self.view_is }
