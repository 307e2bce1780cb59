-- Each target begins over its empty disk, or the run doesn't start.
use Rattle.std.proofs.Common.{◌≡◌, ℕ, ◌+◌, ◌<◌, ◌≤◌, length, sym, subst, ap, ◌∙◌, arith}
use Rattle.std.specs.Prelude.{Err}
use Rattle.std.proofs.lemmas.List.{length-set}
use Rattle.lu_spec_target.specs.States.{lives_from}
use Rattle.lu_spec_run.specs.Heads.{Head}
use Rattle.lu_run_nodes.specs.declared.faults.TurnFault.TheVariants as fault
use Rattle.lu_run_nodes.specs.States.{NodesState}
use Rattle.lu_run_nodes.specs.Shown.{AreUnstarted}
use Rattle.lu_run_nodes.specs.Turns.{NodesFailStart}
use Rattle.lu_run_nodes.proofs.NodesMade.{with_names, with_object}
use Rattle.lu_run_nodes.proofs.StartsMade.{AreStarting, names_started, names_stop, stop_says, next_unstarted, next_started, next_stops}
use Rattle.lu_run_nodes.proofs.StartsMade.{all_started}
use Rattle.lu_run_nodes.proofs.nodes.Nodes.start.Goals as goal

pub returns-in-Err-start-clause-failed : goal.returns-in-Err-start-clause-failed
returns-in-Err-start-clause-failed g c = λ t step is head unstarted.
    let nodes : NodesState = record {
      clients = c.self.inside.clients.items;
      names = c.self.inside.names;
      objects =
          c.self.inside.objects.items;
    } in
    let before = subst (λ (n : NodesState). AreUnstarted head n) (sym c.self.view_is) unstarted in
    let why = stop_says c.stopped-in-Err-start.result t (fault.Disk step) 0 c.in-Err-start.fault is c.stopped-in-Err-start.ensures.fault in
    let fails = c.in-Err-start.ensures.failed step (ap Err why.1) head 0 before.names in
    subst (λ (k : ℕ). NodesFailStart head k (record { 0 = 1 }) c.args.self.now (with_names nodes c.start.new.self) step) why.0
    (subst (λ (n : NodesState). NodesFailStart head 0 (record { 0 = 1 }) n (with_names nodes c.start.new.self) step) c.self.view_is
    (names_stop nodes c.start.new.self (record { 0 = 1 }) step head before fails))

pub returns-in-Err-start-clause-foreseen : goal.returns-in-Err-start-clause-foreseen
returns-in-Err-start-clause-foreseen g c = λ t is.
    let why = stop_says c.stopped-in-Err-start.result t fault.Unforeseen 0 c.in-Err-start.fault is c.stopped-in-Err-start.ensures.fault in
    c.in-Err-start.ensures.foreseen (ap Err why.1)

pub loop-place-init : goal.loop-place-init
loop-place-init g c =
    let nodes : NodesState = record {
      clients = c.self.inside.clients.items;
      names = c.self.inside.names;
      objects =
          c.self.inside.objects.items;
    } in
    let lives : c.as_slice.result.now ≡ lives_from 0 (length nodes.clients) =
    cc (c.as_slice.ensures.same, c.in-Ok.ensures.lives, c.len.ensures) in
    record {
      starting =
          subst (λ (n : NodesState). AreStarting n (with_names nodes c.start.new.self) 0) c.self.view_is
          (names_started nodes c.start.new.self (λ head unstarted. c.in_default.ensures.started head 0 unstarted.names
          (lives ∙ ap (lives_from 0) unstarted.clients)));
      count = omega (arith, c.len-place-end.ensures, c.self.inside.objects.ok.0);
      few_clients = c.self.invariant.0;
      few = c.self.invariant.1;
    }

pub start-requires-in-loop-place : goal.start-requires-in-loop-place
start-requires-in-loop-place g c =
    let now : NodesState = record {
      clients = c.loop-place.self-inside.clients.items;
      names = c.loop-place.self-inside.names;
      objects =
          c.loop-place.self-inside.objects.items;
    } in
    let place = c.loop-place.place in
    let within : place < length now.objects = omega (arith, c.loop-place.invariant.count) in
    let unstarted = c.requires.unstarted in
    record {
      unstarted = (
        unstarted.0,
        (
          place + 1,
          next_unstarted c.args.self.now now place c.index_mut.result.now c.loop-place.invariant.starting
              within c.index_mut.ensures.value unstarted.0 unstarted.1,
        ),
      );
    }

pub returns-in-Err-start-2-clause-failed : goal.returns-in-Err-start-2-clause-failed
returns-in-Err-start-2-clause-failed g c = λ t step is head unstarted.
    let now : NodesState = record {
      clients = c.loop-place.self-inside.clients.items;
      names = c.loop-place.self-inside.names;
      objects =
          c.loop-place.self-inside.objects.items;
    } in
    let place = c.loop-place.place in
    let seat = c.index_mut.result.now in
    let new = c.start-in-loop-place.new.self in
    let within : place < length now.objects = omega (arith, c.loop-place.invariant.count) in
    let why = stop_says c.stopped-in-Err-start-2.result t (fault.Disk step) (place + 1) c.in-Err-start-2.fault is
    c.stopped-in-Err-start-2.ensures.fault in
    let before = next_unstarted c.args.self.now now place seat c.loop-place.invariant.starting within c.index_mut.ensures.value head
    unstarted in
    let fails = c.in-Err-start-2.ensures.failed step (ap Err why.1) head (place + 1) before in
    subst (λ (k : ℕ). NodesFailStart head k (record { 0 = 1 }) c.args.self.now (with_object now place new) step) why.0
    (next_stops c.args.self.now now place seat c.loop-place.invariant.starting within c.index_mut.ensures.value new (record { 0 = 1 }) step
    head unstarted fails)

pub returns-in-Err-start-2-clause-foreseen : goal.returns-in-Err-start-2-clause-foreseen
returns-in-Err-start-2-clause-foreseen g c = λ t is.
    let why = stop_says c.stopped-in-Err-start-2.result t fault.Unforeseen (c.loop-place.place + 1) c.in-Err-start-2.fault is
    c.stopped-in-Err-start-2.ensures.fault in
    c.in-Err-start-2.ensures.foreseen (ap Err why.1)

pub loop-place-preserved : goal.loop-place-preserved
loop-place-preserved g c =
    let nodes : NodesState = record {
      clients = c.self.inside.clients.items;
      names = c.self.inside.names;
      objects =
          c.self.inside.objects.items;
    } in
    let now : NodesState = record {
      clients = c.loop-place.self-inside.clients.items;
      names = c.loop-place.self-inside.names;
      objects =
          c.loop-place.self-inside.objects.items;
    } in
    let place = c.loop-place.place in
    let seat = c.index_mut.result.now in
    let new = c.start-in-loop-place.new.self in
    let within : place < length now.objects = omega (arith, c.loop-place.invariant.count) in
    let lives : c.as_slice-in-loop-place.result.now ≡ lives_from 0 (length nodes.clients) =
    cc (c.as_slice-in-loop-place.ensures.same, c.in-Ok.ensures.lives, c.len.ensures) in
    let clients = λ (head : Head) (unstarted : AreUnstarted head c.args.self.now).
    (subst (λ (n : NodesState). AreUnstarted head n) (sym c.self.view_is) unstarted).clients in
    let same = length-set now.objects place new in
    record {
      starting =
          next_started c.args.self.now now place seat c.loop-place.invariant.starting within c.index_mut.ensures.value new
          (λ head before unstarted. c.in_default-start.ensures.started head (place + 1) before
          (lives ∙ ap (lives_from 0) (clients head unstarted)));
      count = same ∙ c.loop-place.invariant.count;
      few_clients = c.loop-place.invariant.few_clients;
      few = subst (λ (n : ℕ). n ≤ 8) (sym same) c.loop-place.invariant.few;
    }

pub returns-clause-started : goal.returns-clause-started
returns-clause-started g c = λ head unstarted.
    let now : NodesState = record {
      clients = c.loop-place.self-inside.clients.items;
      names = c.loop-place.self-inside.names;
      objects =
          c.loop-place.self-inside.objects.items;
    } in
    let all : c.loop-place.place ≡ length now.objects = omega (arith, c.loop-place.invariant.count) in
    all_started c.args.self.now now (subst (λ (k : ℕ). AreStarting c.args.self.now now k) all c.loop-place.invariant.starting) head
    unstarted
