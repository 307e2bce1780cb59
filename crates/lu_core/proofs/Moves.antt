-- Where the player is after a turn, and what it has come to after one in which a disk failed; what its nodes and its wire tell of where it
-- is.
use Rattle.std.proofs.Common.{◌≡◌, ◌≤◌, ◌<◌, ℕ, zero, suc, ◌+◌, ◌^◌, ◌⊎◌, nat_lt, not, Bool, true, false, List, length, get_or, Option}
use Rattle.std.proofs.Common.{Some, None, inl, inr, refl, sym, subst, ap, ◌∙◌, add-one, arith}
use Rattle.std.specs.Prelude.{is_some, nat_le, slice_get}
use Rattle.std.proofs.lemmas.Bool.Decides.{nat_tests}
use Rattle.std.proofs.lemmas.Option.{slice_get-get_or, slice_get_past, slice_get_cases}
use Rattle.lu_base.specs.Faults.{Rose}
use Rattle.lu_base.specs.declared.ids.At.{At}
use Rattle.lu_base.specs.declared.ids.Node.{Node}
use Rattle.lu_base.specs.declared.ids.Node.TheVariants.{Client, Target}
use Rattle.lu_base.specs.declared.ids.Stamp.{Stamp}
use Rattle.lu_net.specs.declared.links.Sent.{Sent as SentMessage}
use Rattle.lu_net.specs.Posts.{sent_at}
use Rattle.lu_scene.specs.declared.scene.Scene.{Scene}
use Rattle.lu_trace.specs.declared.traces.Step.{Step}
use Rattle.lu_spec_entries.specs.Words.{Line, with_turn as with_lines}
use Rattle.lu_spec_entries.specs.Given.{step_of}
use Rattle.lu_spec_target.specs.Disks.{failing}
use Rattle.lu_spec_target.specs.Rows as target
use Rattle.lu_spec_client.specs.Calls.{is_dead}
use Rattle.lu_spec_run.specs.Heads.{Head}
use Rattle.lu_spec_run.specs.Runs.{EventAt, Turn, Meets, HasNumbers, lines_of, row_at, target_of, has_failed}
use Rattle.lu_spec_run.specs.Scenarios.{Config, head_of, past_of, is_full, is_down}
use Rattle.lu_proof_run.specs.InTable.{IsOfRun, next_at}
use Rattle.lu_proof_run.specs.Steps.{IsDue, made, broken, none_failing}
use Rattle.lu_proof_run.proofs.Turning.{made_leads, broken_breaks, none_leads, full_same}
use Rattle.lu_proof_run.proofs.Strangers.{strangers_up}
use Rattle.lu_run_wire.specs.Wires.{is_full_in, ShowsWire}
use Rattle.lu_run_wire.proofs.Shown.{full_is, has_room}
use Rattle.lu_run_nodes.specs.States.{ClientSeat, DiskState, TargetSeat, NodesState, is_dead_in, is_off, is_down_in, target_in}
use Rattle.lu_run_nodes.specs.Shown.{Stands, ShowsTarget, ShowsNodes, AreShown}
use Rattle.lu_run_nodes.specs.Turns.{turn_at, NodesMake, NodesFail}
use Rattle.lu_run_nodes.specs.Foreseen.{IsForeseen}
use Rattle.lu_core.specs.Scenes.{IsOpen, AllForeseen, next_stamp}
use Rattle.lu_core.specs.States.{PlayerState}
use Rattle.lu_core.specs.Progress.{IsAt, HasFailed, HasBroken}

-- ---- what is known where the player is

-- its nodes may make turns while no limit forbids one
pub shown_at : (scene : Scene) (p : PlayerState) (c : Config) → IsAt scene p c → is_full_in p.wire ≡ false → AreShown p.nodes
shown_at scene p c at room =
    let few = (has_room p.wire room).0 in
    let turns = at.wire.turns in
    let below : length c.turns < 2 ^ 60 = omega (arith, few, turns) in
    (head_of scene.head, (length c.turns, (past_of c, below, at.nodes)))

-- its wire tells whether a limit forbids a turn
pub at_full : (scene : Scene) (p : PlayerState) (c : Config) → IsAt scene p c → is_full_in p.wire ≡ is_full c
at_full scene p c at = full_is p.wire c at.wire

-- no limit forbids the turn that is due
pub due_room : (scene : Scene) (p : PlayerState) (c from : Config) (node : Node) (event : EventAt node) → IsAt scene p c
    → IsDue scene c from node event
    → is_full_in p.wire ≡ false → is_full from ≡ false
due_room scene p c from node event at due room = full_same scene c from node event due ∙ sym (at_full scene p c at) ∙ room

-- a limit does
pub due_full : (scene : Scene) (p : PlayerState) (c from : Config) (node : Node) (event : EventAt node) → IsAt scene p c
    → IsDue scene c from node event
    → is_full_in p.wire ≡ true → is_full from ≡ true
due_full scene p c from node event at due full = full_same scene c from node event due ∙ sym (at_full scene p c at) ∙ full

-- its wire has the stamp of the turn that is due
pub due_stamp : (scene : Scene) (p : PlayerState) (c from : Config) (node : Node) (event : EventAt node) (stamp : Stamp) → IsAt scene p c
    → IsDue scene c from node event → stamp ≡ record { 0 = p.wire.turns + 1 } → stamp ≡ record { 0 = length from.turns + 1 }
due_stamp scene p c from node event stamp at due is =
    is ∙ ap (λ (n : ℕ). record { 0 = n + 1 }) (at.wire.turns ∙ ap (λ (turns : List Turn). length turns) (sym due.turns))

-- its nodes show the turns before the one that is due
pub due_shown : (scene : Scene) (p : PlayerState) (c from : Config) (node : Node) (event : EventAt node) → IsAt scene p c
    → IsDue scene c from node event
    → ShowsNodes (head_of scene.head) (length from.turns) (past_of from) p.nodes
due_shown scene p c from node event at due =
    subst (λ (turns : List Turn). ShowsNodes (head_of scene.head) (length turns) (lines_of turns) p.nodes) (sym due.turns) at.nodes

-- ---- which nodes take nothing

seat_dead : (head : Head) (turns : ℕ) (past : List Line) (nodes : NodesState) (who : ℕ) → ShowsNodes head turns past nodes
    → who < head.clients
    → is_dead_in nodes who ≡ is_dead who past
seat_dead head turns past nodes who shows one = by (slice_get_cases nodes.clients who).1
  where
    within : who < length nodes.clients
    within = subst (λ (n : ℕ). who < n) (sym shows.clients) one

    by : ((seat : ClientSeat) × (who < length nodes.clients) × (slice_get nodes.clients who ≡ Some seat)
        × (get_or nodes.clients who seat ≡ seat))
        ⊎ ((length nodes.clients ≤ who) × (slice_get nodes.clients who ≡ None)) → is_dead_in nodes who ≡ is_dead who past
    by (inl found) =
        let seat : ClientSeat = found.0 in
        ap (λ (o : Option ClientSeat). elim o [ Some s ↦ s.dead | None ↦ false ]) (slice_get-get_or nodes.clients who seat within)
        ∙ (shows.client who seat one).dead
    by (inr none) = let beyond = none.0 in let inside = within in let neither : ⊥ = omega (arith, beyond, inside) in absurd neither

pub dead_at : (scene : Scene) (p : PlayerState) (c : Config) (who : ℕ) → IsAt scene p c → who < scene.head.clients
    → is_dead_in p.nodes who ≡ is_dead who (past_of c)
dead_at scene p c who at one = seat_dead (head_of scene.head) (length c.turns) (past_of c) p.nodes who at.nodes one

seat_off : (head : Head) (past : List Line) (t : ℕ) (seat : TargetSeat) → ShowsTarget head past t seat → not (is_some seat.target)
    ≡ not (target_of head t past).up
seat_off head past t seat shows = by seat.target seat.disk shows.stands
  where
    by : (target : Option _) (disk : Option DiskState) → Stands head past t seat.kind target disk → not (is_some target)
        ≡ not (target_of head t past).up
    by (Some s) disk up = ap not (sym up.up)
    by None (Some d) down = ap not (sym down.down)
    by None None none = absurd none

target_off : (head : Head) (turns : ℕ) (past : List Line) (nodes : NodesState) (t : ℕ) → ShowsNodes head turns past nodes → t ≤ head.osts
    → is_off (target_in nodes t) ≡ not (target_of head t past).up
target_off head turns past nodes zero shows one = seat_off head past 0 nodes.names shows.names
target_off head turns past nodes (suc i) shows one =
    let seat : TargetSeat = get_or nodes.objects i nodes.names in
    let below : i < head.osts = omega (arith, one) in
    let within : i < length nodes.objects = subst (λ (n : ℕ). i < n) (sym shows.objects) below in
    ap is_off (slice_get-get_or nodes.objects i nodes.names within)
    ∙ subst (λ (t : ℕ). not (is_some seat.target) ≡ not (target_of head t past).up) (add-one i)
    (seat_off head past (i + 1) seat (shows.object i nodes.names below))

pub down_at : (scene : Scene) (p : PlayerState) (c : Config) (node : Node) → IsAt scene p c → IsOfRun (head_of scene.head) node
    → is_down_in p.nodes node ≡ is_down (head_of scene.head) none_failing node (past_of c)
down_at scene p c (Client who) at one = dead_at scene p c who at one
down_at scene p c (Target t) at one = target_off (head_of scene.head) (length c.turns) (past_of c) p.nodes t at.nodes one

-- a node that isn't of the run takes what comes
stranger_client : (scene : Scene) (p : PlayerState) (c : Config) (who : ℕ) → IsAt scene p c → (who < scene.head.clients → ⊥)
    → is_dead_in p.nodes who ≡ is_dead who (past_of c)
stranger_client scene p c who at stranger =
    let count = at.nodes.clients in
    let beyond : length p.nodes.clients ≤ who = grind (arith, nat_tests, count, stranger) in
    ap (λ (o : Option ClientSeat). elim o [ Some s ↦ s.dead | None ↦ false ]) (slice_get_past p.nodes.clients who beyond)
    ∙ sym (strangers_up scene c (Client who) at.leads stranger)

stranger_target : (scene : Scene) (p : PlayerState) (c : Config) (t : ℕ) → IsAt scene p c → (t ≤ scene.head.osts → ⊥)
    → is_off (target_in p.nodes t) ≡ is_down (head_of scene.head) none_failing (Target t) (past_of c)
stranger_target scene p c zero at stranger = absurd (stranger (omega arith))
stranger_target scene p c (suc i) at stranger =
    let count = at.nodes.objects in
    let beyond : length p.nodes.objects ≤ i = grind (arith, nat_tests, count, stranger) in
    ap is_off (slice_get_past p.nodes.objects i beyond) ∙ sym (strangers_up scene c (Target (suc i)) at.leads stranger)

-- so the player knows of any node whether it takes nothing
pub down_is : (scene : Scene) (p : PlayerState) (c : Config) (node : Node) → IsAt scene p c
    → is_down_in p.nodes node ≡ is_down (head_of scene.head) none_failing node (past_of c)
down_is scene p c (Client who) at = by (nat_lt who scene.head.clients) refl
  where
    by : (own : Bool) → nat_lt who scene.head.clients ≡ own → is_down_in p.nodes (Client who) ≡ is_dead who (past_of c)
    by true is = let one : who < scene.head.clients = grind (arith, nat_tests, is) in dead_at scene p c who at one
    by false is = stranger_client scene p c who at (λ one. grind (arith, nat_tests, is, one))
down_is scene p c (Target t) at = by (nat_le t scene.head.osts) refl
  where
    by : (own : Bool) → nat_le t scene.head.osts ≡ own → is_off (target_in p.nodes t)
        ≡ is_down (head_of scene.head) none_failing (Target t) (past_of c)
    by true is = let one : t ≤ scene.head.osts = grind (arith, nat_tests, is) in down_at scene p c (Target t) at one
    by false is = stranger_target scene p c t at (λ one. grind (arith, nat_tests, is, one))

-- ---- a turn

-- A turn that is due is made. Of a message that comes the node doesn't know the number: it makes the turn of one event, given another.
pub moved : (scene : Scene) (c from : Config) (node : Node) (given event : EventAt node) (stamp : Stamp) (p q : PlayerState) (step : Step)
    → IsAt scene p c
    → IsDue scene c from node event → is_full from ≡ false → (IsOfRun (head_of scene.head) node
    → Meets (head_of scene.head) (past_of from) node event)
    → stamp ≡ record { 0 = length from.turns + 1 } → NodesMake node given event stamp p.nodes q.nodes step
    → ShowsWire q.wire (made (head_of scene.head) from node event) → IsAt scene q (made (head_of scene.head) from node event)
moved scene c from node given event stamp p q step at due room meets stamped makes wire =
    let head = head_of scene.head in
    let past : List Line = past_of from in
    let shows = due_shown scene p c from node event at due in
    let here : turn_at stamp node ≡ next_at from node = ap (λ (s : Stamp). turn_at s node) stamped in
    let numbers : HasNumbers head past (next_at from node) node event =
    subst (λ (a : At). HasNumbers head past a node event) here (makes.room head (length from.turns) past shows) in
    let after : ShowsNodes head (length from.turns + 1) (past_of (made head from node event)) q.nodes =
    subst (λ (a : At). ShowsNodes head (length from.turns + 1) (with_lines a (row_at head past a node event) past) q.nodes) here
    (makes.shows head (length from.turns) past shows) in
    record {
      leads = made_leads scene c from node event at.leads due room (meets (makes.one head (length from.turns) past shows)) numbers;
      nodes = subst (λ (n : ℕ). ShowsNodes head n (past_of (made head from node event)) q.nodes) (add-one (length from.turns)) after;
      wire = wire;
    }

-- ---- a turn in which a disk fails

pub rose_from_none : (before now : ℕ) → Rose before now → Rose 0 now
rose_from_none before now rose = grind (arith, rose)

-- Its lines are added, and tell of it.
pub failed : (scene : Scene) (c from : Config) (t : ℕ) (given event : target.Event) (stamp : Stamp) (p q : PlayerState) (step : Step)
    → IsAt scene p c
    → IsDue scene c from (Target t) event → is_full from ≡ false → stamp ≡ record { 0 = length from.turns + 1 }
    → NodesFail t given stamp p.nodes q.nodes step
    → ((n : ℕ) → step ≡ step_of (next_at from (Target t)) (failing
    (row_at (head_of scene.head) (past_of from) (next_at from (Target t)) (Target t) given) n)
    → ShowsWire q.wire (broken (head_of scene.head) from t event n)
    × (has_failed (past_of (broken (head_of scene.head) from t event n)) ≡ true))
    → HasFailed scene t q
failed scene c from t given event stamp p q step at due room stamped fails told =
    let head = head_of scene.head in
    let past : List Line = past_of from in
    let shows = due_shown scene p c from (Target t) event at due in
    let here : turn_at stamp (Target t) ≡ next_at from (Target t) = ap (λ (s : Stamp). turn_at s (Target t)) stamped in
    let gives = fails.gives head (length from.turns) past shows in
    let n : ℕ = gives.0 in
    let both = told n (subst (λ (a : At). step ≡ step_of a (failing (row_at head past a (Target t) given) n)) here gives.1) in
    record {
      config = broken head from t event n;
      breaks = broken_breaks scene c from t event n at.leads due room (fails.one head (length from.turns) past shows) both.1;
      wire = both.0;
      rose = rose_from_none _ _ fails.rose;
      kept = fails.kept head (length from.turns) past shows;
      count = fails.count ∙ shows.objects;
    }

-- No line of the turn tells of it.
pub broke : (scene : Scene) (c : Config) (t : ℕ) (given : target.Event) (stamp : Stamp) (p q : PlayerState) (step : Step) → IsAt scene p c
    → NodesFail t given stamp p.nodes q.nodes step → HasBroken scene t q
broke scene c t given stamp p q step at fails =
    let head = head_of scene.head in
    record {
      one = fails.one head (length c.turns) (past_of c) at.nodes;
      rose = rose_from_none _ _ fails.rose;
      kept = fails.kept head (length c.turns) (past_of c) at.nodes;
      count = fails.count ∙ at.nodes.objects;
    }

-- ---- what is foreseen

pub open_at : (scene : Scene) (p : PlayerState) (c : Config) → IsAt scene p c → is_full_in p.wire ≡ false → IsOpen scene none_failing c
open_at scene p c at room = record {
  leads = none_leads scene c at.leads;
  unfailed = at.leads.unfailed;
  room = sym (at_full scene p c at)
      ∙ room;
}

-- its wire has the stamp of the next turn
pub stamp_at : (scene : Scene) (p : PlayerState) (c : Config) (stamp : Stamp) → IsAt scene p c → stamp ≡ record { 0 = p.wire.turns + 1 }
    → stamp ≡ next_stamp c
stamp_at scene p c stamp at is = is ∙ ap (λ (n : ℕ). record { 0 = n + 1 }) at.wire.turns

-- of a scenario that is foreseen each message is that may come
pub foreseen_at : (scene : Scene) (p : PlayerState) (c : Config) (n : ℕ) (m : SentMessage) (stamp : Stamp) → AllForeseen scene
    → IsAt scene p c
    → is_full_in p.wire ≡ false → sent_at c.posts n ≡ Some m → is_down_in p.nodes m.to ≡ false → stamp ≡ record { 0 = p.wire.turns + 1 }
    → IsForeseen (head_of scene.head) (past_of c) stamp m
foreseen_at scene p c n m stamp all at room stands up is =
    subst (λ (s : Stamp). IsForeseen (head_of scene.head) (past_of c) s m) (sym (stamp_at scene p c stamp at is))
    (all.messages none_failing c n m (open_at scene p c at room) stands (sym (down_is scene p c m.to at) ∙ up))
