-- What the player has come to before the first line: all targets started, or the disk of one failed.
use Rattle.std.proofs.Common.{◌≡◌, ℕ, ◌+◌, true, List, [], sym, subst, ap, ◌∙◌, arith}
use Rattle.lu_base.specs.declared.ids.At.{At}
use Rattle.lu_base.specs.declared.ids.Node.TheVariants.{Target}
use Rattle.lu_base.specs.declared.ids.TargetId.{TargetId}
use Rattle.lu_scene.specs.declared.scene.Scene.{Scene}
use Rattle.lu_scene.specs.declared.scene.SceneLine.{SceneLine}
use Rattle.lu_trace.specs.declared.traces.Step.{Step}
use Rattle.lu_spec_entries.specs.Words.{Entry}
use Rattle.lu_spec_entries.specs.Given.{step_of}
use Rattle.lu_spec_target.specs.Disks.{row_start}
use Rattle.lu_spec_run.specs.Runs.{Turn}
use Rattle.lu_spec_run.specs.Scenarios.{Config, head_of, with_turn}
use Rattle.lu_proof_run.specs.Steps.{before}
use Rattle.lu_proof_run.proofs.Turning.{first_leads, start_breaks}
use Rattle.lu_run_wire.specs.Wires.{WireState, ShowsWire, empty_wire}
use Rattle.lu_run_wire.proofs.Shown.{first_shows}
use Rattle.lu_run_nodes.specs.declared.faults.StartFault.{StartFault}
use Rattle.lu_run_nodes.specs.declared.faults.TurnFault.{TurnFault}
use Rattle.lu_run_nodes.specs.States.{NodesState}
use Rattle.lu_run_nodes.specs.Shown.{ShowsNodes}
use Rattle.lu_run_nodes.specs.Turns.{turn_at, NodesFailStart}
use Rattle.lu_core.specs.States.{PlayerState}
use Rattle.lu_core.specs.Progress.{IsAt, HasFailed, HasFailedStart}
use Rattle.lu_core.specs.Played.{IsStarting}
use Rattle.lu_core.proofs.Moves.{rose_from_none}

first_shown : (scene : Scene) (w : WireState) → w ≡ empty_wire → ShowsWire w (before scene)
first_shown scene w empty = subst (λ (v : WireState). ShowsWire v (before scene)) (sym empty) (first_shows scene.lines)

-- all targets started
pub begun : (scene : Scene) (lines : List SceneLine) (p : PlayerState) (nodes : NodesState) → IsStarting scene lines p
    → ShowsNodes (head_of scene.head) 0 [] nodes
    → IsAt scene (record { nodes = nodes; wire = p.wire }) (before scene)
begun scene lines p nodes starting shows =
    record { leads = first_leads scene starting.limits; nodes = shows; wire = first_shown scene p.wire starting.wire }

-- the disk of one failed
pub start_failed : (scene : Scene) (lines : List SceneLine) (t : ℕ) (step : Step) (p : PlayerState) (nodes : NodesState)
    → IsStarting scene lines p
    → NodesFailStart (head_of scene.head) t (record { 0 = 1 }) p.nodes nodes step
    → HasFailedStart scene t step (record { nodes = nodes; wire = p.wire })
start_failed scene lines t step p nodes starting fails =
    record {
      limits = starting.limits;
      one = fails.one;
      gives = fails.gives;
      rose = rose_from_none _ _ fails.rose;
      kept = fails.kept;
      count = fails.count ∙ starting.nodes.objects;
    }

-- its line is added
pub start_ends : (scene : Scene) (t : ℕ) (step : Step) (p : PlayerState) (wire : WireState) (here : At) → p.wire ≡ empty_wire
    → here ≡ turn_at (record { 0 = p.wire.turns + 1 }) (Target t) → HasFailedStart scene t step p
    → ((d : Config) (es : List Entry) → ShowsWire p.wire d → step ≡ step_of here es
    → ShowsWire wire (with_turn d (record { at = here; entries = es })))
    → HasFailed scene t (record { nodes = p.nodes; wire = wire })
start_ends scene t step p wire here empty is fails adds =
    let turn : Turn = record { at = turn_at (record { 0 = 1 }) (Target t); entries = row_start true } in
    let there : here ≡ turn_at (record { 0 = 1 }) (Target t) = is
    ∙ ap (λ (w : WireState). turn_at (record { 0 = w.turns + 1 }) (Target t)) empty in
    let adds2 = subst (λ (a : At). (d : Config) (es : List Entry) → ShowsWire p.wire d → step ≡ step_of a es
    → ShowsWire wire (with_turn d (record { at = a; entries = es }))) there adds in
    record {
      config = with_turn (before scene) turn;
      breaks = start_breaks scene t fails.limits fails.one;
      wire = adds2 (before scene) (row_start true) (first_shown scene p.wire empty) fails.gives;
      rose = fails.rose;
      kept = fails.kept;
      count = fails.count;
    }

-- a start that failed, by its target and why
pub fault_of : (failed : StartFault) (target : TargetId) (fault : TurnFault) → failed.target ≡ target → failed.fault ≡ fault
    → failed ≡ record { target = target; fault = fault }
fault_of failed target fault same is = grind arith
