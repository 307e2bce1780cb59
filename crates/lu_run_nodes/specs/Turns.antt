-- The turns of a run's nodes: what each gives, and what the nodes show after it.
use Rattle.std.specs.Prelude.{◌≡◌, ℕ, ◌+◌, ◌≤◌, true, List, [], ◌∷◌, length, IsSome}
use Rattle.lu_base.specs.Faults.{Rose}
use Rattle.lu_base.specs.declared.ids.At.{At}
use Rattle.lu_base.specs.declared.ids.Node.{Node}
use Rattle.lu_base.specs.declared.ids.Node.TheVariants.{Client, Target}
use Rattle.lu_base.specs.declared.ids.Stamp.{Stamp}
use Rattle.lu_msg.specs.declared.messages.Message.{Message}
use Rattle.lu_trace.specs.declared.entries.Entry.{Entry}
use Rattle.lu_trace.specs.declared.traces.Step.{Step}
use Rattle.lu_spec_entries.specs.Words.{Line, with_turn}
use Rattle.lu_spec_entries.specs.Given.{step_of}
use Rattle.lu_spec_target.specs.Disks.{failing, row_start}
use Rattle.lu_spec_target.specs.Rows as target
use Rattle.lu_spec_client.specs.Rows as client
use Rattle.lu_spec_run.specs.Heads.{Head}
use Rattle.lu_spec_run.specs.Runs.{EventAt, row_at, HasNumbers}
use Rattle.lu_proof_run.specs.InTable.{IsOfRun}
use Rattle.lu_run_nodes.specs.declared.nodes.Command.{Command}
use Rattle.lu_run_nodes.specs.declared.nodes.Command.TheVariants as command
use Rattle.lu_run_nodes.specs.States.{ClientSeat, TargetSeat, NodesState, disk_in, disk_at, faults_of}
use Rattle.lu_run_nodes.specs.Disks.{HaveDisks}
use Rattle.lu_run_nodes.specs.Shown.{ShowsClient, ShowsTarget, ShowsNodes}

abbrev pub turn_at : Stamp → Node → At
turn_at stamp node = record { stamp = stamp; node = node }

-- a turn of one line, which sends nothing
abbrev pub one_line : At → Entry → Step
one_line at entry = record { sends = []; entries = record { at = at; entry = entry } ∷ [] }

-- a message comes to a node, which doesn't know its number
abbrev pub arrives : ℕ → Node → Message → (node : Node) → EventAt node
arrives n from m (Client c) = client.Comes n from m
arrives n from m (Target t) = target.Comes n from m

-- The turn of an event, which is given as another: of a message that comes the node doesn't know the number.

-- ---- of a client, whatever it showed

pub record ClientMakes (given event : client.Event) (stamp : Stamp) (old new : ClientSeat) (step : Step) : Type 0 where
  pub gives : (head : Head) (turns c : ℕ) (past : List Line) → ShowsClient head turns past c old
      → step ≡ step_of (turn_at stamp (Client c)) (row_at head past (turn_at stamp (Client c)) (Client c) given)
  pub shows : (head : Head) (turns c : ℕ) (past : List Line) → ShowsClient head turns past c old
      → ShowsClient head (turns + 1) (with_turn (turn_at stamp (Client c)) (row_at head past (turn_at stamp (Client c)) (Client c) event)
      past) c new

-- ---- of a target, whatever it showed

pub record TargetMakes (given event : target.Event) (stamp : Stamp) (old new : TargetSeat) (step : Step) : Type 0 where
  pub gives : (head : Head) (t : ℕ) (past : List Line) → ShowsTarget head past t old
      → step ≡ step_of (turn_at stamp (Target t)) (row_at head past (turn_at stamp (Target t)) (Target t) given)
  pub shows : (head : Head) (t : ℕ) (past : List Line) → ShowsTarget head past t old
      → ShowsTarget head (with_turn (turn_at stamp (Target t)) (row_at head past (turn_at stamp (Target t)) (Target t) event) past) t new
  pub room : (head : Head) (t : ℕ) (past : List Line) → ShowsTarget head past t old
      → HasNumbers head past (turn_at stamp (Target t)) (Target t) event

-- The disk failed: its count rose, and the step has the row's lines up to that of it.
pub record TargetFails (event : target.Event) (stamp : Stamp) (old new : TargetSeat) (step : Step) : Type 0 where
  pub rose : Rose (faults_of (disk_in old)) (faults_of (disk_in new))
  pub gives : (head : Head) (t : ℕ) (past : List Line) → ShowsTarget head past t old
      → (n : ℕ) × (step ≡ step_of (turn_at stamp (Target t)) (failing (row_at head past (turn_at stamp (Target t)) (Target t) event) n))
  pub kept : IsSome (disk_in new)

-- It didn't start: the step is the line that says so.
pub record StartFails (t : ℕ) (stamp : Stamp) (old new : TargetSeat) (step : Step) : Type 0 where
  pub rose : Rose (faults_of (disk_in old)) (faults_of (disk_in new))
  pub gives : step ≡ step_of (turn_at stamp (Target t)) (row_start true)
  pub kept : IsSome (disk_in new)

-- ---- of any node

pub record NodesMake (node : Node) (given event : EventAt node) (stamp : Stamp) (old new : NodesState) (step : Step) : Type 0 where
  pub gives : (head : Head) (turns : ℕ) (past : List Line) → ShowsNodes head turns past old
      → step ≡ step_of (turn_at stamp node) (row_at head past (turn_at stamp node) node given)
  pub shows : (head : Head) (turns : ℕ) (past : List Line) → ShowsNodes head turns past old
      → ShowsNodes head (turns + 1) (with_turn (turn_at stamp node) (row_at head past (turn_at stamp node) node event) past) new
  -- it is a node of the run, and a target has numbers left for what the turn makes
  pub one : (head : Head) (turns : ℕ) (past : List Line) → ShowsNodes head turns past old → IsOfRun head node
  pub room : (head : Head) (turns : ℕ) (past : List Line) → ShowsNodes head turns past old
      → HasNumbers head past (turn_at stamp node) node event

-- The disk of a target failed.
pub record NodesFail (t : ℕ) (event : target.Event) (stamp : Stamp) (old new : NodesState) (step : Step) : Type 0 where
  pub rose : Rose (faults_of (disk_at old t)) (faults_of (disk_at new t))
  pub gives : (head : Head) (turns : ℕ) (past : List Line) → ShowsNodes head turns past old
      → (n : ℕ) × (step ≡ step_of (turn_at stamp (Target t)) (failing (row_at head past (turn_at stamp (Target t)) (Target t) event) n))
  pub one : (head : Head) (turns : ℕ) (past : List Line) → ShowsNodes head turns past old → t ≤ head.osts
  pub kept : (head : Head) (turns : ℕ) (past : List Line) → ShowsNodes head turns past old → HaveDisks new
  pub count : length new.objects ≡ length old.objects

-- One of the run's targets didn't start.
pub record NodesFailStart (head : Head) (t : ℕ) (stamp : Stamp) (old new : NodesState) (step : Step) : Type 0 where
  pub one : t ≤ head.osts
  pub rose : Rose (faults_of (disk_at old t)) (faults_of (disk_at new t))
  pub gives : step ≡ step_of (turn_at stamp (Target t)) (row_start true)
  pub kept : HaveDisks new
  pub count : length new.objects ≡ length old.objects

-- ---- commands

abbrev pub event_of : Command → target.Event
event_of command.Tick = target.Ticks
event_of (command.Commit count) = target.Commits count
event_of command.Crash = target.Crashes
event_of command.Boot = target.Boots
event_of command.Close = target.Closes
