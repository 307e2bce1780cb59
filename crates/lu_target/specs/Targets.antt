-- A target as its caller sees it: its steps, and what stands after each.
use Rattle.std.specs.Prelude.{◌≡◌, ◌≢◌, ℕ, true, false, List, [], Option, Some, None, Result, Ok, Err, IfOk, IfErr, ◌⊎◌}
use Rattle.lu_base.specs.Faults.{Rose}
use Rattle.lu_base.specs.declared.ids.At.{At}
use Rattle.lu_base.specs.declared.ids.Node.TheVariants as node
use Rattle.lu_base.specs.declared.ids.Stamp.{Stamp}
use Rattle.lu_base.specs.declared.ids.TargetId.{TargetId}
use Rattle.lu_msg.specs.declared.commits.Batch.{Batch}
use Rattle.lu_service.specs.declared.services.Kind.{Kind}
use Rattle.lu_service.specs.Contents.{Contents}
use Rattle.lu_trace.specs.declared.traces.Step.{Step}
use Rattle.lu_spec_entries.specs.Given.{step_of}
use Rattle.lu_spec_target.specs.Disks.{failing, row_start}
use Rattle.lu_spec_target.specs.Recovery.{row_boot}
use Rattle.lu_spec_target.specs.Rows.{Event, Ticks, overruns, row}
use Rattle.lu_spec_target.specs.States.{Target, turn}
use Rattle.lu_target_server.specs.declared.booting.Place.{Place}
use Rattle.lu_target_server.specs.declared.faults.TurnFault.{TurnFault}
use Rattle.lu_target_server.specs.declared.faults.TurnFault.TheVariants as fault
use Rattle.lu_target_server.specs.LockServers.{most_ticks}
use Rattle.lu_target_server.specs.Booting.{StandsOn}
use Rattle.lu_target.specs.declared.faults.StepFault.{StepFault}
use Rattle.lu_target.specs.declared.faults.StepFault.TheVariants as step_fault
use Rattle.lu_target.specs.Faults.{step_fault_of}
use Rattle.lu_target.specs.Running.{RunningState, IsIn, IsUp, KeepsIn}

-- Its number, 0 for the metadata target; its parts; and why the last step wasn't made, if it wasn't.
pub record TargetState : Type 0 where
  pub id : ℕ
  pub running : RunningState
  pub spent : Option TurnFault

abbrev pub turn_of : ℕ → Stamp → At
turn_of id stamp = record { stamp = stamp; node = node.Target id }

abbrev pub place_of : TargetId → ℕ → Place
place_of id expire = record { id = id; expire = expire }

-- It may make a step: its disk didn't fail in the last one, and unless it is spent it shows some state.
pub record IsReady (t : TargetState) : Type 0 where
  pub unfailed : t.spent ≢ Some fault.Disk
  pub up : t.spent ≡ None → IsUp t.running

-- ---- a step

-- The turn was made: it gives the row of this event, whatever state was shown, for which the boot has the numbers, and what
-- that makes of the state is shown.
pub record HasStepped (e : Event) (stamp : Stamp) (old new : TargetState) (step : Step) : Type 0 where
  pub unspent : old.spent ≡ None
  pub still : new.spent ≡ None
  pub gives : (v : Target) → IsIn old.running v → step ≡ step_of (turn_of old.id stamp) (row v (turn_of old.id stamp) e)
  pub shows : (v : Target) → IsIn old.running v → IsIn new.running (turn v (row v (turn_of old.id stamp) e))
  pub room : (v : Target) → IsIn old.running v → overruns v (row v (turn_of old.id stamp) e) ≡ false

-- The disk failed: its count rose, and the step has the row's lines up to that of it.
pub record HasFailed (e : Event) (stamp : Stamp) (old new : TargetState) (step : Step) : Type 0 where
  pub rose : Rose old.running.server.store.faults new.running.server.store.faults
  pub gives : (v : Target) → IsIn old.running v → step ≡ step_of (turn_of old.id stamp) (failing (row v (turn_of old.id stamp) e) 0)

-- In this turn the event needs a transaction number or a cookie that the boot doesn't have, whatever state is shown; or it is a
-- tick, and the boot has none left.
abbrev pub LacksNumber : Event → At → RunningState → Type 0
LacksNumber e at t = (v : Target) → IsIn t v → (overruns v (row v at e) ≡ true) ⊎ ((e ≡ Ticks) × (v.ticks ≡ most_ticks))

pub record Steps (e : Event) (stamp : Stamp) (old new : TargetState) (result : Result Step StepFault) : Type 0 where
  pub made : IfOk result (HasStepped e stamp old new)
  pub failed : (step : Step) → result ≡ Err (step_fault.Disk step) → HasFailed e stamp old new step
  -- a number was wanting
  pub numbers : old.spent ≡ None → result ≡ Err step_fault.NumbersSpent → LacksNumber e (turn_of old.id stamp) old.running
  -- after an error it is spent
  pub spent : IfErr result (λ f. (cause : TurnFault) × (step : Step) × (new.spent ≡ Some cause) × (f ≡ step_fault_of cause step))
  -- whatever the answer, the disk has what it had and the first of the row's batches
  pub batches : KeepsIn (λ v. row v (turn_of old.id stamp) e) old.running new.running
  -- once it is spent it answers so for good
  pub again : (cause : TurnFault) → old.spent ≡ Some cause → (new ≡ old) × ((step : Step) × (result ≡ Err (step_fault_of cause step)))
  pub id : new.id ≡ old.id

-- A turn ended, in which this was given.
abbrev pub IsEnd : Result (Unit {0}) TurnFault → Step → (old new : TargetState) → Result Step StepFault → Type 0
IsEnd (Ok done) step old new result = (new ≡ old) × (result ≡ Ok step)
IsEnd (Err cause) step old new result = (new ≡ record old { spent = Some cause }) × (result ≡ Err (step_fault_of cause step))

-- ---- a boot

-- The disk failed: the step is the lines of the turn up to that of it.
pub record StopsBoot (place : Place) (kind : Kind) (own : Contents) (batches : List Batch) (at : At) (step : Step) : Type 0 where
  pub start : batches ≡ [] → step ≡ step_of at (row_start true)
  pub boot : batches ≢ [] → (n : ℕ) × ((v : Target) → StandsOn place kind own batches v → step ≡ step_of at (failing (row_boot v at) n))
