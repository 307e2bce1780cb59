-- Steps of a target, from its turns.
use Rattle.std.proofs.Common.{◌≡◌, if◌then◌else◌, Bool, true, List, [], ◌∷◌, Option, Some, None, Result, Ok, Err, OnOk, refl, sym, ap}
use Rattle.std.proofs.Common.{subst, ◌∙◌, ◌⊎◌, inl, inr}
use Rattle.std.proofs.lemmas.Result.{on_ok_weaker}
use Rattle.lu_base.specs.declared.ids.At.{At}
use Rattle.lu_base.specs.declared.ids.Node.{Node}
use Rattle.lu_base.specs.declared.ids.Stamp.{Stamp}
use Rattle.lu_msg.specs.declared.messages.Message.{Message}
use Rattle.lu_target_server.specs.LockServers.{most_ticks}
use Rattle.lu_trace.specs.declared.traces.Step.{Step}
use Rattle.lu_trace.specs.Turns.{Making, no_step}
use Rattle.lu_spec_entries.specs.Given.{step_of, giving}
use Rattle.lu_spec_entries.specs.Words.{Entry, Skip}
use Rattle.lu_spec_target.specs.Disks.{failing}
use Rattle.lu_spec_target.specs.Leaving.{row_tick}
use Rattle.lu_spec_target.specs.Rows.{Event, Comes, Ticks, overruns, row, row_takes, when_up}
use Rattle.lu_spec_target.specs.States.{Target}
use Rattle.lu_target_server.specs.Windows.{State}
use Rattle.lu_target_server.specs.declared.faults.TurnFault.{TurnFault}
use Rattle.lu_target_server.specs.declared.faults.TurnFault.TheVariants as fault
use Rattle.lu_target.specs.declared.faults.StepFault.{StepFault}
use Rattle.lu_target.specs.declared.faults.StepFault.TheVariants as step_fault
use Rattle.lu_target.specs.Faults.{step_fault_of}
use Rattle.lu_target.specs.Running.{RunningState, IsOf, IsIn, Turns, OverrunsIn, HasNoTickIn, StopsIn, KeepsIn}
use Rattle.lu_target.specs.Targets.{TargetState, turn_of, HasFailed, LacksNumber, Steps, IsEnd}
use Rattle.lu_target.proofs.Numbers.{room_in}
use Rattle.lu_target.proofs.Turning.{turns_as, stops_as, keeps_as}

-- ---- whatever is shown is up

pub up_in : (t : RunningState) (v : Target) → IsIn t v → v.up ≡ true
up_in t v it = by t.window it where
  by : (o : Option State) → IsOf t.server o v → v.up ≡ true
  by None shows = shows.sound.up
  by (Some w) shows = shows.gathers.sound.up

pub when_is : (t : RunningState) (v : Target) (rest : List Entry) → IsIn t v → rest ≡ when_up v rest
when_is t v rest it = sym (ap (λ (b : Bool). if b then rest else Skip ∷ []) (up_in t v it))

-- ---- a turn that begins

abbrev pub new_turn : At → Making
new_turn at = record { at = at; step = no_step }

pub given_in : (at : At) (after : Making) (es : List Entry) → after ≡ giving (new_turn at) es → after.step ≡ step_of at es
given_in at after es is = ap (λ (making : Making). making.step) is

-- ---- it ends

module _ (e : Event) (stamp : Stamp) (old mid : TargetState) (after : Making) (unspent : old.spent ≡ None) (same : mid.id ≡ old.id) where
  abbrev at : At
  at = turn_of old.id stamp

  abbrev own : Target → List Entry
  own v = row v at e

  none_some : (cause : TurnFault) → old.spent ≡ Some cause → ⊥
  none_some cause is = let none : None ≡ Some cause = sym unspent ∙ is in absurd (cc)

  numbers_only : (cause : TurnFault) (step : Step) → ◌≡◌ {A = Result Step StepFault} (Err (step_fault_of cause step))
      (Err step_fault.NumbersSpent) → cause ≡ fault.NumbersSpent
  numbers_only fault.Disk step is = absurd (cc)
  numbers_only fault.NumbersSpent step is = refl
  numbers_only fault.Memory step is = absurd (cc)

  made_steps : mid.spent ≡ None → Turns own old.running mid.running (new_turn at) after → KeepsIn own old.running mid.running
      → Steps e stamp old mid (Ok after.step)
  made_steps still turns keeps = record {
    made = record {
      unspent = unspent;
      still = still;
      gives = λ v it. given_in at after (own v) (turns.gives v it);
      shows = λ v it. turns.shows v it;
      room = room_in own old.running mid.running (new_turn at) after turns;
    };
    numbers = λ none is. absurd (cc);
    failed = λ step is. absurd (cc);
    spent = tt;
    batches = keeps;
    again = λ cause is. absurd (none_some cause is);
    id = same;
  }

  disk_only : (cause : TurnFault) (step : Step) (r : Result Step StepFault) → r ≡ Err (step_fault_of cause after.step) → r
      ≡ Err (step_fault.Disk step) → (cause ≡ fault.Disk) × (after.step ≡ step)
  disk_only fault.Disk step r one two = (refl, cc)
  disk_only fault.NumbersSpent step r one two = absurd (cc)
  disk_only fault.Memory step r one two = absurd (cc)

  abbrev spent_by : TurnFault → TargetState
  spent_by cause = record { id = mid.id; running = mid.running; spent = Some cause }

  stopped : (cause : TurnFault) (step : Step) → StopsIn own old.running mid.running (new_turn at) after → after.step ≡ step
      → HasFailed e stamp old (spent_by cause) step
  stopped cause step stops is = record {
    rose = stops.rose;
    gives = λ v it. sym is ∙ given_in at after (failing (own v) 0) (stops.gives v it);
  }

  failed_steps : (cause : TurnFault) → (cause ≡ fault.NumbersSpent → LacksNumber e at old.running)
      → (cause ≡ fault.Disk → StopsIn own old.running mid.running (new_turn at) after) → KeepsIn own old.running mid.running
      → Steps e stamp old (spent_by cause) (Err (step_fault_of cause after.step))
  failed_steps cause lacks stops keeps = record {
    made = tt;
    numbers = λ none is. lacks (numbers_only cause after.step is);
    failed = λ step is. let d = disk_only cause step (Err (step_fault_of cause after.step)) refl is in stopped cause step (stops d.0) d.1;
    spent = (cause, after.step, refl, refl);
    batches = keeps;
    again = λ other is. absurd (none_some other is);
    id = same;
  }

  by_end : (made : Result (Unit {0}) TurnFault) (new : TargetState) (result : Result Step StepFault) → mid.spent ≡ None
      → OnOk made (Turns own old.running mid.running (new_turn at) after) → (made ≡ Err fault.NumbersSpent → LacksNumber e at old.running)
      → (made ≡ Err fault.Disk → StopsIn own old.running mid.running (new_turn at) after)
      → KeepsIn own old.running mid.running → IsEnd made after.step mid new result → Steps e stamp old new result
  by_end (Ok done) new result still turns lacks stops keeps ends =
      subst (λ (t : TargetState). Steps e stamp old t result) (sym ends.0)
      (subst (λ (r : Result Step StepFault). Steps e stamp old mid r) (sym ends.1) (made_steps still turns keeps))
  by_end (Err cause) new result still turns lacks stops keeps ends =
      subst (λ (t : TargetState). Steps e stamp old t result) (sym ends.0)
      (subst (λ (r : Result Step StepFault). Steps e stamp old (spent_by cause) r) (sym ends.1)
      (failed_steps cause (λ is. lacks (ap (λ (c : TurnFault). Err c) is)) (λ is. stops (ap (λ (c : TurnFault). Err c) is)) keeps))

-- a turn that began, was made or not, and ended
pub ended_steps : (e : Event) (stamp : Stamp) (old mid new : TargetState) (before after : Making) (made : Result (Unit {0}) TurnFault)
    (result : Result Step StepFault)
    → old.spent ≡ None → mid.id ≡ old.id → mid.spent ≡ None → before ≡ new_turn (turn_of old.id stamp)
    → OnOk made (Turns (λ v. row v before.at e) old.running mid.running before after)
    → (made ≡ Err fault.NumbersSpent → LacksNumber e before.at old.running)
    → (made ≡ Err fault.Disk → StopsIn (λ v. row v before.at e) old.running mid.running before after)
    → KeepsIn (λ v. row v before.at e) old.running mid.running → IsEnd made after.step mid new result → Steps e stamp old new result
ended_steps e stamp old mid new before after made result unspent same still start turns lacks stops keeps ends =
    by_end e stamp old mid after unspent same made new result still
    (subst (λ (b : Making). OnOk made (Turns (λ v. row v b.at e) old.running mid.running b after)) start turns)
    (λ is. subst (λ (b : Making). LacksNumber e b.at old.running) start (lacks is))
    (λ is. subst (λ (b : Making). StopsIn (λ v. row v b.at e) old.running mid.running b after) start (stops is))
    (subst (λ (b : Making). KeepsIn (λ v. row v b.at e) old.running mid.running) start keeps) ends

-- of an event that a target which is down passes over
pub ended_up : (e : Event) (rest : Target → At → List Entry) → ((v : Target) (at : At) → row v at e ≡ when_up v (rest v at))
    → (stamp : Stamp) (old mid new : TargetState) (before after : Making) (made : Result (Unit {0}) TurnFault)
    (result : Result Step StepFault)
    → old.spent ≡ None → mid.id ≡ old.id → mid.spent ≡ None → before ≡ new_turn (turn_of old.id stamp)
    → OnOk made (Turns (λ v. rest v before.at) old.running mid.running before after)
    → (made ≡ Err fault.NumbersSpent → LacksNumber e before.at old.running)
    → (made ≡ Err fault.Disk → StopsIn (λ v. rest v before.at) old.running mid.running before after)
    → KeepsIn (λ v. rest v before.at) old.running mid.running → IsEnd made after.step mid new result → Steps e stamp old new result
ended_up e rest is stamp old mid new before after made result unspent same still start turns lacks stops keeps ends =
    let same_row : (v : Target) → IsIn old.running v → rest v before.at ≡ row v before.at e =
    (λ v it. when_is old.running v (rest v before.at) it ∙ sym (is v before.at)) in
    ended_steps e stamp old mid new before after made result unspent same still start
    (on_ok_weaker made (turns_as (λ v. rest v before.at) (λ v. row v before.at e) old.running mid.running before after same_row) turns)
    lacks
    (λ failed. stops_as (λ v. rest v before.at) (λ v. row v before.at e) old.running mid.running before after same_row (stops failed))
    (keeps_as (λ v. rest v before.at) (λ v. row v before.at e) old.running mid.running same_row keeps) ends

-- ---- a number is wanting

pub takes_lack : (from : Node) (m : Message) (now : At) (t : RunningState) → OverrunsIn (λ v. row_takes v now 0 from m) t
    → LacksNumber (Comes 0 from m) now t
takes_lack from m now t over = λ v it. inl (over v it)

tick_lacks_by : (now : At) (t : RunningState) (v : Target) → IsIn t v → (v.ticks ≡ most_ticks) ⊎ (overruns v (row_tick v now) ≡ true)
    → (overruns v (row v now Ticks) ≡ true) ⊎ ((Ticks ≡ Ticks) × (v.ticks ≡ most_ticks))
tick_lacks_by now t v it (inl none) = inr (refl, none)
tick_lacks_by now t v it (inr over) = inl (subst (λ (es : List Entry). overruns v es ≡ true) (when_is t v (row_tick v now) it) over)

pub tick_lacks : (now : At) (t : RunningState) → HasNoTickIn t ⊎ OverrunsIn (λ v. row_tick v now) t → LacksNumber Ticks now t
tick_lacks now t (inl none) = λ v it. tick_lacks_by now t v it (inl (none v it))
tick_lacks now t (inr over) = λ v it. tick_lacks_by now t v it (inr (over v it))
