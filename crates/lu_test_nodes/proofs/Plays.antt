-- A target goes on playing; and the disk that one left is one over which the next may boot.
use Rattle.std.proofs.Common.{◌≡◌, ◌≢◌, List, [], ◌∷◌, Some, None, Result, Ok, Err, refl, sym, subst, ◌∙◌}
use Rattle.std.specs.Prelude.{OnOk}
use Rattle.lu_base.specs.declared.ids.At.{At}
use Rattle.lu_base.specs.declared.ids.Stamp.{Stamp}
use Rattle.lu_msg.specs.declared.commits.Batch.{Batch}
use Rattle.lu_service.specs.declared.services.Kind.{Kind}
use Rattle.lu_service.specs.Contents.{Contents}
use Rattle.lu_trace.specs.declared.traces.Step.{Step}
use Rattle.lu_spec_entries.specs.Words.{Crash}
use Rattle.lu_spec_target.specs.Recovery.{row_boot}
use Rattle.lu_spec_target.specs.Rows.{Event, row}
use Rattle.lu_spec_target.specs.States.{Setting, Target, no_contents, first_batch, started, after, turn}
use Rattle.lu_target.specs.Shown as redo
use Rattle.lu_target.specs.Shown.{AllRepeatable}
use Rattle.lu_target.specs.Sound.{IsKindOf}
use Rattle.lu_target.specs.Booting.{IsStart, StandsOn}
use Rattle.lu_target.specs.Passing.{HasBatches}
use Rattle.lu_target.specs.Repeating.{IsLeft, MayComeTo, MayBoot}
use Rattle.lu_target.specs.Running.{IsIn, IsUp}
use Rattle.lu_target.specs.Targets.{TargetState, IsReady, Steps, place_of, turn_of}
use Rattle.lu_target.specs.declared.faults.StepFault.{StepFault}
use Rattle.lu_target.proofs.Repeating.{repeats_as, begun_repeats, booted_repeats, stepped_repeats, leaves}
use Rattle.lu_target.proofs.Standing.{setting_stays, same_kind, may_boot_left}
use Rattle.lu_test_nodes.specs.declared.runs.Run.{Run}
use Rattle.lu_test_nodes.specs.Plays.{Plays, Stood, setting_of}

-- ---- a turn

pub ready : (run : Run) (t : TargetState) → Plays run t → IsReady t
ready run t plays = record {
  unfailed = λ failed. absurd (none_some (sym plays.unspent ∙ failed));
  up = λ _. (plays.state, plays.shows);
} where
  none_some : {A : Type 0} {a : A} → None ≡ Some a → ⊥
  none_some is = absurd (cc)

pub is_up : (run : Run) (t : TargetState) → Plays run t → IsUp t.running
is_up run t plays = (plays.state, plays.shows)

pub goes_on :
    (e : Event) (stamp : Stamp) (run : Run) (old new : TargetState) (result : Result Step StepFault)
    → Steps e stamp old new result → MayComeTo e old.running → Plays run old → OnOk result (Plays run new)
goes_on e stamp run old new (Ok step) steps may plays =
    let es = row plays.state (turn_of old.id stamp) e in
    record {
      id = steps.id ∙ plays.id;
      unspent = steps.made.still;
      state = turn plays.state es;
      shows = steps.made.shows plays.state plays.shows;
      same = setting_stays es plays.state ∙ plays.same;
      repeats = stepped_repeats e stamp old new step plays.state plays.shows plays.repeats may steps.made steps.batches;
    }
goes_on e stamp run old new (Err failed) steps may plays = tt

-- ---- it goes down

of_run : (run : Run) (kind : Kind) (v : Target) → IsKindOf run.id.0 kind → v.setting ≡ setting_of run → IsKindOf v.setting.id kind
of_run run kind v sort same = subst (λ (s : Setting). IsKindOf s.id kind) (sym same) sort

pub stood : (run : Run) (kind : Kind) (t : TargetState) → IsKindOf run.id.0 kind → Plays run t
    → Stood run kind t.running.server.store.batches
stood run kind t sort plays =
    let v = plays.state in
    let is = same_kind t.running v kind plays.shows (of_run run kind v sort plays.same) in
    record {
      state = after v Crash;
      same = plays.same;
      left = subst (λ (k : Kind). IsLeft k t.running.server.store.batches (after v Crash)) is
          (leaves t.running v plays.shows plays.repeats);
    }

-- ---- a new service over such a disk

pub starts :
    (run : Run) (kind : Kind) (own : Contents) → IsKindOf run.id.0 kind → redo.Shows kind run.osts 1 own no_contents
    → IsStart (place_of run.id run.expire) kind own (setting_of run)
starts run kind own sort shows = record { id = refl; sort = sort; expire = refl; contents = shows }

boots :
    (run : Run) (kind : Kind) (own : Contents) (batches : List Batch) → IsKindOf run.id.0 kind → redo.Shows kind run.osts 1 own no_contents
    → (stood : Stood run kind batches) → MayBoot (place_of run.id run.expire) kind own batches stood.state
boots run kind own batches sort shows stood =
    may_boot_left (place_of run.id run.expire) kind own batches stood.state stood.left
    (subst (IsStart (place_of run.id run.expire) kind own) (sym stood.same) (starts run kind own sort shows))

pub stands :
    (run : Run) (kind : Kind) (own : Contents) (batches : List Batch) → IsKindOf run.id.0 kind → redo.Shows kind run.osts 1 own no_contents
    → (stood : Stood run kind batches) → StandsOn (place_of run.id run.expire) kind own batches stood.state
stands run kind own batches sort shows stood = MayBoot.stands (boots run kind own batches sort shows stood)

some_batch : (batch : Batch) (batches : List Batch) → batch ∷ batches ≢ []
some_batch batch batches is = absurd (cc)

pub stood_repeats : (run : Run) (kind : Kind) (batches : List Batch) → (batches ≢ [] → Stood run kind batches) → AllRepeatable kind batches
stood_repeats run kind [] before = tt
stood_repeats run kind (batch ∷ batches) before = IsLeft.repeatable (Stood.left (before (some_batch batch batches)))

-- ---- it begins

module _ (run : Run) (kind : Kind) (own : Contents) (at : At) (t : TargetState) (sort : IsKindOf run.id.0 kind)
    (fresh : redo.Shows kind run.osts 1 own no_contents) where
  pub begun :
      (batches : List Batch) → (batches ≢ [] → Stood run kind batches) → t.id ≡ run.id.0 → t.spent ≡ None
      → (batches ≡ [] → IsIn t.running (started (setting_of run) run.clients))
      → (batches ≡ [] → t.running.server.store.batches ≡ first_batch run.clients ∷ [])
      → (batches ≢ [] → (v : Target) → StandsOn (place_of run.id run.expire) kind own batches v → IsIn t.running (turn v (row_boot v at)))
      → (batches ≢ [] → HasBatches (StandsOn (place_of run.id run.expire) kind own batches) (λ v. row_boot v at) batches
      t.running.server.store.batches)
      → Plays run t
  begun [] before id unspent first stored next has =
      let v = started (setting_of run) run.clients in
      record {
        id = id;
        unspent = unspent;
        state = v;
        shows = first refl;
        same = refl;
        repeats = repeats_as kind t.running v (first refl) sort (begun_repeats kind (setting_of run) run.clients t.running (stored refl));
      }
  begun (batch ∷ batches) before id unspent first stored next has =
      let some = some_batch batch batches in
      let old = before some in
      let es = row_boot old.state at in
      let on = stands run kind own (batch ∷ batches) sort fresh old in
      let same = setting_stays es old.state ∙ old.same in
      let shows = next some old.state on in
      record {
        id = id;
        unspent = unspent;
        state = turn old.state es;
        shows = shows;
        same = same;
        repeats =
            repeats_as kind t.running (turn old.state es) shows (of_run run kind (turn old.state es) sort same)
            (booted_repeats (place_of run.id run.expire) kind own (batch ∷ batches) at t.running old.state (IsLeft.repeatable old.left) on
            (has some));
      }
