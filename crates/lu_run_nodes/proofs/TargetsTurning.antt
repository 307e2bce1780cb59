-- A step of a target is a turn of its seat, and so is a turn that is passed over.
use Rattle.std.proofs.Common.{◌≡◌, ◌≢◌, ℕ, ◌<◌, ◌||◌, nat_lt, if◌then◌else◌, Bool, true, false, List, [], ◌∷◌, Option, Some, None, Result}
use Rattle.std.proofs.Common.{Ok, Err, refl, sym, ap, subst, ◌∙◌, arith, eq-eqb}
use Rattle.std.specs.Result.{IsErrAnd}
use Rattle.lu_base.specs.Faults.{Rose}
use Rattle.lu_base.specs.declared.ids.At.{At}
use Rattle.lu_base.specs.declared.ids.Node.TheVariants.{Target}
use Rattle.lu_base.specs.declared.ids.Stamp.{Stamp}
use Rattle.lu_msg.specs.declared.commits.Batch.{Batch}
use Rattle.lu_service.specs.declared.services.Kind.{Kind}
use Rattle.lu_trace.specs.declared.entries.Entry.TheVariants as entry
use Rattle.lu_trace.specs.declared.traces.Step.{Step}
use Rattle.lu_txn.specs.Journals.{JournalState}
use Rattle.lu_spec_entries.specs.Carried.{Disk}
use Rattle.lu_spec_entries.specs.Given.{step_of}
use Rattle.lu_spec_entries.specs.Words.{Entry, Skip, Crash, Line, with_turn, is_target}
use Rattle.lu_spec_target.specs.Disks.{failing}
use Rattle.lu_spec_target.specs.Recovery.{row_boot}
use Rattle.lu_spec_target.specs.Rows.{Event, Crashes, Boots, row, when_up, most_numbers, passes, overruns}
use Rattle.lu_spec_target.specs.States.{Target as TargetOf, after, turn}
use Rattle.lu_target.specs.Journals.{ShowsBoot, ShowsDisk}
use Rattle.lu_target.specs.Windows.{State}
use Rattle.lu_spec_run.specs.Heads.{Head}
use Rattle.lu_spec_run.specs.Runs.{setting_of, target_of}
use Rattle.lu_target.specs.declared.faults.StepFault.{StepFault}
use Rattle.lu_target.specs.declared.faults.StepFault.TheVariants as step_fault
use Rattle.lu_target.specs.Repeating.{Repeats, MayComeTo, IsLeft}
use Rattle.lu_target.specs.Running.{RunningState, IsOf, IsIn, KeepsIn}
use Rattle.lu_target.specs.Running.{IsUp as IsRunning}
use Rattle.lu_target.specs.Targets.{TargetState, turn_of, HasFailed, HasStepped, IsReady, Steps}
use Rattle.lu_target.proofs.Numbers.{room_in}
use Rattle.lu_target.proofs.Repeating.{leaves, stepped_repeats}
use Rattle.lu_target.proofs.Standing.{kind_stays}
use Rattle.lu_target.proofs.Steps.{new_turn, up_in}
use Rattle.lu_target.proofs.Turning.{nothing_turns}
use Rattle.lu_proof_run.proofs.Targets.{target_own}
use Rattle.lu_run_nodes.specs.declared.faults.TurnFault.{TurnFault}
use Rattle.lu_run_nodes.specs.declared.faults.TurnFault.TheVariants as fault
use Rattle.lu_run_nodes.specs.Faults.{step_fault as given_as}
use Rattle.lu_run_nodes.specs.States.{DiskState, TargetSeat, disk_of, disk_in, faults_of}
use Rattle.lu_run_nodes.specs.Shown.{IsUp, IsDown, Stands, ShowsTarget, IsTargetShown}
use Rattle.lu_run_nodes.specs.Turns.{turn_at, one_line, TargetMakes, TargetFails}

-- ---- the target of a run after one more turn of its own

own_node : (t : ℕ) → is_target t (Target t) ≡ true
own_node t = eq-eqb t t refl

pub later : (head : Head) (t : ℕ) (past : List Line) (stamp : Stamp) (es : List Entry)
    → target_of head t (with_turn (turn_at stamp (Target t)) es past) ≡ turn (target_of head t past) es
later head t past stamp es = target_own (setting_of head t) head.clients past (turn_at stamp (Target t)) es (own_node t)

-- ---- what stands, as another past shows it

-- the state that is up or down, of which the past shows this
up_as : (head : Head) (past more : List Line) (t : ℕ) (kind : Kind) (s : TargetState) → target_of head t more ≡ target_of head t past
    → IsUp head past t kind s → IsUp head more t kind s
up_as head past more t kind s same it = record {
  up = subst (λ (v : TargetOf). v.up ≡ true) (sym same) it.up;
  id = it.id;
  unspent = it.unspent;
  sort = it.sort;
  shows = subst (IsIn s.running) (sym same) it.shows;
  repeats = subst (Repeats kind s.running) (sym same) it.repeats;
}

down_as : (head : Head) (past more : List Line) (t : ℕ) (kind : Kind) (d : DiskState) → target_of head t more ≡ target_of head t past
    → IsDown head past t kind d → IsDown head more t kind d
down_as head past more t kind d same it = record {
  down = subst (λ (v : TargetOf). v.up ≡ false) (sym same) it.down;
  some = it.some;
  left = subst (IsLeft kind d.batches) (sym same) it.left;
  counted = ap (λ (v : TargetOf). overruns v []) same ∙ it.counted;
}

stands_as : (head : Head) (past more : List Line) (t : ℕ) (kind : Kind) (target : Option TargetState) (disk : Option DiskState)
    → target_of head t more ≡ target_of head t past → Stands head past t kind target disk → Stands head more t kind target disk
stands_as head past more t kind (Some s) disk same it = up_as head past more t kind s same it
stands_as head past more t kind None (Some d) same it = down_as head past more t kind d same it
stands_as head past more t kind None None same it = it

-- a turn that leaves the target as it was
pub shown_as : (head : Head) (past more : List Line) (t : ℕ) (seat : TargetSeat) → target_of head t more ≡ target_of head t past
    → ShowsTarget head past t seat → ShowsTarget head more t seat
shown_as head past more t seat same shows = record {
  sits = shows.sits;
  stands = stands_as head past more t seat.kind seat.target seat.disk same shows.stands;
}

-- ---- a seat whose target is up, or down

pub up_in_seat : (head : Head) (past : List Line) (t : ℕ) (seat : TargetSeat) (s : TargetState) → seat.target ≡ Some s
    → ShowsTarget head past t seat → IsUp head past t seat.kind s
up_in_seat head past t seat s is shows = subst (λ (target : Option TargetState). Stands head past t seat.kind target seat.disk) is
    shows.stands

pub down_in_seat : (head : Head) (past : List Line) (t : ℕ) (seat : TargetSeat) (d : DiskState) → seat.target ≡ None → seat.disk ≡ Some d
    → ShowsTarget head past t seat → IsDown head past t seat.kind d
down_in_seat head past t seat d none is shows =
    subst (λ (disk : Option DiskState). Stands head past t seat.kind None disk) is
    (subst (λ (target : Option TargetState). Stands head past t seat.kind target seat.disk) none shows.stands)

-- a target that is down has its disk
pub has_disk : (seat : TargetSeat) → seat.target ≡ None → seat.disk ≡ None → IsTargetShown seat → ⊥
has_disk seat none lacks shown =
    let head : Head = shown.0 in
    let t : ℕ = shown.1.0 in
    let past : List Line = shown.1.1.0 in
    let shows : ShowsTarget head past t seat = shown.1.1.1 in
    subst (λ (disk : Option DiskState). Stands head past t seat.kind None disk) lacks
    (subst (λ (target : Option TargetState). Stands head past t seat.kind target seat.disk) none shows.stands)

by_down : (head : Head) (past : List Line) (t : ℕ) (kind : Kind) (disk : Option DiskState) → Stands head past t kind None disk
    → (target_of head t past).up ≡ false
by_down head past t kind (Some d) it = it.down
by_down head past t kind None it = absurd it

pub is_down : (head : Head) (past : List Line) (t : ℕ) (seat : TargetSeat) → seat.target ≡ None → ShowsTarget head past t seat
    → (target_of head t past).up ≡ false
is_down head past t seat none shows =
    by_down head past t seat.kind seat.disk
    (subst (λ (target : Option TargetState). Stands head past t seat.kind target seat.disk) none shows.stands)

-- ---- what is shown counts no further than the numbers that there are

-- whether a target of this state has counted further
abbrev pub is_over : TargetOf → Bool
is_over v = nat_lt most_numbers v.boot || (passes v.boot v.number || passes v.boot v.cookie)

pub in_room : (t : RunningState) (v : TargetOf) → IsIn t v → overruns v [] ≡ false
in_room t v it =
    let making = new_turn (turn_of 0 (record { 0 = 0 })) in
    room_in (λ _. []) t t making making (nothing_turns (λ _. []) t making (λ _ _. refl)) v it

pub is_counted : (head : Head) (past : List Line) (t : ℕ) (seat : TargetSeat) → ShowsTarget head past t seat
    → overruns (target_of head t past) [] ≡ false
is_counted head past t seat shows = by seat.target seat.disk shows.stands where
  by : (target : Option TargetState) (disk : Option DiskState) → Stands head past t seat.kind target disk
      → overruns (target_of head t past) [] ≡ false
  by (Some s) disk it = in_room s.running (target_of head t past) it.shows
  by None (Some d) it = it.counted
  by None None it = absurd it

-- ---- a target that is up

none_some : {A : Type 0} {a : A} → None ≡ Some a → ⊥
none_some is = absurd (cc)

unspent_in : (seat : TargetSeat) (s : TargetState) → seat.target ≡ Some s → IsTargetShown seat → s.spent ≡ None
unspent_in seat s is shown = IsUp.unspent (up_in_seat shown.0 shown.1.1.0 shown.1.0 seat s is shown.1.1.1)

shows_some : (seat : TargetSeat) (s : TargetState) → seat.target ≡ Some s → IsTargetShown seat → IsRunning s.running
shows_some seat s is shown = (
  target_of shown.0 shown.1.0 shown.1.1.0,
  IsUp.shows (up_in_seat shown.0 shown.1.1.0 shown.1.0 seat s is shown.1.1.1),
)

-- ---- a step

-- the target after a turn that is the same for both events
abbrev pub AreSame : (e f : Event) → Type 0
AreSame e f = (v : TargetOf) (at : At) → turn v (row v at e) ≡ turn v (row v at f)

module _ (e f : Event) (same : AreSame e f) (stamp : Stamp) (s u : TargetState) (step : Step) (may : MayComeTo e s.running)
    (id : u.id ≡ s.id) where
  module _ (steps : HasStepped e stamp s u step) (keeps : KeepsIn (λ v. row v (turn_of s.id stamp) e) s.running u.running) where
    stepped : (head : Head) (t : ℕ) (past : List Line) (kind : Kind) → IsUp head past t kind s
        → IsUp head (with_turn (turn_at stamp (Target t)) (row (target_of head t past) (turn_at stamp (Target t)) f) past) t kind u
    stepped head t past kind it =
        let v : TargetOf = target_of head t past in
        let at : At = turn_at stamp (Target t) in
        let own : Repeats s.running.server.kind s.running v = subst (λ (k : Kind). Repeats k s.running v) (sym it.sort) it.repeats in
        let shows = steps.shows v it.shows in
        let repeats = stepped_repeats e stamp s u step v it.shows own may steps keeps in
        let sort : u.running.server.kind ≡ kind = kind_stays s.running u.running v (row v (turn_of s.id stamp) e) it.shows shows ∙ it.sort
        in
        let one : turn v (row v (turn_of s.id stamp) e) ≡ turn v (row v at e) = ap (λ (i : ℕ). turn v (row v (turn_of i stamp) e)) it.id in
        let is : turn v (row v (turn_of s.id stamp) e) ≡ target_of head t (with_turn at (row v at f) past) =
        one ∙ (same v at ∙ sym (later head t past stamp (row v at f))) in
        let now = subst (IsIn u.running) is shows in
        record {
          up = up_in u.running (target_of head t (with_turn at (row v at f) past)) now;
          id = id ∙ it.id;
          unspent = steps.still;
          sort = sort;
          shows = now;
          repeats = subst (λ (k : Kind). Repeats k u.running (target_of head t (with_turn at (row v at f) past))) sort
              (subst (Repeats u.running.server.kind u.running) is repeats);
        }

    gave : (head : Head) (t : ℕ) (past : List Line) (kind : Kind) → IsUp head past t kind s
        → step ≡ step_of (turn_at stamp (Target t)) (row (target_of head t past) (turn_at stamp (Target t)) e)
    gave head t past kind it =
        let v : TargetOf = target_of head t past in
        steps.gives v it.shows ∙ ap (λ (i : ℕ). step_of (turn_of i stamp) (row v (turn_of i stamp) e)) it.id

    has_room : (head : Head) (t : ℕ) (past : List Line) (kind : Kind) → IsUp head past t kind s
        → overruns (target_of head t past) (row (target_of head t past) (turn_at stamp (Target t)) f) ≡ false
    has_room head t past kind it =
        let v : TargetOf = target_of head t past in
        ap is_over (sym (same v (turn_at stamp (Target t)))) ∙ ap (λ (i : ℕ). overruns v (row v (turn_of i stamp) e)) (sym it.id)
        ∙ steps.room v it.shows

-- ---- of a seat whose target is up

module _ (seat : TargetSeat) (stamp : Stamp) (s u : TargetState) (up : seat.target ≡ Some s) where
  step_makes : (e f : Event) → AreSame e f → MayComeTo e s.running → (step : Step) → Steps e stamp s u (Ok step)
      → TargetMakes e f stamp seat (record seat { target = Some u }) step
  step_makes e f same may step steps = record {
    gives = λ head t past shows. gave e f same stamp s u step may steps.id steps.made steps.batches head t past seat.kind
        (up_in_seat head past t seat s up shows);
    shows = λ head t past shows. record {
      sits = record { id = shows.sits.id; osts = shows.sits.osts; expire = shows.sits.expire; sort = shows.sits.sort };
      stands = stepped e f same stamp s u step may steps.id steps.made steps.batches head t past seat.kind
          (up_in_seat head past t seat s up shows);
    };
    room = λ head t past shows. has_room e f same stamp s u step may steps.id steps.made steps.batches head t past seat.kind
        (up_in_seat head past t seat s up shows);
  }

  faults_are : faults_of (disk_in seat) ≡ s.running.server.store.faults
  faults_are = ap (λ (target : Option TargetState). faults_of (disk_of target seat.disk)) up

  step_fails : (e : Event) (step : Step) → HasFailed e stamp s u step → TargetFails e stamp seat (record seat { target = Some u }) step
  step_fails e step failed = record {
    rose = subst (λ (n : ℕ). Rose n u.running.server.store.faults) (sym faults_are) failed.rose;
    gives = λ head t past shows.
        let it = up_in_seat head past t seat s up shows in
        let v : TargetOf = target_of head t past in
        (0, failed.gives v it.shows ∙ ap (λ (i : ℕ). step_of (turn_of i stamp) (failing (row v (turn_of i stamp) e) 0)) it.id);
    kept = refl;
  }

-- the disk failed, of which the seat is told so
step_disk : (error : StepFault) (step : Step) → fault.Disk step ≡ given_as error → error ≡ step_fault.Disk step
step_disk (step_fault.Disk s) step is = cc
step_disk step_fault.NumbersSpent step is = absurd (cc)
step_disk step_fault.Memory step is = absurd (cc)

-- ---- a turn that is passed over

skip_left : (head : Head) (t : ℕ) (past : List Line) (stamp : Stamp) (es : List Entry) → es ≡ Skip ∷ []
    → target_of head t (with_turn (turn_at stamp (Target t)) es past) ≡ target_of head t past
skip_left head t past stamp es is = later head t past stamp es ∙ ap (turn (target_of head t past)) is

module _ (seat : TargetSeat) (stamp : Stamp) (step : Step) (is : step ≡ one_line (turn_at stamp (Target seat.id)) entry.Skip) where
  skip_makes :
      (e : Event) → ((head : Head) (t : ℕ) (past : List Line) (at : At) → ShowsTarget head past t seat → row (target_of head t past) at e
      ≡ Skip ∷ [])
      → TargetMakes e e stamp seat seat step
  skip_makes e skips = record {
    gives = λ head t past shows.
        is ∙ (ap (λ (i : ℕ). one_line (turn_at stamp (Target i)) entry.Skip) shows.sits.id
        ∙ sym (ap (step_of (turn_at stamp (Target t))) (skips head t past (turn_at stamp (Target t)) shows)));
    shows = λ head t past shows.
        let at : At = turn_at stamp (Target t) in
        let es : List Entry = row (target_of head t past) at e in
        shown_as head past (with_turn at es past) t seat (skip_left head t past stamp es (skips head t past at shows)) shows;
    room = λ head t past shows. ap (overruns (target_of head t past)) (skips head t past (turn_at stamp (Target t)) shows)
        ∙ is_counted head past t seat shows;
  }

  -- by a target that is down
  down_makes :
      (e : Event) (rest : TargetOf → At → List Entry) → ((v : TargetOf) (at : At) → row v at e ≡ when_up v (rest v at)) → seat.target ≡ None
      → TargetMakes e e stamp seat seat step
  down_makes e rest rows none =
      skip_makes e
      (λ head t past at shows. rows (target_of head t past) at
      ∙ ap (λ (up : Bool). if up then rest (target_of head t past) at else Skip ∷ []) (is_down head past t seat none shows))

  -- a boot of one that is up
  boot_makes : (s : TargetState) → seat.target ≡ Some s → TargetMakes Boots Boots stamp seat seat step
  boot_makes s up =
      skip_makes Boots
      (λ head t past at shows. ap (λ (b : Bool). if b then Skip ∷ [] else row_boot (target_of head t past) at)
      (IsUp.up (up_in_seat head past t seat s up shows)))

-- ---- it goes down

nothing_stands : (batches : List Batch) (v : TargetOf) → ShowsDisk batches v → 0 < v.boot → batches ≢ []
nothing_stands [] v disk begun is = let none : 0 ≡ v.boot = ap (λ (d : Disk). d.boot) (sym disk.disk) ∙ disk.boot
    in omega (arith, begun, none)
nothing_stands (batch ∷ batches) v disk begun is = absurd (cc)

begun_boot : (j : JournalState) (v : TargetOf) → ShowsBoot j v → 0 < v.boot
begun_boot j v booted = subst (λ (n : ℕ). 0 < n) (sym booted.boot) booted.begun

-- the disk of a target that is up has batches
some_batches : (t : RunningState) (v : TargetOf) → IsIn t v → t.server.store.batches ≢ []
some_batches t v it = by t.window it where
  by : (o : Option State) → IsOf t.server o v → t.server.store.batches ≢ []
  by None shows = nothing_stands t.server.store.batches v shows.store.disk (begun_boot t.server.store.journal v shows.store.journal.booted)
  by (Some w) recovers =
      let store = recovers.gathers.store in
      nothing_stands t.server.store.batches v store.disk (begun_boot t.server.store.journal v store.journal.booted)

crashed : (head : Head) (t : ℕ) (past : List Line) (kind : Kind) (stamp : Stamp) (s : TargetState) (batches : List Batch) (faults : ℕ)
    → batches ≡ s.running.server.store.batches → IsUp head past t kind s
    → IsDown head (with_turn (turn_at stamp (Target t)) (row (target_of head t past) (turn_at stamp (Target t)) Crashes) past) t kind
    (record { batches = batches; faults = faults })
crashed head t past kind stamp s batches faults same it =
    let v : TargetOf = target_of head t past in
    let at : At = turn_at stamp (Target t) in
    let es : List Entry = row v at Crashes in
    let own : Repeats s.running.server.kind s.running v = subst (λ (k : Kind). Repeats k s.running v) (sym it.sort) it.repeats in
    let is : target_of head t (with_turn at es past) ≡ after v Crash =
    later head t past stamp es ∙ ap (λ (up : Bool). turn v (if up then Crash ∷ [] else Skip ∷ [])) it.up in
    record {
      down = ap (λ (w : TargetOf). w.up) is;
      some = subst (λ (b : List Batch). b ≢ []) (sym same) (some_batches s.running v it.shows);
      left =
          subst (IsLeft kind batches) (sym is)
          (subst (λ (b : List Batch). IsLeft kind b (after v Crash)) (sym same)
          (subst (λ (k : Kind). IsLeft k s.running.server.store.batches (after v Crash)) it.sort (leaves s.running v it.shows own)));
      counted = ap (λ (w : TargetOf). overruns w []) is ∙ in_room s.running v it.shows;
    }

crash_makes :
    (seat : TargetSeat) (stamp : Stamp) (s : TargetState) → seat.target ≡ Some s → (batches : List Batch) (faults : ℕ)
    → batches ≡ s.running.server.store.batches → (step : Step) → step ≡ one_line (turn_at stamp (Target seat.id)) entry.Crash
    → TargetMakes Crashes Crashes stamp seat (record seat { target = None; disk = Some (record { batches = batches; faults = faults }) })
    step
crash_makes seat stamp s up batches faults same step is = record {
  gives = λ head t past shows.
      let it = up_in_seat head past t seat s up shows in
      is ∙ (ap (λ (i : ℕ). one_line (turn_at stamp (Target i)) entry.Crash) shows.sits.id
      ∙ sym (ap (λ (b : Bool). step_of (turn_at stamp (Target t)) (if b then Crash ∷ [] else Skip ∷ [])) it.up));
  shows = λ head t past shows. record {
    sits = record { id = shows.sits.id; osts = shows.sits.osts; expire = shows.sits.expire; sort = shows.sits.sort };
    stands = crashed head t past seat.kind stamp s batches faults same (up_in_seat head past t seat s up shows);
  };
  room = λ head t past shows.
      let it = up_in_seat head past t seat s up shows in
      let v : TargetOf = target_of head t past in
      ap (λ (b : Bool). overruns v (if b then Crash ∷ [] else Skip ∷ [])) it.up ∙ in_room s.running v it.shows;
}

-- ---- a seat as it was passed

module _ (inside old : TargetSeat) (is : inside ≡ old) where
  inside_shown : IsTargetShown old → IsTargetShown inside
  inside_shown shown = subst IsTargetShown (sym is) shown

  -- of a target that is up a step may be made, and a message may be looked at
  pub unspent : (s : TargetState) → inside.target ≡ Some s → IsTargetShown old → s.spent ≡ None
  unspent s up shown = unspent_in inside s up (inside_shown shown)

  pub shows_up : (s : TargetState) → inside.target ≡ Some s → IsTargetShown old → IsRunning s.running
  shows_up s up shown = shows_some inside s up (inside_shown shown)

  pub ready : (s : TargetState) → inside.target ≡ Some s → IsTargetShown old → IsReady s
  ready s up shown = record {
    unfailed = λ failed. none_some (sym (unspent s up shown) ∙ failed);
    up = λ _. shows_up s up shown;
  }

  -- The step of a target is the turn of its seat.
  pub makes_step :
      (e f : Event) → AreSame e f → (stamp : Stamp) (s u : TargetState) → inside.target ≡ Some s → MayComeTo e s.running → (step : Step)
      → Steps e stamp s u (Ok step) → TargetMakes e f stamp old (record inside { target = Some u }) step
  makes_step e f same stamp s u up may step steps =
      subst (λ (seat : TargetSeat). TargetMakes e f stamp seat (record inside { target = Some u }) step) is
      (step_makes inside stamp s u up e f same may step steps)

  -- And so it fails.
  pub fails_step :
      (e : Event) (stamp : Stamp) (s u : TargetState) → inside.target ≡ Some s → (error : StepFault) → Steps e stamp s u (Err error)
      → (result : Result Step TurnFault) → IsErrAnd result (λ f. f ≡ given_as error) → (step : Step) → result ≡ Err (fault.Disk step)
      → TargetFails e stamp old (record inside { target = Some u }) step
  fails_step e stamp s u up error steps result given step failed =
      let told = step_disk error step (subst (λ (r : Result Step TurnFault). IsErrAnd r (λ f. f ≡ given_as error)) failed given) in
      subst (λ (seat : TargetSeat). TargetFails e stamp seat (record inside { target = Some u }) step) is
      (step_fails inside stamp s u up e step (steps.failed step (ap (λ (f : StepFault). Err f) told)))

  -- A target that is down passes it over.
  pub passes_down :
      (e : Event) (rest : TargetOf → At → List Entry) → ((v : TargetOf) (at : At) → row v at e ≡ when_up v (rest v at)) → (stamp : Stamp)
      → inside.target ≡ None → (step : Step) → step ≡ one_line (turn_at stamp (Target inside.id)) entry.Skip
      → TargetMakes e e stamp old inside step
  passes_down e rest rows stamp none step line =
      subst (λ (seat : TargetSeat). TargetMakes e e stamp seat inside step) is (down_makes inside stamp step line e rest rows none)

  -- One that is up passes a boot over.
  pub passes_boot :
      (stamp : Stamp) (s : TargetState) → inside.target ≡ Some s → (step : Step) → step
      ≡ one_line (turn_at stamp (Target inside.id)) entry.Skip
      → TargetMakes Boots Boots stamp old inside step
  passes_boot stamp s up step line =
      subst (λ (seat : TargetSeat). TargetMakes Boots Boots stamp seat inside step) is (boot_makes inside stamp step line s up)

  -- It goes down.
  pub goes_down :
      (stamp : Stamp) (s : TargetState) → inside.target ≡ Some s → (batches : List Batch) (faults : ℕ) → batches
      ≡ s.running.server.store.batches
      → (target : Option TargetState) → target ≡ None → (step : Step) → step ≡ one_line (turn_at stamp (Target inside.id)) entry.Crash
      → TargetMakes Crashes Crashes stamp old (record inside {
        target = target;
        disk =
            Some (record { batches = batches; faults = faults });
      }) step
  goes_down stamp s up batches faults same target none step line =
      subst (λ (seat : TargetSeat). TargetMakes Crashes Crashes stamp seat
      (record inside { target = target; disk = Some (record { batches = batches; faults = faults }) }) step) is
      (subst (λ (t : Option TargetState). TargetMakes Crashes Crashes stamp inside
      (record inside { target = t; disk = Some (record { batches = batches; faults = faults }) }) step) (sym none)
      (crash_makes inside stamp s up batches faults same step line))
