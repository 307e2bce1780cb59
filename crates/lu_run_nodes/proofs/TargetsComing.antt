-- A target comes up over its disk: it begins its run, or it boots.
use Rattle.std.proofs.Common.{◌≡◌, ◌≢◌, ℕ, zero, suc, if◌then◌else◌, Bool, true, false, List, [], ◌∷◌, Option, Some, None, Result, Err}
use Rattle.std.proofs.Common.{refl, sym, ap, subst, ◌∙◌, ◌⊎◌, inl, inr, arith}
use Rattle.std.proofs.lemmas.Bool.Decides.{nat_tests}
use Rattle.std.specs.Option.{option_map}
use Rattle.std.specs.Result.{IsErrAnd}
use Rattle.lu_base.specs.Faults.{Rose}
use Rattle.lu_base.specs.declared.ids.At.{At}
use Rattle.lu_base.specs.declared.ids.Node.TheVariants.{Target}
use Rattle.lu_base.specs.declared.ids.Stamp.{Stamp}
use Rattle.lu_base.specs.declared.ids.Who.{Who}
use Rattle.lu_msg.specs.declared.commits.Batch.{Batch}
use Rattle.lu_service.specs.declared.services.Kind.{Kind}
use Rattle.lu_service.specs.Contents.{Contents}
use Rattle.lu_target.specs.StoreCommits.{last_boot, most_boots}
use Rattle.lu_trace.specs.declared.traces.Step.{Step}
use Rattle.lu_spec_entries.specs.Given.{step_of}
use Rattle.lu_spec_entries.specs.Words.{Entry, Skip, Line, with_turn}
use Rattle.lu_spec_target.specs.Disks.{failing, row_start}
use Rattle.lu_spec_target.specs.Recovery.{row_boot}
use Rattle.lu_spec_target.specs.Rows.{Boots, row, overruns}
use Rattle.lu_spec_target.specs.States.{Setting, Target as TargetOf, first_batch, lives_from, no_contents, started, turn}
use Rattle.lu_target.specs.Shown as redo
use Rattle.lu_target.specs.Shown.{AllRepeatable}
use Rattle.lu_target.specs.Sound.{IsKindOf}
use Rattle.lu_target.specs.Place.{Place}
use Rattle.lu_target.specs.Booting.{IsStart, StandsOn}
use Rattle.lu_target.specs.Passing.{HasBatches}
use Rattle.lu_spec_run.specs.Heads.{Head}
use Rattle.lu_spec_run.specs.Runs.{setting_of, target_of}
use Rattle.lu_target.specs.declared.faults.BootFault.{BootFault}
use Rattle.lu_target.specs.declared.faults.BootFault.TheVariants as boot_fault
use Rattle.lu_target.specs.Repeating.{IsLeft, MayBoot, Repeats}
use Rattle.lu_target.specs.Running.{RunningState, IsIn}
use Rattle.lu_target.specs.Targets.{TargetState, place_of, turn_of, StopsBoot}
use Rattle.lu_target.proofs.Repeating.{begun_repeats, booted_repeats}
use Rattle.lu_target.proofs.Standing.{setting_stays, same_kind, may_boot_left}
use Rattle.lu_target.proofs.Steps.{up_in}
use Rattle.lu_run_nodes.specs.declared.faults.TurnFault.{TurnFault}
use Rattle.lu_run_nodes.specs.declared.faults.TurnFault.TheVariants as fault
use Rattle.lu_run_nodes.specs.Faults.{boot_fault as given_as}
use Rattle.lu_run_nodes.specs.States.{DiskState, TargetSeat, with_disk}
use Rattle.lu_run_nodes.specs.Shown.{IsUp, IsDown, IsSeat, IsTargetShown, IsTargetUnstarted, IsUnstarted, ShowsTarget, kind_of}
use Rattle.lu_run_nodes.specs.Turns.{turn_at, StartFails, TargetFails, TargetMakes}
use Rattle.lu_run_nodes.proofs.TargetsTurning.{in_room, later}

-- ---- the kind of its service

kind_is : (t : ℕ) → IsKindOf t (kind_of t)
kind_is zero = refl
kind_is (suc t) = grind (arith, nat_tests)

-- ---- what `boot` gives of a target that came up, and of one that didn't

abbrev pub Begins : Place → Kind → Contents → List Batch → At → List Who → Step → RunningState → Type 0
Begins place kind own batches at lives step t =
    batches ≡ [] → (setting : Setting) (clients : ℕ) → IsStart place kind own setting → lives ≡ lives_from 0 clients
    → (step ≡ step_of at []) × IsIn t (started setting clients)

abbrev pub Stores : List Batch → List Who → RunningState → Type 0
Stores batches lives t = batches ≡ [] → (clients : ℕ) → lives ≡ lives_from 0 clients → t.server.store.batches ≡ first_batch clients ∷ []

abbrev pub ComesUp : Place → Kind → Contents → List Batch → At → Step → RunningState → Type 0
ComesUp place kind own batches at step t =
    batches ≢ [] → (v : TargetOf) → StandsOn place kind own batches v → (step ≡ step_of at (row_boot v at))
    × IsIn t (turn v (row_boot v at))

abbrev pub Keeps : Place → Kind → Contents → List Batch → At → RunningState → Type 0
Keeps place kind own batches at t = batches ≢ [] → HasBatches (StandsOn place kind own batches) (λ v. row_boot v at) batches
    t.server.store.batches

abbrev pub Stops : Place → Kind → Contents → List Batch → At → (faults more : ℕ) → BootFault → Type 0
Stops place kind own batches at faults more error =
    (step : Step) → error ≡ boot_fault.Disk step → Rose faults more × StopsBoot place kind own batches at step

-- the disk failed, of which the seat is told so
boot_disk : (error : BootFault) (step : Step) → fault.Disk step ≡ given_as error → error ≡ boot_fault.Disk step
boot_disk (boot_fault.Disk s) step is = cc
boot_disk boot_fault.BootsSpent step is = absurd (cc)
boot_disk boot_fault.Memory step is = absurd (cc)

-- no boot is left, of which the seat is told so
boot_spent : (error : BootFault) → fault.Unforeseen ≡ given_as error → error ≡ boot_fault.BootsSpent
boot_spent (boot_fault.Disk s) is = absurd (cc)
boot_spent boot_fault.BootsSpent is = refl
boot_spent boot_fault.Memory is = absurd (cc)

pub spent_told : {T : Type 0} (result : Result T TurnFault) (error : BootFault) → IsErrAnd result (λ f. f ≡ given_as error) → result
    ≡ Err fault.Unforeseen
    → error ≡ boot_fault.BootsSpent
spent_told {T} result error given failed = boot_spent error (subst (λ (r : Result T TurnFault). IsErrAnd r (λ f. f ≡ given_as error)) failed
    given)

-- an empty disk has its boots before it
pub no_boot_spent : (batches : List Batch) → batches ≡ [] → last_boot batches ≡ most_boots → ⊥
no_boot_spent batches none spent = let most : 0 ≡ 4294967295 = ap last_boot (sym none) ∙ spent in absurd (omega (arith, most))

-- ---- a seat whose target is down, over a disk of these batches

-- with what it left on its disk
abbrev stopped_at : TargetSeat → List Batch → ℕ → TargetSeat
stopped_at inside left more = record inside { target = None; disk = Some (record { batches = left; faults = more }) }

module _ (inside : TargetSeat) (batches : List Batch) (faults : ℕ) where
  abbrev down : TargetSeat
  down = record inside { target = None; disk = Some (record { batches = batches; faults = faults }) }

  abbrev kind : Kind
  kind = inside.kind

  abbrev place : Place
  place = place_of (record { 0 = inside.id }) inside.expire

  -- the seat is of that place
  module _ (head : Head) (t : ℕ) (is : IsSeat head t down) where
    sort_is : IsKindOf t kind
    sort_is = subst (IsKindOf t) (sym is.sort) (kind_is t)

    seat_is : (target : Option TargetState) (disk : Option DiskState) → IsSeat head t (record inside { target = target; disk = disk })
    seat_is target disk = record { id = is.id; osts = is.osts; expire = is.expire; sort = is.sort }

    -- a new service may begin there
    starts : (own : Contents) → redo.Shows kind inside.osts 1 own no_contents → IsStart place kind own (setting_of head t)
    starts own new = record {
      id = sym is.id;
      sort = subst (λ (n : ℕ). IsKindOf n kind) (sym is.id) sort_is;
      expire = sym is.expire;
      contents = subst (λ (n : ℕ). redo.Shows kind n 1 own no_contents) is.osts new;
    }

  -- before its start the disk is empty
  abbrev held : Option DiskState → List Batch
  held (Some d) = d.batches
  held None = []

  empty : (head : Head) (t : ℕ) → IsUnstarted head t down → batches ≡ []
  empty head t unstarted = ap held unstarted.disk.1 ∙ unstarted.disk.2

  -- and where it is shown it isn't
  is_down : (head : Head) (t : ℕ) (past : List Line) → ShowsTarget head past t down
      → IsDown head past t kind (record { batches = batches; faults = faults })
  is_down head t past shows = shows.stands

  repeatable : IsTargetUnstarted down ⊎ IsTargetShown down → AllRepeatable kind batches
  repeatable (inl unstarted) = subst (AllRepeatable kind) (sym (empty unstarted.0 unstarted.1.0 unstarted.1.1)) tt
  repeatable (inr shown) = IsLeft.repeatable (IsDown.left (is_down shown.0 shown.1.0 shown.1.1.0 shown.1.1.1))

  module _ (own : Contents) (new : redo.Shows kind inside.osts 1 own no_contents) where
    stands : (head : Head) (t : ℕ) (past : List Line) → ShowsTarget head past t down
        → StandsOn place kind own batches (target_of head t past)
    stands head t past shows =
        MayBoot.stands (may_boot_left place kind own batches (target_of head t past) (IsDown.left (is_down head t past shows))
        (starts head t shows.sits own new))

    some_stands : IsTargetUnstarted down ⊎ IsTargetShown down → batches ≢ [] → (v : TargetOf) × StandsOn place kind own batches v
    some_stands (inl unstarted) some = absurd (some (empty unstarted.0 unstarted.1.0 unstarted.1.1))
    some_stands (inr shown) some = (target_of shown.0 shown.1.0 shown.1.1.0, stands shown.0 shown.1.0 shown.1.1.0 shown.1.1.1)

    -- ---- it is up

    module _ (stamp : Stamp) (u : TargetState) (step : Step) (same : u.id ≡ inside.id) (unspent : u.spent ≡ None) where
      abbrev own_turn : At
      own_turn = turn_of inside.id stamp

      -- it began its run
      began :
          (lives : List Who) → Begins place kind own batches own_turn lives step u.running → Stores batches lives u.running
          → (head : Head) (t : ℕ) → IsUnstarted head t down → lives ≡ lives_from 0 head.clients
          → ShowsTarget head [] t (record inside { target = Some u })
      began lives begins stores head t unstarted are =
          let none = empty head t unstarted in
          let is : IsSeat head t down = unstarted.sits in
          let shows : IsIn u.running (target_of head t []) = (begins none (setting_of head t) head.clients (starts head t is own new) are).1
          in
          record {
            sits = seat_is head t is (Some u) inside.disk;
            stands = record {
              up = refl;
              id = same ∙ is.id;
              unspent = unspent;
              sort = same_kind u.running (target_of head t []) kind shows (sort_is head t is);
              shows = shows;
              repeats = begun_repeats kind (setting_of head t) head.clients u.running (stores none head.clients are);
            };
          }

      module _
          (boots : ComesUp place kind own batches own_turn step u.running) (keeps : Keeps place kind own batches own_turn u.running)
          (head : Head) (t : ℕ) (past : List Line) (shows : ShowsTarget head past t down) where
        abbrev v : TargetOf
        v = target_of head t past

        abbrev at : At
        at = turn_at stamp (Target t)

        off : IsDown head past t kind (record { batches = batches; faults = faults })
        off = is_down head t past shows

        row_is : row v at Boots ≡ row_boot v own_turn
        row_is =
            ap (λ (up : Bool). if up then Skip ∷ [] else row_boot v at) off.down
            ∙ ap (λ (i : ℕ). row_boot v (turn_of i stamp)) (sym shows.sits.id)

        after_boot : turn v (row_boot v own_turn) ≡ target_of head t (with_turn at (row v at Boots) past)
        after_boot = ap (turn v) (sym row_is) ∙ sym (later head t past stamp (row v at Boots))

        gave : step ≡ step_of at (row v at Boots)
        gave =
            (boots off.some v (stands head t past shows)).0
            ∙ (ap (λ (i : ℕ). step_of (turn_of i stamp) (row_boot v own_turn)) shows.sits.id ∙ ap (step_of at) (sym row_is))

        has_room : overruns v (row v at Boots) ≡ false
        has_room = ap (overruns v) row_is ∙ in_room u.running (turn v (row_boot v own_turn)) (boots off.some v (stands head t past shows)).1

        came_up : IsUp head (with_turn at (row v at Boots) past) t kind u
        came_up =
            let w : TargetOf = turn v (row_boot v own_turn) in
            let on = stands head t past shows in
            let it : IsIn u.running w = (boots off.some v on).1 in
            let now = subst (IsIn u.running) after_boot it in
            let sort : IsKindOf w.setting.id kind =
            subst (λ (s : Setting). IsKindOf s.id kind) (sym (setting_stays (row_boot v own_turn) v)) (sort_is head t shows.sits) in
            record {
              up = up_in u.running (target_of head t (with_turn at (row v at Boots) past)) now;
              id = same ∙ shows.sits.id;
              unspent = unspent;
              sort = same_kind u.running w kind it sort;
              shows = now;
              repeats =
                  subst (Repeats kind u.running) after_boot
                  (booted_repeats place kind own batches own_turn u.running v off.left.repeatable on (keeps off.some));
            }

      -- it booted
      booted :
          ComesUp place kind own batches own_turn step u.running → Keeps place kind own batches own_turn u.running
          → TargetMakes Boots Boots stamp down (record inside { target = Some u }) step
      booted boots keeps = record {
        gives = λ head t past shows. gave boots keeps head t past shows;
        shows = λ head t past shows. record {
          sits = seat_is head t shows.sits (Some u) inside.disk;
          stands = came_up boots keeps head t past shows;
        };
        room = λ head t past shows. has_room boots keeps head t past shows;
      }

    -- ---- its disk failed

    module _
        (stamp : Stamp) (step : Step) (left : List Batch) (more : ℕ) (rose : Rose faults more)
        (stops : StopsBoot place kind own batches (turn_of inside.id stamp) step) where
      abbrev stopped : TargetSeat
      stopped = stopped_at inside left more

      start_stops : (head : Head) (t : ℕ) → IsUnstarted head t down → StartFails t stamp down stopped step
      start_stops head t unstarted = record {
        rose = rose;
        gives = stops.start (empty head t unstarted) ∙ ap (λ (i : ℕ). step_of (turn_of i stamp) (row_start true)) unstarted.sits.id;
        kept = refl;
      }

      boot_stops : TargetFails Boots stamp down stopped step
      boot_stops = record {
        rose = rose;
        gives = λ head t past shows.
            let v : TargetOf = target_of head t past in
            let at : At = turn_at stamp (Target t) in
            let off = is_down head t past shows in
            let boot = stops.boot off.some in
            let row_is : row v at Boots ≡ row_boot v at = ap (λ (up : Bool). if up then Skip ∷ [] else row_boot v at) off.down in (
              boot.0,
              boot.1 v (stands head t past shows)
                  ∙ (ap (λ (i : ℕ). step_of (turn_of i stamp) (failing (row_boot v (turn_of i stamp)) boot.0)) shows.sits.id
                  ∙ ap (λ (es : List Entry). step_of at (failing es boot.0)) (sym row_is)),
            );
        kept = refl;
      }

-- ---- a seat as it was passed, whose disk was taken out of it

module _ (inside old : TargetSeat) (is : inside ≡ old) (none : old.target ≡ None) (batches : List Batch) (faults : ℕ) where
  abbrev pub before : TargetSeat
  before = with_disk old batches faults

  before_is : before ≡ down inside batches faults
  before_is =
      ap (λ (seat : TargetSeat). with_disk seat batches faults) (sym is)
      ∙ ap (λ (target : Option TargetState). record inside { target = target; disk = Some (record { batches = batches; faults = faults }) })
      (ap (λ (seat : TargetSeat). seat.target) is ∙ none)

  own_none : inside.target ≡ None
  own_none = ap (λ (seat : TargetSeat). seat.target) is ∙ none

  abbrev own_place : Place
  own_place = place_of (record { 0 = inside.id }) inside.expire

  own_begins : IsTargetUnstarted before ⊎ IsTargetShown before → IsTargetUnstarted (down inside batches faults)
      ⊎ IsTargetShown (down inside batches faults)
  own_begins begins = subst (λ (seat : TargetSeat). IsTargetUnstarted seat ⊎ IsTargetShown seat) before_is begins

  pub may_repeat : IsTargetUnstarted before ⊎ IsTargetShown before → AllRepeatable inside.kind batches
  may_repeat begins = repeatable inside batches faults (own_begins begins)

  module _ (own : Contents) (new : redo.Shows inside.kind inside.osts 1 own no_contents) where
    pub may_stand : IsTargetUnstarted before ⊎ IsTargetShown before → batches ≢ [] → (v : TargetOf)
        × StandsOn own_place inside.kind own batches v
    may_stand begins = some_stands inside batches faults own new (own_begins begins)

    module _ (stamp : Stamp) (u : TargetState) (step : Step) (same : u.id ≡ inside.id) (unspent : u.spent ≡ None) where
      pub has_started :
          (lives : List Who) → Begins own_place inside.kind own batches (turn_of inside.id stamp) lives step u.running
          → Stores batches lives u.running
          → (head : Head) (t : ℕ) → IsUnstarted head t before → lives ≡ lives_from 0 head.clients
          → ShowsTarget head [] t (record inside { target = Some u })
      has_started lives begins stores head t unstarted are =
          began inside batches faults own new stamp u step same unspent lives begins stores head t
          (subst (IsUnstarted head t) before_is unstarted) are

      pub has_booted :
          ComesUp own_place inside.kind own batches (turn_of inside.id stamp) step u.running
          → Keeps own_place inside.kind own batches (turn_of inside.id stamp) u.running
          → TargetMakes Boots Boots stamp before (record inside { target = Some u }) step
      has_booted boots keeps =
          subst (λ (seat : TargetSeat). TargetMakes Boots Boots stamp seat (record inside { target = Some u }) step) (sym before_is)
          (booted inside batches faults own new stamp u step same unspent boots keeps)

    module _
        (stamp : Stamp) (error : BootFault) (left : List Batch) (more : ℕ)
        (stops : Stops own_place inside.kind own batches (turn_of inside.id stamp) faults more error)
        (result : Result Step TurnFault) (given : IsErrAnd result (λ f. f ≡ given_as error)) (step : Step)
        (failed : result ≡ Err (fault.Disk step)) where
      abbrev left_so : TargetSeat
      left_so = record inside { disk = Some (record { batches = left; faults = more }) }

      stopped_is : left_so ≡ stopped_at inside left more
      stopped_is = ap (λ (target : Option TargetState). record inside
          { target = target; disk = Some (record { batches = left; faults = more }) }) own_none

      told : error ≡ boot_fault.Disk step
      told = boot_disk error step (subst (λ (r : Result Step TurnFault). IsErrAnd r (λ f. f ≡ given_as error)) failed given)

      pub start_failed : (head : Head) (t : ℕ) → IsUnstarted head t before → StartFails t stamp before left_so step
      start_failed head t unstarted =
          let it = stops step told in
          subst (λ (seat : TargetSeat). StartFails t stamp seat left_so step) (sym before_is)
          (subst (λ (seat : TargetSeat). StartFails t stamp (down inside batches faults) seat step) (sym stopped_is)
          (start_stops inside batches faults own new stamp step left more it.0 it.1 head t
          (subst (IsUnstarted head t) before_is unstarted)))

      pub boot_failed : TargetFails Boots stamp before left_so step
      boot_failed =
          let it = stops step told in
          subst (λ (seat : TargetSeat). TargetFails Boots stamp seat left_so step) (sym before_is)
          (subst (λ (seat : TargetSeat). TargetFails Boots stamp (down inside batches faults) seat step) (sym stopped_is)
          (boot_stops inside batches faults own new stamp step left more it.0 it.1))

-- ---- the disk that was taken out of a seat

abbrev stored : Option DiskState → List Batch
stored (Some d) = d.batches
stored None = []

pub put_back :
    {D : Type 0} (d : D) (view : D → DiskState) (inside old : TargetSeat) (held : Option D) → inside ≡ old → inside.disk
    ≡ option_map view held
    → held ≡ Some d → with_disk inside (view d).batches (view d).faults ≡ old
put_back d view inside old held is shown taken =
    ap (λ (disk : Option DiskState). record inside { disk = disk }) (sym (shown ∙ ap (option_map view) taken)) ∙ is

-- it had no batches before the start
pub none_stored :
    {D : Type 0} (d : D) (view : D → DiskState) (inside old : TargetSeat) (held : Option D) → inside ≡ old → inside.disk
    ≡ option_map view held
    → held ≡ Some d → IsTargetUnstarted old → (view d).batches ≡ []
none_stored d view inside old held is shown taken unstarted =
    let disk : old.disk ≡ Some (view d) = ap (λ (seat : TargetSeat). seat.disk) (sym is) ∙ shown ∙ ap (option_map view) taken in
    ap stored (sym disk ∙ unstarted.1.1.disk.1) ∙ unstarted.1.1.disk.2

-- a fault that is passed on
pub passed_on : {T : Type 0} (result : Result T TurnFault) (error f : TurnFault) → IsErrAnd result (λ e. e ≡ error)
    → result ≡ Err f → ◌≡◌ {A = Result Step TurnFault} (Err error) (Err f)
passed_on {T} result error f given failed =
    ap (λ (e : TurnFault). Err e) (sym (subst (λ (r : Result T TurnFault). IsErrAnd r (λ e. e ≡ error)) failed given))
