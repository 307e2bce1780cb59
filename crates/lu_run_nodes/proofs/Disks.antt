-- Each target of nodes that show a past has its disk, and what that holds is what the past left there.
use Rattle.std.proofs.Common.{◌≡◌, ℕ, zero, suc, ◌+◌, ◌<◌, ◌≤◌, List, length, get_or, refl, sym, subst, ap, ◌∙◌, add-one, arith}
use Rattle.std.specs.Prelude.{Option, Some, None, All, IsSome, is_some, slice_get}
use Rattle.std.specs.Option.{option_map}
use Rattle.std.proofs.lemmas.List.Elements.{All-cons}
use Rattle.std.proofs.lemmas.Option.{slice_get-get_or, slice_get-map}
use Rattle.lu_spec_entries.specs.Words.{Line}
use Rattle.lu_target.specs.Journals.{ShowsDisk}
use Rattle.lu_spec_target.specs.Disks.{loaded_on}
use Rattle.lu_spec_target.specs.States.{Target as TargetOf, empty_disk}
use Rattle.lu_spec_run.specs.Heads.{Head}
use Rattle.lu_spec_run.specs.Runs.{target_of}
use Rattle.lu_target.specs.Windows.{State}
use Rattle.lu_target.specs.Running.{RunningState, IsOf, IsIn}
use Rattle.lu_target.specs.Targets.{TargetState}
use Rattle.lu_run_nodes.specs.Disks.{HaveDisks, HoldsPast, HoldAll, disk_or_none, disks_of}
use Rattle.lu_run_nodes.specs.States.{DiskState, TargetSeat, NodesState, disk_of, disk_in}
use Rattle.lu_run_nodes.specs.Shown.{Stands, ShowsTarget, ShowsNodes, IsUnstarted, AreUnstarted}

-- a seat has its disk
abbrev pub HasDisk : TargetSeat → Type 0
HasDisk seat = IsSome (disk_in seat)

-- ---- each has it

pub shown_has : (head : Head) (past : List Line) (t : ℕ) (seat : TargetSeat) → ShowsTarget head past t seat → HasDisk seat
shown_has head past t seat shows = by seat.target seat.disk shows.stands where
  by : (target : Option TargetState) (disk : Option DiskState) → Stands head past t seat.kind target disk → IsSome (disk_of target disk)
  by (Some s) disk it = refl
  by None (Some d) it = refl
  by None None it = absurd it

pub unstarted_has : (head : Head) (t : ℕ) (seat : TargetSeat) → IsUnstarted head t seat → HasDisk seat
unstarted_has head t seat unstarted =
    ap (λ (target : Option TargetState). is_some (disk_of target seat.disk)) unstarted.target
    ∙ ap (λ (disk : Option DiskState). is_some disk) unstarted.disk.1

pub objects_have : (head : Head) (turns : ℕ) (past : List Line) (nodes : NodesState) → ShowsNodes head turns past nodes
    → All HasDisk nodes.objects
objects_have head turns past nodes shows = λ i d below.
    shown_has head past (i + 1) (get_or nodes.objects i d) (shows.object i d (subst (λ (n : ℕ). i < n) shows.objects below))

pub waiting_have : (head : Head) (nodes : NodesState) → AreUnstarted head nodes → All HasDisk nodes.objects
waiting_have head nodes unstarted = λ i d below.
    unstarted_has head (i + 1) (get_or nodes.objects i d) (unstarted.object i d (subst (λ (n : ℕ). i < n) unstarted.objects below))

pub shown_have : (head : Head) (turns : ℕ) (past : List Line) (nodes : NodesState) → ShowsNodes head turns past nodes → HaveDisks nodes
shown_have head turns past nodes shows =
    All-cons HasDisk nodes.names nodes.objects (shown_has head past 0 nodes.names shows.names) (objects_have head turns past nodes shows)

pub unstarted_have : (head : Head) (nodes : NodesState) → AreUnstarted head nodes → HaveDisks nodes
unstarted_have head nodes unstarted =
    All-cons HasDisk nodes.names nodes.objects (unstarted_has head 0 nodes.names unstarted.names) (waiting_have head nodes unstarted)

-- ---- what it holds

stands_there : (t : RunningState) (v : TargetOf) → IsIn t v → ShowsDisk t.server.store.batches v
stands_there t v it = by t.window it where
  by : (o : Option State) → IsOf t.server o v → ShowsDisk t.server.store.batches v
  by None shows = shows.store.disk
  by (Some w) recovers = recovers.gathers.store.disk

abbrev own_disk : TargetSeat → DiskState
own_disk seat = disk_or_none (disk_in seat)

shown_holds : (head : Head) (past : List Line) (t : ℕ) (seat : TargetSeat) → ShowsTarget head past t seat
    → HoldsPast head past t (Some (own_disk seat))
shown_holds head past t seat shows = by seat.target seat.disk shows.stands where
  by : (target : Option TargetState) (disk : Option DiskState) → Stands head past t seat.kind target disk
      → (target_of head t past).disk ≡ loaded_on head.osts empty_disk (disk_or_none (disk_of target disk)).batches
  by (Some s) disk it = ShowsDisk.disk (stands_there s.running (target_of head t past) it.shows)
  by None (Some d) it = ShowsDisk.disk it.left.disk
  by None None it = absurd it

pub shown_hold : (head : Head) (turns : ℕ) (past : List Line) (nodes : NodesState) → ShowsNodes head turns past nodes
    → HoldAll head past (disks_of nodes)
shown_hold head turns past nodes shows = λ t below. by t below where
  by : (t : ℕ) → t ≤ head.osts → HoldsPast head past t (slice_get (disks_of nodes) t)
  by zero below = shown_holds head past 0 nodes.names shows.names
  by (suc i) below =
      let seat : TargetSeat = get_or nodes.objects i nodes.names in
      let one : i < head.osts = omega (arith, below) in
      let within : i < length nodes.objects = subst (λ (n : ℕ). i < n) (sym shows.objects) one in
      let there = slice_get-map own_disk nodes.objects i ∙ ap (option_map own_disk) (slice_get-get_or nodes.objects i nodes.names within) in
      subst (HoldsPast head past (suc i)) (sym there)
      (subst (λ (t : ℕ). HoldsPast head past t (Some (own_disk seat))) (add-one i)
      (shown_holds head past (i + 1) seat (shows.object i nodes.names one)))
