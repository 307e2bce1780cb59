-- What the nodes of a run show after a past: each the state that the rows read of it.
use Rattle.std.specs.Prelude.{◌≡◌, ◌≢◌, ℕ, zero, suc, ◌+◌, ◌^◌, ◌<◌, true, false, List, [], length, slice_index_or, Option, Some, None}
use Rattle.lu_service.specs.declared.services.Kind.{Kind}
use Rattle.lu_service.specs.declared.services.Kind.TheVariants.{Mdt, Ost}
use Rattle.lu_spec_entries.specs.Words.{Line}
use Rattle.lu_spec_target.specs.Rows.{overruns}
use Rattle.lu_spec_client.specs.Calls.{is_dead}
use Rattle.lu_client.specs.Numbers.{HasAsked}
use Rattle.lu_target.specs.Repeating.{Repeats, IsLeft}
use Rattle.lu_target.specs.Running.{IsIn}
use Rattle.lu_target.specs.Targets.{TargetState}
use Rattle.lu_spec_run.specs.Heads.{Head}
use Rattle.lu_spec_run.specs.Runs.{limits_of, client_of, target_of}
use Rattle.lu_run_nodes.specs.States.{ClientSeat, DiskState, TargetSeat, NodesState}

-- ---- a client, after so many turns of the run

pub record ShowsClient (head : Head) (turns : ℕ) (past : List Line) (c : ℕ) (seat : ClientSeat) : Type 0 where
  pub client : seat.client.client ≡ client_of head c past
  pub limits : seat.client.limits ≡ limits_of head
  pub unspent : seat.client.spent ≡ false
  pub who : seat.client.client.who.client ≡ c
  pub asked : HasAsked turns seat.client.client.imports
  pub dead : seat.dead ≡ is_dead c past

-- it shows some past, of so few turns that its requests don't come to their last number
abbrev pub IsClientShown : ClientSeat → Type 0
IsClientShown seat = (head : Head) × ((turns : ℕ) × ((c : ℕ) × ((past : List Line) × (turns < 2 ^ 60)
    × ShowsClient head turns past c seat)))

-- ---- a target

pub record IsUp (head : Head) (past : List Line) (t : ℕ) (kind : Kind) (s : TargetState) : Type 0 where
  pub up : (target_of head t past).up ≡ true
  pub id : s.id ≡ t
  pub unspent : s.spent ≡ None
  pub sort : s.running.server.kind ≡ kind
  pub shows : IsIn s.running (target_of head t past)
  pub repeats : Repeats kind s.running (target_of head t past)

-- A disk that a target left is never empty: a run begins over an empty one. The target counted no further than there are numbers.
pub record IsDown (head : Head) (past : List Line) (t : ℕ) (kind : Kind) (d : DiskState) : Type 0 where
  pub down : (target_of head t past).up ≡ false
  pub some : d.batches ≢ []
  pub left : IsLeft kind d.batches (target_of head t past)
  pub counted : overruns (target_of head t past) [] ≡ false

abbrev pub Stands : Head → List Line → ℕ → Kind → Option TargetState → Option DiskState → Type 0
Stands head past t kind (Some s) disk = IsUp head past t kind s
Stands head past t kind None (Some d) = IsDown head past t kind d
Stands head past t kind None None = ⊥

-- the metadata target is of one kind, the object storage targets are of the other
abbrev pub kind_of : ℕ → Kind
kind_of zero = Mdt
kind_of (suc t) = Ost

pub record IsSeat (head : Head) (t : ℕ) (seat : TargetSeat) : Type 0 where
  pub id : seat.id ≡ t
  pub osts : seat.osts ≡ head.osts
  pub expire : seat.expire ≡ head.expire
  pub sort : seat.kind ≡ kind_of t

pub record ShowsTarget (head : Head) (past : List Line) (t : ℕ) (seat : TargetSeat) : Type 0 where
  pub sits : IsSeat head t seat
  pub stands : Stands head past t seat.kind seat.target seat.disk

-- it shows some past
abbrev pub IsTargetShown : TargetSeat → Type 0
IsTargetShown seat = (head : Head) × ((t : ℕ) × ((past : List Line) × ShowsTarget head past t seat))

-- ---- all of them

pub record ShowsNodes (head : Head) (turns : ℕ) (past : List Line) (nodes : NodesState) : Type 0 where
  pub clients : length nodes.clients ≡ head.clients
  pub objects : length nodes.objects ≡ head.osts
  pub client : (c : ℕ) (d : ClientSeat) → c < head.clients → ShowsClient head turns past c (slice_index_or nodes.clients c d)
  pub names : ShowsTarget head past 0 nodes.names
  pub object : (i : ℕ) (d : TargetSeat) → i < head.osts → ShowsTarget head past (i + 1) (slice_index_or nodes.objects i d)

-- they show some past, of so few turns that no client's requests come to their last number
abbrev pub AreShown : NodesState → Type 0
AreShown nodes = (head : Head) × ((turns : ℕ) × ((past : List Line) × (turns < 2 ^ 60) × ShowsNodes head turns past nodes))

-- ---- before the start: targets from one on are down, and their disks are empty

pub record IsUnstarted (head : Head) (t : ℕ) (seat : TargetSeat) : Type 0 where
  pub sits : IsSeat head t seat
  pub target : seat.target ≡ None
  pub disk : (d : DiskState) × (seat.disk ≡ Some d) × (d.batches ≡ [])

abbrev pub IsTargetUnstarted : TargetSeat → Type 0
IsTargetUnstarted seat = (head : Head) × ((t : ℕ) × IsUnstarted head t seat)

-- so are all targets, and no client has made a turn
pub record AreUnstarted (head : Head) (nodes : NodesState) : Type 0 where
  pub clients : length nodes.clients ≡ head.clients
  pub objects : length nodes.objects ≡ head.osts
  pub client : (c : ℕ) (d : ClientSeat) → c < head.clients → ShowsClient head 0 [] c (slice_index_or nodes.clients c d)
  pub names : IsUnstarted head 0 nodes.names
  pub object : (i : ℕ) (d : TargetSeat) → i < head.osts → IsUnstarted head (i + 1) (slice_index_or nodes.objects i d)
