-- The nodes of a run as contracts see them.
use Rattle.std.specs.Prelude.{ℕ, zero, suc, Bool, false, not, is_some, List, Option, Some, None, slice_get}
use Rattle.lu_base.specs.declared.ids.Node.{Node}
use Rattle.lu_base.specs.declared.ids.Node.TheVariants.{Client, Target}
use Rattle.lu_msg.specs.declared.commits.Batch.{Batch}
use Rattle.lu_service.specs.declared.services.Kind.{Kind}
use Rattle.lu_client.specs.Clients.{ClientState}
use Rattle.lu_target.specs.Targets.{TargetState}

-- a client, and whether it is dead
pub record ClientSeat : Type 0 where
  pub client : ClientState
  pub dead : Bool

-- what a disk holds, and how often it failed
pub record DiskState : Type 0 where
  pub batches : List Batch
  pub faults : ℕ

-- A target of this number and kind: it is up, or its disk lies there. A lock that was called back expires after so many ticks.
pub record TargetSeat : Type 0 where
  pub id : ℕ
  pub osts : ℕ
  pub expire : ℕ
  pub kind : Kind
  pub target : Option TargetState
  pub disk : Option DiskState

-- with this disk
abbrev pub with_disk : TargetSeat → List Batch → ℕ → TargetSeat
with_disk seat batches faults = record seat { disk = Some (record { batches = batches; faults = faults }) }

-- The clients by number from 0, the metadata target, and the object storage targets from the first on.
pub record NodesState : Type 0 where
  pub clients : List ClientSeat
  pub names : TargetSeat
  pub objects : List TargetSeat

-- ---- who takes nothing

abbrev pub is_dead_in : NodesState → ℕ → Bool
is_dead_in nodes c = elim (slice_get nodes.clients c) [ Some seat ↦ seat.dead | None ↦ false ]

abbrev pub is_off : Option TargetSeat → Bool
is_off None = false
is_off (Some seat) = not (is_some seat.target)

abbrev pub target_in : NodesState → ℕ → Option TargetSeat
target_in nodes zero = Some nodes.names
target_in nodes (suc i) = slice_get nodes.objects i

-- a dead client, and a target that is down
abbrev pub is_down_in : NodesState → Node → Bool
is_down_in nodes (Client c) = is_dead_in nodes c
is_down_in nodes (Target t) = is_off (target_in nodes t)

-- ---- disks

abbrev pub disk_of : Option TargetState → Option DiskState → Option DiskState
disk_of (Some t) disk = Some (record { batches = t.running.server.store.batches; faults = t.running.server.store.faults })
disk_of None disk = disk

-- the disk of a target, up or down
abbrev pub disk_in : TargetSeat → Option DiskState
disk_in seat = disk_of seat.target seat.disk

abbrev pub faults_of : Option DiskState → ℕ
faults_of (Some d) = d.faults
faults_of None = 0

abbrev pub seat_disk : Option TargetSeat → Option DiskState
seat_disk None = None
seat_disk (Some seat) = disk_in seat

-- the disk of a target of this number
abbrev pub disk_at : NodesState → ℕ → Option DiskState
disk_at nodes t = seat_disk (target_in nodes t)
