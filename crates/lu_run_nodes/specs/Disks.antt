-- What the disks of a run hold.
use Rattle.std.specs.Prelude.{◌≡◌, ◌≤◌, ℕ, List, [], ◌∷◌, map, Option, Some, None, IsSome, All, slice_get}
use Rattle.lu_spec_entries.specs.Words.{Line}
use Rattle.lu_spec_target.specs.States.{empty_disk}
use Rattle.lu_spec_target.specs.Disks.{loaded_on}
use Rattle.lu_spec_run.specs.Heads.{Head}
use Rattle.lu_spec_run.specs.Runs.{target_of}
use Rattle.lu_run_nodes.specs.States.{DiskState, TargetSeat, NodesState, disk_in}

-- ---- the disks of the targets, by their numbers

abbrev pub seats_of : NodesState → List TargetSeat
seats_of nodes = nodes.names ∷ nodes.objects

-- each target has one, up or down
abbrev pub HaveDisks : NodesState → Type 0
HaveDisks nodes = All (λ seat. IsSome (disk_in seat)) (seats_of nodes)

abbrev pub disk_or_none : Option DiskState → DiskState
disk_or_none (Some d) = d
disk_or_none None = record { batches = []; faults = 0 }

abbrev pub disks_of : NodesState → List DiskState
disks_of nodes = map (λ seat. disk_or_none (disk_in seat)) (seats_of nodes)

-- ---- after a past

-- what a target committed, and nothing else: loading it gives what stands on the disk of the rows' target
abbrev pub HoldsPast : Head → List Line → ℕ → Option DiskState → Type 0
HoldsPast head past t None = ⊥
HoldsPast head past t (Some d) = (target_of head t past).disk ≡ loaded_on head.osts empty_disk d.batches

-- the disk of each target does
abbrev pub HoldAll : Head → List Line → List DiskState → Type 0
HoldAll head past disks = (t : ℕ) → t ≤ head.osts → HoldsPast head past t (slice_get disks t)
