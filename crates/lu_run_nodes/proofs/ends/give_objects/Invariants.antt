use Rattle.std.proofs.Common.{◌≡◌, ◌++◌, length}
use Rattle.std.specs.Prelude.{All, IsSome, map, reverse}
use Rattle.lu_run_nodes.specs.Disks.{disk_or_none}
use Rattle.lu_run_nodes.specs.States.{DiskState, disk_in}
use Rattle.lu_run_nodes.proofs.ends.give_objects.Given as goal

-- those that were given back so far, and those of the seats that are left, the last first, are all
abbrev pub invariant-loop-seat : goal.invariant-loop-seat
invariant-loop-seat g l = record {
  kept : All (λ seat. IsSome (disk_in seat)) l.seats.items;
  given : map {B = DiskState} (λ d. record { batches = g.D.Disk.batches d; faults = g.D.Disk.faults d }) l.disks.items
      ++ reverse (map (λ seat. disk_or_none (disk_in seat)) l.seats.items)
      ≡ map {B = DiskState} (λ d. record { batches = g.D.Disk.batches d; faults = g.D.Disk.faults d }) l.fn.disks.items
      ++ reverse (map (λ seat. disk_or_none (disk_in seat)) l.fn.objects.items);
}

abbrev pub decreases-loop-seat : goal.decreases-loop-seat
decreases-loop-seat g l = length l.seats.items
