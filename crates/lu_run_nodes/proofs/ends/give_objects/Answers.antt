use Rattle.std.proofs.Common.{◌∙◌}
use Rattle.std.specs.Prelude.{Some}
use Rattle.std.proofs.lemmas.List.Elements.{All-pop}
use Rattle.lu_run_nodes.proofs.Disks.{HasDisk}
use Rattle.lu_run_nodes.proofs.Giving.{one_given}
use Rattle.lu_run_nodes.proofs.ends.give_objects.Goals as goal

pub into_disk-requires : goal.into_disk-requires
into_disk-requires g c =
    let seat = c.in-Some.seat in
    record {
      some = (All-pop HasDisk c.loop-seat.seats.items c.pop.new.self.items (Some seat) c.in-Some.ensures.items
          c.loop-seat.invariant.kept).1;
    }

pub loop-seat-preserved : goal.loop-seat-preserved
loop-seat-preserved g c =
    let seats = c.loop-seat.seats.items in
    let left = c.pop.new.self.items in
    let seat = c.in-Some.seat in
    record {
      kept = (All-pop HasDisk seats left (Some seat) c.in-Some.ensures.items c.loop-seat.invariant.kept).0;
      given =
          one_given {D = g.row.D.Denot} (λ d. record { batches = g.D.Disk.batches d; faults = g.D.Disk.faults d }) c.loop-seat.disks.items
          c.push.new.self.items c.into_disk.result
          seats left seat c.in-Some.ensures.items c.in_ok-push.ensures.items c.into_disk.ensures.disk
          ∙ c.loop-seat.invariant.given;
    }
