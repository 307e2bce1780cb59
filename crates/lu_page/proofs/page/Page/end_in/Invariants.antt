use Rattle.std.proofs.Common.{◌≤◌, ◌+◌}
use Rattle.lu_spec_machine.specs.Places.{inside}
use Rattle.lu_spec_bytes.specs.Maps.{AllBelow}
use Rattle.lu_page.proofs.page.Page.end_in.Given as goal

abbrev pub invariant-loop-slot : goal.invariant-loop-slot
invariant-loop-slot g l =
    record {
      below : AllBelow (l.first + l.slot) (inside l.extent l.self.here);
      most : l.slot ≤ 4096;
    }

abbrev pub decreases-loop-slot : goal.decreases-loop-slot
decreases-loop-slot g l = l.slot
