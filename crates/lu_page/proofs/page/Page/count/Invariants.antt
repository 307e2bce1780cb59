use Rattle.std.proofs.Common.{◌≡◌, ◌+◌, ◌≤◌, length}
use Rattle.lu_spec_machine.specs.Places.{inside, below}
use Rattle.lu_page.proofs.page.Page.count.Given as goal

abbrev pub invariant-loop-slot : goal.invariant-loop-slot
invariant-loop-slot g l =
    record {
      count : l.count ≡ length (below (l.first + l.slot) (inside l.extent l.self.here));
      most : l.count ≤ l.slot;
    }
