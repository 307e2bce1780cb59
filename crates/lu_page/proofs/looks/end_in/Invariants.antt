use Rattle.std.proofs.Common.{◌*◌}
use Rattle.lu_spec_machine.specs.Places.{inside}
use Rattle.lu_spec_bytes.specs.Maps.{AllBelow}
use Rattle.lu_page.specs.Pages.{joined}
use Rattle.lu_page.proofs.looks.end_in.Given as goal

abbrev pub invariant-loop-number : goal.invariant-loop-number
invariant-loop-number g l = AllBelow (l.end * 4096) (inside l.extent (joined l.pages.entries))

abbrev pub decreases-loop-number : goal.decreases-loop-number
decreases-loop-number g l = l.end
