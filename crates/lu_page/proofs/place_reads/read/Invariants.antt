use Rattle.std.proofs.Common.{◌≡◌, ◌-◌, ◌≤◌}
use Rattle.lu_spec_bytes.specs.Runs.{found_run}
use Rattle.lu_page.specs.Pages.{joined}
use Rattle.lu_page.proofs.place_reads.read.Given as goal

abbrev pub invariant-loop-done : goal.invariant-loop-done
invariant-loop-done g l =
    record {
      done : l.done ≤ l.count;
      found : l.found.items ≡ found_run l.done (joined l.pages.entries) l.at;
    }

abbrev pub decreases-loop-done : goal.decreases-loop-done
decreases-loop-done g l = l.count - l.done
