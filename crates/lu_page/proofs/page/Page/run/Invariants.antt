use Rattle.std.proofs.Common.{◌≡◌, ◌+◌, ◌-◌, ◌++◌}
use Rattle.lu_spec_machine.specs.Places.{inside}
use Rattle.lu_spec_bytes.specs.Runs.{run_at}
use Rattle.lu_page.proofs.page.Page.run.Given as goal

abbrev pub invariant-loop-k : goal.invariant-loop-k
invariant-loop-k g l = l.run.items ++ run_at (l.most - l.k) (inside l.extent l.self.here) (l.from + l.k)
    ≡ run_at l.most (inside l.extent l.self.here) l.from
