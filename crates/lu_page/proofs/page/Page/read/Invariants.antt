use Rattle.std.proofs.Common.{◌≡◌, ◌+◌, ◌-◌, ◌++◌}
use Rattle.lu_spec_bytes.specs.Runs.{found_run}
use Rattle.lu_page.proofs.page.Page.read.Given as goal

abbrev pub invariant-loop-k : goal.invariant-loop-k
invariant-loop-k g l = l.into.items ++ found_run (l.count - l.k) l.self.here (l.at + l.k) ≡ l.initial.into.items
    ++ found_run l.count l.self.here l.at
