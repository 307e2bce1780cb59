-- The evictions so far, and those of the lives to come.
use Rattle.std.proofs.Common.{◌≡◌, ◌++◌, map}
use Rattle.lu_spec_target.specs.Windows.{gone_from}
use Rattle.lu_window.specs.Shown.{gone}
use Rattle.lu_window.proofs.windows.Window.evicted.Given as goal

abbrev pub invariant-loop-who : goal.invariant-loop-who
invariant-loop-who l =
    map gone l.evicted ++ gone_from l.self.window l.kept.keys l.who-iterator ≡ gone_from l.self.window l.kept.keys l.self.window.lives
