-- All hangs on the lives to come.
use Rattle.std.proofs.Common.{◌≡◌}
use Rattle.lu_spec_target.specs.Windows.{all_settled}
use Rattle.lu_window.proofs.windows.Window.all_back.Given as goal

abbrev pub invariant-loop-who : goal.invariant-loop-who
invariant-loop-who l = all_settled l.self.window l.who-iterator ≡ all_settled l.self.window l.self.window.lives
