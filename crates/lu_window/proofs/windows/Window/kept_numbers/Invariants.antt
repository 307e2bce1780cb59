-- With the replays to come, those so far give the kept numbers.
use Rattle.std.proofs.Common.{map}
use Rattle.lu_spec_target.specs.Windows.{kept_from, kept_numbers}
use Rattle.lu_window.specs.Shown.{replayed_of}
use Rattle.lu_window.proofs.Closes.{Same}
use Rattle.lu_window.proofs.windows.Window.kept_numbers.Given as goal

abbrev pub invariant-loop-key : goal.invariant-loop-key
invariant-loop-key l = Same (kept_from l.self.window l.kept.keys (map replayed_of l.key-iterator)) (kept_numbers l.self.window)
