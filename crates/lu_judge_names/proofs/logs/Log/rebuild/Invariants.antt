use Rattle.std.proofs.Common.{◌≡◌}
use Rattle.std.specs.Prelude.{filter}
use Rattle.lu_judge_names.specs.Logs.{is_above}
use Rattle.lu_judge_names.proofs.logs.Log.rebuild.Given as goal

abbrev pub invariant-loop-item : goal.invariant-loop-item
invariant-loop-item l = l.self ≡ filter (is_above l.above) l.yielded
