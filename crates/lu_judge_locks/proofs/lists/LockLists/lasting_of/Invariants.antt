-- Those so far that weren't ended.
use Rattle.std.proofs.Common.{◌≡◌, take}
use Rattle.std.specs.Prelude.{filter}
use Rattle.lu_judge_locks.specs.Lists.{arrival_of, lasts}
use Rattle.lu_judge_locks.proofs.lists.LockLists.lasting_of.Given as goal

abbrev pub invariant-loop-placed : goal.invariant-loop-placed
invariant-loop-placed l = l.lasting.items ≡ filter (λ placed. lasts l.self l.target (arrival_of placed)) (take l.placed-index l.list)
