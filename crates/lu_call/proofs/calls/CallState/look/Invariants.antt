use Rattle.std.proofs.Common.{length}
use Rattle.lu_call.specs.Ranges.{IsWork}
use Rattle.lu_call.specs.Views.{work_of}
use Rattle.lu_call.proofs.Reaching.{Reached}
use Rattle.lu_call.proofs.calls.CallState.look.Given as goal

abbrev pub invariant-loop-wanted : goal.invariant-loop-wanted
invariant-loop-wanted l =
    record {
      sound : IsWork (work_of l.work);
      reached : Reached l.initial.self l.self (work_of l.initial.work) (work_of l.work) l.initial.store l.store;
    }

abbrev pub decreases-loop-wanted : goal.decreases-loop-wanted
decreases-loop-wanted l = length l.work.left.items
