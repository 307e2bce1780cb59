-- What replaces the rest completes all.
use Rattle.std.proofs.Common.{length}
use Rattle.std.specs.Map.{keys_of}
use Rattle.lu_lockspace.specs.Entries.{Entries, AreRising}
use Rattle.lu_lockspace.specs.Ending.{AllThere, AllReplaced}
use Rattle.lu_lockspace.specs.Notes.{AllFewer}
use Rattle.lu_lockspace.proofs.ending.replace_all.Given as goal

abbrev pub invariant-loop-resource : goal.invariant-loop-resource
invariant-loop-resource l =
    ((after : Entries) → AllReplaced l.ended.items l.queues after → AllReplaced l.initial.ended.items l.initial.queues after)
    × AllThere l.queues (keys_of l.ended.items) × AreRising l.queues × AllFewer l.ended.items l.queues

abbrev pub decreases-loop-resource : goal.decreases-loop-resource
decreases-loop-resource l = length l.ended.items
