-- What the batches tell that are left comes over what those before them leave.
use Rattle.std.proofs.Common.{drop}
use Rattle.lu_service.specs.Contents.{Contents}
use Rattle.lu_target_refines.specs.Journals.{AllRising}
use Rattle.lu_target_redo.specs.Shown.{AllRepeatable, ShowsLoaded}
use Rattle.lu_target_redo.proofs.batches.load.Given as goal

abbrev pub invariant-loop-batch : goal.invariant-loop-batch
invariant-loop-batch g l =
    let kind = g.S.Service.kind in
    let own = g.S.Service.contents l.service in
    let first = g.S.Service.contents l.initial.service in
    let left = drop l.batch-index l.batches in
    record {
      repeatable : AllRepeatable kind left;
      rising : AllRising own.last left;
      shows : (new : Contents) → ShowsLoaded kind left own new → ShowsLoaded kind l.batches first new;
    }
