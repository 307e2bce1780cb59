-- What is left is performed over what those before it leave.
use Rattle.std.proofs.Common.{◌≤◌, drop}
use Rattle.lu_service.specs.Contents.{Contents}
use Rattle.lu_spec_target.specs.Stored.{last_number}
use Rattle.lu_target_refines.specs.Journals.{AreRising}
use Rattle.lu_target_redo.specs.Shown.{AreRepeatable, ShowsDone}
use Rattle.lu_target_redo.proofs.batches.perform_all.Given as goal

abbrev pub invariant-loop-transaction : goal.invariant-loop-transaction
invariant-loop-transaction g l =
    let kind = g.S.Service.kind in
    let own = g.S.Service.contents l.service in
    let first = g.S.Service.contents l.initial.service in
    let left = drop l.transaction-index l.transactions in
    record {
      repeatable : AreRepeatable kind left;
      rising : AreRising own.last left;
      last : last_number left own.last ≤ last_number l.transactions first.last;
      shows : (new : Contents) → ShowsDone kind left own new → ShowsDone kind l.transactions first new;
    }
