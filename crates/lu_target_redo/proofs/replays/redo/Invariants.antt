-- The deeds so far, with those of the replays that are left, are the deeds of all.
use Rattle.std.proofs.Common.{◌≡◌, List, ◌++◌, length, map}
use Rattle.std.specs.Vec.Iter.{into_iter_items, into_iter_len}
use Rattle.lu_service.specs.Contents.{Contents}
use Rattle.lu_spec_entries.specs.Carried.{Deed}
use Rattle.lu_target_refines.specs.Journals.{AreRising}
use Rattle.lu_window.specs.Shown.{kept_replay}
use Rattle.lu_target_redo.specs.Shown.{deed_of, transactions_of, AreRepeatable, ShowsDone, AreDeeds}
use Rattle.lu_target_redo.proofs.replays.redo.Given as goal

abbrev pub invariant-loop-replay : goal.invariant-loop-replay
invariant-loop-replay g l =
    let kind = g.S.Service.kind in
    let own = g.S.Service.contents l.service in
    let first = g.S.Service.contents l.initial.service in
    let left = into_iter_items l.replay-iterator in
    let all = into_iter_items l.initial.replay-iterator in
    record {
      can_next : (goal.iterator-loop-replay g).can_next l.replay-iterator;
      is_finite : (goal.iterator-loop-replay g).is_finite l.replay-iterator;
      count : into_iter_len l.replay-iterator ≡ length left;
      repeatable : AreRepeatable kind (transactions_of left);
      rising : AreRising own.last (transactions_of left);
      deeds : (deeds : List Deed) → AreDeeds kind l.close (map kept_replay left) own deeds
          → AreDeeds kind l.close (map kept_replay all) first (map deed_of l.deeds ++ deeds);
      shows : (new : Contents) → ShowsDone kind (transactions_of left) own new → ShowsDone kind (transactions_of all) first new;
    }
