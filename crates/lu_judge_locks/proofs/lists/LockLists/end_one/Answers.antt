-- One line more whose lock was ended.
use Rattle.std.proofs.Common.{refl}
use Rattle.lu_judge_locks.proofs.Marks.{at_one}
use Rattle.lu_judge_locks.proofs.lists.LockLists.end_one.Goals as goal

pub returns : goal.returns
returns c = record {
  ends = λ place early. at_one c.args.self.now _ c.args.target c.args.one place early (λ t one. c.in_ok-insert.ensures.updates.0 (t, one))
      (λ t. refl) (λ t cookie. refl) (λ t who. refl) (λ t resource. refl);
}
