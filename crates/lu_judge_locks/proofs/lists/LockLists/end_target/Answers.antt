-- One mark more at a target.
use Rattle.std.proofs.Common.{refl}
use Rattle.lu_judge_locks.proofs.Marks.{at_target}
use Rattle.lu_judge_locks.proofs.lists.LockLists.end_target.Goals as goal

pub returns : goal.returns
returns c = record {
  ends = at_target c.args.self.now _ c.args.target c.args.place c.in_ok-insert.ensures.updates.0 (λ t cookie. refl) (λ t who. refl)
      (λ t one. refl) (λ t resource. refl);
}
