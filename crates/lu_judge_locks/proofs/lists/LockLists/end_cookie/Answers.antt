-- One mark more at a cookie.
use Rattle.std.proofs.Common.{refl}
use Rattle.lu_judge_locks.proofs.Marks.{at_cookie}
use Rattle.lu_judge_locks.proofs.lists.LockLists.end_cookie.Goals as goal

pub returns : goal.returns
returns c = record {
  ends = at_cookie c.args.self.now _ c.args.target c.args.cookie.0 c.args.place (λ t cookie. c.in_ok-insert.ensures.updates.0 (t, cookie))
      (λ t. refl) (λ t who. refl) (λ t one. refl) (λ t resource. refl);
}
