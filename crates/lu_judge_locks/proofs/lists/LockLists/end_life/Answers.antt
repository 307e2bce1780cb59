-- One mark more at a life.
use Rattle.std.proofs.Common.{refl}
use Rattle.lu_judge_locks.proofs.Marks.{at_life}
use Rattle.lu_judge_locks.proofs.lists.LockLists.end_life.Goals as goal

pub returns : goal.returns
returns c = record {
  ends = at_life c.args.self.now _ c.args.target c.args.who c.args.place
      (λ t who. c.in_ok-insert.ensures.updates.0 (t, (who.client, who.life))) (λ t. refl) (λ t cookie. refl) (λ t one. refl)
      (λ t resource. refl);
}
