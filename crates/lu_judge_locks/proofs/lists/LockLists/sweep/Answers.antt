-- One list has what lasted.
use Rattle.std.proofs.Common.{refl}
use Rattle.std.specs.Prelude.{map}
use Rattle.lu_judge_locks.specs.Lists.{arrival_of, lasting_on}
use Rattle.lu_judge_locks.proofs.Turning.{changed}
use Rattle.lu_judge_locks.proofs.lists.LockLists.sweep.Goals as goal

pub returns : goal.returns
returns c = record {
  swept = record {
    ends = record {
      lasts = λ t a. refl;
      bounded = λ place bounded. record
          { targets = bounded.targets; cookies = bounded.cookies; lives = bounded.lives; single = bounded.single };
    };
    lists = λ t other.
        changed (λ list. map arrival_of list.items) _ c.in_ok-lasting.lasting _ _ (lasting_on c.args.self.now c.args.target c.args.resource)
        (c.in_ok-insert.ensures.updates.0 (t, (other.fid.0, other.stripe))) c.in_ok-lasting.ensures;
  };
}
