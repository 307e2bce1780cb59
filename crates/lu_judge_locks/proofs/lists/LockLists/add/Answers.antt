-- One list has what lasted, and one more.
use Rattle.std.proofs.Common.{◌∙◌, ap, refl, [], ◌∷◌, ◌++◌}
use Rattle.std.specs.Prelude.{map}
use Rattle.std.proofs.lemmas.List.{map-append}
use Rattle.lu_judge_locks.specs.Lists.{arrival_of, lasting_on}
use Rattle.lu_judge_locks.proofs.Turning.{changed}
use Rattle.lu_judge_locks.proofs.lists.LockLists.add.Goals as goal

pub returns : goal.returns
returns c =
    let lasted = lasting_on c.args.self.now c.args.target c.args.placed.lock.now.resource in
    record {
      added = record {
        ends = record {
          lasts = λ t a. refl;
          bounded = λ place bounded. record
              { targets = bounded.targets; cookies = bounded.cookies; lives = bounded.lives; single = bounded.single };
        };
        lists = λ t other.
            changed (λ list. map arrival_of list.items) _ c.push.new.self _ _ (lasted ++ arrival_of c.args.placed ∷ [])
            (c.in_ok-insert.ensures.updates.0 (t, (other.fid.0, other.stripe)))
            (ap (map arrival_of) c.in_ok-push.ensures.items ∙ map-append arrival_of c.in_ok-list.list.items (c.args.placed ∷ [])
            ∙ ap (λ list. list ++ arrival_of c.args.placed ∷ []) c.in_ok-list.ensures);
      };
    }
