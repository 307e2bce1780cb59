-- A lock comes to its lists and to its cookie's queue.
use Rattle.std.proofs.Common.{◌∙◌, ◌==◌, ◌&&◌, ◌++◌, ◌∷◌, [], ap, refl}
use Rattle.std.specs.Prelude.{unwrap_or}
use Rattle.lu_judge_locks.specs.Lists.{arrival_of}
use Rattle.lu_judge_locks.proofs.Turning.{pushed}
use Rattle.lu_judge_locks.proofs.waiting.Waiting.wait.Goals as goal

pub returns : goal.returns
returns c = record {
  came = record {
    lists = c.in_ok-add.ensures.added;
    passed = λ t cookie. refl;
    queues = λ t cookie.
        pushed (λ list. list.items) arrival_of (c.args.target == t && c.args.placed.lock.now.cookie.0 == cookie) c.push.new.self
        c.new.result _ _ _ _ c.args.placed (c.in_ok-insert.ensures.updates.0 (t, cookie)) (c.remove.ensures.updates.0 (t, cookie))
        (c.in_ok-push.ensures.items ∙ ap (λ list. list.items ++ c.args.placed ∷ [])
        (c.unwrap_or-queue.ensures ∙ ap (λ o. unwrap_or o c.new.result) c.remove.ensures.value)) c.new.ensures.items;
  };
}
