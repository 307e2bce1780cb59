use Rattle.std.proofs.Common.{◌∙◌}
use Rattle.std.proofs.lemmas.Result.{on_ok_weaker}
use Rattle.lu_spec_laws.specs.Words.Calls.{open_call}
use Rattle.lu_judge_glimpse.specs.Begins.{begun_place}
use Rattle.lu_judge_glimpse.specs.Shown.{watch_at}
use Rattle.lu_judge_glimpse.specs.Watched.{watch_begun}
use Rattle.lu_judge_glimpse.proofs.Watches.{moved}
use Rattle.lu_judge_glimpse.proofs.glimpses.watch_line.Goals as goal

pub returns-in-Client : goal.returns-in-Client
returns-in-Client c = record {
  watched = on_ok_weaker c.watch_call.result (λ watched. λ past shown c' s.
      rw (c.in-Begin.is, c.in-Client.is)
      (watched past shown c' s
      ∙ moved c.in-Client.client c' c.in-Begin.slot s (λ a b. watch_begun c.args.counts.now (begun_place a b past)
      (watch_at c.args.standing.now c' s) (open_call a b past)) (watch_at c.args.standing.now c' s)))
      c.watch_call.ensures.watched;
}

pub returns-in-Client-node : goal.returns-in-Client-node
returns-in-Client-node c = record {
  watched = λ past shown c' s. rw (c.in-Told.is, c.in-Client-node.is) (c.remove.ensures.updates.0 (c', s));
}
