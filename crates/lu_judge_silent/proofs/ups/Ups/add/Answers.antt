use Rattle.std.proofs.lemmas.Result.{on_ok_weaker}
use Rattle.lu_judge_silent.proofs.Waiting.{put_back}
use Rattle.lu_judge_silent.proofs.ups.Ups.add.Goals as goal

pub returns : goal.returns
returns c = record {
  adds =
      on_ok_weaker c.put.result
      (λ puts w up. put_back c.args.self.now c.args.who w up _ _ _ _ _ _ (puts w up) (c.take_out-boots.ensures.rest w up)
      (c.in_ok-insert.ensures.updates.0 up) (c.take_out-boots.ensures.boots up))
      c.put.ensures.boots;
}
