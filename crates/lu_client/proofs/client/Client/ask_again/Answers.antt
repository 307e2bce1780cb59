use Rattle.std.proofs.lemmas.Result.{on_ok_weaker}
use Rattle.lu_client.proofs.Reminding.{serving_reminded}
use Rattle.lu_client.proofs.client.Client.ask_again.Goals as goal

pub returns : goal.returns
returns c =
    record {
      makes = on_ok_weaker c.ask_where.result
          (λ wheres. serving_reminded c.args.target.0 c.args.self.now c.args.turn.now c.send_posts.new.turn c.ask_where.new.turn
          c.in_ok-again.again c.requires.serving
          c.in_ok-again.ensures.again c.in_ok-send_posts.ensures.sends wheres)
          c.ask_where.ensures.makes;
    }
