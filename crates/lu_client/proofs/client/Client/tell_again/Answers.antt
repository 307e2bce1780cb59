use Rattle.std.proofs.lemmas.Result.{on_ok_weaker}
use Rattle.lu_client.proofs.Recovering.{told_again}
use Rattle.lu_client.proofs.client.Client.tell_again.Goals as goal

pub returns : goal.returns
returns c =
    record {
      makes = on_ok_weaker c.send_posts.result
          (λ given. told_again c.args.target.0 c.in_ok-posts.posts c.args.self.now c.reconnect.new.self c.args.turn.now c.send_posts.new.turn
          (c.in_ok-posts.ensures.told c.boot_known-boot.ensures.boot c.requires.unserved) given)
          c.send_posts.ensures.sends;
    }
