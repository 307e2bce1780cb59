use Rattle.std.proofs.Common.{◌≡◌, true, sym, ◌∙◌}
use Rattle.lu_spec_client.specs.Messages.{is_present}
use Rattle.lu_client.proofs.Serving.{resumed}
use Rattle.lu_client.proofs.client.Client.resume.Goals as goal

pub returns : goal.returns
returns c =
    let present : is_present c.args.who c.args.boot c.args.target.0 c.args.self.now.client ≡ true = sym c.is_present.ensures.present
    ∙ c.if-not-is_present.false in
    record {
      makes = resumed c.args.target.0 c.args.boot c.args.committed.0 c.args.who c.args.self.now c.hear_ready.new.self
          c.look_for_locks.new.self c.args.turn.now c.send_posts.new.turn c.in_ok-again.again
          present c.in_ok-again.ensures.served c.in_ok-send_posts.ensures.sends (c.look_for_locks.ensures.makes c.send_posts.new.turn);
    }
