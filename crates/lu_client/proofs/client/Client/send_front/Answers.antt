use Rattle.std.proofs.Common.{Option, subst}
use Rattle.lu_msg.specs.declared.messages.Message.{Message}
use Rattle.lu_client.specs.Fronts.{NextIs}
use Rattle.lu_client.proofs.Fronts.{front_went}
use Rattle.lu_client.proofs.client.Client.send_front.Goals as goal

pub returns : goal.returns
returns c =
    record {
      front = front_went c.args.target.0 c.args.self.now c.next.new.self c.args.turn.now c.send.new.self c.in-Some.message c.requires.target
          (subst (λ (next : Option Message). NextIs c.args.target.0 c.args.self.now c.next.new.self next) c.in-Some.is
          c.in_ok-message.ensures.next)
          c.in_ok-send.ensures.added c.in_ok-send.ensures.turn;
    }
