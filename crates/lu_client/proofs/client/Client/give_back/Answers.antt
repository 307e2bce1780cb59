use Rattle.std.proofs.Common.{ap, ◌∙◌}
use Rattle.std.proofs.lemmas.Result.{on_ok_weaker}
use Rattle.lu_base.specs.declared.ids.Node.TheVariants.{Target}
use Rattle.lu_base.specs.declared.ids.Who.{Who}
use Rattle.lu_msg.specs.declared.messages.Message.TheVariants as message
use Rattle.lu_trace.specs.Turns.{with_post}
use Rattle.lu_client.specs.Clients.{ClientState}
use Rattle.lu_client.proofs.Visiting.{given_back}
use Rattle.lu_client.proofs.client.Client.give_back.Goals as goal

pub returns : goal.returns
returns c =
    record {
      makes = on_ok_weaker c.send.result
          (λ added. given_back c.args.held.now c.args.boot c.args.self.now c.drop_held.new.self c.args.turn.now c.drop_held.new.turn
          c.send.new.self c.in_ok-drop_held.ensures.makes
          (added ∙ ap (λ (who : Who). with_post c.drop_held.new.turn.at c.drop_held.new.turn.step
          (record { to = Target c.args.held.now.target.0; message = message.Cancel who c.args.boot c.args.held.now.lock.cookie }))
          (ap (λ (s : ClientState). s.client.who) c.self.view_is))
          c.send.ensures.turn)
          c.send.ensures.added;
    }
