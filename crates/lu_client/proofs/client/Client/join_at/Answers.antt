use Rattle.std.proofs.Common.{ℕ, ap, ◌∙◌}
use Rattle.std.proofs.lemmas.Result.{on_ok_weaker}
use Rattle.lu_base.specs.declared.ids.Node.TheVariants.{Target}
use Rattle.lu_base.specs.declared.ids.Who.{Who}
use Rattle.lu_msg.specs.declared.messages.Message.TheVariants as message
use Rattle.lu_trace.specs.Turns.{with_post}
use Rattle.lu_spec_client.specs.Imports.{import_of}
use Rattle.lu_client.specs.Clients.{ClientState}
use Rattle.lu_client.proofs.Evicting.{join_sent}
use Rattle.lu_client.proofs.client.Client.join_at.Goals as goal

pub returns : goal.returns
returns c =
    record {
      makes = on_ok_weaker c.send.result
          (λ added. join_sent c.args.target.0 c.args.self.now c.args.turn.now c.send.new.self
          (added
          ∙ ap (λ (boot : ℕ). with_post c.args.turn.now.at c.args.turn.now.step
          (record { to = Target c.args.target.0; message = message.Join c.self.inside.who boot })) c.boot_known.ensures.boot
          ∙ ap (λ (who : Who). with_post c.args.turn.now.at c.args.turn.now.step
          (record {
            to = Target c.args.target.0;
            message = message.Join who (import_of c.args.target.0 c.args.self.now.client.imports).boot;
          })) (ap (λ (s : ClientState). s.client.who) c.self.view_is))
          c.send.ensures.turn)
          c.send.ensures.added;
    }
