use Rattle.std.proofs.Common.{ap, ◌∙◌}
use Rattle.std.proofs.lemmas.Result.{on_ok_weaker}
use Rattle.lu_base.specs.declared.ids.Node.TheVariants.{Target}
use Rattle.lu_msg.specs.declared.messages.Message.TheVariants as message
use Rattle.lu_trace.specs.Turns.{with_post}
use Rattle.lu_spec_client.specs.Imports.{import_of}
use Rattle.lu_client.specs.Clients.{ClientState}
use Rattle.lu_client.proofs.Reminding.{where_asked}
use Rattle.lu_client.proofs.client.Client.ask_where_of.Goals as goal

pub returns-in-Some : goal.returns-in-Some
returns-in-Some c =
    record {
      makes = on_ok_weaker c.send.result
          (λ added. where_asked c.args.target.0 c.args.slot c.boot_known.result c.in-Some.lock c.args.self.now c.args.turn.now c.send.new.self
          c.boot_known.ensures.boot c.if-lock-target.true
          (c.in-Some.ensures.asks c.args.self.now.client.who (import_of c.args.target.0 c.args.self.now.client.imports).boot c.args.target.0)
          (added ∙ ap (λ (s : ClientState). with_post c.args.turn.now.at c.args.turn.now.step
          (record { to = Target c.args.target.0; message = message.Where s.client.who c.boot_known.result c.in-Some.lock.cookie }))
          c.self.view_is)
          c.send.ensures.turn)
          c.send.ensures.added;
    }
