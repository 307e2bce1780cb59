use Rattle.std.proofs.Common.{◌≡◌, ℕ, ap, ◌∙◌}
use Rattle.std.proofs.lemmas.Result.{on_ok_weaker}
use Rattle.lu_base.specs.declared.ids.Node.TheVariants.{Target}
use Rattle.lu_base.specs.declared.ids.Who.{Who}
use Rattle.lu_msg.specs.declared.messages.Message.TheVariants as message
use Rattle.lu_msg.specs.declared.messages.Post.{Post}
use Rattle.lu_trace.specs.Turns.{with_post}
use Rattle.lu_spec_client.specs.Imports.{import_of}
use Rattle.lu_client.specs.Callbacks.{question_of}
use Rattle.lu_client.specs.Clients.{ClientState}
use Rattle.lu_client.proofs.Making.{makes_at}
use Rattle.lu_client.proofs.Peeking.{reported}
use Rattle.lu_client.proofs.client.Client.report_size.Goals as goal

pub returns : goal.returns
returns c =
    let post : Who → ℕ → Post = λ who boot. record {
      to = Target c.args.target.0;
      message =
          message.Size (record {
            who = who;
            boot = boot;
            cookie = c.args.question.cookie;
            for_who = c.args.question.for_who;
            xid =
                c.args.question.xid;
            size = c.args.size;
            stamp = c.at.result.stamp;
          });
    } in
    let boot : ℕ = (import_of c.args.target.0 c.args.self.now.client.imports).boot in
    let same : c.at.result ≡ c.args.turn.now.at = c.at.ensures.at ∙ makes_at c.in_ok-note_peek.ensures.makes in
    record {
      makes = on_ok_weaker c.send.result
          (λ added. reported c.args.target.0 (question_of c.args.question) c.args.size c.args.self.now c.at.result c.args.turn.now
          c.note_peek.new.turn c.send.new.self same c.in_ok-note_peek.ensures.makes
          (added
          ∙ ap (λ (b : ℕ). with_post c.note_peek.new.turn.at c.note_peek.new.turn.step (post c.self.inside.who b)) c.boot_known.ensures.boot
          ∙ ap (λ (who : Who). with_post c.note_peek.new.turn.at c.note_peek.new.turn.step (post who boot))
          (ap (λ (s : ClientState). s.client.who) c.self.view_is))
          c.send.ensures.turn)
          c.send.ensures.added;
    }
