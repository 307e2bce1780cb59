-- The kept reply is sent with the present boot and committed number.
use Rattle.std.proofs.Common.{◌≡◌, [], ◌∷◌, ◌∙◌, sym, ap, subst}
use Rattle.std.proofs.lemmas.Result.{on_ok_weaker}
use Rattle.lu_base.specs.declared.ids.Txn.{Txn}
use Rattle.lu_msg.specs.declared.messages.Message.TheVariants as message
use Rattle.lu_msg.specs.declared.messages.Reply.{Reply}
use Rattle.lu_target_store.specs.Stores.{Serves}
use Rattle.lu_spec_target.specs.Replies.{again, to_life}
use Rattle.lu_spec_target.specs.States.{Target}
use Rattle.lu_target_server.specs.Answering.{Tells}
use Rattle.lu_spec_entries.specs.Given.{giving}
use Rattle.lu_target_server.specs.Servers.{ServerState}
use Rattle.lu_target_server.proofs.server.Server.answer_again.Goals as goal

pub returns : goal.returns
returns g c =
    let sent : Reply = record c.in_ok-again.again { boot = c.self.inside.boot; committed = c.last_committed-again.result } in
    let same : (v : Target) → Tells c.args.self.now v → sent ≡ again v c.args.kept.now = λ v tells.
    let number : c.last_committed-again.result.0 ≡ v.committed =
    c.last_committed-again.ensures.serving v (subst (λ (s : ServerState). Serves s.store v) (sym c.self.view_is) tells.store) in
    let boot : c.self.inside.boot ≡ v.boot = ap (λ (s : ServerState). s.boot) c.self.view_is ∙ sym tells.boot in
    ap (λ (r : Reply). record r { boot = c.self.inside.boot; committed = c.last_committed-again.result }) c.in_ok-again.ensures.same
    ∙ ap (λ b. record c.args.kept.now { boot = b; committed = c.last_committed-again.result }) boot
    ∙ ap (λ (n : Txn). record c.args.kept.now { boot = v.boot; committed = n }) (ap (λ n. record { 0 = n }) number)
    in
    record {
      sent = on_ok_weaker c.say.result
          (λ said v tells. said ∙ ap (λ (r : Reply). giving c.args.turn.now (to_life r.who (message.Reply r) ∷ [])) (same v tells))
          c.say.ensures.said;
    }
