-- Boot and committed number are those of the state.
use Rattle.std.proofs.Common.{◌≡◌, ◌∙◌, ℕ, ap, sym, subst}
use Rattle.lu_msg.specs.declared.messages.Reply.{Reply}
use Rattle.lu_target_store.specs.Stores.{Serves}
use Rattle.lu_target_server.specs.Servers.{ServerState}
use Rattle.lu_target_server.proofs.server.Server.reply.Goals as goal

pub returns-clause-reply : goal.returns-clause-reply
returns-clause-reply g c = λ v tells.
    let r = c.args.request.now in
    let boot : c.self.inside.boot ≡ v.boot = ap (λ (s : ServerState). s.boot) c.self.view_is ∙ sym tells.boot in
    let committed : c.last_committed.result.0 ≡ v.committed =
    c.last_committed.ensures.serving v (subst (λ (s : ServerState). Serves s.store v) (sym c.self.view_is) tells.store) in
    let told : ((boot committed : ℕ) → Reply) = (λ boot committed. record {
      who = r.who;
      boot = boot;
      xid = r.xid;
      txn = c.args.number;
      committed = record { 0 = committed };
      seen = c.args.seen;
      at = c.args.at;
      locks = c.args.locks;
      answer = c.args.answer;
    }) in
    ap (λ n. told n c.last_committed.result.0) boot ∙ ap (told v.boot) committed
