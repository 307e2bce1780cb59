use Rattle.std.proofs.Common.{rules, ◌≡◌, not, filter, ◌∙◌, ap}
use Rattle.std.proofs.lemmas.Fn.{filter_same}
use Rattle.lu_msg.specs.declared.messages.Request.{Request}
use Rattle.lu_target_server.specs.Requests.{is_named}
use Rattle.lu_target_server.proofs.requests.Requests.remove.Goals as goal

pub returns : goal.returns
returns c =
    let kept : c.retain.new.self.items ≡ filter (λ (r : Request). not (is_named c.args.who c.args.xid r)) c.self.inside.items.items =
    filter_same _ _ _ (λ x b f' k. search rules) _ _ c.retain.ensures.filtered in
    record { removed = kept ∙ ap (filter (λ r. not (is_named c.args.who c.args.xid r))) c.self.view_is }
