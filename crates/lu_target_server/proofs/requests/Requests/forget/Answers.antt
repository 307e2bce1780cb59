use Rattle.std.proofs.Common.{rules, ◌≡◌, not, filter, ◌∙◌, ap}
use Rattle.std.proofs.lemmas.Fn.{filter_same}
use Rattle.lu_msg.specs.declared.messages.Request.{Request}
use Rattle.lu_spec_target.specs.Lives.{is_life}
use Rattle.lu_target_server.proofs.requests.Requests.forget.Goals as goal

pub returns : goal.returns
returns c =
    let kept : c.retain.new.self.items ≡ filter (λ (r : Request). not (is_life r.who c.args.gone.now)) c.self.inside.items.items =
    filter_same _ _ _ (λ x b f' k. search rules) _ _ c.retain.ensures.filtered in
    record { left = kept ∙ ap (filter (λ r. not (is_life r.who c.args.gone.now))) c.self.view_is }
