-- What is kept is of another kind.
use Rattle.std.proofs.Common.{◌≡◌, ◌∙◌, ap, not, filter, rules}
use Rattle.std.proofs.lemmas.Fn.{filter_same}
use Rattle.lu_callback.specs.Filed.{of_kind}
use Rattle.lu_callback.proofs.holders.Holder.forget.Goals as goal

pub returns : goal.returns
returns c =
    let kept : c.retain.new.self.items ≡ filter (λ asked. not (of_kind c.args.kind asked)) c.self.inside.asked.items =
    filter_same _ _ _ (λ x b f' k. search rules) _ _ c.retain.ensures.filtered in
    record { forgot = kept ∙ ap (filter (λ asked. not (of_kind c.args.kind asked))) c.self.view_is }
