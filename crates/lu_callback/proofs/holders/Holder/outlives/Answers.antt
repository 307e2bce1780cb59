-- What is left are the others.
use Rattle.std.proofs.Common.{◌∙◌, ap, rules}
use Rattle.std.proofs.lemmas.Fn.{filter_same}
use Rattle.lu_callback.specs.Callbacks.{without_lives}
use Rattle.lu_callback.proofs.holders.Holder.outlives.Goals as goal

pub returns-clause-forgot : goal.returns-clause-forgot
returns-clause-forgot c =
    filter_same _ _ _ (λ x b f' k. search rules) _ _ c.retain.ensures.filtered ∙ ap (without_lives c.args.lives.now) c.self.view_is
