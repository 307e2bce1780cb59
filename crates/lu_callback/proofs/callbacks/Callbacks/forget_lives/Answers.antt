-- What is left under each cookie is what is left of all.
use Rattle.std.proofs.Common.{◌≡◌, ◌∙◌, ap, rules}
use Rattle.lu_callback.specs.Callbacks.{without_lives}
use Rattle.lu_callback.proofs.Ending.{AreEnded, ended, held}
use Rattle.lu_callback.proofs.callbacks.Callbacks.forget_lives.Goals as goal

pub invariant_of-self : goal.invariant_of-self
invariant_of-self c =
    let are : AreEnded c.args.lives.now c.self.inside.holders.entries c.retain.new.self.entries =
    ended c.args.lives.now _ _ (λ k v b w f' t. search rules) _ _ c.retain.ensures.filtered in
    held c.args.lives.now c.self.inside.holders.entries c.retain.new.self.entries are c.self.invariant

pub returns-clause-without : goal.returns-clause-without
returns-clause-without c =
    let are : AreEnded c.args.lives.now c.self.inside.holders.entries c.retain.new.self.entries =
    ended c.args.lives.now _ _ (λ k v b w f' t. search rules) _ _ c.retain.ensures.filtered in
    are.all ∙ ap (without_lives c.args.lives.now) c.self.view_is

pub returns-clause-sound : goal.returns-clause-sound
returns-clause-sound c = (invariant_of-self c).sound
