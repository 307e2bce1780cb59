-- The life of the client that wishes to join, if there is one.
use Rattle.std.proofs.Common.{◌≡◌, ◌∙◌, ap, sym, Some, None}
use Rattle.std.specs.Prelude.{option_map}
use Rattle.lu_spec_target.specs.Windows.{wish_of, is_after}
use Rattle.lu_window.specs.Shown.{wish}
use Rattle.lu_window.proofs.Maps.{wish_found}
use Rattle.lu_window.proofs.wishes.Wishes.is_newest.Goals as goal

pub returns-in-Some : goal.returns-in-Some
returns-in-Some c =
    let there : wish_of c.args.who.client c.args.self.now ≡ Some (wish (c.args.who.client, c.in-Some.life.now)) =
    sym (ap (wish_of c.args.who.client) c.self.view_is) ∙ sym (wish_found c.args.who.client c.self.inside.lives.entries)
    ∙ ap (option_map (λ life. wish (c.args.who.client, life))) (sym c.in-Some.ensures.value) in
    sym (ap (is_after c.args.who) there)

pub returns-in-None : goal.returns-in-None
returns-in-None c =
    let there : wish_of c.args.who.client c.args.self.now ≡ None =
    sym (ap (wish_of c.args.who.client) c.self.view_is) ∙ sym (wish_found c.args.who.client c.self.inside.lives.entries)
    ∙ ap (option_map (λ life. wish (c.args.who.client, life))) (sym c.in-None.ensures.value) in
    sym (ap (is_after c.args.who) there)
