-- A wish that is the newest of its client stands under the client.
use Rattle.std.proofs.Common.{◌≡◌, ◌∙◌, ap, sym, true, map, rules, tests}
use Rattle.lu_spec_target.specs.Windows.{is_newest, with_wish}
use Rattle.lu_window.specs.Shown.{wish}
use Rattle.lu_window.proofs.Maps.{wish_put}
use Rattle.lu_window.proofs.wishes.Wishes.put.Goals as goal

pub returns-clause-put : goal.returns-clause-put
returns-clause-put c =
    let on : c.is_newest.result ≡ true = search (rules, tests) in
    let new : is_newest c.args.who c.args.self.now ≡ true = sym c.is_newest.ensures ∙ on in
    rw new (ap (map wish) c.in_ok-insert.ensures.entries ∙ wish_put c.args.who c.self.inside.lives.entries
    ∙ ap (with_wish c.args.who) c.self.view_is)
