-- A client's wish stands under the client.
use Rattle.std.proofs.Common.{◌∙◌, ap, nat_eq}
use Rattle.std.specs.List.{list_any}
use Rattle.lu_window.proofs.Maps.{wish_there}
use Rattle.lu_window.proofs.wishes.Wishes.has.Goals as goal

pub returns : goal.returns
returns c =
    c.contains_key.ensures
    ∙ wish_there c.args.client c.self.inside.lives.entries
    ∙ ap (list_any (λ life. nat_eq life.client c.args.client)) c.self.view_is
