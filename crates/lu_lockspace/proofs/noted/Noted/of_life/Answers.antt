-- The locks of a life are on the resources where it has some.
use Rattle.std.proofs.Common.{rules, ◌≡◌, ◌∙◌, [], ◌∷◌}
use Rattle.lu_lockspace.specs.Entries.{changed}
use Rattle.lu_lockspace.specs.Guarded.{of_life_on_all}
use Rattle.lu_lockspace.proofs.Guarded.{life_all}
use Rattle.lu_lockspace.proofs.noted.Noted.of_life.Goals as goal

pub returns : goal.returns
returns c =
    let es = c.args.self.now in
    let found : c.in_ok-cookies.cookies.items ≡ of_life_on_all c.args.who (changed (c.args.who ∷ []) es) es = search rules in
    found ∙ life_all c.args.who es c.in_ok-resources.ensures.rising
