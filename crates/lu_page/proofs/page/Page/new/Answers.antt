use Rattle.std.proofs.Common.{◌≡◌, ◌<◌, refl, ◌∙◌, ap}
use Rattle.lu_page.specs.Sheets.{shown}
use Rattle.lu_page.proofs.Slots.{fresh}
use Rattle.lu_page.proofs.page.Page.new.Goals as goal

pub returns : goal.returns
returns g c = record {
  empty = ap (λ here. record { first = c.args.first; here = here })
      (ap (shown c.args.first) c.in_ok-resize.ensures.items ∙ fresh c.args.first 4096 _ c.new-slots.result.items c.new-slots.ensures.items);
}
