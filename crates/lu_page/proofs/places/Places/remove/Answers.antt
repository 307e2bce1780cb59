use Rattle.std.proofs.Common.{◌≡◌, ℕ, ◌+◌, ◌^◌, ◌<◌, ◌≤◌, ◌∙◌, not, Bool, true, false, refl, sym, ap, subst, arith}
use Rattle.lu_spec_machine.specs.Places.{is_in, below, inside}
use Rattle.lu_spec_bytes.specs.Maps.{AllBelow}
use Rattle.lu_spec_bytes.specs.Changes.{outside, unmarked, zeroed}
use Rattle.lu_page.proofs.Steps.{removes}
use Rattle.lu_page.proofs.places.Places.remove.Goals as goal

pub returns : goal.returns
returns g c = record { outside = c.edit.ensures.edited ∙ removes c.args.extent _ ∙ ap (outside c.args.extent) c.self.view_is }
