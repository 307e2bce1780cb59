use Rattle.std.proofs.Common.{◌≡◌, ℕ, ◌+◌, ◌^◌, ◌<◌, ◌≤◌, ◌∙◌, not, Bool, true, false, refl, sym, ap, subst, arith}
use Rattle.lu_spec_machine.specs.Places.{is_in, below, inside}
use Rattle.lu_spec_bytes.specs.Maps.{AllBelow}
use Rattle.lu_spec_bytes.specs.Changes.{outside, unmarked, zeroed}
use Rattle.lu_page.proofs.Steps.{zeroes}
use Rattle.lu_page.proofs.places.Places+u8.zero_from.Goals as goal

pub returns : goal.returns
returns c = record { zeroed = c.edit.ensures.edited ∙ zeroes c.args.n _ ∙ ap (zeroed c.args.n) c.self.view_is }
