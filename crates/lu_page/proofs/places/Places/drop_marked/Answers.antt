use Rattle.std.proofs.Common.{◌≡◌, ℕ, ◌+◌, ◌^◌, ◌<◌, ◌≤◌, ◌∙◌, not, Bool, true, false, refl, sym, ap, subst, arith}
use Rattle.lu_spec_machine.specs.Places.{is_in, below, inside}
use Rattle.lu_spec_bytes.specs.Maps.{AllBelow}
use Rattle.lu_spec_bytes.specs.Changes.{outside, unmarked, zeroed}
use Rattle.lu_page.proofs.Joined.{joined_below}
use Rattle.lu_page.proofs.Steps.{drops}
use Rattle.lu_page.proofs.places.Places.drop_marked.Goals as goal

pub returns : goal.returns
returns g c = record {
  unmarked = c.edit.ensures.edited ∙ drops g.T.Marked.marked 18446744073709551615 _
      (joined_below 0 c.self.inside.pages.entries c.self.invariant) (omega arith) ∙ ap (unmarked g.T.Marked.marked) c.self.view_is;
}
