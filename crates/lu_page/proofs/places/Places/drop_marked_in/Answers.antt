use Rattle.std.proofs.Common.{◌≡◌, ℕ, ◌∙◌, ap}
use Rattle.std.specs.Prelude.{not, ◌&&◌, filter}
use Rattle.lu_spec_machine.specs.Places.{is_in}
use Rattle.lu_page.proofs.Steps.{drops_in}
use Rattle.lu_page.proofs.places.Places.drop_marked_in.Goals as goal

pub returns : goal.returns
returns g c = record {
  unmarked = c.edit.ensures.edited ∙ drops_in g.T.Marked.marked c.args.extent _
      ∙ ap (λ m. filter (λ e. not (is_in c.args.extent e.0 && g.T.Marked.marked e.1)) m) c.self.view_is;
}
