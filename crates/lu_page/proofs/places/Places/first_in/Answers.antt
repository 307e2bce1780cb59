use Rattle.std.proofs.Common.{◌≡◌, ℕ, ◌^◌, ◌<◌, Some, None, sym}
use Rattle.std.specs.Prelude.{Option, IfSome}
use Rattle.lu_spec_machine.specs.Places.{Places, is_in, inside}
use Rattle.lu_spec_bytes.specs.Maps.{AllBelow}
use Rattle.lu_spec_bytes.specs.Runs.{first_position}
use Rattle.lu_spec_bytes.proofs.Rising.{all_filter, first_all}
use Rattle.lu_page.specs.Pages.{joined}
use Rattle.lu_page.proofs.Joined.{joined_below}
use Rattle.lu_page.proofs.places.Places.first_in.Goals as goal

fits : {A : Type 0} (o : Option ℕ) (m : Places A) → o ≡ first_position m → AllBelow (2 ^ 62) m → IfSome o (λ position. position < 2 ^ 62)
fits None m is all = tt
fits (Some p) m is all = first_all (2 ^ 62) p m all (sym is)

pub returns-clause-fits : goal.returns-clause-fits
returns-clause-fits g c = fits c.first_in.result (inside c.args.extent (joined c.self.inside.pages.entries)) c.first_in.ensures.first
    (all_filter (2 ^ 62) (λ e. is_in c.args.extent e.0) (joined c.self.inside.pages.entries)
    (joined_below 0 c.self.inside.pages.entries c.self.invariant))
