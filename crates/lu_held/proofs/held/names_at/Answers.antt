-- The names between the target's first and the next target's are those of the target.
use Rattle.std.proofs.Common.{◌≡◌, ◌∙◌, refl, filter}
use Rattle.lu_held.specs.Kept.{is_at}
use Rattle.lu_held.proofs.AtTarget.{target_between, before_last}
use Rattle.lu_held.proofs.held.names_at.Goals as goal

pub returns-then-target-lt65535 : goal.returns-then-target-lt65535
returns-then-target-lt65535 c =
    let some : c.range.result ≡ filter (is_at c.args.target) c.args.names.now.keys = c.range.ensures.between tt
    ∙ rw (c.first_name.ensures, c.first_name-then-target-lt65535.ensures) (target_between c.args.target _ c.args.names.now.keys refl) in
    rw (before_last c.args.target.0 c.if-target-lt65535.true) some
