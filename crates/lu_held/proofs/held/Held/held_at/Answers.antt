-- The lock under the name that stands there.
use Rattle.std.proofs.Common.{◌≡◌, ◌∙◌, Some, rules}
use Rattle.std.specs.Prelude.{slice_get, option_map}
use Rattle.lu_held.specs.Locks.{name_of}
use Rattle.lu_held.specs.Held.{those}
use Rattle.lu_held.proofs.Looks.{found_at}
use Rattle.lu_held.proofs.held.Held.held_at.Goals as goal

pub returns-clause-held : goal.returns-clause-held
returns-clause-held c =
    let there : option_map name_of (slice_get (those c.args.wanted c.args.self.now.locks) c.args.at) ≡ Some c.in_ok-name.name = search rules
    in
    c.held.ensures.held ∙ found_at c.args.wanted c.args.self.now.locks c.args.at c.in_ok-name.name c.name_at.ensures.sound there
