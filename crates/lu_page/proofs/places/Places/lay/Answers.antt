use Rattle.std.proofs.Common.{◌≡◌, ℕ, ◌+◌, ◌-◌, ◌*◌, ◌/◌, ◌^◌, ◌<◌, ◌≤◌, ◌∙◌, Bool, true, false, List, [], ◌∷◌, length, take, drop, refl}
use Rattle.std.proofs.Common.{sym, ap, subst, arith}
use Rattle.std.specs.Prelude.{Option, Some, None, is_some, IsSome, IfNone, nat_lt}
use Rattle.lu_spec_machine.specs.Places.{RisingFrom}
use Rattle.lu_page.proofs.Joined.{joined_map}
use Rattle.lu_page.proofs.Steps.{laid_nothing}
use Rattle.lu_page.proofs.places.Places.lay.Goals as goal

pub returns-then-count-eq0-clause-laid : goal.returns-then-count-eq0-clause-laid
returns-then-count-eq0-clause-laid g c = laid_nothing c.args.at c.args.items.now c.args.self.now
    (subst (λ m. RisingFrom 0 m) c.self.view_is (joined_map c.self.inside.pages.entries c.self.invariant)) c.if-count-eq0.true
