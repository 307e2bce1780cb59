use Rattle.std.proofs.Common.{◌≡◌, ℕ, ◌+◌, ◌<◌}
use Rattle.std.specs.Prelude.{None}
use Rattle.lu_spec_machine.specs.Places.{inside, found_at}
use Rattle.lu_page.proofs.page.Page.first_in.Given as goal

abbrev pub invariant-loop-slot : goal.invariant-loop-slot
invariant-loop-slot g l = (q : ℕ) → q < l.first + l.slot → found_at (inside l.extent l.self.here) q ≡ None
