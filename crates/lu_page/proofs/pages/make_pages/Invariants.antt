use Rattle.std.proofs.Common.{◌≡◌, ℕ, ◌+◌, ◌-◌, ◌*◌, ◌/◌, ◌^◌, ◌<◌, ◌≤◌, ◌∙◌, Bool, true, false, List, [], ◌∷◌, length, take, drop, refl}
use Rattle.std.proofs.Common.{sym, ap, subst, arith}
use Rattle.std.specs.Prelude.{Option, Some, None, is_some, is_none, IsSome, IfNone}
use Rattle.lu_spec_machine.specs.Places.{found_at}
use Rattle.lu_page.specs.Pages.{joined, PagesFrom}
use Rattle.lu_page.proofs.pages.make_pages.Given as goal

abbrev pub invariant-loop-number : goal.invariant-loop-number
invariant-loop-number g l =
    record {
      same : joined l.pages.entries ≡ joined l.initial.pages.entries;
      pages : PagesFrom 0 l.pages.entries;
      there : (k : ℕ) → l.first ≤ k → k < l.number → IsSome (found_at l.pages.entries k);
    }
