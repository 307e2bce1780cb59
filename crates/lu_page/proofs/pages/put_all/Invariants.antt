use Rattle.std.proofs.Common.{◌≡◌, ℕ, ◌+◌, ◌-◌, ◌*◌, ◌/◌, ◌^◌, ◌<◌, ◌≤◌, ◌∙◌, Bool, true, false, List, [], ◌∷◌, length, take, drop, refl}
use Rattle.std.proofs.Common.{sym, ap, subst, arith}
use Rattle.std.specs.Prelude.{Option, Some, None, is_some, is_none, IsSome, IfNone}
use Rattle.lu_spec_machine.specs.Places.{found_at, laid}
use Rattle.lu_page.specs.Pages.{joined, PagesFrom}
use Rattle.lu_page.proofs.pages.put_all.Given as goal

abbrev pub invariant-loop-done : goal.invariant-loop-done
invariant-loop-done g l =
    record {
      done : l.done ≤ length l.items;
      laid : joined l.pages.entries ≡ laid l.at (take l.done l.items) (joined l.initial.pages.entries);
      pages : PagesFrom 0 l.pages.entries;
      there : (k : ℕ) → l.at / 4096 ≤ k → k ≤ (l.at + (length l.items - 1)) / 4096 → IsSome (found_at l.pages.entries k);
    }

abbrev pub decreases-loop-done : goal.decreases-loop-done
decreases-loop-done g l = length l.items - l.done
