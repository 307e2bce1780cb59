use Rattle.std.proofs.Common.{◌^◌, ◌≡◌, ℕ, ◌+◌, ◌≤◌, ap, subst, arith}
use Rattle.lu_page.specs.Sheets.{IsSheet}
use Rattle.lu_page.proofs.Slots.{shown_rising, shown_below}
use Rattle.lu_page.proofs.page.Page.first.Goals as goal

pub returns : goal.returns
returns g c =
    record {
      first = ap (λ s. s.first) c.self.view_is;
      sheet = subst (λ s. IsSheet s) c.self.view_is (record {
        rising = shown_rising c.self.inside.first c.self.inside.slots.items;
        below =
            shown_below c.self.inside.first (c.self.inside.first + 4096) c.self.inside.slots.items (omega (arith, c.self.invariant.0));
      });
      bound = subst (λ s. s.first ≤ 2 ^ 62) c.self.view_is c.self.invariant.1;
    }
