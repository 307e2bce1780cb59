use Rattle.std.proofs.Common.{◌≡◌, ℕ, ◌+◌, ◌-◌, ◌<◌, ◌≤◌, arith}
use Rattle.lu_page.proofs.Maps.{all_inside}
use Rattle.lu_page.proofs.page.Page.slots_up_to.Goals as goal

pub returns-then-extent-first-clause-below : goal.returns-then-extent-first-clause-below
returns-then-extent-first-clause-below g c = all_inside c.args.extent c.args.self.now.first (c.args.self.now.first + 4096)
    (c.args.self.now.first + 0) c.args.self.now.here c.first-first.ensures.sheet.rising c.first-first.ensures.sheet.below
    (λ p low high within. omega (arith, low, high, within, c.first-first.ensures.first, c.if-extent-first.true))

pub returns-then-extent-first-ge-PAGE-clause-below : goal.returns-then-extent-first-ge-PAGE-clause-below
returns-then-extent-first-ge-PAGE-clause-below g c = all_inside c.args.extent c.args.self.now.first (c.args.self.now.first + 4096)
    (c.args.self.now.first + 4096) c.args.self.now.here c.first-first.ensures.sheet.rising c.first-first.ensures.sheet.below
    (λ p low high within. omega (arith, low, high, within, c.first-first.ensures.first, c.if-extent-first-ge-PAGE.true))

pub returns-clause-below : goal.returns-clause-below
returns-clause-below g c = all_inside c.args.extent c.args.self.now.first (c.args.self.now.first + 4096)
    (c.args.self.now.first + (c.args.extent.last - c.first-first.result + 1)) c.args.self.now.here c.first-first.ensures.sheet.rising
    c.first-first.ensures.sheet.below (λ p low high within. omega
    (arith, low, high, within, c.first-first.ensures.first, c.if-extent-first.false))
