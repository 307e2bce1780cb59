use Rattle.std.proofs.Common.{◌≡◌, ℕ, ◌+◌, ◌-◌, ◌<◌, ◌≤◌, arith}
use Rattle.lu_page.proofs.Maps.{bare_before}
use Rattle.lu_page.proofs.page.Page.slots_before.Goals as goal

pub returns-then-extent-first-clause-bare : goal.returns-then-extent-first-clause-bare
returns-then-extent-first-clause-bare g c = λ p less. bare_before c.args.extent c.args.self.now.first (c.args.self.now.first + 0) p
    c.args.self.now.here c.first-first.ensures.sheet.rising (λ low after under. omega
    (arith, low, after, under, c.first-first.ensures.first, c.if-extent-first.true)) less

pub returns-then-extent-first-ge-PAGE-clause-bare : goal.returns-then-extent-first-ge-PAGE-clause-bare
returns-then-extent-first-ge-PAGE-clause-bare g c = λ p less. bare_before c.args.extent c.args.self.now.first (c.args.self.now.first + 4096)
    p c.args.self.now.here c.first-first.ensures.sheet.rising (λ low after under. omega
    (arith, low, after, under, c.first-first.ensures.first, c.if-extent-first-ge-PAGE.true)) less

pub returns-clause-bare : goal.returns-clause-bare
returns-clause-bare g c = λ p less. bare_before c.args.extent c.args.self.now.first
    (c.args.self.now.first + (c.args.extent.first - c.first-first.result)) p c.args.self.now.here c.first-first.ensures.sheet.rising
    (λ low after under. omega (arith, low, after, under, c.first-first.ensures.first, c.if-extent-first.false)) less
