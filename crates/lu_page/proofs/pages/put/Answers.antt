use Rattle.std.proofs.Common.{◌≡◌, ℕ, ◌+◌, ◌-◌, ◌*◌, ◌/◌, ◌^◌, ◌<◌, ◌≤◌, ◌∙◌, Bool, true, false, List, [], ◌∷◌, length, take, drop, refl}
use Rattle.std.proofs.Common.{sym, ap, subst, arith}
use Rattle.std.specs.Prelude.{Option, Some, None, is_some, is_none, IsSome, IfNone}
use Rattle.std.specs.Prelude.{nat_eq}
use Rattle.std.specs.Map.{set_value}
use Rattle.lu_spec_machine.specs.Places.{found_at, laid}
use Rattle.lu_page.specs.Sheets.{Sheet}
use Rattle.lu_page.specs.Pages.{joined, IsPage, PagesFrom}
use Rattle.lu_page.proofs.Changed.{looked, page_is, set_is, set_laid, set_pages, set_others}
use Rattle.lu_page.proofs.Laid.{page_laid}
use Rattle.lu_page.proofs.pages.put.Goals as goal

pub lay-requires-clause-low : goal.lay-requires-clause-low
lay-requires-clause-low g c =
    let found : found_at c.args.pages.now.entries c.args.number ≡ Some c.in-Some.page.now =
    sym (looked c.args.number c.args.pages.now.entries) ∙ sym c.in-Some.ensures.value in
    let page = page_is 0 c.args.number c.in-Some.page.now c.args.pages.now.entries c.requires.pages found in
    omega (arith, page.first, c.requires.low)

pub lay-requires-clause-high : goal.lay-requires-clause-high
lay-requires-clause-high g c =
    let found : found_at c.args.pages.now.entries c.args.number ≡ Some c.in-Some.page.now =
    sym (looked c.args.number c.args.pages.now.entries) ∙ sym c.in-Some.ensures.value in
    let page = page_is 0 c.args.number c.in-Some.page.now c.args.pages.now.entries c.requires.pages found in
    omega (arith, page.first, c.requires.high)

pub returns-clause-laid : goal.returns-clause-laid
returns-clause-laid g c =
    let found : found_at c.args.pages.now.entries c.args.number ≡ Some c.in-Some.page.now =
    sym (looked c.args.number c.args.pages.now.entries) ∙ sym c.in-Some.ensures.value in
    let entries : (c.get_mut.follows.lender c.lay.new.self).entries
    ≡ set_value (nat_eq c.args.number) c.args.pages.now.entries c.lay.new.self = (c.get_mut.follows.holds c.lay.new.self).0
    ∙ set_is c.args.number c.lay.new.self c.args.pages.now.entries in
    ap joined entries ∙ set_laid 0 c.args.number c.args.at c.args.items.now c.in-Some.page.now c.lay.new.self c.args.pages.now.entries
    c.requires.pages found (ap (λ s. s.here) c.lay.ensures.laid) c.requires.low c.requires.high

pub returns-clause-pages : goal.returns-clause-pages
returns-clause-pages g c =
    let found : found_at c.args.pages.now.entries c.args.number ≡ Some c.in-Some.page.now =
    sym (looked c.args.number c.args.pages.now.entries) ∙ sym c.in-Some.ensures.value in
    let entries : (c.get_mut.follows.lender c.lay.new.self).entries
    ≡ set_value (nat_eq c.args.number) c.args.pages.now.entries c.lay.new.self = (c.get_mut.follows.holds c.lay.new.self).0
    ∙ set_is c.args.number c.lay.new.self c.args.pages.now.entries in
    let page = page_is 0 c.args.number c.in-Some.page.now c.args.pages.now.entries c.requires.pages found in
    subst (λ m. PagesFrom 0 m) (sym entries) (set_pages 0 c.args.number c.lay.new.self c.args.pages.now.entries c.requires.pages
    (page_laid c.args.number c.args.at c.args.items.now c.in-Some.page.now c.lay.new.self page c.lay.ensures.laid c.requires.low
    c.requires.high))

pub returns-clause-others : goal.returns-clause-others
returns-clause-others g c k h =
    let entries : (c.get_mut.follows.lender c.lay.new.self).entries
    ≡ set_value (nat_eq c.args.number) c.args.pages.now.entries c.lay.new.self = (c.get_mut.follows.holds c.lay.new.self).0
    ∙ set_is c.args.number c.lay.new.self c.args.pages.now.entries in
    subst (λ m. IsSome (found_at m k)) (sym entries) (set_others c.args.number k c.lay.new.self c.args.pages.now.entries h)
