use Rattle.std.proofs.Common.{◌≡◌, ℕ, ◌+◌, ◌-◌, ◌*◌, ◌/◌, ◌^◌, ◌<◌, ◌≤◌, ◌∙◌, Bool, true, false, List, [], ◌∷◌, length, take, drop, refl}
use Rattle.std.proofs.Common.{sym, ap, subst, arith}
use Rattle.std.specs.Prelude.{Option, Some, None, is_some, IsSome, IfNone, not}
use Rattle.std.specs.Prelude.{nat_eq}
use Rattle.std.specs.Map.{set_value, remove_entry}
use Rattle.lu_base.specs.declared.locks.Extent.{Extent}
use Rattle.lu_spec_machine.specs.Places.{RisingFrom, found_at, inside}
use Rattle.lu_spec_bytes.specs.Maps.{AllBelow}
use Rattle.lu_spec_bytes.specs.Runs.{first_position}
use Rattle.lu_page.specs.Sheets.{Sheet}
use Rattle.lu_page.specs.Pages.{joined, IsPage, PagesFrom}
use Rattle.lu_page.proofs.Gaps.{not_some}
use Rattle.lu_page.proofs.Changed.{looked, page_is, set_is, set_found, set_pages, set_edited, none_edited, page_edited, removed_is}
use Rattle.lu_page.proofs.Changed.{removed_pages, removed_joined, bare_page}
use Rattle.lu_page.proofs.pages.edit_page.Goals as goal

pub returns-in_default-clause-edited : goal.returns-in_default-clause-edited
returns-in_default-clause-edited g c =
    let absent : found_at c.args.pages.now.entries c.args.number ≡ None = sym (looked c.args.number c.args.pages.now.entries)
    ∙ sym c.in_default.ensures.value in
    ap (λ m. joined m.entries) c.get_mut.follows.holds-at-none ∙ none_edited (g.E.Edit.edits c.args.edit.now) 0 c.args.number
    c.args.pages.now.entries c.requires.pages absent

pub returns-else-is_none-clause-edited : goal.returns-else-is_none-clause-edited
returns-else-is_none-clause-edited g c =
    let found : found_at c.args.pages.now.entries c.args.number ≡ Some c.in-Some.page.now =
    sym (looked c.args.number c.args.pages.now.entries) ∙ sym c.in-Some.ensures.value in
    let entries : (c.get_mut.follows.lender c.edit.new.self).entries
    ≡ set_value (nat_eq c.args.number) c.args.pages.now.entries c.edit.new.self = (c.get_mut.follows.holds c.edit.new.self).0
    ∙ set_is c.args.number c.edit.new.self c.args.pages.now.entries in
    ap joined entries ∙ set_edited (g.E.Edit.edits c.args.edit.now) 0 c.args.number c.in-Some.page.now c.edit.new.self
    c.args.pages.now.entries c.requires.pages found (ap (λ s. s.here) c.edit.ensures.edited)

pub returns-else-is_none-clause-pages : goal.returns-else-is_none-clause-pages
returns-else-is_none-clause-pages g c =
    let found : found_at c.args.pages.now.entries c.args.number ≡ Some c.in-Some.page.now =
    sym (looked c.args.number c.args.pages.now.entries) ∙ sym c.in-Some.ensures.value in
    let entries : (c.get_mut.follows.lender c.edit.new.self).entries
    ≡ set_value (nat_eq c.args.number) c.args.pages.now.entries c.edit.new.self = (c.get_mut.follows.holds c.edit.new.self).0
    ∙ set_is c.args.number c.edit.new.self c.args.pages.now.entries in
    let page = page_is 0 c.args.number c.in-Some.page.now c.args.pages.now.entries c.requires.pages found in
    let set = set_pages 0 c.args.number c.edit.new.self c.args.pages.now.entries c.requires.pages
    (page_edited (g.E.Edit.edits c.args.edit.now) c.args.number c.in-Some.page.now c.edit.new.self page c.edit.ensures.edited) in
    subst (λ m. PagesFrom 0 m) (sym entries) set

pub returns-then-is_none-clause-edited : goal.returns-then-is_none-clause-edited
returns-then-is_none-clause-edited g c =
    let found : found_at c.args.pages.now.entries c.args.number ≡ Some c.in-Some.page.now =
    sym (looked c.args.number c.args.pages.now.entries) ∙ sym c.in-Some.ensures.value in
    let entries : (c.get_mut.follows.lender c.edit.new.self).entries
    ≡ set_value (nat_eq c.args.number) c.args.pages.now.entries c.edit.new.self = (c.get_mut.follows.holds c.edit.new.self).0
    ∙ set_is c.args.number c.edit.new.self c.args.pages.now.entries in
    let gone : c.remove.new.self.entries ≡ remove_entry (nat_eq c.args.number)
    (set_value (nat_eq c.args.number) c.args.pages.now.entries c.edit.new.self) = c.remove.ensures.entries
    ∙ removed_is c.args.number (c.get_mut.follows.lender c.edit.new.self).entries ∙ ap (remove_entry (nat_eq c.args.number)) entries in
    let nothing : first_position (inside (record { first = c.first-first.result; last = c.first-first.result + 4095 }) c.edit.new.self.here)
    ≡ None = sym c.first_in.ensures.first ∙ not_some c.first_in.result (c.is_none.ensures ∙ ap not c.if-is_none.true) in
    let bare : c.edit.new.self.here ≡ [] = bare_page c.first-first.result c.edit.new.self.here
    (subst (λ q. RisingFrom q c.edit.new.self.here) (sym c.first-first.ensures.first) c.first-first.ensures.sheet.rising)
    (subst (λ q. AllBelow (q + 4096) c.edit.new.self.here) (sym c.first-first.ensures.first) c.first-first.ensures.sheet.below) nothing
    in
    ap joined gone ∙ removed_joined c.args.number c.edit.new.self
    (set_value (nat_eq c.args.number) c.args.pages.now.entries c.edit.new.self)
    (set_found c.args.number c.in-Some.page.now c.edit.new.self c.args.pages.now.entries found) bare
    ∙ set_edited (g.E.Edit.edits c.args.edit.now) 0 c.args.number c.in-Some.page.now c.edit.new.self c.args.pages.now.entries
    c.requires.pages found (ap (λ s. s.here) c.edit.ensures.edited)

pub returns-then-is_none-clause-pages : goal.returns-then-is_none-clause-pages
returns-then-is_none-clause-pages g c =
    let found : found_at c.args.pages.now.entries c.args.number ≡ Some c.in-Some.page.now =
    sym (looked c.args.number c.args.pages.now.entries) ∙ sym c.in-Some.ensures.value in
    let entries : (c.get_mut.follows.lender c.edit.new.self).entries
    ≡ set_value (nat_eq c.args.number) c.args.pages.now.entries c.edit.new.self = (c.get_mut.follows.holds c.edit.new.self).0
    ∙ set_is c.args.number c.edit.new.self c.args.pages.now.entries in
    let gone : c.remove.new.self.entries ≡ remove_entry (nat_eq c.args.number)
    (set_value (nat_eq c.args.number) c.args.pages.now.entries c.edit.new.self) = c.remove.ensures.entries
    ∙ removed_is c.args.number (c.get_mut.follows.lender c.edit.new.self).entries ∙ ap (remove_entry (nat_eq c.args.number)) entries in
    let page = page_is 0 c.args.number c.in-Some.page.now c.args.pages.now.entries c.requires.pages found in
    let set = set_pages 0 c.args.number c.edit.new.self c.args.pages.now.entries c.requires.pages
    (page_edited (g.E.Edit.edits c.args.edit.now) c.args.number c.in-Some.page.now c.edit.new.self page c.edit.ensures.edited) in
    subst (λ m. PagesFrom 0 m) (sym gone) (removed_pages 0 c.args.number
    (set_value (nat_eq c.args.number) c.args.pages.now.entries c.edit.new.self) set)
