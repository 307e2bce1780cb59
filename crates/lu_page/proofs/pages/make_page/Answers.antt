use Rattle.std.proofs.Common.{◌≡◌, ℕ, ◌+◌, ◌-◌, ◌*◌, ◌/◌, ◌^◌, ◌<◌, ◌≤◌, ◌∙◌, Bool, true, false, List, [], ◌∷◌, length, take, drop, refl}
use Rattle.std.proofs.Common.{sym, ap, subst, arith}
use Rattle.std.specs.Prelude.{Option, Some, None, is_some, is_none, IsSome, IfNone}
use Rattle.std.specs.BTreeMap.{insert_entry}
use Rattle.std.specs.Ordering.{nat_cmp}
use Rattle.lu_spec_machine.specs.Places.{found_at}
use Rattle.lu_page.specs.Sheets.{Sheet}
use Rattle.lu_page.specs.Pages.{joined, IsPage, PagesFrom}
use Rattle.lu_page.proofs.Gaps.{not_some}
use Rattle.lu_page.proofs.Changed.{looked, inserted_pages, inserted_joined, inserted_others}
use Rattle.lu_page.proofs.pages.make_page.Goals as goal

pub returns-clause-same : goal.returns-clause-same
returns-clause-same g c =
    let entries : c.insert.new.self.entries ≡ insert_entry nat_cmp c.args.pages.now.entries c.args.number c.in_ok-page.page =
    c.in_ok-insert.ensures.entries in
    let absent : found_at c.args.pages.now.entries c.args.number ≡ None =
    not_some (found_at c.args.pages.now.entries c.args.number)
    (ap is_some (sym (looked c.args.number c.args.pages.now.entries)) ∙ sym c.contains_key.ensures ∙ c.if-contains_key.false) in
    ap joined entries ∙ inserted_joined c.args.number c.in_ok-page.page c.args.pages.now.entries
    (ap (λ s. s.here) c.in_ok-page.ensures.empty) absent

pub returns-clause-pages : goal.returns-clause-pages
returns-clause-pages g c =
    let entries : c.insert.new.self.entries ≡ insert_entry nat_cmp c.args.pages.now.entries c.args.number c.in_ok-page.page =
    c.in_ok-insert.ensures.entries in
    let absent : found_at c.args.pages.now.entries c.args.number ≡ None =
    not_some (found_at c.args.pages.now.entries c.args.number)
    (ap is_some (sym (looked c.args.number c.args.pages.now.entries)) ∙ sym c.contains_key.ensures ∙ c.if-contains_key.false) in
    let page : IsPage c.args.number c.in_ok-page.page = subst (λ s. IsPage c.args.number s) (sym c.in_ok-page.ensures.empty)
    (record { first = refl; sheet = record { rising = tt; below = tt }; most = c.requires.number }) in
    subst (λ m. PagesFrom 0 m) (sym entries) (inserted_pages 0 c.args.number c.in_ok-page.page c.args.pages.now.entries c.requires.pages
    (omega arith) page absent)

pub returns-clause-others : goal.returns-clause-others
returns-clause-others g c k h =
    let entries : c.insert.new.self.entries ≡ insert_entry nat_cmp c.args.pages.now.entries c.args.number c.in_ok-page.page =
    c.in_ok-insert.ensures.entries in
    subst (λ m. IsSome (found_at m k)) (sym entries) (inserted_others c.args.number k c.in_ok-page.page c.args.pages.now.entries h)
