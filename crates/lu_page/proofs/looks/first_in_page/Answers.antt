use Rattle.std.proofs.Common.{◌≡◌, ℕ, ◌+◌, ◌-◌, ◌*◌, ◌/◌, ◌^◌, ◌<◌, ◌≤◌, ◌∙◌, Bool, true, false, List, [], ◌∷◌, ◌++◌, length, max, refl}
use Rattle.std.proofs.Common.{sym, ap, subst, arith}
use Rattle.std.specs.Prelude.{Option, Some, None, is_some, IsSome, IfNone, nat_lt}
use Rattle.lu_spec_machine.specs.Places.{inside, end_of}
use Rattle.lu_spec_bytes.specs.Runs.{first_position}
use Rattle.lu_page.specs.Sheets.{Sheet}
use Rattle.lu_page.proofs.Changed.{looked}
use Rattle.lu_page.proofs.Seen.{page_inside}
use Rattle.lu_page.proofs.looks.first_in_page.Goals as goal

pub returns-in-Some : goal.returns-in-Some
returns-in-Some g c = record {
  first = c.first_in.ensures.first
      ∙ ap (λ m. first_position (inside c.args.extent m)) (sym (page_inside c.args.number (Some c.in-Some.page.now) c.args.pages.now.entries
      c.requires.pages (sym (looked c.args.number c.args.pages.now.entries) ∙ sym c.in-Some.ensures.value)));
}

pub returns-in-None : goal.returns-in-None
returns-in-None g c = record {
  first = ap (λ m. first_position (inside c.args.extent m))
      (sym (page_inside c.args.number None c.args.pages.now.entries c.requires.pages
      (sym (looked c.args.number c.args.pages.now.entries) ∙ sym c.in-None.ensures.value)));
}
