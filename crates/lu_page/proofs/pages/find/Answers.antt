use Rattle.std.proofs.Common.{◌≡◌, ℕ, ◌+◌, ◌-◌, ◌*◌, ◌/◌, ◌^◌, ◌<◌, ◌≤◌, ◌∙◌, Bool, true, false, List, [], ◌∷◌, length, take, drop, refl}
use Rattle.std.proofs.Common.{sym, ap, subst, arith}
use Rattle.std.specs.Prelude.{Option, Some, None, is_some, is_none, IsSome, IfNone}
use Rattle.lu_spec_machine.specs.Places.{found_at}
use Rattle.lu_page.specs.Sheets.{Sheet}
use Rattle.lu_page.proofs.Joined.{found_joined, page_found}
use Rattle.lu_page.proofs.Changed.{looked}
use Rattle.lu_page.proofs.pages.find.Goals as goal

pub returns-in-Some : goal.returns-in-Some
returns-in-Some g c =
    let k : ℕ = c.args.position / 4096 in
    let low : k * 4096 ≤ c.args.position = omega arith in
    let high : c.args.position < (k + 1) * 4096 = omega arith in
    record {
      found = c.at.ensures.found ∙ ap (λ o. page_found o c.args.position)
          (c.in-Some.ensures.value ∙ looked k c.args.pages.now.entries)
          ∙ sym (found_joined 0 k c.args.position c.args.pages.now.entries c.requires.pages low high);
    }

pub returns-in-None : goal.returns-in-None
returns-in-None g c =
    let k : ℕ = c.args.position / 4096 in
    let low : k * 4096 ≤ c.args.position = omega arith in
    let high : c.args.position < (k + 1) * 4096 = omega arith in
    record {
      found = ap (λ o. page_found o c.args.position) (c.in-None.ensures.value ∙ looked k c.args.pages.now.entries)
          ∙ sym (found_joined 0 k c.args.position c.args.pages.now.entries c.requires.pages low high);
    }
