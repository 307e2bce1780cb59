use Rattle.std.proofs.Common.{◌≡◌, ℕ, ◌+◌, ◌-◌, ◌*◌, ◌/◌, ◌^◌, ◌<◌, ◌≤◌, ◌∙◌, Bool, true, false, List, [], ◌∷◌, length, take, drop, refl}
use Rattle.std.proofs.Common.{sym, ap, subst, arith}
use Rattle.std.specs.Prelude.{Option, Some, None, is_some, is_none, IsSome, IfNone}
use Rattle.lu_base.specs.declared.locks.Extent.{Extent}
use Rattle.lu_spec_machine.specs.Places.{inside}
use Rattle.lu_spec_bytes.specs.Runs.{first_position}
use Rattle.lu_spec_bytes.proofs.Rising.{between_inside}
use Rattle.lu_page.specs.Pages.{joined, IsBare}
use Rattle.lu_page.proofs.Gaps.{gap_some, gap_none}
use Rattle.lu_page.proofs.Joined.{bare_joined, pages_rise}
use Rattle.lu_page.proofs.pages.next_page.Goals as goal

pub returns-in_err-number-clause-none : goal.returns-in_err-number-clause-none
returns-in_err-number-clause-none g c =
    let extent : Extent = record { first = c.args.from; last = c.args.to } in
    let within : c.range.result ≡ inside extent c.args.pages.now.entries = c.range.ensures.between c.new.ensures.exhausted
    ∙ rw (c.new.ensures.start, c.new.ensures.end) (between_inside extent c.args.pages.now.entries) in
    subst (λ o. IfNone o (IsBare (c.args.from * 4096) ((c.args.to + 1) * 4096) (joined c.args.pages.now.entries)))
    (sym c.from_residual.ensures) (bare_joined c.args.from (c.args.to + 1) c.args.pages.now.entries c.requires.pages
    (gap_none extent c.args.pages.now.entries (ap first_position (sym within ∙ c.in_err-number.ensures.steps.0))))

pub returns-clause-some : goal.returns-clause-some
returns-clause-some g c =
    let extent : Extent = record { first = c.args.from; last = c.args.to } in
    let within : c.range.result ≡ inside extent c.args.pages.now.entries = c.range.ensures.between c.new.ensures.exhausted
    ∙ rw (c.new.ensures.start, c.new.ensures.end) (between_inside extent c.args.pages.now.entries) in
    bare_joined c.args.from c.in_ok-number.number.now c.args.pages.now.entries c.requires.pages
    (gap_some extent c.in_ok-number.number.now c.args.pages.now.entries (pages_rise 0 c.args.pages.now.entries c.requires.pages)
    (ap first_position (sym within ∙ c.in_ok-number.ensures.steps)))
