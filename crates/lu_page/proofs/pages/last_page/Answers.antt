use Rattle.std.proofs.Common.{◌≡◌, ℕ, ◌+◌, ◌-◌, ◌*◌, ◌<◌, ◌≤◌, ◌∙◌, [], ◌∷◌, ◌++◌, sym, ap, subst, arith}
use Rattle.std.specs.Prelude.{IfNone}
use Rattle.lu_base.specs.declared.locks.Extent.{Extent}
use Rattle.lu_spec_machine.specs.Places.{inside}
use Rattle.lu_spec_bytes.specs.Runs.{first_position}
use Rattle.lu_spec_bytes.proofs.Rising.{between_inside}
use Rattle.lu_page.specs.Pages.{joined, IsBare}
use Rattle.lu_page.proofs.Gaps.{gap_last, gap_none}
use Rattle.lu_page.proofs.Joined.{bare_joined, pages_rise}
use Rattle.lu_page.proofs.pages.last_page.Goals as goal

pub returns-in_err-number-clause-none : goal.returns-in_err-number-clause-none
returns-in_err-number-clause-none g c =
    let extent : Extent = record { first = c.args.from; last = c.args.end - 1 } in
    let all : c.args.end - 1 + 1 ≡ c.args.end = omega (arith, c.if-end-from.false) in
    let within : c.range.result ≡ inside extent c.args.pages.now.entries = c.range.ensures.between c.new.ensures.exhausted
    ∙ rw (c.new.ensures.start, c.new.ensures.end) (between_inside extent c.args.pages.now.entries) in
    let bare : IsBare c.args.from c.args.end c.args.pages.now.entries =
    subst (λ n. IsBare c.args.from n c.args.pages.now.entries) all
    (gap_none extent c.args.pages.now.entries (ap first_position (sym within ∙ c.in_err-number.ensures.steps.0))) in
    subst (λ o. IfNone o (IsBare (c.args.from * 4096) (c.args.end * 4096) (joined c.args.pages.now.entries))) (sym c.from_residual.ensures)
    (bare_joined c.args.from c.args.end c.args.pages.now.entries c.requires.pages bare)

pub returns-clause-some : goal.returns-clause-some
returns-clause-some g c =
    let extent : Extent = record { first = c.args.from; last = c.args.end - 1 } in
    let all : c.args.end - 1 + 1 ≡ c.args.end = omega (arith, c.if-end-from.false) in
    let within : c.range.result ≡ inside extent c.args.pages.now.entries = c.range.ensures.between c.new.ensures.exhausted
    ∙ rw (c.new.ensures.start, c.new.ensures.end) (between_inside extent c.args.pages.now.entries) in
    let bare : IsBare (c.in_ok-number.number.now + 1) c.args.end c.args.pages.now.entries =
    subst (λ n. IsBare (c.in_ok-number.number.now + 1) n c.args.pages.now.entries) all
    (gap_last extent (c.in_ok-number.number.now, c.in_ok-number.field-0-1.now) c.next_back.new.self c.args.pages.now.entries
    (pages_rise 0 c.args.pages.now.entries c.requires.pages) (sym within ∙ c.in_ok-number.ensures.steps)) in
    bare_joined (c.in_ok-number.number.now + 1) c.args.end c.args.pages.now.entries c.requires.pages bare
