use Rattle.std.proofs.Common.{◌≡◌, ℕ, ◌+◌, ◌-◌, ◌*◌, ◌/◌, ◌^◌, ◌<◌, ◌≤◌, ◌∙◌, Bool, true, false, List, [], ◌∷◌, ◌++◌, length, length-append}
use Rattle.std.proofs.Common.{max, refl, sym, ap, subst, arith}
use Rattle.std.specs.Prelude.{Option, Some, None, is_some, IsSome, nat_lt}
use Rattle.lu_base.specs.declared.locks.Extent.{Extent}
use Rattle.lu_spec_machine.specs.Objects.{page_extent}
use Rattle.lu_spec_machine.specs.Places.{RisingFrom, found_at, is_in, inside, below, end_of}
use Rattle.lu_spec_bytes.specs.Maps.{AllBelow}
use Rattle.lu_spec_bytes.specs.Runs.{first_position}
use Rattle.lu_page.specs.Edits.{edited, in_range}
use Rattle.lu_page.specs.Pages.{joined, PagesFrom, IsBare, up_to}
use Rattle.lu_page.proofs.Gaps.{not_some, some_is}
use Rattle.lu_page.proofs.Joined.{joined_map}
use Rattle.lu_page.proofs.Seen.{bare_start, bare_skip, bare_step, bare_end, first_through}
use Rattle.lu_page.proofs.looks.first_in.Goals as goal

pub loop-number-init : goal.loop-number-init
loop-number-init g c = bare_start c.args.extent (c.args.extent.first / 4096 * 4096) (joined c.args.pages.now.entries) (omega arith)

pub loop-number-preserved : goal.loop-number-preserved
loop-number-preserved g c =
    let none : first_position (inside c.args.extent (inside (page_extent c.in-Some.number) (joined c.args.pages.now.entries))) ≡ None =
    sym c.first_in_page-found.ensures.first ∙ not_some c.first_in_page-found.result (sym c.is_some.ensures ∙ c.if-is_some.false) in
    bare_step c.args.extent c.in-Some.number (joined c.args.pages.now.entries)
    (bare_skip c.args.extent (c.loop-number.next * 4096) (c.in-Some.number * 4096) (joined c.args.pages.now.entries)
    c.loop-number.invariant c.in-Some.ensures.some) none

pub returns-then-is_some : goal.returns-then-is_some
returns-then-is_some g c =
    let o = some_is c.first_in_page-found.result (sym c.is_some.ensures ∙ c.if-is_some.true) in
    record {
      first = o.1 ∙ sym (first_through c.args.extent c.in-Some.number o.0 (joined c.args.pages.now.entries)
          (joined_map c.args.pages.now.entries c.requires.pages) (bare_skip c.args.extent (c.loop-number.next * 4096)
          (c.in-Some.number * 4096) (joined c.args.pages.now.entries) c.loop-number.invariant c.in-Some.ensures.some)
          (sym c.first_in_page-found.ensures.first ∙ o.1));
    }

pub returns : goal.returns
returns g c = record {
  first = sym (bare_end c.args.extent ((c.args.extent.last / 4096 + 1) * 4096) (joined c.args.pages.now.entries)
      (omega arith) (bare_skip c.args.extent (c.loop-number.next * 4096) ((c.args.extent.last / 4096 + 1) * 4096)
      (joined c.args.pages.now.entries) c.loop-number.invariant c.in_default.ensures.none));
}
