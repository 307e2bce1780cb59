use Rattle.std.proofs.Common.{◌≡◌, ℕ, ◌+◌, ◌-◌, ◌*◌, ◌/◌, ◌^◌, ◌<◌, ◌≤◌, ◌∙◌, Bool, true, false, List, [], ◌∷◌, ◌++◌, length, length-append}
use Rattle.std.proofs.Common.{max, refl, sym, ap, subst, arith}
use Rattle.std.specs.Prelude.{Option, Some, None, is_some, IsSome, nat_lt}
use Rattle.lu_base.specs.declared.locks.Extent.{Extent}
use Rattle.lu_spec_machine.specs.Objects.{page_extent}
use Rattle.lu_spec_machine.specs.Places.{RisingFrom, found_at, is_in, inside, below, end_of}
use Rattle.lu_spec_bytes.specs.Maps.{AllBelow}
use Rattle.lu_spec_bytes.specs.Runs.{first_position}
use Rattle.lu_page.specs.Edits.{edited, in_range}
use Rattle.lu_page.specs.Pages.{joined, PagesFrom, IsBare, up_to}
use Rattle.lu_page.proofs.Joined.{joined_map, joined_below}
use Rattle.lu_page.proofs.Steps.{up_none, up_skip, up_step, up_ends, out_low}
use Rattle.lu_page.proofs.pages.edit.Goals as goal

pub loop-number-init : goal.loop-number-init
loop-number-init g c =
    record {
      edited = up_none (g.E.Edit.edits c.args.edit.now) (c.args.extent.first / 4096 * 4096) (joined c.args.pages.now.entries)
          (joined_map c.args.pages.now.entries c.requires.pages) (joined_below 0 c.args.pages.now.entries c.requires.pages)
          (λ p x high low. c.requires.outside p x high (out_low c.args.extent p (omega (arith, low))));
      pages = c.requires.pages;
    }

pub loop-number-preserved : goal.loop-number-preserved
loop-number-preserved g c =
    let f = g.E.Edit.edits c.args.edit.now in
    let le : c.loop-number.next * 4096 ≤ c.in-Some.number * 4096 = omega (arith, c.in-Some.ensures.range.0) in
    let moved = up_skip f (c.loop-number.next * 4096) (c.in-Some.number * 4096) (joined c.args.pages.now.entries) le
    (subst (λ m. IsBare (c.loop-number.next * 4096) (c.in-Some.number * 4096) m) c.loop-number.invariant.edited c.in-Some.ensures.some)
    in
    record {
      edited = c.edit_page.ensures.edited ∙ ap (edited (in_range (page_extent c.in-Some.number) f)) (c.loop-number.invariant.edited ∙ moved)
          ∙ up_step f c.in-Some.number (joined c.args.pages.now.entries);
      pages = c.edit_page.ensures.pages;
    }

pub returns : goal.returns
returns g c =
    record {
      edited = up_ends (g.E.Edit.edits c.args.edit.now) c.args.extent (c.loop-number.next * 4096) ((c.args.extent.last / 4096 + 1) * 4096)
          (joined c.args.pages.now.entries) (joined c.loop-number.pages.entries) (joined_map c.args.pages.now.entries c.requires.pages)
          (joined_below 0 c.args.pages.now.entries c.requires.pages) c.requires.outside (omega arith) c.loop-number.invariant.edited
          c.in_default.ensures.none;
      pages = c.loop-number.invariant.pages;
    }
