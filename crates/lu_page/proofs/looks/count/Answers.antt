use Rattle.std.proofs.Common.{◌≡◌, ℕ, ◌+◌, ◌-◌, ◌*◌, ◌/◌, ◌^◌, ◌<◌, ◌≤◌, ◌∙◌, Bool, true, false, List, [], ◌∷◌, ◌++◌, length, length-append}
use Rattle.std.proofs.Common.{max, refl, sym, ap, subst, arith}
use Rattle.std.specs.Prelude.{Option, Some, None, is_some, IsSome, nat_lt}
use Rattle.lu_base.specs.declared.locks.Extent.{Extent}
use Rattle.lu_spec_machine.specs.Objects.{page_extent}
use Rattle.lu_spec_machine.specs.Places.{RisingFrom, found_at, is_in, inside, below, end_of}
use Rattle.lu_spec_bytes.specs.Maps.{AllBelow}
use Rattle.lu_spec_bytes.specs.Runs.{first_position}
use Rattle.lu_page.specs.Edits.{edited, in_range}
use Rattle.lu_page.specs.Pages.{joined, PagesFrom, IsBare, up_to}
use Rattle.lu_spec_machine.proofs.Places.{rising_inside}
use Rattle.lu_spec_bytes.proofs.Rising.{rising_filter, all_filter}
use Rattle.lu_page.proofs.Maps.{below_none, below_same}
use Rattle.lu_page.proofs.Joined.{joined_map, joined_below}
use Rattle.lu_page.proofs.Seen.{below_next, below_last, inside_below, end_two, length_fits}
use Rattle.lu_page.proofs.looks.count.Goals as goal

pub loop-number-init : goal.loop-number-init
loop-number-init g c =
    record {
      count = ap length (sym (below_none (c.args.extent.first / 4096 * 4096) c.args.extent.first
          (inside c.args.extent (joined c.args.pages.now.entries))
          (rising_inside 0 c.args.extent (joined c.args.pages.now.entries) (joined_map c.args.pages.now.entries c.requires.pages))
          (omega arith)));
      next = omega (arith, c.requires.range);
    }

pub overflow_add-count : goal.overflow_add-count
overflow_add-count g c =
    let le : c.loop-number.next * 4096 ≤ c.in-Some.number * 4096 = omega (arith, c.in-Some.ensures.range.0) in
    let all : length (below ((c.in-Some.number + 1) * 4096) (inside c.args.extent (joined c.args.pages.now.entries)))
    ≡ length (below (c.loop-number.next * 4096) (inside c.args.extent (joined c.args.pages.now.entries))) + length
    (inside c.args.extent (inside (page_extent c.in-Some.number) (joined c.args.pages.now.entries))) =
    ap length (below_next c.args.extent (c.loop-number.next * 4096) c.in-Some.number (joined c.args.pages.now.entries)
    (joined_map c.args.pages.now.entries c.requires.pages) le c.in-Some.ensures.some)
    ∙ length-append (below (c.loop-number.next * 4096) (inside c.args.extent (joined c.args.pages.now.entries)))
    (inside c.args.extent (inside (page_extent c.in-Some.number) (joined c.args.pages.now.entries))) in
    let most = length_fits 0 (2 ^ 62) (below ((c.in-Some.number + 1) * 4096) (inside c.args.extent (joined c.args.pages.now.entries)))
    (rising_filter 0 (λ e. nat_lt e.0 ((c.in-Some.number + 1) * 4096)) (inside c.args.extent (joined c.args.pages.now.entries))
    (rising_filter 0 (λ e. is_in c.args.extent e.0) (joined c.args.pages.now.entries)
    (joined_map c.args.pages.now.entries c.requires.pages)))
    (all_filter (2 ^ 62) (λ e. nat_lt e.0 ((c.in-Some.number + 1) * 4096)) (inside c.args.extent (joined c.args.pages.now.entries))
    (all_filter (2 ^ 62) (λ e. is_in c.args.extent e.0) (joined c.args.pages.now.entries)
    (joined_below 0 c.args.pages.now.entries c.requires.pages))) (omega arith) in
    omega (arith, all, most, c.loop-number.invariant.count, c.count_in_page-count.ensures.count)

pub loop-number-preserved : goal.loop-number-preserved
loop-number-preserved g c =
    let le : c.loop-number.next * 4096 ≤ c.in-Some.number * 4096 = omega (arith, c.in-Some.ensures.range.0) in
    let all : length (below ((c.in-Some.number + 1) * 4096) (inside c.args.extent (joined c.args.pages.now.entries)))
    ≡ length (below (c.loop-number.next * 4096) (inside c.args.extent (joined c.args.pages.now.entries))) + length
    (inside c.args.extent (inside (page_extent c.in-Some.number) (joined c.args.pages.now.entries))) =
    ap length (below_next c.args.extent (c.loop-number.next * 4096) c.in-Some.number (joined c.args.pages.now.entries)
    (joined_map c.args.pages.now.entries c.requires.pages) le c.in-Some.ensures.some)
    ∙ length-append (below (c.loop-number.next * 4096) (inside c.args.extent (joined c.args.pages.now.entries)))
    (inside c.args.extent (inside (page_extent c.in-Some.number) (joined c.args.pages.now.entries))) in
    record {
      count = omega (arith, all, c.loop-number.invariant.count, c.count_in_page-count.ensures.count);
      next =
          omega (arith, c.in-Some.ensures.range.1);
    }

pub returns : goal.returns
returns g c =
    let le : c.loop-number.next * 4096 ≤ (c.args.extent.last / 4096 + 1) * 4096 = omega (arith, c.loop-number.invariant.next) in
    record {
      count = c.loop-number.invariant.count ∙ ap length (sym
          (below_last c.args.extent (c.loop-number.next * 4096) ((c.args.extent.last / 4096 + 1) * 4096) (joined c.args.pages.now.entries)
          (joined_map c.args.pages.now.entries c.requires.pages) le c.in_default.ensures.none)
          ∙ below_same ((c.args.extent.last / 4096 + 1) * 4096) ((c.args.extent.last / 4096 + 1) * 4096)
          (inside c.args.extent (joined c.args.pages.now.entries))
          (inside_below c.args.extent ((c.args.extent.last / 4096 + 1) * 4096) (joined c.args.pages.now.entries) (omega arith)) (omega arith));
    }
