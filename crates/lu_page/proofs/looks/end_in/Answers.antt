use Rattle.std.proofs.Common.{◌≡◌, ℕ, ◌+◌, ◌*◌, ◌/◌, ◌<◌, ◌≤◌, ◌∙◌, sym, arith}
use Rattle.lu_spec_machine.specs.Places.{RisingFrom, inside}
use Rattle.lu_spec_bytes.specs.Maps.{AllBelow}
use Rattle.lu_page.specs.Pages.{joined}
use Rattle.lu_page.proofs.Joined.{joined_map}
use Rattle.lu_page.proofs.Seen.{inside_below, less_gap, less_page, end_there, end_gone}
use Rattle.lu_page.proofs.looks.end_in.Goals as goal

pub loop-number-init : goal.loop-number-init
loop-number-init g c = inside_below c.args.extent ((c.args.extent.last / 4096 + 1) * 4096) (joined c.args.pages.now.entries) (omega arith)

pub returns-then-found-ne0 : goal.returns-then-found-ne0
returns-then-found-ne0 g c =
    let k : ℕ = c.in-Some.number in
    let m = joined c.args.pages.now.entries in
    let all : AllBelow ((k + 1) * 4096) (inside c.args.extent m) =
    less_gap c.args.extent ((k + 1) * 4096) (c.loop-number.end * 4096) m c.loop-number.invariant c.in-Some.ensures.some in
    record {
      end = c.end_in_page-found.ensures.end ∙ sym (end_there c.args.extent k m (joined_map c.args.pages.now.entries c.requires.pages)
          all (omega (arith, c.end_in_page-found.ensures.end, c.if-found-ne0.true)));
    }

pub loop-number-preserved : goal.loop-number-preserved
loop-number-preserved g c =
    let k : ℕ = c.in-Some.number in
    let m = joined c.args.pages.now.entries in
    let all : AllBelow ((k + 1) * 4096) (inside c.args.extent m) =
    less_gap c.args.extent ((k + 1) * 4096) (c.loop-number.end * 4096) m c.loop-number.invariant c.in-Some.ensures.some in
    less_page c.args.extent k m (joined_map c.args.pages.now.entries c.requires.pages) all
    (omega (arith, c.end_in_page-found.ensures.end, c.if-found-ne0.false))

pub returns : goal.returns
returns g c = record {
  end = sym (end_gone c.args.extent (c.args.extent.first / 4096 * 4096) (c.loop-number.end * 4096)
      (joined c.args.pages.now.entries) (joined_map c.args.pages.now.entries c.requires.pages) (omega arith) c.loop-number.invariant
      c.in_default.ensures.none);
}
