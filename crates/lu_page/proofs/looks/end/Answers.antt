use Rattle.std.proofs.Common.{◌≡◌, ◌^◌, ◌≤◌, ◌∙◌, ap, arith}
use Rattle.lu_spec_machine.specs.Places.{end_of}
use Rattle.lu_page.specs.Pages.{joined}
use Rattle.lu_page.proofs.Joined.{joined_below}
use Rattle.lu_page.proofs.Seen.{whole_inside}
use Rattle.lu_page.proofs.looks.end.Goals as goal

pub returns : goal.returns
returns g c = record {
  end = c.end_in.ensures.end ∙ ap end_of (whole_inside 18446744073709551615 (joined c.args.pages.now.entries)
      (joined_below 0 c.args.pages.now.entries c.requires.pages) (omega arith));
}
