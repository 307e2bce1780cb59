use Rattle.std.proofs.Common.{◌≡◌, ◌+◌, ◌-◌, ◌%◌, ◌≤◌, ◌∙◌, ◌++◌, sym, ap, arith}
use Rattle.lu_spec_bytes.specs.Runs.{found_run}
use Rattle.lu_page.specs.Pages.{joined}
use Rattle.lu_page.proofs.Steps.{least_right}
use Rattle.lu_page.proofs.Parts.{found_two}
use Rattle.lu_page.proofs.place_reads.read.Goals as goal

pub loop-done-preserved : goal.loop-done-preserved
loop-done-preserved g c =
    record {
      done = let least = least_right (4096 - (c.args.at + c.loop-done.done) % 4096) (c.args.count - c.loop-done.done)
          in omega (arith, c.min-part.ensures, least, c.loop-done.invariant.done, c.loop-done-test.true);
      found = c.in_ok-read_page.ensures.found ∙ ap (λ xs. xs ++ found_run c.min-part.result (joined c.args.pages.now.entries)
          (c.args.at + c.loop-done.done)) c.loop-done.invariant.found
          ∙ sym (found_two c.loop-done.done c.min-part.result c.args.at (joined c.args.pages.now.entries));
    }
