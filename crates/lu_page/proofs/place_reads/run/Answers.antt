use Rattle.std.proofs.Common.{◌≡◌, ℕ, ◌+◌, ◌-◌, ◌*◌, ◌/◌, ◌%◌, ◌≤◌, ◌∙◌, [], refl, sym, ap, subst, arith}
use Rattle.std.specs.Prelude.{Option, Some, None, IfOk, List}
use Rattle.lu_spec_machine.specs.Places.{inside}
use Rattle.lu_spec_bytes.specs.Runs.{run_at}
use Rattle.lu_spec_bytes.proofs.Rising.{run_stops}
use Rattle.lu_page.specs.Pages.{joined}
use Rattle.lu_page.proofs.Changed.{looked}
use Rattle.lu_page.proofs.Parts.{page_run}
use Rattle.lu_page.proofs.place_reads.run.Goals as goal

pub returns-in-Some : goal.returns-in-Some
returns-in-Some g c =
    let k : ℕ = c.args.from / 4096 in
    let low : k * 4096 ≤ c.args.from = omega arith in
    let high : c.args.from + (4096 - c.args.from % 4096) ≤ (k + 1) * 4096 = omega arith in
    record {
      run = subst (λ r. IfOk c.run.result (λ run. run.items ≡ r))
          (page_run c.args.extent k c.args.from (4096 - c.args.from % 4096) (Some c.in-Some.page.now) c.args.pages.now.entries
          c.requires.pages (sym (looked k c.args.pages.now.entries) ∙ sym c.in-Some.ensures.value) low high) c.run.ensures.run;
    }

pub returns-in-None : goal.returns-in-None
returns-in-None g c =
    let k : ℕ = c.args.from / 4096 in
    let low : k * 4096 ≤ c.args.from = omega arith in
    let high : c.args.from + (4096 - c.args.from % 4096) ≤ (k + 1) * 4096 = omega arith in
    record {
      run = c.new.ensures.items ∙ sym (run_stops (4096 - c.args.from % 4096) c.args.from [] refl)
          ∙ page_run c.args.extent k c.args.from (4096 - c.args.from % 4096) None c.args.pages.now.entries c.requires.pages
          (sym (looked k c.args.pages.now.entries) ∙ sym c.in-None.ensures.value) low high;
    }
