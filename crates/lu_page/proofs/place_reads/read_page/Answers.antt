use Rattle.std.proofs.Common.{◌≡◌, ℕ, ◌+◌, ◌*◌, ◌/◌, ◌%◌, ◌≤◌, ◌∙◌, ◌++◌, sym, ap, subst, arith}
use Rattle.std.specs.Prelude.{Option, Some, None, OnOk, List}
use Rattle.lu_spec_bytes.specs.Runs.{found_run}
use Rattle.lu_page.specs.Pages.{joined}
use Rattle.lu_page.proofs.Changed.{looked}
use Rattle.lu_page.proofs.Parts.{page_read}
use Rattle.lu_page.proofs.place_reads.read_page.Goals as goal

pub returns-in-Some : goal.returns-in-Some
returns-in-Some g c =
    let k : ℕ = c.args.at / 4096 in
    let low : k * 4096 ≤ c.args.at = omega arith in
    let high : c.args.at + c.args.count ≤ (k + 1) * 4096 = omega (arith, c.requires.page) in
    record {
      found = subst (λ r. OnOk c.read.result (c.read.new.into.items ≡ c.args.into.now.items ++ r))
          (page_read k c.args.at c.args.count (Some c.in-Some.page.now) c.args.pages.now.entries c.requires.pages
          (sym (looked k c.args.pages.now.entries) ∙ sym c.in-Some.ensures.value) low high) c.read.ensures.found;
    }

pub returns-in-None : goal.returns-in-None
returns-in-None g c =
    let k : ℕ = c.args.at / 4096 in
    let low : k * 4096 ≤ c.args.at = omega arith in
    let high : c.args.at + c.args.count ≤ (k + 1) * 4096 = omega (arith, c.requires.page) in
    record {
      found = subst (λ r. OnOk c.read_nothing.result (c.read_nothing.new.into.items ≡ c.args.into.now.items ++ r))
          (page_read k c.args.at c.args.count None c.args.pages.now.entries c.requires.pages
          (sym (looked k c.args.pages.now.entries) ∙ sym c.in-None.ensures.value) low high) c.read_nothing.ensures.found;
    }
