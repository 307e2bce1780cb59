use Rattle.std.proofs.Common.{◌≡◌, ℕ, ◌+◌, ◌-◌, ◌*◌, ◌/◌, ◌%◌, ◌^◌, ◌<◌, ◌≤◌, ◌∙◌, Bool, true, false, List, [], ◌∷◌, length, take, drop}
use Rattle.std.proofs.Common.{refl, sym, ap, subst, arith}
use Rattle.std.specs.Prelude.{Option, Some, None, is_some, IsSome, IfNone, nat_lt}
use Rattle.lu_spec_machine.specs.Places.{found_at, laid}
use Rattle.lu_spec_bytes.proofs.Rising.{laid_none}
use Rattle.lu_page.specs.Pages.{joined, PagesFrom}
use Rattle.lu_page.proofs.Joined.{joined_map}
use Rattle.lu_page.proofs.Steps.{lay_part, least_right}
use Rattle.lu_page.proofs.pages.put_all.Goals as goal

pub loop-done-init : goal.loop-done-init
loop-done-init g c =
    record {
      done = omega arith;
      laid = sym (laid_none c.args.at (joined c.args.pages.now.entries) (joined_map c.args.pages.now.entries c.requires.pages));
      pages = c.requires.pages;
      there = c.requires.there;
    }

pub loop-done-preserved : goal.loop-done-preserved
loop-done-preserved g c =
    let size : (c.loop-done.done + c.min-count.result) - c.loop-done.done ≡ c.min-count.result = omega arith in
    record {
      done = let least = least_right (4096 - (c.args.at + c.loop-done.done) % 4096) (length c.args.items.now - c.loop-done.done)
          in omega (arith, c.min-count.ensures, least, c.loop-done.invariant.done, c.loop-done-test.true);
      laid = c.put.ensures.laid ∙ ap (λ n. laid (c.args.at + c.loop-done.done) (take n (drop c.loop-done.done c.args.items.now))
          (joined c.loop-done.pages.entries)) size ∙ ap (λ m. laid (c.args.at + c.loop-done.done)
          (take c.min-count.result (drop c.loop-done.done c.args.items.now)) m) c.loop-done.invariant.laid
          ∙ lay_part c.args.at (c.args.at + c.loop-done.done) c.loop-done.done c.min-count.result c.args.items.now
          (joined c.args.pages.now.entries) (joined_map c.args.pages.now.entries c.requires.pages) refl c.loop-done.invariant.done;
      pages = c.put.ensures.pages;
      there = λ k low high. c.put.ensures.others k (c.loop-done.invariant.there k low high);
    }
