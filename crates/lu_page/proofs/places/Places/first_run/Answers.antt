use Rattle.std.proofs.Common.{◌≡◌, ℕ, ◌≤◌, ◌^◌, ◌+◌, length, ◌-◌, ◌%◌, ◌∙◌, Some, sym, ap, subst, rules, arith}
use Rattle.std.specs.Prelude.{not, nat_lt}
use Rattle.lu_spec_machine.specs.Places.{inside, is_in, RisingFrom}
use Rattle.lu_spec_bytes.specs.Maps.{AllBelow}
use Rattle.lu_spec_bytes.specs.Runs.{run_at, first_run}
use Rattle.lu_spec_bytes.proofs.Rising.{first_run_found, rising_filter, all_filter, run_fits}
use Rattle.lu_page.proofs.Joined.{joined_map, joined_below}
use Rattle.lu_page.proofs.places.Places.first_run.Goals as goal

pub returns-clause-run : goal.returns-clause-run
returns-clause-run g c =
    let rising : RisingFrom 0 c.args.self.now = subst (λ m. RisingFrom 0 m) c.self.view_is
    (joined_map c.self.inside.pages.entries c.self.invariant) in
    let run : c.in_ok-run.run'.items ≡ run_at (4096 - c.in-Some.position % 4096) (inside c.args.extent c.args.self.now) c.in-Some.position =
    c.in_ok-run.ensures.run ∙ ap (λ m. run_at (4096 - c.in-Some.position % 4096) (inside c.args.extent m) c.in-Some.position)
    c.self.view_is in
    ap (λ run. Some (c.in-Some.position, run)) run ∙ sym (first_run_found c.in-Some.position (inside c.args.extent c.args.self.now)
    (rising_filter 0 (λ e. is_in c.args.extent e.0) c.args.self.now rising) (sym c.in-Some.ensures.first))

pub returns-clause-fits : goal.returns-clause-fits
returns-clause-fits g c =
    let below : AllBelow (2 ^ 62) c.args.self.now = subst (λ m. AllBelow (2 ^ 62) m) c.self.view_is
    (joined_below 0 c.self.inside.pages.entries c.self.invariant) in
    let run : c.in_ok-run.run'.items ≡ run_at (4096 - c.in-Some.position % 4096) (inside c.args.extent c.args.self.now) c.in-Some.position =
    c.in_ok-run.ensures.run ∙ ap (λ m. run_at (4096 - c.in-Some.position % 4096) (inside c.args.extent m) c.in-Some.position)
    c.self.view_is in
    let fits : c.in-Some.position + length (run_at (4096 - c.in-Some.position % 4096) (inside c.args.extent c.args.self.now)
    c.in-Some.position) ≤ 2 ^ 62 =
    run_fits (2 ^ 62) (4096 - c.in-Some.position % 4096) c.in-Some.position (inside c.args.extent c.args.self.now)
    (all_filter (2 ^ 62) (λ e. is_in c.args.extent e.0) c.args.self.now below) (omega (arith, c.in-Some.ensures.fits)) in
    subst (λ xs. c.in-Some.position + length xs ≤ 2 ^ 62) (sym run) fits
