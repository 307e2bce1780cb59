use Rattle.std.proofs.Common.{rules, ℕ, ◌<◌, ◌≤◌, ◌^◌, sym, subst}
use Rattle.lu_client.proofs.Pages.{near_end}
use Rattle.lu_client.proofs.answers.end_of.Goals as goal

pub returns-clause-fits : goal.returns-clause-fits
returns-clause-fits c =
    let short : c.end.result < 2 ^ 64 = search rules in
    subst (λ (n : ℕ). n ≤ 2 ^ 62) (sym c.end.ensures.end) (near_end c.args.bytes.now c.first_in-none.result c.first_in-none.ensures.first
    c.first_in-none.ensures.fits (subst (λ (n : ℕ). n < 2 ^ 64) c.end.ensures.end short))
