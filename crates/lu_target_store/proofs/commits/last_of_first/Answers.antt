-- The last of so many stands at the place before.
use Rattle.std.proofs.Common.{◌≡◌, ◌-◌, suc, take, subst, arith, rules}
use Rattle.std.proofs.lemmas.Bool.Decides.{nat_tests}
use Rattle.lu_target_store.specs.Commits.{last_in}
use Rattle.lu_target_store.proofs.Lasts.{last_at}
use Rattle.lu_target_store.proofs.commits.last_of_first.Goals as goal

pub returns-clause-last : goal.returns-clause-last
returns-clause-last c =
    let journal = c.args.journal.now in
    let some : suc (c.args.count - 1) ≡ c.args.count = grind (arith, nat_tests, c.if-count-eq0.false) in
    subst (λ count. c.in-Some.number.0 ≡ last_in journal.committed (take count journal.transactions)) some
    (last_at journal.committed journal.transactions (c.args.count - 1) c.in-Some.number (search rules))
