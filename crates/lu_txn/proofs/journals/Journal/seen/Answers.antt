-- What is seen rises as the transactions do.
use Rattle.std.proofs.Common.{◌≡◌, subst, sym, rules}
use Rattle.std.specs.Prelude.{AllPairs, ◌<◌}
use Rattle.std.specs.List.Sorted.{IsStrictlyIncreasing}
use Rattle.lu_txn.specs.Logs.{number, seen_by}
use Rattle.lu_txn.proofs.Soundness.{seen_rises}
use Rattle.lu_txn.proofs.journals.Journal.seen.Goals as goal

pub returns-clause-rising : goal.returns-clause-rising
returns-clause-rising c =
    let rising : AllPairs (λ earlier later. number earlier < number later) c.args.self.now.transactions =
    subst (λ j. AllPairs (λ earlier later. number earlier < number later) j.transactions) c.self.view_is c.self.invariant.0.rising in
    let told : c.from.result ≡ seen_by c.args.touched.now c.args.self.now.transactions = search rules in
    subst IsStrictlyIncreasing (sym told) (seen_rises c.args.touched.now c.args.self.now.transactions rising)
