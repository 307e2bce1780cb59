-- What is seen is among the candidates.
use Rattle.std.proofs.Common.{◌≡◌, subst, ◌∙◌}
use Rattle.std.specs.List.{filter_map}
use Rattle.lu_txn.specs.Logs.{seen_at, seen_by}
use Rattle.lu_txn.proofs.IndexLaws.{seen_found}
use Rattle.lu_txn.proofs.uncommitted.Uncommitted.seen.Goals as goal

pub returns : goal.returns
returns c =
    let log = c.self.inside in
    let touched = c.args.touched.now in
    let places = c.in_ok-places.places.items in
    let told : filter_map (seen_at touched log.first log.transactions.items) places ≡ seen_by touched log.transactions.items =
    seen_found log.index touched log.first log.transactions.items places c.self.invariant.indexed c.in_ok-places.ensures.rising
    c.in_ok-places.ensures.all in
    record {
      seen =
          rw (c.in_ok-numbers.ensures, c.deref.ensures.value) (subst
          (λ state. filter_map (seen_at touched log.first log.transactions.items) places ≡ seen_by touched state.transactions)
          c.self.view_is told);
    }
