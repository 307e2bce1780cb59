-- One more is taken out.
use Rattle.std.proofs.Common.{◌≡◌, ◌+◌, drop, ap, ◌∙◌}
use Rattle.std.proofs.lemmas.List.{drop-drop}
use Rattle.lu_txn.specs.Logs.{LogState}
use Rattle.lu_txn.proofs.uncommitted.Uncommitted.drop_to.Goals as goal

pub loop-place-preserved : goal.loop-place-preserved
loop-place-preserved c =
    let all = c.args.self.now.transactions in
    let place = c.loop-place._place in
    c.drop_first.ensures.left
    ∙ ap (λ (log : LogState). record log { transactions = drop 1 log.transactions }) c.loop-place.invariant
    ∙ ap (λ rest. record c.args.self.now { transactions = rest }) (drop-drop 1 place all)
