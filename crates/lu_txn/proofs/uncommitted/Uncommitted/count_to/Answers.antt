-- Numbers rise, so those up to a number stand in front.
use Rattle.std.proofs.Common.{rules}
use Rattle.std.specs.Prelude.{nat_le}
use Rattle.std.proofs.lemmas.List.Sorted.{IsPartitionPoint-from_clause}
use Rattle.lu_txn.specs.Logs.{number}
use Rattle.lu_txn.proofs.Cuts.{parted, cut_front, cut_rest, cut_at}
use Rattle.lu_txn.proofs.uncommitted.Uncommitted.count_to.Goals as goal

pub returns-clause-front : goal.returns-clause-front
returns-clause-front c =
    let all = c.self.inside.transactions.items in
    let point = IsPartitionPoint-from_clause (λ logged. nat_le (number logged) c.args.to.0) _ _ c.partition_point.ensures.partitioned
    (parted c.args.to.0 all c.self.invariant.rising) (λ a r q k. search rules) in
    rw (← c.self.view_is) (cut_front c.args.to.0 c.partition_point.result all (cut_at c.args.to.0 c.partition_point.result all point))

pub returns-clause-rest : goal.returns-clause-rest
returns-clause-rest c =
    let all = c.self.inside.transactions.items in
    let point = IsPartitionPoint-from_clause (λ logged. nat_le (number logged) c.args.to.0) _ _ c.partition_point.ensures.partitioned
    (parted c.args.to.0 all c.self.invariant.rising) (λ a r q k. search rules) in
    rw (← c.self.view_is) (cut_rest c.args.to.0 c.partition_point.result all (cut_at c.args.to.0 c.partition_point.result all point))
