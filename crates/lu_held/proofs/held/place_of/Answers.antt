-- Binary search finds the place, since the names are in order.
use Rattle.std.proofs.Common.{rules}
use borrow.Author.Tests.{tests}
use Rattle.std.proofs.lemmas.List.Sorted.{IsPartitionPoint-from_clause}
use Rattle.lu_held.specs.Names.{is_before}
use Rattle.lu_held.proofs.Places.{placed, parted}
use Rattle.lu_held.proofs.held.place_of.Goals as goal

pub returns-clause-place : goal.returns-clause-place
returns-clause-place c =
    placed c.args.name c.args.names.now c.partition_point.result c.partition_point.ensures.bound
    (IsPartitionPoint-from_clause (λ other. is_before other c.args.name) c.args.names.now c.partition_point.result
    c.partition_point.ensures.partitioned (parted c.args.name c.args.names.now c.requires.order) (λ a r f k. search (rules, tests)))
