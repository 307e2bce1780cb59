-- Nothing stands in a range that ends before it begins.
use Rattle.std.proofs.Common.{length, ap, sym}
use Rattle.lu_patch.proofs.Counted.{nothing_between}
use Rattle.lu_patch.proofs.dirty.count_between.Goals as goal

pub returns-then-end-first : goal.returns-then-end-first
returns-then-end-first c = record { count = sym (ap length (nothing_between c.args.first c.args.end c.args.bytes.now c.if-end-first.true)) }
