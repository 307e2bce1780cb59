-- What is cut off was counted before.
use Rattle.std.proofs.Common.{◌-◌, ◌^◌}
use Rattle.lu_patch.proofs.Counted.{part_counted, below_counted}
use Rattle.lu_patch.proofs.dirty.DirtyBytes.keep_below.Goals as goal

pub overflow_sub-self : goal.overflow_sub-self
overflow_sub-self c = part_counted c.self.inside.count c.count_between-cut.result c.args.n (2 ^ 64 - 1) c.self.inside.bytes c.self.invariant
    c.count_between-cut.ensures.count

pub invariant_of-self : goal.invariant_of-self
invariant_of-self c = below_counted c.self.inside.count c.count_between-cut.result c.args.n c.self.inside.bytes c.keep_below.new.self
    c.self.invariant c.count_between-cut.ensures.count c.keep_below.ensures.below
