-- Bytes that were dirty where the run is laid were counted before.
use Rattle.std.proofs.Common.{◌≤◌, ◌+◌, ◌-◌, ◌^◌, length, arith}
use Rattle.lu_patch.specs.Counted.{IsCounted}
use Rattle.lu_patch.proofs.Counted.{part_counted, laid_counted, fits_counted}
use Rattle.lu_patch.proofs.dirty.DirtyBytes.lay.Goals as goal

pub overflow_sub-self : goal.overflow_sub-self
overflow_sub-self c =
    part_counted c.self.inside.count c.count_between-replaced.result c.args.at (c.args.at + length c.args.run.now) c.self.inside.bytes
    c.self.invariant c.count_between-replaced.ensures.count

pub invariant_of-self-2 : goal.invariant_of-self-2
invariant_of-self-2 c =
    laid_counted c.self.inside.count c.count_between-replaced.result c.args.at c.args.run.now c.self.inside.bytes c.lay.new.self
    c.requires.fits c.self.invariant c.count_between-replaced.ensures.count c.in_ok-lay.ensures.laid

pub overflow_add-self : goal.overflow_add-self
overflow_add-self c =
    let now : IsCounted (c.self.inside.count - c.count_between-replaced.result + length c.args.run.now) c.lay.new.self =
    laid_counted c.self.inside.count c.count_between-replaced.result c.args.at c.args.run.now c.self.inside.bytes c.lay.new.self
    c.requires.fits c.self.invariant c.count_between-replaced.ensures.count c.in_ok-lay.ensures.laid in
    let most : c.self.inside.count - c.count_between-replaced.result + length c.args.run.now ≤ 2 ^ 62 =
    fits_counted (c.self.inside.count - c.count_between-replaced.result + length c.args.run.now) c.lay.new.self now in
    omega (arith, most)
