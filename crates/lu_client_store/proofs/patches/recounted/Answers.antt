-- Fewer than 2^63 objects have fewer than 2^64 dirty bytes each.
use Rattle.std.proofs.Common.{◌+◌, ◌<◌, ◌^◌, arith}
use Rattle.lu_client_store.proofs.Counted.{total_fits}
use Rattle.lu_client_store.proofs.patches.recounted.Goals as goal

pub overflow_add-result : goal.overflow_add-result
overflow_add-result c =
    let fits : c.args.total + c.args.after < 2 ^ 128 =
    total_fits c.args.objects.now.entries c.args.total c.args.before c.args.after c.requires.few c.requires.changed
    (omega (arith, c.len-objects.ensures.len, c.len-objects.ensures.small)) (omega (arith, c.ranges.before.fits)) in
    omega (arith, fits)
