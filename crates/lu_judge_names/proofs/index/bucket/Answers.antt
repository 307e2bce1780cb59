-- The hasher's writes, one after another.
use Rattle.std.proofs.Common.{refl}
use Rattle.lu_judge_names.specs.Buckets.{bucket}
use Rattle.lu_judge_names.proofs.index.bucket.Goals as goal

pub returns : goal.returns
unfolding bucket
returns c = rw (c.finish.ensures, c.write.ensures, c.write_u64.ensures, c.write_u8.ensures, c.number.ensures, c.default-hasher.ensures) refl
