-- The targets so far are those of the first stripes.
use Rattle.std.proofs.Common.{◌≡◌, take, length}
use Rattle.lu_spec_machine.specs.Striping.{stripe_targets}
use Rattle.lu_posix.proofs.striping.targets.Given as goal

abbrev pub invariant-loop-stripe : goal.invariant-loop-stripe
invariant-loop-stripe l = record { room : length l.targets ≡ 8; filled : take l.stripe l.targets ≡ stripe_targets l.osts l.number l.stripe }
