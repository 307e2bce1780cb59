-- The names so far are the first parts.
use Rattle.std.proofs.Common.{◌≡◌, take, map}
use Rattle.lu_base.proofs.text.copy_all.Given as goal

abbrev pub invariant-loop-part : goal.invariant-loop-part
invariant-loop-part l = l.names ≡ map (λ part. part.now) (take l.part-index l.parts)
