-- The lives so far.
use Rattle.std.proofs.Common.{◌≡◌, [], take}
use Rattle.std.specs.List.{fold}
use Rattle.lu_target_locks.specs.Reminding.{with_holder_of}
use Rattle.lu_target_locks.proofs.expiring.holders.Given as goal

abbrev pub invariant-loop-cookie : goal.invariant-loop-cookie
invariant-loop-cookie l = l.lives.items ≡ fold (with_holder_of l.space) [] (take l.cookie-index l.cookies)
