-- The locks so far.
use Rattle.std.proofs.Common.{◌≡◌, take}
use Rattle.lu_target_locks.specs.Leaving.{ended_all}
use Rattle.lu_target_locks.proofs.departing.all_ended.Given as goal

abbrev pub invariant-loop-cookie : goal.invariant-loop-cookie
invariant-loop-cookie l = l.all.items ≡ ended_all l.space l.calls l.gone (take l.cookie-index l.cookies)
