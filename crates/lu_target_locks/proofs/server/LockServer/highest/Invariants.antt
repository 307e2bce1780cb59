-- The locks before this place were looked at.
use Rattle.std.proofs.Common.{◌≡◌, take}
use Rattle.lu_spec_target.specs.Glimpses.{highest}
use Rattle.lu_spec_target.specs.Replies.{locks_on}
use Rattle.lu_spec_target.specs.States.{Target}
use Rattle.lu_target_locks.specs.Servers.{Shows}
use Rattle.lu_target_locks.proofs.server.LockServer.highest.Given as goal

abbrev pub invariant-loop-at : goal.invariant-loop-at
invariant-loop-at l = (v : Target) → Shows l.self v → l.found ≡ highest (take l.at (locks_on l.resource v.granted))
