-- The lives so far.
use Rattle.std.proofs.Common.{◌≡◌, take}
use Rattle.lu_target_server.specs.Closing.{gone_in}
use Rattle.lu_target_server.proofs.closing.gone_of.Given as goal

abbrev pub invariant-loop-eviction : goal.invariant-loop-eviction
invariant-loop-eviction l = l.gone ≡ gone_in (take l.eviction-index l.eviction-items)
