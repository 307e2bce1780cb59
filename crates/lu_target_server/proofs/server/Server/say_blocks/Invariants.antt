-- What is left of the lines and messages comes to what all come to.
use Rattle.std.proofs.Common.{◌≡◌, drop}
use Rattle.lu_spec_target.specs.States.{Target}
use Rattle.lu_target_locks.specs.Servers.{blocks_told}
use Rattle.lu_spec_entries.specs.Given.{giving}
use Rattle.lu_target_server.proofs.server.Server.say_blocks.Given as goal

abbrev pub invariant-loop-lock : goal.invariant-loop-lock
invariant-loop-lock g l = (v : Target) → v.boot ≡ l.self.boot → giving l.turn (blocks_told v (drop l.lock-index l.lock-items))
    ≡ giving l.initial.turn (blocks_told v l.lock-items)
