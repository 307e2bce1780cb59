-- Those so far were sent again.
use Rattle.std.proofs.Common.{◌≡◌, take}
use Rattle.lu_spec_target.specs.States.{Target}
use Rattle.lu_target_locks.specs.Reminding.{again_told}
use Rattle.lu_spec_entries.specs.Given.{giving}
use Rattle.lu_target_server.proofs.server.Server.remind_all.Given as goal

abbrev pub invariant-loop-reminder : goal.invariant-loop-reminder
invariant-loop-reminder g l = (v : Target) → v.boot ≡ l.self.boot → l.turn
    ≡ giving l.initial.turn (again_told v (take l.reminder-index l.reminder-items))
