-- The steps so far were told.
use Rattle.std.proofs.Common.{◌≡◌, take}
use Rattle.lu_spec_target.specs.States.{Target}
use Rattle.lu_target_locks.specs.Departing.{steps_told}
use Rattle.lu_target_server.specs.Answering.{TellsSizes}
use Rattle.lu_spec_entries.specs.Given.{giving}
use Rattle.lu_target_server.proofs.server.Server.tell_steps.Given as goal

abbrev pub invariant-loop-step : goal.invariant-loop-step
invariant-loop-step g l =
    record {
      told : (v : Target) → TellsSizes l.fn.self v → l.turn ≡ giving l.fn.turn (steps_told v (take l.step-index l.step-items));
      same : l.self ≡ l.fn.self;
    }
