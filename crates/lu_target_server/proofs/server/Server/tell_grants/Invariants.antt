-- The grants so far were told.
use Rattle.std.proofs.Common.{◌≡◌, take}
use Rattle.lu_spec_target.specs.States.{Target}
use Rattle.lu_target_refines.specs.Locks.{grants_told}
use Rattle.lu_target_server.specs.Answering.{TellsSizes}
use Rattle.lu_spec_entries.specs.Given.{giving}
use Rattle.lu_target_server.proofs.server.Server.tell_grants.Given as goal

abbrev pub invariant-loop-grant : goal.invariant-loop-grant
invariant-loop-grant g l =
    record {
      told : (v : Target) → TellsSizes l.fn.self v → l.turn ≡ giving l.fn.turn
          (grants_told l.fn.resource v (take l.grant-index l.grant-items));
      same : l.self ≡ l.fn.self;
    }
