-- Those so far were released, and the others may be.
use Rattle.std.proofs.Common.{◌≡◌, List, drop}
use Rattle.lu_base.specs.declared.locks.Lock.{Lock}
use Rattle.lu_spec_target.specs.Leaving.{all_released}
use Rattle.lu_spec_target.specs.States.{Target}
use Rattle.lu_target_store.specs.Stores.{KeepsDisk}
use Rattle.lu_target_server.specs.Releases.{MayDepart}
use Rattle.lu_target_server.proofs.Middles.{SoFar}
use Rattle.lu_target_server.proofs.Departing.{departing}
use Rattle.lu_target_server.proofs.server.Server.depart.Given as goal

abbrev pub invariant-loop-ended : goal.invariant-loop-ended
invariant-loop-ended g l =
    record {
      made : (v : Target) (locks : List Lock) → MayDepart locks l.departure.released l.fn.self v
          → SoFar (MayDepart (drop l.ended-index locks) (drop l.ended-index l.ended-items))
          (departing l.fn.turn.at l.fn.cause l.departure.who locks v)
          (all_released l.fn.turn.at (drop l.ended-index locks)) v l.self l.fn.turn l.turn;
      locks : l.self.locks ≡ l.fn.self.locks;
      disk : KeepsDisk l.fn.self.store l.self.store;
    }
