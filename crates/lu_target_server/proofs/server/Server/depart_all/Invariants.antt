-- Those so far left, and the others may.
use Rattle.std.proofs.Common.{◌≡◌, List, drop}
use Rattle.lu_base.specs.declared.ids.Who.{Who}
use Rattle.lu_base.specs.declared.locks.Lock.{Lock}
use Rattle.lu_spec_target.specs.Leaving.{evictions}
use Rattle.lu_spec_target.specs.States.{Target}
use Rattle.lu_target_store.specs.Stores.{KeepsDisk}
use Rattle.lu_target_server.specs.Releases.{MayDepartAll}
use Rattle.lu_target_server.proofs.Middles.{SoFar}
use Rattle.lu_target_server.proofs.server.Server.depart_all.Given as goal

abbrev pub invariant-loop-departure : goal.invariant-loop-departure
invariant-loop-departure g l =
    record {
      made : (w : Target) (granted : List Lock) (gone : List Who) → MayDepartAll granted gone l.departures l.fn.self w
          → SoFar (MayDepartAll granted (drop l.departure-index gone) (drop l.departure-index l.departure-items))
          (evictions l.fn.turn.at l.fn.cause granted gone w)
          (evictions l.fn.turn.at l.fn.cause granted (drop l.departure-index gone)) w l.self l.fn.turn l.turn;
      locks : l.self.locks ≡ l.fn.self.locks;
      disk : KeepsDisk l.fn.self.store l.self.store;
    }
