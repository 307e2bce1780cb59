-- Those so far were answered, and the requests of the others wait.
use Rattle.std.proofs.Common.{◌≡◌, ◌∷◌, List, drop}
use Rattle.lu_spec_entries.specs.Carried.{Glimpse}
use Rattle.lu_spec_entries.specs.Words.{Release}
use Rattle.lu_spec_target.specs.Glimpses.{glimpses_of, glimpses_end}
use Rattle.lu_spec_target.specs.Requests.{releases}
use Rattle.lu_spec_target.specs.States.{Target}
use Rattle.lu_target_store.specs.Stores.{KeepsDisk}
use Rattle.lu_target_server.specs.Releases.{MayRelease}
use Rattle.lu_target_server.proofs.Middles.{SoFar}
use Rattle.lu_target_server.proofs.Releases.{AreEnding}
use Rattle.lu_target_server.proofs.server.Server.release.Given as goal

abbrev pub invariant-loop-asker : goal.invariant-loop-asker
invariant-loop-asker g l =
    record {
      made : (v : Target) → MayRelease l.ended l.fn.self v → (let gs = drop l.asker-index (glimpses_of l.ended.lock v.glimpses) in
          SoFar (AreEnding v gs) (releases l.fn.turn.at l.ended.lock v) (λ _. glimpses_end l.fn.turn.at gs v) v l.self l.fn.turn l.turn);
      same : l.self ≡ record l.fn.self { store = l.self.store; requests = l.self.requests };
      disk : KeepsDisk l.fn.self.store l.self.store;
    }
