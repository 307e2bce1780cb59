-- It is none of the lives so far.
use Rattle.std.proofs.Common.{◌≡◌, drop}
use Rattle.lu_spec_target.specs.Leaving.{life_of}
use Rattle.lu_target_store.proofs.store.Store.life_of.Given as goal

abbrev pub invariant-loop-who : goal.invariant-loop-who
invariant-loop-who g l = life_of l.client (drop l.who-index l.who-items) ≡ life_of l.client l.who-items
