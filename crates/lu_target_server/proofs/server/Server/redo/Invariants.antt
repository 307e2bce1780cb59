-- Those so far are redone, and those that are left may be.
use Rattle.std.proofs.Common.{◌≡◌, length, map}
use Rattle.std.specs.Vec.Iter.{into_iter_items, into_iter_len}
use Rattle.lu_spec_target.specs.States.{Target}
use Rattle.lu_target_redo.specs.Shown.{deed_of}
use Rattle.lu_target_store.specs.Stores.{KeepsDisk}
use Rattle.lu_target_server.specs.Closing.{CanRedo}
use Rattle.lu_target_server.proofs.Redoing.{Redoing}
use Rattle.lu_target_server.proofs.server.Server.redo.Given as goal

abbrev pub invariant-loop-deed : goal.invariant-loop-deed
invariant-loop-deed g l =
    record {
      can_next : (goal.iterator-loop-deed g).can_next l.deed-iterator;
      is_finite : (goal.iterator-loop-deed g).is_finite l.deed-iterator;
      count : into_iter_len l.deed-iterator ≡ length (into_iter_items l.deed-iterator);
      goes : (v : Target) → CanRedo (map deed_of l.fn.deeds) l.fn.self v
          → Redoing (map deed_of l.fn.deeds) (map deed_of (into_iter_items l.deed-iterator)) l.self.store v;
      same : l.self ≡ record l.fn.self { store = l.self.store };
      disk : KeepsDisk l.fn.self.store l.self.store;
    }
