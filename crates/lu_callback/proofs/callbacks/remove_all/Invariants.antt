-- What is left to be taken away is taken from what is left.
use Rattle.std.proofs.Common.{◌≡◌, drop}
use Rattle.lu_callback.specs.Callbacks.{without_locks}
use Rattle.lu_callback.specs.Filed.{all_asked, IsHeld}
use Rattle.lu_callback.proofs.callbacks.remove_all.Given as goal

abbrev pub invariant-loop-cookie : goal.invariant-loop-cookie
invariant-loop-cookie l = record {
  held : IsHeld l.holders.entries;
  same : without_locks (drop l.cookie-index l.locks) (all_asked l.holders.entries)
      ≡ without_locks l.locks (all_asked l.initial.holders.entries);
}
