-- The bytes so far are read.
use Rattle.std.proofs.Common.{◌≡◌, ◌-◌, ◌≤◌}
use Rattle.lu_spec_client.specs.Looks.{content}
use Rattle.lu_client_store.proofs.store.Store.content.Given as goal

abbrev pub invariant-loop-done : goal.invariant-loop-done
invariant-loop-done l = (l.done ≤ l.count) × (l.bytes ≡ content l.layout l.fid l.self.store l.position l.done)

abbrev pub decreases-loop-done : goal.decreases-loop-done
decreases-loop-done l = l.count - l.done
