use Rattle.std.proofs.Common.{subst, sym}
use Rattle.lu_client_store.specs.Bounds.{IsBounded}
use Rattle.lu_client_store.proofs.Bounded.{bounded_acked}
use Rattle.lu_client_store.proofs.objects.ObjectPatch.ack_flush.Goals as goal

pub invariant_of-self : goal.invariant_of-self
invariant_of-self c = subst IsBounded (sym c.ack_flush.ensures.acked) (bounded_acked c.self.inside.patch c.self.invariant)
