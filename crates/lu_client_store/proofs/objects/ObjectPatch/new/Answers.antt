use Rattle.std.proofs.Common.{subst, sym}
use Rattle.lu_client_store.specs.Bounds.{IsBounded}
use Rattle.lu_client_store.proofs.Bounded.{bounded_clean}
use Rattle.lu_client_store.proofs.objects.ObjectPatch.new.Goals as goal

pub invariant_of-result : goal.invariant_of-result
invariant_of-result c = subst IsBounded (sym c.new.ensures.clean) bounded_clean
