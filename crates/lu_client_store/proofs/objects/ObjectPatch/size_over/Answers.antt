use Rattle.std.proofs.Common.{◌≤◌, ◌^◌, ℕ, subst, sym}
use Rattle.lu_client_store.proofs.Bounded.{size_short}
use Rattle.lu_client_store.proofs.objects.ObjectPatch.size_over.Goals as goal

pub returns-clause-short : goal.returns-clause-short
returns-clause-short c = λ less. subst (λ (n : ℕ). n ≤ 2 ^ 40) (sym c.size_over.ensures.size)
    (size_short c.args.server c.self.inside.patch c.self.invariant less)
