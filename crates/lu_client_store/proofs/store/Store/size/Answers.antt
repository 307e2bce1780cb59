use Rattle.std.proofs.Common.{ℕ, ◌^◌, ◌≤◌, Option, sym, subst}
use Rattle.std.specs.Prelude.{IfSome}
use Rattle.lu_client_store.proofs.Short.{noted_short}
use Rattle.lu_client_store.proofs.store.Store.size.Goals as goal

pub returns-clause-short : goal.returns-clause-short
returns-clause-short c =
    subst (λ (o : Option ℕ). IfSome o (λ (n : ℕ). n ≤ 2 ^ 40)) (sym c.size.ensures.size)
    (noted_short c.args.resource c.args.cookie c.self.inside.cache.sizes c.self.invariant)
