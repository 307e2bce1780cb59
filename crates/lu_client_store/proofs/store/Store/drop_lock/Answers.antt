-- The sizes of other locks are kept.
use Rattle.lu_client_store.proofs.Short.{short_forgotten}
use Rattle.std.proofs.Common.{sym, subst}
use Rattle.lu_cache.specs.Cached.{Cached}
use Rattle.lu_client_store.specs.Bounds.{AreShort}
use Rattle.lu_client_store.proofs.store.Store.drop_lock.Goals as goal

pub invariant_of-self : goal.invariant_of-self
invariant_of-self c =
    let before : AreShort c.forget_names.new.cache.sizes = subst (λ (k : Cached). AreShort k.sizes) (sym c.forget_names.ensures.forgotten)
    c.self.invariant in
    subst (λ (k : Cached). AreShort k.sizes) (sym c.forget_range.ensures.forgotten)
    (short_forgotten c.args.lock.now.ask.policy c.args.lock.now c.forget_names.new.cache.sizes before)
