-- The held locks say themselves which of them may be used.
use Rattle.std.proofs.Common.{◌≡◌, List, refl, ap, sym, subst}
use Rattle.lu_spec_client.specs.Facts.{Fact}
use Rattle.lu_cache.specs.Usable.{Agrees, isn't_marked}
use Rattle.lu_cache.specs.Tells.{notes}
use Rattle.lu_cache.proofs.Seeing.{agrees_held, if_ok}
use Rattle.lu_cache.proofs.cache.Cache.stat_locks.Goals as goal

pub returns : goal.returns
returns c =
    let held = c.args.held.now.locks in
    record {
      locks = if_ok c.stat_locks.result (λ x h. h (notes c.args.self.now.facts held)
          (sym (ap (λ v. v.facts) c.self.view_is), agrees_held held _)) c.stat_locks.ensures.locks;
    }
