-- Any held locks of which just these are called back will do.
use Rattle.std.proofs.Common.{◌≡◌, List, refl, ap, sym, subst}
use Rattle.lu_spec_client.specs.Facts.{Fact}
use Rattle.lu_cache.specs.Usable.{Agrees, isn't_marked}
use Rattle.lu_cache.specs.Tells.{notes}
use Rattle.lu_cache.proofs.Seeing.{agrees_held, if_ok}
use Rattle.lu_cache.proofs.cache.Cache.known.Goals as goal

pub returns : goal.returns
returns c =
    record {
      known = if_ok c.known.result (λ x h held agree. h (notes c.args.self.now.facts held) (
        sym (ap (λ v. v.facts) c.self.view_is),
        subst (λ (facts : List Fact). Agrees (isn't_marked c.args.marked.now) held facts)
            (sym (ap (λ v. v.facts) c.self.view_is)) agree,
      )) c.known.ensures.known;
    }
