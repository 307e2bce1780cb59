-- What is told of names changes no size.
use Rattle.std.proofs.Common.{ap, ◌∙◌}
use Rattle.std.proofs.lemmas.Result.{on_ok_weaker}
use Rattle.lu_spec_entries.specs.Words.{Learns}
use Rattle.lu_cache.specs.Cached.{Cached, cache_after}
use Rattle.lu_client_store.specs.Stored.{StoreState, stored_after}
use Rattle.lu_client_store.proofs.Parts.{together}
use Rattle.lu_client_store.proofs.Short.{short_either}
use Rattle.lu_client_store.proofs.store.Store.learn.Goals as goal

pub invariant_of-self : goal.invariant_of-self
invariant_of-self c =
    short_either c.learn_names.result c.self.inside.cache (cache_after c.self.inside.cache
    (Learns c.args.target.0 c.args.op.now c.args.answer.now c.args.locks.now)) c.learn_names.new.cache
    (on_ok_weaker c.learn_names.result (λ learned. learned c.args.target.0) c.learn_names.ensures.learned) c.learn_names.ensures.kept
    c.self.invariant c.self.invariant

pub returns-clause-learned : goal.returns-clause-learned
returns-clause-learned c =
    on_ok_weaker c.learn_names.result
    (λ learned. ap (λ (k : Cached). together c.self.inside.held k c.self.inside.patches) (learned c.args.target.0)
    ∙ ap (λ (s : StoreState). stored_after s (Learns c.args.target.0 c.args.op.now c.args.answer.now c.args.locks.now)) c.self.view_is)
    c.learn_names.ensures.learned
