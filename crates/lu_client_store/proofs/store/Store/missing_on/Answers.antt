use Rattle.std.proofs.Common.{◌≡◌, ℕ, ◌∙◌, ap}
use Rattle.lu_spec_client.specs.Stripes.{below_on}
use Rattle.lu_spec_client.specs.Looks.{missing_under}
use Rattle.lu_client_store.proofs.Striping.{below_is}
use Rattle.lu_client_store.proofs.store.Store.missing_on.Goals as goal

pub returns : goal.returns
returns c =
    let first : c.below-first.result ≡ below_on c.args.layout.now c.args.one.want.resource.stripe c.args.position =
    c.below-first.ensures.value ∙ below_is c.args.layout.now c.args.one.want.resource.stripe c.args.position c.size-size.ensures.sound
    c.requires.stripe in
    let end : c.below-end.result ≡ below_on c.args.layout.now c.args.one.want.resource.stripe c.args.end = c.below-end.ensures.value
    ∙ below_is c.args.layout.now c.args.one.want.resource.stripe c.args.end c.size-size.ensures.sound c.requires.stripe in
    record {
      missing =
          c.missing_under.ensures.missing
          ∙ ap (λ (n : ℕ). missing_under c.args.one.lock n c.below-end.result c.args.self.now.store) first
          ∙ ap (λ (n : ℕ). missing_under c.args.one.lock (below_on c.args.layout.now c.args.one.want.resource.stripe c.args.position) n
          c.args.self.now.store) end;
    }
