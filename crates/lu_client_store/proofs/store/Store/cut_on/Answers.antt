use Rattle.std.proofs.Common.{◌≡◌, ℕ, ◌∙◌, subst}
use Rattle.std.specs.Prelude.{OnOk}
use Rattle.lu_spec_entries.specs.declared.changes.Flush.TheVariants.{Cut}
use Rattle.lu_spec_entries.specs.Words.{Changes}
use Rattle.lu_spec_client.specs.Stripes.{below_on}
use Rattle.lu_client_store.specs.Stored.{stored_after}
use Rattle.lu_client_store.proofs.Striping.{below_is}
use Rattle.lu_client_store.proofs.store.Store.cut_on.Goals as goal

pub returns : goal.returns
returns c =
    let count : c.below-end.result ≡ below_on c.args.layout.now c.args.one.want.resource.stripe c.args.size = c.below-end.ensures.value
    ∙ below_is c.args.layout.now c.args.one.want.resource.stripe c.args.size c.size-size.ensures.sound c.requires.stripe in
    record {
      cut = subst (λ (q : ℕ). OnOk c.change.result (c.change.new.self
          ≡ stored_after c.args.self.now (Changes c.args.one.want.resource (Cut q)))) count c.change.ensures.changed;
    }
