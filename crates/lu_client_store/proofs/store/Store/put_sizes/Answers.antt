use Rattle.std.proofs.Common.{ℕ, ◌^◌, arith, ◌∙◌}
use Rattle.lu_spec_client.specs.Looks.{size_on}
use Rattle.lu_client_store.proofs.ObjectSizes.{sizes_more, count_stays, short_more}
use Rattle.lu_client_store.proofs.store.Store.put_sizes.Goals as goal

pub loop-stripe-preserved : goal.loop-stripe-preserved
loop-stripe-preserved c =
    record {
      count = count_stays c.loop-stripe.into c.loop-stripe.stripe c.size_on.result ∙ c.loop-stripe.invariant.count;
      sizes = sizes_more (λ (i : ℕ). size_on i c.args.used.now c.args.self.now.store) c.loop-stripe.into c.loop-stripe.stripe
          c.size_on.result (omega (arith, c.loop-stripe-test.true)) c.size_on.ensures.size c.loop-stripe.invariant.sizes;
      short = short_more (2 ^ 40) c.loop-stripe.into c.loop-stripe.stripe c.size_on.result (omega (arith, c.loop-stripe-test.true))
          c.size_on.ensures.short c.loop-stripe.invariant.short;
    }
