use Rattle.std.proofs.Common.{◌≡◌, ℕ, List, ◌+◌, ◌≤◌, ◌∙◌, ap, subst, arith, length}
use Rattle.std.specs.Prelude.{OnOk}
use Rattle.lu_layout.specs.Raid0.{below_of}
use Rattle.lu_spec_client.specs.Stripes.{below_on, bytes_on}
use Rattle.lu_spec_client.specs.Advances.{writes_on}
use Rattle.lu_client_store.specs.Stored.{stored_turn}
use Rattle.lu_client_store.proofs.Striping.{below_is, run_fits}
use Rattle.lu_client_store.proofs.store.Store.write_on.Goals as goal

pub write_run-requires : goal.write_run-requires
write_run-requires c =
    let least : below_of c.args.layout.now c.args.one.want.resource.stripe c.args.position + length
    (bytes_on c.args.layout.now c.args.one.want.resource.stripe c.args.position c.args.bytes.now) ≤ c.args.position + length
    c.args.bytes.now = run_fits c.args.layout.now c.args.one.want.resource.stripe c.args.position c.args.bytes.now
    c.size-size.ensures.sound c.requires.stripe in
    record {
      fits = omega (
        arith,
        ap (λ (bs : List ℕ). length bs) c.in_ok-run.ensures.bytes,
        c.below-first.ensures.value,
        least,
        c.requires.fits,
      );
    }

pub returns : goal.returns
returns c =
    let count : c.below-first.result ≡ below_on c.args.layout.now c.args.one.want.resource.stripe c.args.position =
    c.below-first.ensures.value ∙ below_is c.args.layout.now c.args.one.want.resource.stripe c.args.position c.size-size.ensures.sound
    c.requires.stripe in
    let at : OnOk c.write_run.result (c.write_run.new.self ≡ stored_turn c.args.self.now
    (writes_on c.args.one (below_on c.args.layout.now c.args.one.want.resource.stripe c.args.position) c.in_ok-run.run')) =
    subst (λ (q : ℕ). OnOk c.write_run.result (c.write_run.new.self
    ≡ stored_turn c.args.self.now (writes_on c.args.one q c.in_ok-run.run'))) count c.write_run.ensures.written in
    record {
      written = subst (λ (bs : List ℕ). OnOk c.write_run.result
          (c.write_run.new.self ≡ stored_turn c.args.self.now (writes_on c.args.one
          (below_on c.args.layout.now c.args.one.want.resource.stripe c.args.position) bs))) c.in_ok-run.ensures.bytes at;
    }
