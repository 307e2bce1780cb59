-- A stripe that is done is passed over; it stands at the first that isn't.
use Rattle.std.proofs.Common.{◌≡◌, ◌<◌, ◌≤◌, ◌∙◌, length, true, false, rules, arith}
use Rattle.lu_spec_client.specs.Caches.{patch_at}
use Rattle.lu_spec_client.specs.Stripes.{object}
use Rattle.lu_call.specs.Flushed.{is_written}
use Rattle.lu_call.specs.Views.{file_of}
use Rattle.lu_call.proofs.WritingBack.{flush_past, flush_here, flush_done}
use Rattle.lu_call.proofs.flushing.first_to_write.Goals as goal

pub returns-then-not-is_written : goal.returns-then-not-is_written
returns-then-not-is_written c =
    let less : c.loop-stripe.stripe < length c.args.file.now.layout.targets =
    omega (arith, c.loop-stripe-test.true, c.count-stripe-end.ensures.value) in
    let done : is_written (patch_at (object c.args.file.now.fid c.loop-stripe.stripe) c.args.store.now.store.patches) ≡ false = search rules
    in
    record {
      first = λ at slot r. c.loop-stripe.invariant at slot r
          ∙ flush_here at slot r (file_of c.args.file.now) c.args.store.now.store c.loop-stripe.stripe less done;
    }

pub loop-stripe-preserved : goal.loop-stripe-preserved
loop-stripe-preserved c =
    let less : c.loop-stripe.stripe < length c.args.file.now.layout.targets =
    omega (arith, c.loop-stripe-test.true, c.count-stripe-end.ensures.value) in
    let done : is_written (patch_at (object c.args.file.now.fid c.loop-stripe.stripe) c.args.store.now.store.patches) ≡ true = search rules
    in
    λ at slot r. c.loop-stripe.invariant at slot r ∙ flush_past at slot r (file_of c.args.file.now) c.args.store.now.store
    c.loop-stripe.stripe less done

pub returns : goal.returns
returns c =
    let past : length c.args.file.now.layout.targets ≤ c.loop-stripe.stripe =
    omega (arith, c.loop-stripe-test.false, c.count-stripe-end.ensures.value) in
    record {
      first = λ at slot r. c.loop-stripe.invariant at slot r
          ∙ flush_done at slot r (file_of c.args.file.now) c.args.store.now.store c.loop-stripe.stripe past;
    }
