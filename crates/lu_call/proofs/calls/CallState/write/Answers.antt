use Rattle.std.proofs.Common.{◌≡◌, refl, ◌∙◌}
use Rattle.lu_spec_client.specs.Advances.{writes}
use Rattle.lu_client_store.specs.Stored.{stored_turn}
use Rattle.lu_call.specs.Views.{work_of}
use Rattle.lu_call.proofs.Acting.{acts_write}
use Rattle.lu_call.proofs.calls.CallState.write.Goals as goal

pub returns : goal.returns
returns c =
    let written : c.write_all.new.self ≡ stored_turn c.args.store.now
    (writes c.args.work.now.layout c.args.offset c.args.bytes.now c.args.work.now.used.items) =
    c.in_ok-write_all.ensures.written ∙ rw (c.as_slice.ensures.same, c.deref.ensures.value) refl in
    record {
      goes = λ slot. acts_write c.args.at slot c.args.offset c.args.bytes.now c.args.self.now (work_of c.args.work.now) written
          (c.tell.ensures.told slot _);
    }
