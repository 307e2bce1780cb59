use Rattle.std.proofs.Common.{◌≡◌, ◌∙◌, refl}
use Rattle.lu_spec_client.specs.Stripes.{stripes}
use Rattle.lu_spec_client.specs.Looks.{file_size}
use Rattle.lu_call.specs.Views.{work_of}
use Rattle.lu_call.proofs.Acting.{acts_stat}
use Rattle.lu_call.proofs.calls.CallState.stat.Goals as goal

pub returns : goal.returns
returns c =
    let size : c.file_size-size.result ≡ file_size c.args.work.now.layout (stripes c.args.work.now.layout) c.args.work.now.used.items
    c.args.store.now.store =
    c.file_size-size.ensures.size ∙ rw (c.deref.ensures.value) refl in
    record {
      goes = λ slot. acts_stat c.args.at slot c.args.mode c.args.links c.args.self.now (work_of c.args.work.now)
          c.file_size-size.result size (c.tell.ensures.told slot _);
    }
