use Rattle.std.proofs.Common.{◌≡◌, refl, ◌∙◌}
use Rattle.lu_spec_client.specs.Advances.{cuts}
use Rattle.lu_client_store.specs.Stored.{stored_turn}
use Rattle.lu_call.specs.Views.{work_of}
use Rattle.lu_call.proofs.Acting.{acts_cut}
use Rattle.lu_call.proofs.calls.CallState.cut.Goals as goal

pub returns : goal.returns
returns c =
    let cut : c.cut_all.new.self ≡ stored_turn c.args.store.now (cuts c.args.work.now.layout c.args.size c.args.work.now.used.items) =
    c.in_ok-cut_all.ensures.cut ∙ rw (c.deref.ensures.value) refl in
    record { goes = λ slot. acts_cut c.args.at slot c.args.size c.args.self.now (work_of c.args.work.now) cut (c.tell.ensures.told slot _) }
