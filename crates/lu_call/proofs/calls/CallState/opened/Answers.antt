use Rattle.std.proofs.Common.{◌≡◌, ◌∙◌, refl, sym, ap, List, None}
use Rattle.lu_msg.specs.declared.answers.Answer.TheVariants as answer
use Rattle.lu_msg.specs.declared.calls.Call.{Call}
use Rattle.lu_msg.specs.declared.calls.Call.TheVariants as call
use Rattle.lu_held.specs.declared.names.LockName.{LockName}
use Rattle.lu_spec_entries.specs.Carried.{Running}
use Rattle.lu_spec_client.specs.Advances.{unpins}
use Rattle.lu_spec_client.specs.Starts.{answers}
use Rattle.lu_client_store.specs.Stored.{stored_turn}
use Rattle.lu_call.specs.Starting.{alone}
use Rattle.lu_call.specs.Views.{file_of}
use Rattle.lu_call.proofs.Going.{goes_as, goes_where, goes_bound}
use Rattle.lu_call.proofs.Beginning.{opens_other}
use Rattle.lu_call.proofs.calls.CallState.opened.Goals as goal

pub returns-in-Open : goal.returns-in-Open
returns-in-Open c =
    let it_is : c.args.self.now.call ≡ call.Open c.in-Open.handle c.in-Open.path = sym (ap (λ (r : Running). r.call) c.self.view_is)
    ∙ c.in-Open.is in
    let unpinned : c.unpin_all.new.store ≡ stored_turn c.args.store.now (unpins c.args.self.now.pins) =
    c.unpin_all.ensures.unpinned ∙ ap (λ (names : List LockName). stored_turn c.args.store.now (unpins names))
    (c.deref.ensures.value ∙ ap (λ (r : Running). r.pins) c.self.view_is) in
    record {
      goes = λ at slot.
          goes_as (ap (λ (it : Call). answers at slot c.args.acted (answer.OpenFile c.args.file.fid c.args.file.number c.args.file.layout)
          it c.args.self.now (alone c.args.self.now c.args.store.now)) it_is)
          (goes_where refl unpinned refl (goes_bound slot (record { handle = c.in-Open.handle; file = c.args.file }) c.args.self.now
          c.args.self.now c.args.acted (answer.Made c.args.file.fid) None c.args.store.now));
    }

pub returns-in_default : goal.returns-in_default
returns-in_default c =
    let it_is : c.self.inside.call ≡ c.args.self.now.call = ap (λ (r : Running). r.call) c.self.view_is in
    record {
      goes = λ at slot. goes_as (opens_other at slot c.args.acted (file_of c.args.file) c.args.self.now.call c.args.self.now
          (alone c.args.self.now c.args.store.now) (λ h p e. c.in_default.not-Open h p (it_is ∙ e))) (c.tell.ensures.told slot None);
    }
