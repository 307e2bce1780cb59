use Rattle.std.proofs.Common.{◌≡◌, ◌∙◌, ap, List}
use Rattle.lu_held.specs.declared.names.LockName.{LockName}
use Rattle.lu_spec_entries.specs.Carried.{Running}
use Rattle.lu_spec_client.specs.Advances.{unpins}
use Rattle.lu_client_store.specs.Stored.{stored_turn}
use Rattle.lu_call.proofs.Going.{goes_told}
use Rattle.lu_call.proofs.calls.CallState.tell.Goals as goal

pub returns : goal.returns
returns c =
    let unpinned : c.unpin_all.new.store ≡ stored_turn c.args.store.now (unpins c.args.self.now.pins) =
    c.unpin_all.ensures.unpinned ∙ ap (λ (names : List LockName). stored_turn c.args.store.now (unpins names))
    (c.deref.ensures.value ∙ ap (λ (r : Running). r.pins) c.self.view_is) in
    record {
      told = λ slot work. rw unpinned (goes_told slot c.args.self.now c.args.self.now c.args.at c.args.answer work c.args.store.now);
    }
