use Rattle.std.proofs.Common.{◌≡◌, Some, sym, ap, subst, ◌∙◌}
use Rattle.std.proofs.lemmas.Result.{IfOk-weaker}
use Rattle.lu_call.specs.Going.{GoesFrom}
use Rattle.lu_call.specs.Starting.{alone}
use Rattle.lu_spec_client.specs.Slots.{goes_at}
use Rattle.lu_client_store.specs.Stored.{StoreState}
use Rattle.lu_spec_entries.specs.Carried.{Running}
use Rattle.lu_client.specs.Clients.{ClientState, stored_of, with_call, with_store}
use Rattle.lu_client.proofs.Finished.{stayed, went}
use Rattle.lu_client.proofs.Keeping.{kept_store}
use Rattle.lu_client.proofs.client.Client.advance_call.Goals as goal

pub returns-in_default : goal.returns-in_default
returns-in_default c =
    record {
      advances = stayed c.args.at c.args.slot c.args.self.now c.take_call.new.self (sym c.take_call.ensures.call ∙ c.in_default.is)
          c.take_call.ensures.free;
    }

pub invariant_of-self : goal.invariant_of-self
invariant_of-self c = kept_store c.self.invariant c.advance-next.new.store

pub returns : goal.returns
returns c =
    let r : Running = c.in-Some.call in
    let left : Running = c.advance-next.new.self in
    let after : StoreState = c.advance-next.new.store in
    let store : c.self.inside.store ≡ stored_of c.args.self.now = ap stored_of (c.self.view_is ∙ c.take_call.ensures.free) in
    let back : c.put.new.self ≡ with_call c.args.slot (Some left) (with_store after (with_call c.args.slot _ c.args.self.now)) =
    c.put.ensures.put ∙ ap (λ (s : ClientState). with_call c.args.slot (Some left) (with_store after s))
    (c.self.view_is ∙ c.take_call.ensures.free) in
    record {
      advances = IfOk-weaker c.advance-next.result _ _
          (λ out goes. went c.args.at c.args.slot c.args.self.now c.put.new.self r left after out
          (sym c.take_call.ensures.call ∙ c.in-Some.is)
          (subst (λ (s : StoreState). GoesFrom (goes_at c.args.at c.args.slot r.stage r (alone r s)) c.args.slot r left s after out) store
          (goes c.args.slot)) back)
          c.advance-next.ensures.goes;
    }
