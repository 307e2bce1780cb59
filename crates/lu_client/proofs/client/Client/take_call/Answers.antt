use Rattle.std.proofs.Common.{◌<◌, length, sym, ap, subst, ◌∙◌}
use Rattle.lu_client_refines.proofs.Slots.{call_on_get}
use Rattle.lu_spec_client.specs.Calls.{call_on}
use Rattle.lu_client.specs.Clients.{ClientState}
use Rattle.lu_client.proofs.client.Client.take_call.Goals as goal

pub returns-clause-call : goal.returns-clause-call
returns-clause-call c =
    let inside : c.args.slot < length c.self.inside.calls.items =
    subst (λ (n : _). c.args.slot < n) (sym c.self.invariant.slots) c.requires.slot in
    c.take.ensures.value ∙ c.index_mut.ensures.value ∙ sym (call_on_get c.args.slot c.self.inside.calls.items c.index_mut.result.now inside)
    ∙ ap (λ (s : ClientState). call_on c.args.slot s.client.calls) c.self.view_is
