use Rattle.std.proofs.Common.{rules, ◌≡◌, ◌<◌, List, length, get_or, Option, Some, sym, ap, subst, ◌∙◌}
use Rattle.lu_client_refines.proofs.Slots.{call_on_get}
use Rattle.lu_spec_client.specs.Calls.{call_on}
use Rattle.lu_spec_entries.specs.Carried.{Running}
use Rattle.lu_client.specs.Clients.{ClientState}
use Rattle.lu_client.proofs.Finished.{crowd, no_crowd}
use Rattle.lu_client.proofs.client.Client.must_wait.Goals as goal

pub returns-in-Some-begun_number : goal.returns-in-Some-begun_number
returns-in-Some-begun_number c =
    let calls : List (Option Running) = c.self.inside.calls.items in
    let inside : c.args.slot < length calls = subst (λ (n : _). c.args.slot < n) (sym c.self.invariant.slots) c.requires.slot in
    let item : c.index.result.now ≡ get_or calls c.args.slot c.index.result.now = search rules in
    let some : call_on c.args.slot c.args.self.now.client.calls ≡ Some c.in-Some.call =
    sym (ap (λ (s : ClientState). call_on c.args.slot s.client.calls) c.self.view_is)
    ∙ call_on_get c.args.slot calls c.index.result.now inside ∙ sym item ∙ c.in-Some.is in
    record {
      waits = crowd c.args.slot c.args.self.now.client.calls c.in-Some.call c.in-Some-begun_number.number c.count_on.result some
          (sym c.in-Some-begun_number.is ∙ c.begun_number.ensures.number) c.count_on.ensures.count;
    }

pub returns-in-None : goal.returns-in-None
returns-in-None c =
    let calls : List (Option Running) = c.self.inside.calls.items in
    let inside : c.args.slot < length calls = subst (λ (n : _). c.args.slot < n) (sym c.self.invariant.slots) c.requires.slot in
    let item : c.index.result.now ≡ get_or calls c.args.slot c.index.result.now = search rules in
    let some : call_on c.args.slot c.args.self.now.client.calls ≡ Some c.in-Some.call =
    sym (ap (λ (s : ClientState). call_on c.args.slot s.client.calls) c.self.view_is)
    ∙ call_on_get c.args.slot calls c.index.result.now inside ∙ sym item ∙ c.in-Some.is in
    record {
      waits = no_crowd c.args.slot c.args.self.now.client.calls c.in-Some.call some
          (sym c.in-None.is ∙ c.begun_number.ensures.number);
    }
