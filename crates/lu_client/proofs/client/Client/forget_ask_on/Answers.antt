use Rattle.std.proofs.Common.{rules, ◌≡◌, ◌<◌, List, length, get_or, Option, sym, ap, subst, ◌∙◌}
use Rattle.lu_spec_entries.specs.Carried.{Running}
use Rattle.lu_call.specs.Turning.{call_turn}
use Rattle.lu_spec_client.specs.Calls.{call_on}
use Rattle.lu_spec_client.specs.Recovery.{forgets_stage, on_call}
use Rattle.lu_client_refines.proofs.Slots.{call_on_get}
use Rattle.lu_client.specs.Clients.{ClientState, Makes, state_of, with_call}
use Rattle.lu_client.specs.Recovering.{forgets_one}
use Rattle.lu_client.proofs.Recovering.{ask_forgotten}
use Rattle.lu_client.proofs.client.Client.forget_ask_on.Goals as goal

pub returns : goal.returns
returns c =
    let old : ClientState = state_of c.self.inside.osts c.self.inside.flight c.self.inside.dirty c.self.inside.who
    c.self.inside.handles.items c.self.inside.calls.items c.self.inside.imports.items c.self.inside.store c.self.inside.spent in
    let calls : List (Option Running) = c.self.inside.calls.items in
    let call : Option Running = c.index_mut.result.now in
    let left : Option Running = c.forget_ask.new.call in
    let inside : c.args.slot < length calls = subst (λ (s : ClientState). c.args.slot < length s.client.calls) (sym c.self.view_is)
    c.requires.slot in
    let item : call ≡ get_or calls c.args.slot call = search rules in
    let there : call_on c.args.slot calls ≡ call = call_on_get c.args.slot calls call inside ∙ sym item in
    record {
      forgets = λ making. subst (λ (s : ClientState). Makes (forgets_one c.args.target.0 c.args.slot) s (with_call c.args.slot left old)
          making making) c.self.view_is
          (ask_forgotten c.args.target.0 c.args.slot old left inside
          (ap (λ (o : Option Running). call_turn c.args.slot o (on_call (forgets_stage c.args.target.0) c.args.slot o)) there
          ∙ c.forget_ask.ensures.forgets c.args.slot) making);
    }
