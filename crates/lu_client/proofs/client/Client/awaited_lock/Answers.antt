use Rattle.std.proofs.Common.{rules, ◌≡◌, ◌<◌, List, length, get_or, Option, Some, sym, ap, subst, ◌∙◌}
use Rattle.lu_spec_entries.specs.Carried.{Running}
use Rattle.lu_spec_client.specs.Calls.{call_on}
use Rattle.lu_spec_client.specs.Recovery.{on_call, where_stage}
use Rattle.lu_client_refines.proofs.Slots.{call_on_get}
use Rattle.lu_client.specs.Clients.{ClientState}
use Rattle.lu_client.proofs.client.Client.awaited_lock.Goals as goal

pub returns-in-Some : goal.returns-in-Some
returns-in-Some c =
    let calls : List (Option Running) = c.self.inside.calls.items in
    let item : c.index.result.now ≡ get_or calls c.args.slot c.index.result.now = search rules in
    let here : call_on c.args.slot c.args.self.now.client.calls ≡ Some c.in-Some.call =
    ap (λ (s : ClientState). call_on c.args.slot s.client.calls) (sym c.self.view_is)
    ∙ call_on_get c.args.slot calls c.index.result.now (subst (λ (s : ClientState). c.args.slot < length s.client.calls)
    (sym c.self.view_is) c.requires.slot)
    ∙ sym item
    ∙ c.in-Some.is in
    record {
      asks = λ who boot target. ap (on_call (where_stage who boot target) c.args.slot) here
          ∙ c.waits_for.ensures.asks who boot target c.args.slot;
    }
