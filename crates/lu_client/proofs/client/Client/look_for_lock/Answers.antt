use Rattle.std.proofs.Common.{◌≡◌, ◌<◌, List, length, Option, Some, sym, ap, subst, ◌∙◌}
use Rattle.lu_spec_entries.specs.Carried.{Running}
use Rattle.lu_spec_client.specs.Calls.{call_on}
use Rattle.lu_client_refines.proofs.Slots.{call_on_get}
use Rattle.lu_client.specs.Clients.{ClientState, with_call}
use Rattle.lu_client.specs.contracts.client.Client.{the_view}
use Rattle.lu_client.proofs.Serving.{looks_stood, looks_free}
use Rattle.lu_client.proofs.client.Client.look_for_lock.Goals as goal
use Rattle.lu_client.proofs.client.Client.look_for_lock.Goals.{in-Some, in_default}

pub returns : goal.returns
returns c =
    let calls : List (Option Running) = c.self.inside.calls.items in
    let here : call_on c.args.slot c.args.self.now.client.calls ≡ c.index_mut.result.now =
    ap (λ (s : ClientState). call_on c.args.slot s.client.calls) (sym c.self.view_is)
    ∙ call_on_get c.args.slot calls c.index_mut.result.now (subst (λ (s : ClientState). c.args.slot < length s.client.calls)
    (sym c.self.view_is) c.requires.slot)
    ∙ sym c.index_mut.ensures.value in
    elim c.match-index_mut.branch [
      | in-Some w ↦
          let left : Running = w.ask_again.new.self in
          record {
            makes = looks_stood c.args.target.0 c.args.slot c.args.self.now (the_view c.match-index_mut.self-inside) w.in-Some.call left
                c.requires.slot (here ∙ w.in-Some.is)
                (w.ask_again.ensures.looks c.args.slot) (ap the_view w.self-inside-is
                ∙ ap (with_call c.args.slot (Some left)) c.self.view_is);
          }
      | in_default w ↦
          record {
            makes = looks_free c.args.target.0 c.args.slot c.args.self.now (the_view c.match-index_mut.self-inside) (here ∙ w.in_default.is)
                (ap the_view w.self-inside-is ∙ ap (with_call c.args.slot c.index_mut.result.now) c.self.view_is
                ∙ ap (λ (call : Option Running). with_call c.args.slot call c.args.self.now) w.in_default.is);
          }
    ]
