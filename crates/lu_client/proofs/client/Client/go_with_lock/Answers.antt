use Rattle.std.proofs.Common.{◌≡◌, ◌<◌, List, length, Option, Some, sym, ap, subst, ◌∙◌}
use Rattle.lu_spec_entries.specs.Carried.{Running}
use Rattle.lu_spec_client.specs.Calls.{call_on}
use Rattle.lu_client_refines.proofs.Slots.{call_on_get}
use Rattle.lu_client.specs.Callbacks.{GrantGoes, IsUnmet}
use Rattle.lu_client.specs.Clients.{ClientState, state_of, with_call}
use Rattle.lu_client.proofs.Granting.{grant_goes, no_call_goes}
use Rattle.lu_client.proofs.client.Client.go_with_lock.Goals as goal
use Rattle.lu_client.proofs.client.Client.go_with_lock.Goals.{in-Some, in-None}

pub returns : goal.returns
returns c =
    let calls : List (Option Running) = c.self.inside.calls.items in
    let old : ClientState = state_of c.self.inside.osts c.self.inside.flight c.self.inside.dirty c.self.inside.who
    c.self.inside.handles.items calls c.self.inside.imports.items c.self.inside.store c.self.inside.spent in
    let inside : c.args.slot < length calls = subst (λ (s : ClientState). c.args.slot < length s.client.calls) (sym c.self.view_is)
    c.requires.slot in
    let here : call_on c.args.slot calls ≡ c.index_mut.result.now = call_on_get c.args.slot calls c.index_mut.result.now inside
    ∙ sym c.index_mut.ensures.value in
    elim c.match-index_mut.branch [
      | in-Some w ↦ rw (w.self-inside-is, w.result-is)
          (record {
            goes = λ target. subst (λ (s : ClientState). GrantGoes target c.args.grant.now c.args.slot s
                (with_call c.args.slot (Some w.granted.new.self) old) w.granted.result) c.self.view_is
                (grant_goes target c.args.slot c.args.grant.now old w.in-Some.call w.granted.new.self w.granted.result inside
                (here ∙ w.in-Some.is) (w.granted.ensures.granted target c.args.slot) w.granted.ensures.none);
          })
      | in-None w ↦ rw (w.self-inside-is, w.result-is)
          (record {
            goes = λ target. subst (λ (s : ClientState). IsUnmet target c.args.grant.now c.args.slot s
                (with_call c.args.slot c.index_mut.result.now old)) c.self.view_is
                (no_call_goes target c.args.slot c.args.grant.now old (with_call c.args.slot c.index_mut.result.now old) inside
                (here ∙ w.in-None.is) (ap (λ (call : Option Running). with_call c.args.slot call old) w.in-None.is));
          })
    ]
