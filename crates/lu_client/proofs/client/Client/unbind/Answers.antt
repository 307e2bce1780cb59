use Rattle.std.proofs.Common.{rules, ◌≡◌, ◌==◌, not, List, map, filter, ap, ◌∙◌}
use Rattle.std.proofs.lemmas.Fn.{filter_same}
use Rattle.lu_call.specs.declared.nexts.Binding.{Binding}
use Rattle.lu_spec_client.specs.Calls.{Bound, unbound}
use Rattle.lu_client.specs.Clients.{ClientState, bound_of, with_handles, state_of}
use Rattle.lu_client.proofs.Handles.{unbound_shown}
use Rattle.lu_client.proofs.client.Client.unbind.Goals as goal

pub returns : goal.returns
returns c =
    let old : ClientState = state_of c.self.inside.osts c.self.inside.flight c.self.inside.dirty c.self.inside.who
    c.self.inside.handles.items c.self.inside.calls.items c.self.inside.imports.items c.self.inside.store c.self.inside.spent in
    let kept : c.retain.new.self.items ≡ filter (λ (b : Binding). not (b.handle == c.args.handle)) c.self.inside.handles.items =
    filter_same _ _ _ (λ x b f' k. search rules) _ _ c.retain.ensures.filtered in
    record {
      unbound = ap (λ (bs : List Bound). with_handles bs old) (ap (map bound_of) kept
          ∙ unbound_shown c.args.handle c.self.inside.handles.items)
          ∙ ap (λ (s : ClientState). with_handles (unbound c.args.handle s.client.handles) s) c.self.view_is;
    }
