use Rattle.std.proofs.Common.{rules, ◌≡◌, length, subst}
use Rattle.std.proofs.lemmas.Result.{on_ok_weaker}
use Rattle.lu_spec_client.specs.Messages.{shows}
use Rattle.lu_client.specs.Clients.{ClientState, Makes, state_of, with_store}
use Rattle.lu_client.proofs.Answering.{shows_some}
use Rattle.lu_client.proofs.client.Client.show_page.Goals as goal

pub returns : goal.returns
returns c =
    let old : ClientState = state_of c.self.inside.osts c.self.inside.flight c.self.inside.dirty c.self.inside.who
    c.self.inside.handles.items c.self.inside.calls.items c.self.inside.imports.items c.self.inside.store c.self.inside.spent in
    let some : length c.args.content.now ≡ 0 → ⊥ = search rules in
    record {
      makes = on_ok_weaker c.show.result
          (λ shown turn. subst (λ (s : ClientState). Makes (λ k. shows c.args.lock.now.resource c.args.lock.now.cookie c.args.page
          c.args.content.now) s (with_store c.show.new.self old) turn turn) c.self.view_is
          (shows_some c.args.lock.now.resource c.args.lock.now.cookie c.args.page c.args.content.now old c.show.new.self turn some shown))
          c.show.ensures.shown;
    }
