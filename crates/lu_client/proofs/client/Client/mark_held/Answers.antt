use Rattle.std.proofs.Common.{refl, subst}
use Rattle.lu_client_store.specs.Stored.{StoreState}
use Rattle.lu_client.specs.Callbacks.{MarksHeld}
use Rattle.lu_client.specs.Clients.{ClientState, state_of}
use Rattle.lu_client.proofs.CallingBack.{marks_held}
use Rattle.lu_client.proofs.client.Client.mark_held.Goals as goal

pub returns-clause-marked : goal.returns-clause-marked
returns-clause-marked c =
    let state : StoreState → ClientState = λ store. state_of c.self.inside.osts c.self.inside.flight c.self.inside.dirty c.self.inside.who
    c.self.inside.handles.items c.self.inside.calls.items c.self.inside.imports.items store c.self.inside.spent in
    subst (λ (s : ClientState). MarksHeld c.args.name c.mark.result s (state c.mark.new.self)) c.self.view_is
    (marks_held c.args.name c.mark.result (state c.self.inside.store) (state c.mark.new.self) c.mark.new.self c.mark.ensures.held
    c.mark.ensures.marked refl)
