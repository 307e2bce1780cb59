use Rattle.std.proofs.Common.{◌≡◌, Some, ap, subst}
use Rattle.std.proofs.lemmas.Result.{on_ok_weaker}
use Rattle.lu_spec_entries.specs.Words.{Hold}
use Rattle.lu_client_store.specs.Stored.{StoreState, stored_after}
use Rattle.lu_client.specs.Clients.{ClientState, state_of, stored_of, with_store}
use Rattle.lu_client.proofs.Keeping.{kept_store}
use Rattle.lu_client.proofs.client.Client.hold_granted.Goals as goal

pub invariant_of-self-2 : goal.invariant_of-self-2
invariant_of-self-2 c = kept_store c.self.invariant c.hold.new.self

pub returns-clause-held : goal.returns-clause-held
returns-clause-held c =
    let state : StoreState → ClientState = λ store. state_of c.self.inside.osts c.self.inside.flight c.self.inside.dirty c.self.inside.who
    c.self.inside.handles.items c.self.inside.calls.items c.self.inside.imports.items store c.self.inside.spent in
    let old : ClientState = state c.self.inside.store in
    on_ok_weaker c.note.result
    (λ added seen. subst (λ (s : ClientState). state c.hold.new.self
    ≡ with_store (stored_after (stored_of s) (Hold c.args.target.0 c.args.came.now.lock c.args.came.now.marked (Some c.args.size) seen))
    s) c.self.view_is
    (ap (λ (s : StoreState). with_store s old) (c.in_ok-hold.ensures.held seen)))
    c.note.ensures.added
