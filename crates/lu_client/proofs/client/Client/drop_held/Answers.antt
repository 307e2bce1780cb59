use Rattle.std.proofs.Common.{[], ◌∷◌, ap, subst}
use Rattle.std.proofs.lemmas.Result.{on_ok_weaker}
use Rattle.lu_held.specs.declared.locks.HeldLock.{HeldLock}
use Rattle.lu_spec_entries.specs.Words.{Drop}
use Rattle.lu_client_store.specs.Stored.{StoreState}
use Rattle.lu_client.specs.Clients.{ClientState, Makes, state_of, with_store}
use Rattle.lu_client.proofs.Visiting.{held_dropped}
use Rattle.lu_client.proofs.client.Client.drop_held.Goals as goal

pub returns : goal.returns
returns c =
    let state : StoreState → ClientState = λ store. state_of c.self.inside.osts c.self.inside.flight c.self.inside.dirty c.self.inside.who
    c.self.inside.handles.items c.self.inside.calls.items c.self.inside.imports.items store c.self.inside.spent in
    let old : ClientState = state c.self.inside.store in
    let new : ClientState = state c.drop_lock.new.self in
    let held : HeldLock = c.args.held.now in
    record {
      makes = on_ok_weaker c.note.result
          (λ added. subst (λ (s : ClientState). Makes (λ k. Drop held.target.0 held.lock ∷ []) s new c.args.turn.now c.note.new.self)
          c.self.view_is
          (held_dropped held old new c.args.turn.now c.note.new.self (ap (λ (s : StoreState). with_store s old) c.drop_lock.ensures.dropped)
          added c.note.ensures.turn))
          c.note.ensures.added;
    }
