use Rattle.std.proofs.Common.{false, [], ◌∷◌, refl, subst}
use Rattle.std.proofs.lemmas.Result.{on_ok_weaker}
use Rattle.lu_client_store.specs.Stored.{StoreState}
use Rattle.lu_spec_entries.specs.Words.{Hold}
use Rattle.lu_client.specs.Clients.{ClientState, state_of}
use Rattle.lu_client.specs.Replies.{Stores}
use Rattle.lu_client.proofs.Keeping.{kept_store}
use Rattle.lu_client.proofs.Replying.{held_one}
use Rattle.lu_client.proofs.client.Client.hold_brought.Goals as goal

pub invariant_of-self-2 : goal.invariant_of-self-2
invariant_of-self-2 c = kept_store c.self.invariant c.hold.new.self

pub returns : goal.returns
returns c =
    let state : StoreState → ClientState = λ store. state_of c.self.inside.osts c.self.inside.flight c.self.inside.dirty c.self.inside.who
    c.self.inside.handles.items c.self.inside.calls.items c.self.inside.imports.items store c.self.inside.spent in
    record {
      held = on_ok_weaker c.note.result
          (λ added seen. subst (λ (s : ClientState). Stores (Hold c.args.target.0 c.args.lock.now false c.args.size seen ∷ []) s
          (state c.hold.new.self) c.args.turn.now c.note.new.self) c.self.view_is
          (held_one c.args.target.0 c.args.size c.args.lock.now seen (state c.self.inside.store) (state c.hold.new.self) c.hold.new.self
          c.args.turn.now c.note.new.self refl (c.in_ok-hold.ensures.held seen) added c.note.ensures.turn))
          c.note.ensures.added;
    }
