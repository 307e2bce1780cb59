use Rattle.std.proofs.Common.{◌≡◌, List, Some, None, sym, ap, ◌∙◌}
use Rattle.std.specs.Prelude.{option_map}
use Rattle.lu_held.specs.declared.locks.HeldLock.{HeldLock}
use Rattle.lu_held.specs.Locks.{lock_of}
use Rattle.lu_spec_client.specs.Messages.{held_as, size_held}
use Rattle.lu_client.specs.Clients.{ClientState}
use Rattle.lu_client.proofs.Peeking.{held_found}
use Rattle.lu_client.proofs.client.Client.size_held.Goals as goal

pub returns-in-Some : goal.returns-in-Some
returns-in-Some c =
    let held : List HeldLock = c.self.inside.store.store.held in
    let known : held_as c.args.name c.args.self.now.client.store.held ≡ Some c.in-Some.held.lock =
    sym (ap (λ (s : ClientState). held_as c.args.name s.client.store.held) c.self.view_is) ∙ sym (held_found c.args.name held)
    ∙ ap (option_map lock_of) (sym c.held.ensures.held ∙ c.in-Some.is) in
    record { size = c.size_told.ensures.size ∙ sym (ap (size_held c.args.self.now.client.store) known) }

pub returns-in-None : goal.returns-in-None
returns-in-None c =
    let held : List HeldLock = c.self.inside.store.store.held in
    let known : held_as c.args.name c.args.self.now.client.store.held ≡ None =
    sym (ap (λ (s : ClientState). held_as c.args.name s.client.store.held) c.self.view_is) ∙ sym (held_found c.args.name held)
    ∙ ap (option_map lock_of) (sym c.held.ensures.held ∙ c.in-None.is) in
    record { size = sym (ap (size_held c.args.self.now.client.store) known) }
