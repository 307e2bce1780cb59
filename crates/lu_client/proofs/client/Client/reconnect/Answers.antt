use Rattle.std.proofs.Common.{rules, ◌≡◌, ◌<◌, List, length, get_or, ap, ◌∙◌}
use Rattle.lu_base.specs.declared.locks.Lock.{Lock}
use Rattle.lu_import.specs.Imports.{ImportState, reconnecting}
use Rattle.lu_client.specs.Clients.{ClientState}
use Rattle.lu_client.proofs.Nexts.{import_inside}
use Rattle.lu_client.proofs.Recovering.{reconnect_keeps, reconnect_came, reconnect_stood}
use Rattle.lu_client.proofs.client.Client.reconnect.Goals as goal

pub invariant_of-self-2 : goal.invariant_of-self-2
invariant_of-self-2 c =
    let imports : List ImportState = c.self.inside.imports.items in
    let inside : c.args.target.0 < length imports = import_inside imports c.args.self.now.client.imports
    (ap (λ (s : ClientState). s.client.imports) c.self.view_is) c.requires.target in
    let old : ImportState = c.index_mut-import.result.now in
    let item : old ≡ get_or imports c.args.target.0 old = search rules in
    reconnect_keeps _ _ _ _ c.self.inside.handles.items _ _ c.self.inside.spent c.args.target.0 c.args.boot imports old c.reconnect.new.self
    c.self.invariant inside item
    c.reconnect.result c.reconnect.ensures.sound c.reconnect.ensures.up c.reconnect.ensures.kept

pub returns-clause-up : goal.returns-clause-up
returns-clause-up c =
    let imports : List ImportState = c.self.inside.imports.items in
    let inside : c.args.target.0 < length imports = import_inside imports c.args.self.now.client.imports
    (ap (λ (s : ClientState). s.client.imports) c.self.view_is) c.requires.target in
    let old : ImportState = c.index_mut-import.result.now in
    let item : old ≡ get_or imports c.args.target.0 old = search rules in
    let sends : c.in_ok-posts.posts ≡ reconnecting c.args.boot c.in_ok-locks.locks.items old = c.in_ok-posts.ensures.sends
    ∙ ap (λ (ls : List Lock). reconnecting c.args.boot ls old) c.as_slice.ensures.value in
    reconnect_came c.self.inside.osts c.self.inside.flight c.self.inside.dirty c.self.inside.who c.self.inside.handles.items
    c.self.inside.calls.items c.self.inside.store c.self.inside.spent
    c.args.target.0 c.args.boot imports old c.reconnect.new.self c.self.invariant inside item c.args.self.now c.self.view_is
    c.in_ok-locks.locks.items c.in_ok-posts.posts c.in_ok-locks.ensures.locks c.in_ok-posts.ensures.up sends

pub returns-clause-told : goal.returns-clause-told
returns-clause-told c =
    let imports : List ImportState = c.self.inside.imports.items in
    let inside : c.args.target.0 < length imports = import_inside imports c.args.self.now.client.imports
    (ap (λ (s : ClientState). s.client.imports) c.self.view_is) c.requires.target in
    let old : ImportState = c.index_mut-import.result.now in
    let item : old ≡ get_or imports c.args.target.0 old = search rules in
    let sends : c.in_ok-posts.posts ≡ reconnecting c.args.boot c.in_ok-locks.locks.items old = c.in_ok-posts.ensures.sends
    ∙ ap (λ (ls : List Lock). reconnecting c.args.boot ls old) c.as_slice.ensures.value in
    reconnect_stood c.self.inside.osts c.self.inside.flight c.self.inside.dirty c.self.inside.who c.self.inside.handles.items
    c.self.inside.calls.items c.self.inside.store c.self.inside.spent
    c.args.target.0 c.args.boot imports old c.reconnect.new.self c.self.invariant inside item c.args.self.now c.self.view_is
    c.in_ok-locks.locks.items c.in_ok-posts.posts c.in_ok-locks.ensures.locks c.in_ok-posts.ensures.up sends
