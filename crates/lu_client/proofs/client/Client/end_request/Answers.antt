use Rattle.std.proofs.Common.{rules, ◌≡◌, ◌<◌, List, length, get_or, ap}
use Rattle.lu_import.specs.Imports.{ImportState}
use Rattle.lu_client.specs.Clients.{ClientState}
use Rattle.lu_client.proofs.Nexts.{import_inside}
use Rattle.lu_client.proofs.Requests.{ended_keeps, ended_shown}
use Rattle.lu_client.proofs.client.Client.end_request.Goals as goal

pub invariant_of-self : goal.invariant_of-self
invariant_of-self c =
    let imports : List ImportState = c.self.inside.imports.items in
    let inside : c.args.target.0 < length imports = import_inside imports c.args.self.now.client.imports
    (ap (λ (s : ClientState). s.client.imports) c.self.view_is) c.requires.target in
    let item : c.index_mut-import.result.now ≡ get_or imports c.args.target.0 c.index_mut-import.result.now = search rules in
    ended_keeps _ _ _ _ c.self.inside.handles.items _ _ c.self.inside.spent c.args.target.0 imports c.index_mut-import.result.now
    c.hear.new.self c.self.invariant inside item c.args.reply.now c.hear.result c.hear.ensures.ended c.hear.ensures.kept
    c.hear.ensures.sound

pub invariant_of-self-2 : goal.invariant_of-self-2
invariant_of-self-2 c =
    let imports : List ImportState = c.self.inside.imports.items in
    let inside : c.args.target.0 < length imports = import_inside imports c.args.self.now.client.imports
    (ap (λ (s : ClientState). s.client.imports) c.self.view_is) c.requires.target in
    let item : c.index_mut-import.result.now ≡ get_or imports c.args.target.0 c.index_mut-import.result.now = search rules in
    ended_keeps _ _ _ _ c.self.inside.handles.items _ _ c.self.inside.spent c.args.target.0 imports c.index_mut-import.result.now
    c.hear.new.self c.self.invariant inside item c.args.reply.now c.hear.result c.hear.ensures.ended c.hear.ensures.kept
    c.hear.ensures.sound

pub returns : goal.returns
returns c =
    let imports : List ImportState = c.self.inside.imports.items in
    let inside : c.args.target.0 < length imports = import_inside imports c.args.self.now.client.imports
    (ap (λ (s : ClientState). s.client.imports) c.self.view_is) c.requires.target in
    let item : c.index_mut-import.result.now ≡ get_or imports c.args.target.0 c.index_mut-import.result.now = search rules in
    record {
      ended = ended_shown c.self.inside.osts c.self.inside.flight c.self.inside.dirty c.self.inside.who c.self.inside.handles.items
          c.self.inside.calls.items c.self.inside.store c.self.inside.spent
          c.args.target.0 imports c.index_mut-import.result.now c.hear.new.self c.self.invariant inside item c.args.reply.now c.args.self.now
          c.self.view_is _ c.in_ok-hear.ensures.heard c.in_ok-hear.ensures.ended;
    }
