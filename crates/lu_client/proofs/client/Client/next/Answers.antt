use Rattle.std.proofs.Common.{rules, ◌≡◌, ◌+◌, ◌<◌, List, length, get_or, sym, ap, subst, ◌∙◌}
use Rattle.lu_import.specs.Imports.{ImportState}
use Rattle.lu_spec_client.specs.Imports.{Import, import_of}
use Rattle.lu_client_refines.specs.Imports.{import_of_state, imports_of}
use Rattle.lu_client_refines.proofs.Targets.{import_of_at}
use Rattle.lu_client.specs.Clients.{ClientState}
use Rattle.lu_client.proofs.Nexts.{import_inside, next_keeps, next_gone}
use Rattle.lu_client.proofs.client.Client.next.Goals as goal

pub next-requires : goal.next-requires
next-requires c =
    let imports : List ImportState = c.self.inside.imports.items in
    let inside : c.args.target.0 < length imports = import_inside imports c.args.self.now.client.imports
    (ap (λ (s : ClientState). s.client.imports) c.self.view_is) c.requires.target in
    let item : c.index_mut-import.result.now ≡ get_or imports c.args.target.0 c.index_mut-import.result.now = search rules in
    let here : import_of c.args.target.0 (imports_of imports) ≡ import_of_state c.index_mut-import.result.now =
    import_of_at c.args.target.0 imports c.index_mut-import.result.now inside ∙ ap import_of_state (sym item) in
    let same : import_of c.args.target.0 c.args.self.now.client.imports ≡ import_of_state c.index_mut-import.result.now =
    sym (ap (λ (s : ClientState). import_of c.args.target.0 s.client.imports) c.self.view_is) ∙ here in
    subst (λ (i : Import). i.last + 1 < 18446744073709551616) same c.requires.number

pub invariant_of-self : goal.invariant_of-self
invariant_of-self c =
    let imports : List ImportState = c.self.inside.imports.items in
    let inside : c.args.target.0 < length imports = import_inside imports c.args.self.now.client.imports
    (ap (λ (s : ClientState). s.client.imports) c.self.view_is) c.requires.target in
    let item : c.index_mut-import.result.now ≡ get_or imports c.args.target.0 c.index_mut-import.result.now = search rules in
    next_keeps _ _ _ _ c.self.inside.handles.items _ _ c.self.inside.spent c.args.target.0 imports c.index_mut-import.result.now
    c.next.new.self c.self.invariant inside item c.next.result c.next.ensures.sound c.next.ensures.sent c.next.ensures.waits
    c.next.ensures.kept

pub invariant_of-self-2 : goal.invariant_of-self-2
invariant_of-self-2 c =
    let imports : List ImportState = c.self.inside.imports.items in
    let inside : c.args.target.0 < length imports = import_inside imports c.args.self.now.client.imports
    (ap (λ (s : ClientState). s.client.imports) c.self.view_is) c.requires.target in
    let item : c.index_mut-import.result.now ≡ get_or imports c.args.target.0 c.index_mut-import.result.now = search rules in
    next_keeps _ _ _ _ c.self.inside.handles.items _ _ c.self.inside.spent c.args.target.0 imports c.index_mut-import.result.now
    c.next.new.self c.self.invariant inside item c.next.result c.next.ensures.sound c.next.ensures.sent c.next.ensures.waits
    c.next.ensures.kept

pub returns : goal.returns
returns c =
    let imports : List ImportState = c.self.inside.imports.items in
    let inside : c.args.target.0 < length imports = import_inside imports c.args.self.now.client.imports
    (ap (λ (s : ClientState). s.client.imports) c.self.view_is) c.requires.target in
    let item : c.index_mut-import.result.now ≡ get_or imports c.args.target.0 c.index_mut-import.result.now = search rules in
    record {
      next = next_gone c.self.inside.osts c.self.inside.flight c.self.inside.dirty c.self.inside.who c.self.inside.handles.items
          c.self.inside.calls.items c.self.inside.store c.self.inside.spent
          c.args.target.0 imports c.index_mut-import.result.now c.next.new.self c.self.invariant inside item c.args.self.now c.self.view_is
          c.in_ok-next.next
          c.in_ok-next.ensures.sound c.in_ok-next.ensures.sent c.in_ok-next.ensures.none c.in_ok-next.ensures.waits;
    }
