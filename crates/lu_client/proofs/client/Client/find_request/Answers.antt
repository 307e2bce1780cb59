use Rattle.std.proofs.Common.{rules, ◌≡◌, ◌<◌, List, length, get_or, sym, ap, ◌∙◌}
use Rattle.std.specs.Prelude.{option_map}
use Rattle.lu_client_refines.specs.Imports.{flight_of, import_of_state, imports_of}
use Rattle.lu_client_refines.proofs.Hearing.{found_is}
use Rattle.lu_client_refines.proofs.Targets.{import_of_at}
use Rattle.lu_spec_client.specs.Imports.{Import, import_of}
use Rattle.lu_spec_client.specs.Messages.{find_flight}
use Rattle.lu_import.specs.Imports.{ImportState}
use Rattle.lu_client.specs.Clients.{ClientState}
use Rattle.lu_client.proofs.Nexts.{import_inside}
use Rattle.lu_client.proofs.client.Client.find_request.Goals as goal

pub returns : goal.returns
returns c =
    let imports : List ImportState = c.self.inside.imports.items in
    let inside : c.args.target.0 < length imports = import_inside imports c.args.self.now.client.imports
    (ap (λ (s : ClientState). s.client.imports) c.self.view_is) c.requires.target in
    let item : c.index.result.now ≡ get_or imports c.args.target.0 c.index.result.now = search rules in
    let here : import_of c.args.target.0 (imports_of imports) ≡ import_of_state c.index.result.now =
    import_of_at c.args.target.0 imports c.index.result.now inside ∙ ap import_of_state (sym item) in
    record {
      request = ap (option_map flight_of) c.find.ensures.request
          ∙ sym (found_is c.args.xid.0 c.index.result.now.in_flight)
          ∙ ap (λ (i : Import). find_flight c.args.xid.0 i.flights) (sym here)
          ∙ ap (λ (s : ClientState). find_flight c.args.xid.0 (import_of c.args.target.0 s.client.imports).flights) c.self.view_is;
    }
