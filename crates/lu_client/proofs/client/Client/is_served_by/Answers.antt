use Rattle.std.proofs.Common.{rules, ◌≡◌, ◌<◌, List, length, get_or, sym, ap, ◌∙◌}
use Rattle.lu_import.specs.Imports.{ImportState}
use Rattle.lu_spec_client.specs.Imports.{Import, import_of, is_serving}
use Rattle.lu_client_refines.specs.Imports.{import_of_state}
use Rattle.lu_client_refines.proofs.Sending.{serving_is}
use Rattle.lu_client.specs.Clients.{ClientState}
use Rattle.lu_client.proofs.Nexts.{import_inside}
use Rattle.lu_client.proofs.Serving.{import_here}
use Rattle.lu_client.proofs.client.Client.is_served_by.Goals as goal

pub returns : goal.returns
returns c =
    let imports : List ImportState = c.self.inside.imports.items in
    let inside : c.args.target.0 < length imports = import_inside imports c.args.self.now.client.imports
    (ap (λ (s : ClientState). s.client.imports) c.self.view_is) c.requires.target in
    let item : c.index.result.now ≡ get_or imports c.args.target.0 c.index.result.now = search rules in
    let here : import_of c.args.target.0 c.args.self.now.client.imports ≡ import_of_state c.index.result.now =
    ap (λ (s : ClientState). import_of c.args.target.0 s.client.imports) (sym c.self.view_is)
    ∙ import_here c.args.target.0 imports c.index.result.now inside item in
    record {
      serving = c.serving.ensures.same ∙ sym (serving_is c.index.result.now.standing)
          ∙ sym (ap (λ (i : Import). is_serving i.standing) here);
    }
