use Rattle.std.proofs.Common.{rules, ◌≡◌, ◌<◌, IfOk, List, length, get_or, sym, ap, subst}
use Rattle.lu_import.specs.Imports.{ImportState}
use Rattle.lu_spec_client.specs.Imports.{import_of}
use Rattle.lu_spec_client.specs.Sending.{resends}
use Rattle.lu_spec_client.specs.States.{Limits}
use Rattle.lu_client_refines.specs.Imports.{imports_of, IsOne}
use Rattle.lu_client_refines.specs.Posts.{posted}
use Rattle.lu_client_refines.proofs.Targets.{one_of}
use Rattle.lu_client.specs.Clients.{ClientState, limits_of}
use Rattle.lu_client.proofs.Nexts.{import_inside}
use Rattle.lu_client.proofs.Reminding.{requests_are}
use Rattle.lu_client.proofs.Serving.{import_here}
use Rattle.lu_client.proofs.client.Client.requests_again.Goals as goal

pub returns : goal.returns
returns c =
    let imports : List ImportState = c.self.inside.imports.items in
    let limits : Limits = limits_of c.self.inside.osts c.self.inside.flight c.self.inside.dirty c.self.inside.store in
    let inside : c.args.target.0 < length imports = import_inside imports c.args.self.now.client.imports
    (ap (λ (s : ClientState). s.client.imports) c.self.view_is) c.requires.target in
    let item : c.index.result.now ≡ get_or imports c.args.target.0 c.index.result.now = search rules in
    let one : IsOne limits c.self.inside.who c.args.target.0 c.index.result.now =
    subst (IsOne limits c.self.inside.who c.args.target.0) (sym item)
    (one_of limits c.self.inside.who c.args.target.0 imports c.index.result.now c.self.invariant.kept inside) in
    record {
      again = subst (λ (s : ClientState). IfOk c.again.result (λ again. posted again
          ≡ resends s.client.who (import_of c.args.target.0 s.client.imports).boot c.args.target.0
          (import_of c.args.target.0 s.client.imports).flights)) c.self.view_is
          (requests_are limits c.self.inside.who c.args.target.0 c.index.result.now (imports_of imports) one
          (import_here c.args.target.0 imports c.index.result.now inside item) c.again.result c.again.ensures.sends);
    }
