use Rattle.std.proofs.Common.{◌<◌, List, length, sym, ap, ◌∙◌}
use Rattle.lu_import.specs.declared.recovery.Standing.{Standing}
use Rattle.lu_import.specs.Imports.{ImportState}
use Rattle.lu_spec_client.specs.Imports.{import_of}
use Rattle.lu_client_refines.specs.Imports.{standing_of}
use Rattle.lu_client.specs.Clients.{ClientState}
use Rattle.lu_client.specs.Recovering.{is_joining}
use Rattle.lu_client.proofs.Nexts.{import_inside}
use Rattle.lu_client.proofs.Recovering.{joining_is, not_joining}
use Rattle.lu_client.proofs.client.Client.is_joining_at.Goals as goal

pub returns-in-Joining : goal.returns-in-Joining
returns-in-Joining c =
    let imports : List ImportState = c.self.inside.imports.items in
    let inside : c.args.target.0 < length imports = import_inside imports c.args.self.now.client.imports
    (ap (λ (s : ClientState). s.client.imports) c.self.view_is) c.requires.target in
    record {
      joining = sym (joining_is c.args.target.0 imports c.index.result.now inside c.index.ensures
          ∙ ap (λ (s : Standing). is_joining (standing_of s)) (sym c.standing.ensures.same ∙ c.in-Joining.is))
          ∙ ap (λ (s : ClientState). is_joining (import_of c.args.target.0 s.client.imports).standing) c.self.view_is;
    }

pub returns-in_default : goal.returns-in_default
returns-in_default c =
    let imports : List ImportState = c.self.inside.imports.items in
    let inside : c.args.target.0 < length imports = import_inside imports c.args.self.now.client.imports
    (ap (λ (s : ClientState). s.client.imports) c.self.view_is) c.requires.target in
    record {
      joining = sym (joining_is c.args.target.0 imports c.index.result.now inside c.index.ensures
          ∙ ap (λ (s : Standing). is_joining (standing_of s)) (sym c.standing.ensures.same)
          ∙ not_joining c.standing.result c.in_default.not-Joining)
          ∙ ap (λ (s : ClientState). is_joining (import_of c.args.target.0 s.client.imports).standing) c.self.view_is;
    }
