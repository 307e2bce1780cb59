use Rattle.std.proofs.Common.{◌≡◌, List, Some, None, refl, sym, ap, subst, ◌∙◌}
use Rattle.std.specs.Prelude.{slice_get}
use Rattle.std.proofs.lemmas.Option.{slice_get_past, slice_get_read}
use Rattle.lu_import.specs.Imports.{ImportState}
use Rattle.lu_spec_client.specs.Imports.{import_of}
use Rattle.lu_client.specs.Clients.{ClientState}
use Rattle.lu_client.proofs.Known.{boot_of_none, boot_of_some}
use Rattle.lu_client.proofs.client.Client.boot_known.Goals as goal

pub returns-in-Some : goal.returns-in-Some
returns-in-Some c =
    let imports : List ImportState = c.self.inside.imports.items in
    let some : slice_get imports c.args.target.0 ≡ Some c.in-Some.import.now =
    subst (λ (is : List ImportState). slice_get is c.args.target.0 ≡ Some c.in-Some.import.now) c.deref.ensures.value
    (slice_get_read c.deref.result.now _ c.args.target.0 c.in-Some.import.now refl c.in-Some.ensures.lookup.3.0
    c.in-Some.ensures.lookup.1) in
    record {
      boot = c.boot.ensures.same ∙ sym (boot_of_some c.args.target.0 imports c.in-Some.import.now some)
          ∙ ap (λ (s : ClientState). (import_of c.args.target.0 s.client.imports).boot) c.self.view_is;
    }

pub returns-in-None : goal.returns-in-None
returns-in-None c =
    let imports : List ImportState = c.self.inside.imports.items in
    let none : slice_get imports c.args.target.0 ≡ None = subst (λ (is : List ImportState). slice_get is c.args.target.0 ≡ None)
    c.deref.ensures.value (slice_get_past c.deref.result.now c.args.target.0 c.in-None.ensures.lookup.3) in
    record {
      boot = sym (boot_of_none c.args.target.0 imports none)
          ∙ ap (λ (s : ClientState). (import_of c.args.target.0 s.client.imports).boot) c.self.view_is;
    }
