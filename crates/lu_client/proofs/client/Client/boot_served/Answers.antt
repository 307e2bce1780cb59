use Rattle.std.proofs.Common.{◌≡◌, List, Some, None, refl, sym, ap, subst, ◌∙◌}
use Rattle.std.specs.Prelude.{slice_get}
use Rattle.std.proofs.lemmas.Option.{slice_get_past, slice_get_read}
use Rattle.lu_import.specs.Imports.{ImportState}
use Rattle.lu_spec_client.specs.Imports.{import_of}
use Rattle.lu_client.specs.Clients.{ClientState}
use Rattle.lu_client.specs.Visits.{boot_served}
use Rattle.lu_client.proofs.Visiting.{boot_none, boot_some}
use Rattle.lu_client.proofs.client.Client.boot_served.Goals as goal

pub returns-in_default : goal.returns-in_default
returns-in_default c =
    let imports : List ImportState = c.self.inside.imports.items in
    let none : slice_get imports c.args.target.0 ≡ None = subst (λ (is : List ImportState). slice_get is c.args.target.0 ≡ None)
    c.deref.ensures.value (slice_get_past c.deref.result.now c.args.target.0 c.in_default.ensures.lookup.3) in
    record {
      boot = sym (boot_none c.args.target.0 imports none) ∙ ap
          (λ (s : ClientState). boot_served (import_of c.args.target.0 s.client.imports)) c.self.view_is;
    }

pub returns-then-serving : goal.returns-then-serving
returns-then-serving c =
    let imports : List ImportState = c.self.inside.imports.items in
    let some : slice_get imports c.args.target.0 ≡ Some c.in-Some.import.now =
    subst (λ (is : List ImportState). slice_get is c.args.target.0 ≡ Some c.in-Some.import.now) c.deref.ensures.value
    (slice_get_read c.deref.result.now _ c.args.target.0 c.in-Some.import.now refl c.in-Some.ensures.lookup.3.0
    c.in-Some.ensures.lookup.1) in
    record {
      boot = ap (λ (b : _). Some b) c.boot.ensures.same
          ∙ sym (boot_some c.args.target.0 imports c.in-Some.import.now _ some (sym c.serving.ensures.same ∙ c.if-serving.true))
          ∙ ap (λ (s : ClientState). boot_served (import_of c.args.target.0 s.client.imports)) c.self.view_is;
    }

pub returns : goal.returns
returns c =
    let imports : List ImportState = c.self.inside.imports.items in
    let some : slice_get imports c.args.target.0 ≡ Some c.in-Some.import.now =
    subst (λ (is : List ImportState). slice_get is c.args.target.0 ≡ Some c.in-Some.import.now) c.deref.ensures.value
    (slice_get_read c.deref.result.now _ c.args.target.0 c.in-Some.import.now refl c.in-Some.ensures.lookup.3.0
    c.in-Some.ensures.lookup.1) in
    record {
      boot = sym (boot_some c.args.target.0 imports c.in-Some.import.now _ some (sym c.serving.ensures.same ∙ c.if-serving.false))
          ∙ ap (λ (s : ClientState). boot_served (import_of c.args.target.0 s.client.imports)) c.self.view_is;
    }
