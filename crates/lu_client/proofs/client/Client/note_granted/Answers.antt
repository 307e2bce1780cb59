use Rattle.std.proofs.Common.{◌≡◌, ◌<◌, List, [], ◌∷◌, length, sym, ap, subst}
use Rattle.std.specs.Prelude.{slice_set}
use Rattle.std.proofs.lemmas.Result.{on_ok_weaker}
use Rattle.lu_import.specs.Imports.{ImportState}
use Rattle.lu_spec_entries.specs.Words.{Hold, Settles}
use Rattle.lu_spec_client.specs.Imports.{Import}
use Rattle.lu_spec_client.specs.States.{Limits}
use Rattle.lu_client_refines.specs.Imports.{IsOne}
use Rattle.lu_client_refines.specs.Turns.{imports_turn}
use Rattle.lu_client_refines.proofs.Targets.{one_of}
use Rattle.lu_client.specs.Clients.{ClientState, limits_of, state_of, with_imports}
use Rattle.lu_client.proofs.Granting.{noted_imports, noted_keeps}
use Rattle.lu_client.proofs.Keeping.{kept_import}
use Rattle.lu_client.proofs.Nexts.{import_inside}
use Rattle.lu_client.proofs.client.Client.note_granted.Goals as goal

pub invariant_of-self : goal.invariant_of-self
invariant_of-self c =
    let imports : List ImportState = c.self.inside.imports.items in
    let old : ImportState = c.index_mut-import.result.now in
    let limits : Limits = limits_of c.self.inside.osts c.self.inside.flight c.self.inside.dirty c.self.inside.store in
    let inside : c.args.target.0 < length imports = import_inside imports c.args.self.now.client.imports
    (ap (λ (s : ClientState). s.client.imports) c.self.view_is) c.requires.target in
    let one : IsOne limits c.self.inside.who c.args.target.0 old =
    subst (IsOne limits c.self.inside.who c.args.target.0) (sym c.index_mut-import.ensures.value)
    (one_of limits c.self.inside.who c.args.target.0 imports old c.self.invariant.kept inside) in
    kept_import c.self.invariant c.args.target.0 c.note.new.self
    (noted_keeps limits c.self.inside.who c.args.target.0 c.note.result old c.note.new.self c.args.committed.0 c.args.seen.now
    c.note.ensures.noted c.note.ensures.kept c.note.ensures.sound one)

pub returns : goal.returns
returns c =
    let imports : List ImportState = c.self.inside.imports.items in
    let state : List ImportState → ClientState = λ is. state_of c.self.inside.osts c.self.inside.flight c.self.inside.dirty
    c.self.inside.who c.self.inside.handles.items c.self.inside.calls.items is c.self.inside.store c.self.inside.spent in
    let inside : c.args.target.0 < length imports = import_inside imports c.args.self.now.client.imports
    (ap (λ (s : ClientState). s.client.imports) c.self.view_is) c.requires.target in
    record {
      noted = on_ok_weaker c.note.result
          (λ noted lock marked size. subst (λ (s : ClientState). state (slice_set imports c.args.target.0 c.note.new.self)
          ≡ with_imports (imports_turn s.client.imports (Hold c.args.target.0 lock marked size c.args.seen.now
          ∷ Settles c.args.target.0 c.args.committed.0 ∷ [])) s) c.self.view_is
          (ap (λ (is : List Import). with_imports is (state imports))
          (noted_imports c.args.target.0 imports c.index_mut-import.result.now c.note.new.self lock marked size c.args.committed.0
          c.args.seen.now inside c.index_mut-import.ensures.value noted)))
          c.note.ensures.noted;
    }
