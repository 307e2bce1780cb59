use Rattle.std.proofs.Common.{rules, ◌≡◌, ◌<◌, true, List, length, get_or, Option, Some, sym, ap, ◌∙◌}
use Rattle.lu_import.specs.Imports.{ImportState}
use Rattle.lu_msg.specs.declared.operations.Op.{Op}
use Rattle.lu_spec_client.specs.Imports.{import_of}
use Rattle.lu_spec_client.specs.Messages.{is_present}
use Rattle.lu_client_refines.specs.Imports.{import_of_state}
use Rattle.lu_client_refines.proofs.Targets.{import_of_at}
use Rattle.lu_client.specs.declared.replies.Asked.{Asked}
use Rattle.lu_client.specs.Clients.{ClientState}
use Rattle.lu_client.proofs.Nexts.{import_inside}
use Rattle.lu_client.proofs.Requests.{none_asks, some_asks}
use Rattle.lu_client.proofs.client.Client.find_asked.Goals as goal

pub returns-in_default : goal.returns-in_default
returns-in_default c =
    let imports : List ImportState = c.self.inside.imports.items in
    let inside : c.args.target.0 < length imports = import_inside imports c.args.self.now.client.imports
    (ap (λ (s : ClientState). s.client.imports) c.self.view_is) c.requires.target in
    let item : c.index-import.result.now ≡ get_or imports c.args.target.0 c.index-import.result.now = search rules in
    let known : import_of c.args.target.0 c.args.self.now.client.imports ≡ import_of_state c.index-import.result.now =
    sym (ap (λ (s : ClientState). import_of c.args.target.0 s.client.imports) c.self.view_is)
    ∙ import_of_at c.args.target.0 imports c.index-import.result.now inside ∙ ap import_of_state (sym item) in
    let present : is_present c.args.reply.now.who c.args.reply.now.boot c.args.target.0 c.args.self.now.client ≡ true =
    sym c.is_present.ensures.present ∙ c.if-not-is_present.false in
    record {
      asked = none_asks c.args.target.0 c.args.reply.now c.args.self.now.client c.index-import.result.now known present
          (sym c.in_default.ensures.request);
    }

pub returns : goal.returns
returns c =
    let imports : List ImportState = c.self.inside.imports.items in
    let inside : c.args.target.0 < length imports = import_inside imports c.args.self.now.client.imports
    (ap (λ (s : ClientState). s.client.imports) c.self.view_is) c.requires.target in
    let item : c.index-import.result.now ≡ get_or imports c.args.target.0 c.index-import.result.now = search rules in
    let known : import_of c.args.target.0 c.args.self.now.client.imports ≡ import_of_state c.index-import.result.now =
    sym (ap (λ (s : ClientState). import_of c.args.target.0 s.client.imports) c.self.view_is)
    ∙ import_of_at c.args.target.0 imports c.index-import.result.now inside ∙ ap import_of_state (sym item) in
    let present : is_present c.args.reply.now.who c.args.reply.now.boot c.args.target.0 c.args.self.now.client ≡ true =
    sym c.is_present.ensures.present ∙ c.if-not-is_present.false in
    let asks : Op → Option Asked = λ o. Some (record { slot = c.in-Some.request.now.slot; op = o }) in
    record {
      asked = ap asks c.in_ok-op.ensures.same
          ∙ some_asks c.args.target.0 c.args.reply.now c.args.self.now.client c.index-import.result.now c.in-Some.request.now known present
          (sym c.in-Some.ensures.request);
    }
