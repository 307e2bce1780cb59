use Rattle.std.proofs.Common.{rules, ◌≡◌, ℕ, ◌<◌, ◌≤◌, true, false, List, length, is_some, sym, ap, ◌∙◌}
use Rattle.std.proofs.lemmas.Result.{on_ok_weaker}
use Rattle.lu_base.specs.declared.ids.Node.TheVariants.{Target}
use Rattle.lu_import.specs.Imports.{ImportState}
use Rattle.lu_msg.specs.declared.messages.Message.TheVariants as message
use Rattle.lu_trace.specs.Turns.{with_post}
use Rattle.lu_spec_client.specs.Imports.{import_of}
use Rattle.lu_client_refines.specs.Imports.{import_of_state}
use Rattle.lu_client_refines.proofs.Targets.{import_of_at}
use Rattle.lu_client.specs.Clients.{ClientState}
use Rattle.lu_client.proofs.CallingBack.{cancel_rests, cancel_sends, first_flies, none_flies}
use Rattle.lu_client.proofs.Nexts.{import_inside}
use Rattle.lu_client.proofs.client.Client.cancel_unknown.Goals as goal

pub returns-then-is_some : goal.returns-then-is_some
returns-then-is_some c =
    let imports : List ImportState = c.self.inside.imports.items in
    let import : ImportState = c.index-import.result.now in
    let inside : c.args.name.target.0 < length imports = import_inside imports c.args.self.now.client.imports
    (ap (λ (s : ClientState). s.client.imports) c.self.view_is) c.requires.target in
    let known : import_of c.args.name.target.0 c.args.self.now.client.imports ≡ import_of_state import =
    sym (ap (λ (s : ClientState). import_of c.args.name.target.0 s.client.imports) c.self.view_is)
    ∙ import_of_at c.args.name.target.0 imports import inside ∙ ap import_of_state (sym c.index-import.ensures) in
    let some : is_some c.in_flight.result ≡ true = search rules in
    let first = first_flies _ c.in_flight.result import.in_flight some c.in_flight.ensures.request in
    record { makes = cancel_rests c.args.name c.args.self.now import first.0 c.args.turn.now known first.1 }

pub returns : goal.returns
returns c =
    let imports : List ImportState = c.self.inside.imports.items in
    let import : ImportState = c.index-import.result.now in
    let inside : c.args.name.target.0 < length imports = import_inside imports c.args.self.now.client.imports
    (ap (λ (s : ClientState). s.client.imports) c.self.view_is) c.requires.target in
    let known : import_of c.args.name.target.0 c.args.self.now.client.imports ≡ import_of_state import =
    sym (ap (λ (s : ClientState). import_of c.args.name.target.0 s.client.imports) c.self.view_is)
    ∙ import_of_at c.args.name.target.0 imports import inside ∙ ap import_of_state (sym c.index-import.ensures) in
    let flies : is_some c.in_flight.result ≡ false = search rules in
    let none : length import.in_flight ≤ 0 = none_flies c.in_flight.result flies c.in_flight.ensures.none in
    record {
      makes = on_ok_weaker c.send.result
          (λ added. cancel_sends c.args.name c.args.self.now import c.args.turn.now c.send.new.self known none
          (added
          ∙ ap (λ (boot : ℕ). with_post c.args.turn.now.at c.args.turn.now.step
          (record { to = Target c.args.name.target.0; message = message.Cancel c.self.inside.who boot c.args.name.cookie }))
          c.boot.ensures.same
          ∙ ap (λ (s : ClientState). with_post c.args.turn.now.at c.args.turn.now.step
          (record { to = Target c.args.name.target.0; message = message.Cancel s.client.who import.boot c.args.name.cookie }))
          c.self.view_is)
          c.send.ensures.turn)
          c.send.ensures.added;
    }
