use Rattle.std.proofs.Common.{◌≡◌, sym, ap, subst, ◌∙◌, Some, [], ◌∷◌}
use Rattle.std.specs.Prelude.{option_map}
use Rattle.lu_spec_entries.specs.Words.{Unbinds}
use Rattle.lu_spec_client.specs.Calls.{file_of}
use Rattle.lu_spec_client.specs.Slots.{begins_close}
use Rattle.lu_call.specs.Views.{file_of as row_file}
use Rattle.lu_client.specs.Clients.{ClientState, Makes}
use Rattle.lu_client.proofs.Begun.{unbinds}
use Rattle.lu_client.proofs.Making.{makes_as, makes_on}
use Rattle.lu_client.proofs.client.Client.begin_close.Goals as goal

pub returns-in_ok-stand-in-Some : goal.returns-in_ok-stand-in-Some
returns-in_ok-stand-in-Some c =
    let bound : file_of c.args.handle c.args.self.now.client.handles ≡ Some (row_file c.in-Some.file) =
    sym c.file.ensures.file ∙ ap (option_map row_file) c.in-Some.is in
    let rest : Makes (λ k. Unbinds c.args.handle ∷ []) c.stand.new.self c.unbind.new.self c.stand.new.turn c.stand.new.turn =
    subst (λ (s : ClientState). Makes (λ k. Unbinds c.args.handle ∷ []) c.stand.new.self s c.stand.new.turn c.stand.new.turn)
    (sym c.unbind.ensures.unbound) (unbinds c.stand.new.self c.stand.new.turn c.args.handle) in
    record {
      makes = makes_as (sym (ap (begins_close c.args.turn.now.at c.args.slot c.args.handle) bound))
          (makes_on c.in_ok-stand-in-Some.ensures.makes rest);
    }
