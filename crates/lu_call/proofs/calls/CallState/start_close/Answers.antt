use Rattle.std.proofs.Common.{◌≡◌, ◌∙◌, sym, ap, Option, Some}
use Rattle.std.specs.Prelude.{option_map}
use Rattle.lu_spec_entries.specs.Carried.{Running}
use Rattle.lu_call.specs.declared.works.HandleFile.{HandleFile}
use Rattle.lu_call.specs.Views.{file_of}
use Rattle.lu_call.proofs.Beginning.{from_as, closes_alone}
use Rattle.lu_call.proofs.calls.CallState.start_close.Goals as goal

pub returns-in-Some : goal.returns-in-Some
returns-in-Some c =
    let file : c.args.self.now.file ≡ Some (file_of c.in-Some.file) =
    sym (ap (λ (r : Running). r.file) c.self.view_is) ∙ ap (λ (it : Option HandleFile). option_map file_of it) c.in-Some.is in
    record {
      goes = λ slot store. from_as (closes_alone slot c.args.self.now (file_of c.in-Some.file) file)
          (c.ask_names.ensures.goes slot store);
    }
