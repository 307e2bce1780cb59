use Rattle.std.proofs.Common.{◌≡◌, ◌∙◌, sym, ap, Option, Some}
use Rattle.std.specs.Prelude.{option_map}
use Rattle.lu_spec_entries.specs.Carried.{Running}
use Rattle.lu_call.specs.declared.works.HandleFile.{HandleFile}
use Rattle.lu_call.specs.Views.{file_of, kind_of, work_of}
use Rattle.lu_call.proofs.Beginning.{if_ok, bytes_begun}
use Rattle.lu_call.proofs.calls.CallState.start_bytes.Goals as goal

pub returns : goal.returns
returns c =
    let file : c.args.self.now.file ≡ Some (file_of c.in-Some.file) =
    sym (ap (λ (r : Running). r.file) c.self.view_is) ∙ ap (λ (it : Option HandleFile). option_map file_of it) c.in-Some.is in
    record {
      goes = if_ok c.look_and_act.result _ _ c.look_and_act.ensures.goes
          (λ out goes slot. bytes_begun c.args.at slot (kind_of c.args.kind) (file_of c.in-Some.file) c.args.self.now
          (work_of c.in_ok-work.work) file c.requires.acting c.in_ok-work.ensures.work (goes slot));
    }
