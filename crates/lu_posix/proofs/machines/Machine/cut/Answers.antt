-- The bytes of what is or was a file change through its layout.
use Rattle.std.proofs.Common.{refl, sym, subst, ◌∙◌}
use Rattle.lu_layout.specs.Raid0.{Raid0}
use Rattle.lu_spec_machine.specs.Bytes.{cut}
use Rattle.lu_spec_machine.specs.Machine.{bytes_of}
use Rattle.lu_spec_machine.specs.Tree.{layout}
use Rattle.lu_posix.specs.Files.{ShowsFile}
use Rattle.lu_posix.specs.Shown.{MachineState, Shows}
use Rattle.lu_posix.proofs.Both.{both_ok}
use Rattle.lu_posix.proofs.Showing.{file_shown, was_shown, changed_shown}
use Rattle.lu_posix.proofs.machines.Machine.cut.Goals as goal

pub returns : goal.returns
returns c =
    record {
      next =
          both_ok c.cut_file.result c.cut_file.ensures.cut c.cut_file.ensures.others
          (λ own others osts m shown.
          let here = subst (λ (s : MachineState). Shows osts s m) (sym c.self.view_is) shown in
          let was = was_shown osts _ m here c.args.fid c.in-Some.layout (sym c.in-Some.is ∙ c.of.ensures.found) in
          changed_shown osts _ m here _ c.args.fid ((λ (l : Raid0). cut l c.args.size) (layout m.tree c.args.fid)) was.0 refl refl
          (subst (λ (l : Raid0). ShowsFile c.cut_file.new.objects c.args.fid (cut l c.args.size (bytes_of m c.args.fid))) (sym was.1)
          (own (bytes_of m c.args.fid) (file_shown osts _ m here c.args.fid)))
          others);
    }
