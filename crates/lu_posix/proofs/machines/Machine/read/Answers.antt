-- What is read through the layout that the file has or had.
use Rattle.std.proofs.Common.{sym, ap, subst, ◌∙◌}
use Rattle.std.proofs.lemmas.Result.{IfOk-weaker}
use Rattle.lu_layout.specs.Raid0.{Raid0}
use Rattle.lu_spec_machine.specs.Bytes.{read}
use Rattle.lu_spec_machine.specs.Machine.{bytes_of}
use Rattle.lu_posix.specs.Shown.{MachineState, Shows}
use Rattle.lu_posix.proofs.Showing.{read_nothing, file_shown, was_shown, never_shown}
use Rattle.lu_posix.proofs.machines.Machine.read.Goals as goal

pub returns-in_default : goal.returns-in_default
returns-in_default c =
    record {
      read = λ osts m shown.
          let here = subst (λ (s : MachineState). Shows osts s m) (sym c.self.view_is) shown in
          let never = never_shown osts _ m here c.args.fid (sym c.in_default.is ∙ c.of.ensures.found) in
          c.new.ensures.empty ∙ sym (ap (λ (l : Raid0). read l (bytes_of m c.args.fid) c.args.offset c.args.count) never.1
          ∙ read_nothing (bytes_of m c.args.fid) c.args.offset c.args.count);
    }

pub returns : goal.returns
returns c =
    record {
      read =
          IfOk-weaker c.read_file.result _ _
          (λ bytes is osts m shown.
          let here = subst (λ (s : MachineState). Shows osts s m) (sym c.self.view_is) shown in
          let was = was_shown osts _ m here c.args.fid c.in-Some.layout (sym c.in-Some.is ∙ c.of.ensures.found) in
          is (bytes_of m c.args.fid) (file_shown osts _ m here c.args.fid)
          ∙ ap (λ (l : Raid0). read l (bytes_of m c.args.fid) c.args.offset c.args.count) (sym was.1))
          c.read_file.ensures.read;
    }
