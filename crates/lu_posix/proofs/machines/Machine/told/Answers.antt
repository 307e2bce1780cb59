-- The size of a file is that of its bytes.
use Rattle.std.proofs.Common.{ℕ, sym, ap, subst, ◌∙◌}
use Rattle.lu_msg.specs.declared.answers.Answer.TheVariants.{FileSize}
use Rattle.lu_spec_machine.specs.Machine.{as_told, bytes_of}
use Rattle.lu_posix.specs.Files.{object}
use Rattle.lu_posix.specs.Shown.{MachineState, ShowsObjects}
use Rattle.lu_posix.proofs.Units.{size_shown}
use Rattle.lu_posix.proofs.machines.Machine.told.Goals as goal

pub returns-in-FileStat : goal.returns-in-FileStat
returns-in-FileStat c =
    let fid = c.in-FileStat.fid in
    record {
      told = λ m shows.
          let objects = subst (λ (s : MachineState). ShowsObjects s.objects m) (sym c.self.view_is) shows in
          ap (λ (n : ℕ). FileSize fid c.in-FileStat.mode c.in-FileStat.links n)
          (c.file_size.ensures.size ∙ size_shown c.self.inside.objects fid (bytes_of m fid) (λ stripe. objects (object fid stripe))
          c.in-FileStat.layout)
          ∙ sym (ap (as_told m) c.in-FileStat.is);
    }
