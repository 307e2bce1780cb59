use Rattle.std.proofs.Common.{◌≡◌, ℕ, rules, ap, subst, ◌∙◌}
use Rattle.std.specs.Prelude.{Option, IfSome}
use Rattle.lu_spec_machine.specs.Machine.{object_of}
use Rattle.lu_spec_machine.specs.Objects.{object_size}
use Rattle.lu_posix.specs.Shown.{MachineState}
use Rattle.lu_spec_laws.specs.Words.Glimpses.{machine_cut}
use Rattle.lu_judge_glimpse.specs.Histories.{ShowsPlain}
use Rattle.lu_judge_glimpse.proofs.histories.History.size.Goals as goal

pub returns-in-Ok : goal.returns-in-Ok
returns-in-Ok c = record {
  size = λ past shown.
      let osts = c.args.self.now.osts in
      let here : ShowsPlain c.args.self.now.osts c.in-Some.machine (machine_cut c.args.self.now.osts past) =
      subst (λ (o : Option MachineState). IfSome o (λ (m : MachineState). ShowsPlain c.args.self.now.osts m
      (machine_cut c.args.self.now.osts past))) c.in-Some.is shown.machine
      in
      let same : c.in-Ok.stripe ≡ c.args.stripe = search rules in
      c.object_size.ensures.size c.args.self.now.osts (machine_cut c.args.self.now.osts past) here.0
      ∙ ap (λ (n : ℕ). object_size (object_of (machine_cut c.args.self.now.osts past) c.args.fid n)) same;
}
