-- The names answer as the plain machine's do.
use Rattle.std.proofs.Common.{sym, ap, subst, ◌∙◌}
use Rattle.lu_spec_machine.specs.Machine.{as_told}
use Rattle.lu_posix.specs.Names.{asked}
use Rattle.lu_posix.specs.Shown.{MachineState, Shows}
use Rattle.lu_posix.proofs.SameNames.{told_same}
use Rattle.lu_posix.proofs.machines.Machine.would_answer.Goals as goal

pub returns : goal.returns
returns c =
    record {
      answer = λ osts m shown.
          let here = subst (λ (s : MachineState). Shows osts s m) (sym c.self.view_is) shown in
          c.told.ensures.told m shown.objects ∙ ap (as_told m) c.in_ok-answer.ensures.answer
          ∙ told_same osts c.self.inside.names m here.names (asked c.args.number c.args.who c.args.op.now);
    }
