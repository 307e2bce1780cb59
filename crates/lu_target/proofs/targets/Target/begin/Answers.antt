-- It was spent before.
use Rattle.std.proofs.Common.{Some, sym, ap, ◌∙◌}
use Rattle.lu_trace.specs.Turns.{no_step}
use Rattle.lu_target_server.specs.declared.faults.TurnFault.{TurnFault}
use Rattle.lu_target.specs.Targets.{TargetState}
use Rattle.lu_target.proofs.targets.Target.begin.Goals as goal

pub returns-in-Some-clause-again : goal.returns-in-Some-clause-again
returns-in-Some-clause-again g c = (
  c.in-Some.cause,
  no_step,
  sym (ap (λ (t : TargetState). t.spent) c.self.view_is) ∙ c.in-Some.is,
  λ e. c.requires.ready.unfailed (sym (ap (λ (t : TargetState). t.spent) c.self.view_is) ∙ c.in-Some.is ∙ ap (λ (f : TurnFault). Some f) e),
  c.spent_fault.ensures.is no_step,
)
