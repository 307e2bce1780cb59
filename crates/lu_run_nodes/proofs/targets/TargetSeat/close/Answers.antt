-- A step of the target, or a turn that is passed over.
use Rattle.std.proofs.Common.{refl}
use Rattle.lu_spec_target.specs.Rows.{Closes, row_closes}
use Rattle.lu_run_nodes.proofs.TargetsTurning.{ready, makes_step, fails_step, passes_down}
use Rattle.lu_run_nodes.proofs.targets.TargetSeat.close.Goals as goal

pub close_window-requires : goal.close_window-requires
close_window-requires g c = record { ready = ready _ _ c.self.view_is c.in-Some.target c.in-Some.is c.requires.shown }

pub returns-in_ok-close_window-in-Some-clause-made : goal.returns-in_ok-close_window-in-Some-clause-made
returns-in_ok-close_window-in-Some-clause-made g c =
    makes_step _ _ c.self.view_is Closes Closes (λ v at. refl) c.args.stamp c.in-Some.target c.close_window.new.self c.in-Some.is tt
    c.in_ok-close_window-in-Some.field-0 c.in_ok-close_window-in-Some.ensures.steps

pub returns-in_err-close_window-in-Some-clause-failed : goal.returns-in_err-close_window-in-Some-clause-failed
returns-in_err-close_window-in-Some-clause-failed g c = λ step failed.
    fails_step _ _ c.self.view_is Closes c.args.stamp c.in-Some.target c.close_window.new.self c.in-Some.is
    c.in_err-close_window-in-Some.field-0.0
    c.in_err-close_window-in-Some.ensures.steps c.from_residual.result c.from_residual.ensures.1 step failed

pub returns-in_ok-line-in-None-clause-made : goal.returns-in_ok-line-in-None-clause-made
returns-in_ok-line-in-None-clause-made g c =
    passes_down _ _ c.self.view_is Closes row_closes (λ v at. refl) c.args.stamp c.in-None.is c.in_ok-line-in-None.field-0
    c.in_ok-line-in-None.ensures.step
