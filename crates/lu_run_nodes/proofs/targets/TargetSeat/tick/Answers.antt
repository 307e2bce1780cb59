-- A step of the target, or a turn that is passed over.
use Rattle.std.proofs.Common.{refl}
use Rattle.lu_spec_target.specs.Leaving.{row_tick}
use Rattle.lu_spec_target.specs.Rows.{Ticks}
use Rattle.lu_run_nodes.proofs.TargetsForeseen.{ticks_numbers}
use Rattle.lu_run_nodes.proofs.TargetsTurning.{ready, makes_step, fails_step, passes_down}
use Rattle.lu_run_nodes.proofs.targets.TargetSeat.tick.Goals as goal

pub tick-requires : goal.tick-requires
tick-requires g c = record { ready = ready _ _ c.self.view_is c.in-Some.target c.in-Some.is c.requires.shown }

pub returns-in_ok-tick-in-Some-clause-made : goal.returns-in_ok-tick-in-Some-clause-made
returns-in_ok-tick-in-Some-clause-made g c =
    makes_step _ _ c.self.view_is Ticks Ticks (λ v at. refl) c.args.stamp c.in-Some.target c.tick.new.self c.in-Some.is tt
    c.in_ok-tick-in-Some.field-0
    c.in_ok-tick-in-Some.ensures.steps

pub returns-in_err-tick-in-Some-clause-failed : goal.returns-in_err-tick-in-Some-clause-failed
returns-in_err-tick-in-Some-clause-failed g c = λ step failed.
    fails_step _ _ c.self.view_is Ticks c.args.stamp c.in-Some.target c.tick.new.self c.in-Some.is c.in_err-tick-in-Some.field-0.0
    c.in_err-tick-in-Some.ensures.steps c.from_residual.result c.from_residual.ensures.1 step failed

pub returns-in_ok-line-in-None-clause-made : goal.returns-in_ok-line-in-None-clause-made
returns-in_ok-line-in-None-clause-made g c =
    passes_down _ _ c.self.view_is Ticks row_tick (λ v at. refl) c.args.stamp c.in-None.is c.in_ok-line-in-None.field-0
    c.in_ok-line-in-None.ensures.step

pub returns-in_err-tick-in-Some-clause-foreseen : goal.returns-in_err-tick-in-Some-clause-foreseen
returns-in_err-tick-in-Some-clause-foreseen g c = λ is head t past shows ticks.
    ticks_numbers _ _ c.self.view_is head t past shows c.in-Some.target c.in-Some.is c.args.stamp ticks c.tick.new.self
    c.in_err-tick-in-Some.field-0.0
    c.in_err-tick-in-Some.ensures.steps c.from_residual.result c.from_residual.ensures.1 is
