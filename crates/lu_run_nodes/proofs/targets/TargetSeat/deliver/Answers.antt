-- The target takes it, in a step.
use Rattle.std.proofs.Common.{◌≡◌, true, false, refl, sym, rules}
use Rattle.lu_spec_target.specs.Rows.{Comes}
use Rattle.lu_target.specs.Running.{MayHeed}
use Rattle.lu_run_nodes.proofs.TargetsForeseen.{takes_heeds, takes_numbers, takes_up, true_false}
use Rattle.lu_run_nodes.proofs.TargetsTurning.{makes_step, fails_step}
use Rattle.lu_run_nodes.proofs.targets.TargetSeat.deliver.Goals as goal

pub returns-in_err-deliver-clause-failed : goal.returns-in_err-deliver-clause-failed
returns-in_err-deliver-clause-failed g c = λ step failed from.
    fails_step _ _ c.self.view_is (Comes 0 from c.args.message.now) c.args.stamp c.in-Some.target c.deliver.new.self c.in-Some.is
    c.in_err-deliver.field-0.0 (c.in_err-deliver.ensures.steps from) c.from_residual.result c.from_residual.ensures.1 step failed

pub returns-clause-made : goal.returns-clause-made
returns-clause-made g c = λ n from.
    let may : MayHeed c.args.message.now c.in-Some.target.running = search rules in
    makes_step _ _ c.self.view_is (Comes 0 from c.args.message.now) (Comes n from c.args.message.now) (λ v at. refl) c.args.stamp
    c.in-Some.target
    c.deliver.new.self c.in-Some.is may c.in_ok-deliver.field-0 (c.in_ok-deliver.ensures.steps from)

pub returns-in_default-clause-foreseen : goal.returns-in_default-clause-foreseen
returns-in_default-clause-foreseen g c = λ is head t past from shows takes.
    takes_up _ _ c.self.view_is head t past shows c.in_default.is c.args.stamp from c.args.message.now takes

pub returns-then-not-accepts-clause-foreseen : goal.returns-then-not-accepts-clause-foreseen
returns-then-not-accepts-clause-foreseen g c = λ is head t past from shows takes.
    let may = takes_heeds _ _ c.self.view_is head t past shows c.in-Some.target c.in-Some.is c.args.stamp from c.args.message.now takes in
    let accepts : false ≡ true = c.if-not-accepts.ensures.may.1 may in
    true_false (sym accepts)

pub returns-in_err-deliver-clause-foreseen : goal.returns-in_err-deliver-clause-foreseen
returns-in_err-deliver-clause-foreseen g c = λ is head t past from shows takes.
    takes_numbers _ _ c.self.view_is head t past shows c.in-Some.target c.in-Some.is c.args.stamp from c.args.message.now takes
    c.deliver.new.self
    c.in_err-deliver.field-0.0 (c.in_err-deliver.ensures.steps from) c.from_residual.result c.from_residual.ensures.1 is
