-- A step of the target, or a turn that is passed over.
use Rattle.std.proofs.Common.{refl}
use Rattle.lu_spec_target.specs.Rows.{Commits, row_commit}
use Rattle.lu_run_nodes.proofs.TargetsTurning.{ready, makes_step, fails_step, passes_down}
use Rattle.lu_run_nodes.proofs.targets.TargetSeat.commit.Goals as goal

pub commit_now-requires : goal.commit_now-requires
commit_now-requires g c = record { ready = ready _ _ c.self.view_is c.in-Some.target c.in-Some.is c.requires.shown }

pub returns-in_ok-commit_now-in-Some-clause-made : goal.returns-in_ok-commit_now-in-Some-clause-made
returns-in_ok-commit_now-in-Some-clause-made g c =
    makes_step _ _ c.self.view_is (Commits c.args.count) (Commits c.args.count) (λ v at. refl) c.args.stamp c.in-Some.target
    c.commit_now.new.self c.in-Some.is tt
    c.in_ok-commit_now-in-Some.field-0 c.in_ok-commit_now-in-Some.ensures.steps

pub returns-in_err-commit_now-in-Some-clause-failed : goal.returns-in_err-commit_now-in-Some-clause-failed
returns-in_err-commit_now-in-Some-clause-failed g c = λ step failed.
    fails_step _ _ c.self.view_is (Commits c.args.count) c.args.stamp c.in-Some.target c.commit_now.new.self c.in-Some.is
    c.in_err-commit_now-in-Some.field-0.0
    c.in_err-commit_now-in-Some.ensures.steps c.from_residual.result c.from_residual.ensures.1 step failed

pub returns-in_ok-line-in-None-clause-made : goal.returns-in_ok-line-in-None-clause-made
returns-in_ok-line-in-None-clause-made g c =
    passes_down _ _ c.self.view_is (Commits c.args.count) (λ v at. row_commit v c.args.count) (λ v at. refl) c.args.stamp c.in-None.is
    c.in_ok-line-in-None.field-0 c.in_ok-line-in-None.ensures.step
