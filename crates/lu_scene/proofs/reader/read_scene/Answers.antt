use Rattle.std.proofs.Common.{inl, inr, Ok, Err, ap, sym, ◌∙◌}
use Rattle.lu_scene.specs.declared.faults.SceneFault.TheVariants as outcomes
use Rattle.std.proofs.lemmas.Result.{err_from_is_err_and}
use Rattle.lu_scene.proofs.Options.{err_value}
use Rattle.lu_scene.proofs.Scenes.{was_scene, same_scene, only_memory, was_fault}
use Rattle.lu_scene.proofs.reader.read_scene.Goals as goal

pub returns-clause-scene : goal.returns-clause-scene
returns-clause-scene c = was_scene c.args.text.now c.in_ok-progress.progress c.in_ok-progress.ensures.read

pub returns-clause-only : goal.returns-clause-only
returns-clause-only c = λ scene is. inl (ap (λ s. Ok s) (same_scene c.args.text.now c.in_ok-progress.progress scene
    c.in_ok-progress.ensures.read is))

pub returns-in_err-progress-clause-only : goal.returns-in_err-progress-clause-only
returns-in_err-progress-clause-only c = λ scene is.
    let p = err_from_is_err_and c.from_residual.result c.from_residual.ensures.1 in
    inr (p.1 ∙ ap (λ e. Err e) (p.2 ∙ only_memory c.args.text.now c.in_err-progress.field-0.0 scene c.in_err-progress.ensures.read is))

pub returns-in_err-progress-clause-fault : goal.returns-in_err-progress-clause-fault
returns-in_err-progress-clause-fault c = λ number fault is.
    let p = err_from_is_err_and c.from_residual.result c.from_residual.ensures.1 in
    was_fault c.args.text.now c.in_err-progress.field-0.0 number fault c.in_err-progress.ensures.read
    (sym p.2 ∙ err_value p.0 (outcomes.Bad number fault) (sym p.1 ∙ is))
