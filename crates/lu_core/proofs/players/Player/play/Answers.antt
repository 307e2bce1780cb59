use Rattle.std.proofs.Common.{◌∙◌, [], Err, refl, sym, subst, ap}
use Rattle.std.proofs.lemmas.Result.{IfOk-weaker}
use Rattle.lu_scene.specs.declared.scene.Scene.{Scene}
use Rattle.lu_spec_run.specs.Scenarios.{head_of}
use Rattle.lu_proof_run.specs.Steps.{before}
use Rattle.lu_run_nodes.specs.declared.faults.TurnFault.TheVariants.{Disk, Unforeseen}
use Rattle.lu_core.specs.States.{PlayerState}
use Rattle.lu_core.specs.Played.{IsStarting}
use Rattle.lu_core.specs.Progress.{Comes, PerformsAll}
use Rattle.lu_core.proofs.Starting.{begun, start_failed, fault_of}
use Rattle.lu_core.proofs.players.Player.play.Goals as goal

pub perform_all-requires : goal.perform_all-requires
perform_all-requires g c =
    let parts : PlayerState = record { nodes = c.self.inside.nodes; wire = c.self.inside.wire } in
    let lines = c.args.lines.now in
    let scene : Scene = c.requires.starting.0 in
    let starting = subst (λ (p : PlayerState). IsStarting scene lines p) (sym c.self.view_is) c.requires.starting.1 in
    record {
      left = (
        scene,
        (
          before scene,
          begun scene lines parts c.start.new.self starting
              (c.in-Ok.ensures.started (head_of scene.head) starting.nodes),
          starting.lines,
        ),
      );
    }

pub returns-in-Ok-clause-played : goal.returns-in-Ok-clause-played
returns-in-Ok-clause-played g c =
    let parts : PlayerState = record { nodes = c.self.inside.nodes; wire = c.self.inside.wire } in
    let lines = c.args.lines.now in
    let now : PlayerState = record { nodes = c.start.new.self; wire = c.self.inside.wire } in
    IfOk-weaker c.perform_all.result (λ came. PerformsAll now lines c.perform_all.new.self came)
    (λ came. (scene : Scene) → IsStarting scene lines c.args.self.now → Comes scene [] c.perform_all.new.self came)
    (λ came performs scene is.
    let starting = subst (λ (p : PlayerState). IsStarting scene lines p) (sym c.self.view_is) is in
    performs scene (before scene) (begun scene lines parts c.start.new.self starting
    (c.in-Ok.ensures.started (head_of scene.head) starting.nodes)) starting.lines)
    c.perform_all.ensures.performs

pub returns-in-Ok-clause-unforeseen : goal.returns-in-Ok-clause-unforeseen
returns-in-Ok-clause-unforeseen g c = λ failed scene is all.
    let parts : PlayerState = record { nodes = c.self.inside.nodes; wire = c.self.inside.wire } in
    let lines = c.args.lines.now in
    let starting = subst (λ (p : PlayerState). IsStarting scene lines p) (sym c.self.view_is) is in
    c.perform_all.ensures.unforeseen failed scene (before scene)
    (begun scene lines parts c.start.new.self starting (c.in-Ok.ensures.started (head_of scene.head) starting.nodes)) starting.lines all

pub returns-in-Err-clause-played : goal.returns-in-Err-clause-played
returns-in-Err-clause-played g c =
    let parts : PlayerState = record { nodes = c.self.inside.nodes; wire = c.self.inside.wire } in
    let lines = c.args.lines.now in
    IfOk-weaker c.fail_at_start.result _
    (λ came. (scene : Scene) → IsStarting scene lines c.args.self.now → Comes scene [] c.fail_at_start.new.self came)
    (λ came fails scene is.
    let starting = subst (λ (p : PlayerState). IsStarting scene lines p) (sym c.self.view_is) is in
    fails.2 scene (start_failed scene lines c.in-Err.field-0.target.0 fails.0 parts c.start.new.self starting
    (c.start.ensures.failed c.in-Err.field-0.target fails.0
    (c.in-Err.is ∙ ap Err (fault_of c.in-Err.field-0 c.in-Err.field-0.target (Disk fails.0) refl fails.1))
    (head_of scene.head) starting.nodes)))
    c.fail_at_start.ensures.failed

pub returns-in-Err-clause-unforeseen : goal.returns-in-Err-clause-unforeseen
returns-in-Err-clause-unforeseen g c = λ failed scene is all.
    c.start.ensures.foreseen c.in-Err.field-0.target
    (c.in-Err.is ∙ ap Err (fault_of c.in-Err.field-0 c.in-Err.field-0.target Unforeseen refl (c.fail_at_start.ensures.unforeseen failed)))
