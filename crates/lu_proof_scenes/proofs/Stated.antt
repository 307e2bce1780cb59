-- What is so of the traces of scenarios, as it is stated.
use Rattle.std.proofs.Common.{◌≡◌, false}
use Rattle.lu_scene.specs.declared.scene.Scene.{Scene}
use Rattle.lu_spec_entries.specs.Printed.{printed}
use Rattle.lu_spec_run.specs.Limits.{KeepsLimits}
use Rattle.lu_spec_run.specs.Runs.{has_failed}
use Rattle.lu_spec_run.specs.Scenarios.{Config, Disks, Leads, start, head_of, past_of}
use Rattle.lu_proof_lawful.specs.Lawful.{Lawful}
use Rattle.lu_proof_lawful.proofs.Laws.Whole as whole
use Rattle.lu_proof_scenes.proofs.Runs.{scene_run, scene_covered}

pub scene_lawful : (scene : Scene) → KeepsLimits scene → (disks : Disks) (c : Config)
    → Leads (head_of scene.head) disks (start (head_of scene.head) disks scene) c → has_failed (past_of c) ≡ false
    → Lawful scene.head.osts (printed (past_of c))
scene_lawful scene limits disks c l unfailed =
    whole.lawful (head_of scene.head) c.turns limits.head (scene_run scene limits disks c l unfailed)
    (scene_covered scene limits disks c l unfailed)
