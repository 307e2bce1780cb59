-- Whatever a scenario comes to is a run of the table with a lawful trace, whichever call to a disk fails.
use Rattle.std.proofs.Common.{◌≡◌, Bool, true, false, List, refl, sym, subst}
use Rattle.lu_scene.specs.declared.scene.Scene.{Scene}
use Rattle.lu_spec_entries.specs.Printed.{printed}
use Rattle.lu_spec_run.specs.Limits.{KeepsLimits}
use Rattle.lu_spec_run.specs.Runs.{Turn, IsRun, has_failed, lines_of}
use Rattle.lu_spec_run.specs.Scenarios.{Config, Disks, Leads, start, head_of, past_of}
use Rattle.lu_proof_lawful.specs.Lawful.{Lawful}
use Rattle.lu_proof_scenes.proofs.AnyFailed.{run_failed}
use Rattle.lu_proof_scenes.proofs.Runs.{Broke, leads_break, scene_run}
use Rattle.lu_proof_scenes.proofs.Stated.{scene_lawful}

module _ (scene : Scene) (limits : KeepsLimits scene) (disks : Disks) (c : Config)
    (l : Leads (head_of scene.head) disks (start (head_of scene.head) disks scene) c) where
  broke_run : Broke (head_of scene.head) c → IsRun (head_of scene.head) c.turns
  broke_run b = subst (IsRun (head_of scene.head)) (sym b.turns) b.run

  broke_lawful : Broke (head_of scene.head) c → Lawful scene.head.osts (printed (past_of c))
  broke_lawful b =
      subst (λ (turns : List Turn). Lawful scene.head.osts (printed (lines_of turns))) (sym b.turns)
      (run_failed (head_of scene.head) b.last b.earlier limits.head b.run b.before)

  pub whichever_run : IsRun (head_of scene.head) c.turns
  whichever_run = by (has_failed (past_of c)) refl
    where
      by : (failed : Bool) → has_failed (past_of c) ≡ failed → IsRun (head_of scene.head) c.turns
      by true failed = broke_run (leads_break scene limits disks c l failed)
      by false unfailed = scene_run scene limits disks c l unfailed

  pub whichever_lawful : Lawful scene.head.osts (printed (past_of c))
  whichever_lawful = by (has_failed (past_of c)) refl
    where
      by : (failed : Bool) → has_failed (past_of c) ≡ failed → Lawful scene.head.osts (printed (past_of c))
      by true failed = broke_lawful (leads_break scene limits disks c l failed)
      by false unfailed = scene_lawful scene limits disks c l unfailed
