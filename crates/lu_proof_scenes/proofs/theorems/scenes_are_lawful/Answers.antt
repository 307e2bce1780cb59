use Rattle.lu_proof_scenes.proofs.Runs.{scene_covered, scene_bare, scene_unfailed}
use Rattle.lu_proof_scenes.proofs.Whichever.{whichever_run, whichever_lawful}
use Rattle.lu_proof_scenes.proofs.theorems.scenes_are_lawful.Goals as goal

pub returns : goal.returns
returns c = record {
  run = whichever_run;
  covered = scene_covered;
  lawful = whichever_lawful;
  bare = scene_bare;
  unfailed = scene_unfailed;
}
