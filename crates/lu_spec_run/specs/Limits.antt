-- The scenarios that may be performed.
use Rattle.std.specs.Prelude.{All}
use Rattle.lu_scene.specs.Grammar.{LineFits}
use Rattle.lu_scene.specs.declared.scene.Scene.{Scene}
use Rattle.lu_spec_run.specs.Heads.{IsHead}
use Rattle.lu_spec_run.specs.Scenarios.{head_of}

-- A scenario's numbers are in their ranges, and each of its lines keeps the limits, as in each that is read.
pub record KeepsLimits (scene : Scene) : Type 0 where
  pub head : IsHead (head_of scene.head)
  pub lines : All (LineFits scene.head) scene.lines
