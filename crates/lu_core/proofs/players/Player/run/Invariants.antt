use Rattle.std.proofs.Common.{List, ◌∷◌, ◌-◌}
use Rattle.lu_scene.specs.declared.scene.SceneLine.{SceneLine}
use Rattle.lu_scene.specs.declared.scene.SceneLine.TheVariants.{Run}
use Rattle.lu_core.proofs.Running.{Leaves}
use Rattle.lu_core.proofs.players.Player.run.Given as goal

-- the same lines are left
abbrev pub invariant-loop-number : goal.invariant-loop-number
invariant-loop-number g l = (rest : List SceneLine) → Leaves l.initial.self (Run ∷ rest) l.self (Run ∷ rest)

-- each message that comes is a turn
abbrev pub decreases-loop-number : goal.decreases-loop-number
decreases-loop-number g l = 65536 - l.self.wire.turns
