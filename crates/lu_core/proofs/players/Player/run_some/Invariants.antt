use Rattle.std.proofs.Common.{List, ◌∷◌, ◌-◌}
use Rattle.lu_scene.specs.declared.scene.SceneLine.{SceneLine}
use Rattle.lu_scene.specs.declared.scene.SceneLine.TheVariants.{RunSome}
use Rattle.lu_core.proofs.Running.{Leaves}
use Rattle.lu_core.proofs.players.Player.run_some.Given as goal

-- so many turns are left
abbrev pub invariant-loop-done : goal.invariant-loop-done
invariant-loop-done g l = (rest : List SceneLine) → Leaves l.initial.self (RunSome l.turns ∷ rest) l.self
    (RunSome (l.turns - l.done) ∷ rest)
