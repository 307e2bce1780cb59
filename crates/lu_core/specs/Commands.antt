-- The lines of a scenario that tell a target to do something.
use Rattle.std.specs.Prelude.{◌≡◌, ℕ, Some, None}
use Rattle.lu_base.specs.declared.ids.Node.TheVariants.{Target}
use Rattle.lu_scene.specs.declared.scene.SceneLine.{SceneLine}
use Rattle.lu_scene.specs.declared.scene.SceneLine.TheVariants as line
use Rattle.lu_run_nodes.specs.declared.nodes.Command.{Command}
use Rattle.lu_run_nodes.specs.declared.nodes.Command.TheVariants as command

-- the line tells this target to do this
abbrev pub CommandLine : ℕ → Command → SceneLine → Type 0
CommandLine t command.Tick l = l ≡ line.Tick (Target t)
CommandLine t (command.Commit None) l = l ≡ line.Commit (record { 0 = t })
CommandLine t (command.Commit (Some count)) l = l ≡ line.CommitSome (record { 0 = t }) count
CommandLine t command.Crash l = l ≡ line.Crash (record { 0 = t })
CommandLine t command.Boot l = l ≡ line.Boot (record { 0 = t })
CommandLine t command.Close l = l ≡ line.Close (record { 0 = t })
