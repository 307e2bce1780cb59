-- The scenarios whose turns are all foreseen, whichever calls to disks fail: whatever such a scenario comes to, where no disk has
-- failed and no limit forbids one more turn, each message may come to its node, if that takes any, and the time of each target may go
-- on for which a line says so.
use Rattle.std.specs.Prelude.{◌≡◌, ◌+◌, ℕ, false, List, ◌∷◌, length, Some}
use Rattle.lu_base.specs.declared.ids.Node.TheVariants.{Target}
use Rattle.lu_base.specs.declared.ids.Stamp.{Stamp}
use Rattle.lu_net.specs.declared.links.Sent.{Sent as SentMessage}
use Rattle.lu_net.specs.Posts.{sent_at}
use Rattle.lu_scene.specs.declared.scene.Scene.{Scene}
use Rattle.lu_scene.specs.declared.scene.SceneLine.{SceneLine}
use Rattle.lu_scene.specs.declared.scene.SceneLine.TheVariants.{Tick, Commit, CommitSome, Crash, Boot, Close}
use Rattle.lu_spec_run.specs.Runs.{has_failed}
use Rattle.lu_spec_run.specs.Scenarios.{Config, Disks, head_of, past_of, is_full, is_down, Leads, start}
use Rattle.lu_run_nodes.specs.Foreseen.{IsForeseen, IsTickForeseen}

-- the stamp of the next turn
abbrev pub next_stamp : Config → Stamp
next_stamp c = record { 0 = length c.turns + 1 }

-- what such a scenario comes to, where one more turn may be made
pub record IsOpen (scene : Scene) (disks : Disks) (c : Config) : Type 0 where
  pub leads : Leads (head_of scene.head) disks (start (head_of scene.head) disks scene) c
  pub unfailed : has_failed (past_of c) ≡ false
  pub room : is_full c ≡ false

-- a command to a target
abbrev pub IsCommand : SceneLine → Type 0
IsCommand (Commit t) = Unit {0}
IsCommand (CommitSome t count) = Unit {0}
IsCommand (Crash t) = Unit {0}
IsCommand (Boot t) = Unit {0}
IsCommand (Close t) = Unit {0}
IsCommand _ = ⊥

pub record AllForeseen (scene : Scene) : Type 0 where
  pub messages : (disks : Disks) (c : Config) (n : ℕ) (m : SentMessage) → IsOpen scene disks c → sent_at c.posts n ≡ Some m
      → is_down (head_of scene.head) disks m.to (past_of c) ≡ false → IsForeseen (head_of scene.head) (past_of c) (next_stamp c) m
  pub ticks : (disks : Disks) (c : Config) (t : ℕ) (rest : List SceneLine) → IsOpen scene disks c → c.lines ≡ Tick (Target t) ∷ rest
      → IsTickForeseen (head_of scene.head) (past_of c) (next_stamp c) t
  -- no line gives a command to a target
  pub commands : (disks : Disks) (c : Config) (line : SceneLine) (rest : List SceneLine) → IsOpen scene disks c → c.lines ≡ line ∷ rest
      → IsCommand line → ⊥
