-- The run of a scenario as far as it was performed, whichever later calls to disks will fail.
use Rattle.std.specs.Prelude.{◌≡◌, ◌≤◌, ◌<◌, ℕ, true, false, if◌then◌else◌, nat_eq, List, [], ◌∷◌, length, All}
use Rattle.std.specs.List.{list_any}
use Rattle.lu_base.specs.declared.ids.Node.{Node}
use Rattle.lu_base.specs.declared.ids.Node.TheVariants.{Target}
use Rattle.lu_net.specs.Posts.{spend}
use Rattle.lu_scene.specs.Grammar.{LineFits}
use Rattle.lu_scene.specs.declared.scene.Head.{Head as SceneHead}
use Rattle.lu_scene.specs.declared.scene.Scene.{Scene}
use Rattle.lu_scene.specs.declared.scene.SceneLine.{SceneLine}
use Rattle.lu_scene.specs.declared.scene.SceneLine.TheVariants.{RunSome}
use Rattle.lu_spec_entries.specs.Words.{Line}
use Rattle.lu_spec_target.specs.Disks.{failing}
use Rattle.lu_spec_target.specs.Rows as target
use Rattle.lu_spec_run.specs.Heads.{Head}
use Rattle.lu_spec_run.specs.Runs.{EventAt, Turn, row_at, has_failed}
use Rattle.lu_spec_run.specs.Limits.{KeepsLimits}
use Rattle.lu_spec_run.specs.Scenarios.{Config, Disks, Next, calls_at, head_of, past_of, with_turn, due, next, Leads, start}
use Rattle.lu_proof_run.specs.InTable.{next_at, InTable}

-- ---- disks

-- no call to these disks that the turns so far made fails
abbrev pub Spares : Disks → List Line → Type 0
Spares disks past = (t k : ℕ) → k < calls_at t past → list_any (nat_eq k) (disks t) ≡ false

-- one call fails, to the disk of one target
abbrev pub one_failing : ℕ → ℕ → Disks
one_failing t k other = if nat_eq other t then k ∷ [] else []

-- no call fails
abbrev pub none_failing : Disks
none_failing t = []

-- ---- turns

-- the turn of a node, in which no call to a disk fails
abbrev pub made : Head → Config → (node : Node) → EventAt node → Config
made head c node event = with_turn c (record { at = next_at c node; entries = row_at head (past_of c) (next_at c node) node event })

-- the turn of a target in which, after so many calls to its disk, one fails
abbrev pub broken : Head → Config → (t : ℕ) → target.Event → ℕ → Config
broken head c t event n =
    with_turn c (record {
      at = next_at c (Target t);
      entries = failing (row_at head (past_of c) (next_at c (Target t)) (Target t) event) n;
    })

-- a message is spent, taken or lost, and these lines are left
abbrev pub spent : Config → ℕ → List SceneLine → Config
spent c n lines = record { turns = c.turns; posts = spend c.posts n; lines = lines }

-- ---- what a scenario has come to

-- a line that is left keeps the limits; of so many turns some or all may be made
abbrev pub LeftFits : SceneHead → SceneLine → Type 0
LeftFits head (RunSome turns) = turns ≤ 65536
LeftFits head line = LineFits head line

-- before its first line
abbrev pub before : Scene → Config
before scene = record { turns = []; posts = []; lines = scene.lines }

-- no disk has failed
pub record LeadsTo (scene : Scene) (c : Config) : Type 0 where
  pub limits : KeepsLimits scene
  pub leads : (disks : Disks) → Spares disks (past_of c) → Leads (head_of scene.head) disks (start (head_of scene.head) disks scene) c
  pub unfailed : has_failed (past_of c) ≡ false
  pub table : InTable (head_of scene.head) c
  pub lines : All (LeftFits scene.head) c.lines

-- what comes next, whichever later calls fail
abbrev pub GoesOn : Scene → Config → Next → Type 0
GoesOn scene c after = (disks : Disks) → next (head_of scene.head) disks c ≡ after

-- A turn is due, from a configuration with the same turns and as many messages.
pub record IsDue (scene : Scene) (c from : Config) (node : Node) (event : EventAt node) : Type 0 where
  pub next : (disks : Disks) → next (head_of scene.head) disks c ≡ due (head_of scene.head) disks from node event
  pub turns : from.turns ≡ c.turns
  pub posts : length from.posts ≡ length c.posts
  pub table : InTable (head_of scene.head) from
  pub lines : All (LeftFits scene.head) from.lines

-- A disk has failed, that of this target, in the last turn.
pub record BreaksAt (scene : Scene) (t : ℕ) (c : Config) : Type 0 where
  pub disks : Disks
  pub leads : Leads (head_of scene.head) disks (start (head_of scene.head) disks scene) c
  pub failed : has_failed (past_of c) ≡ true
  pub last : Turn
  pub earlier : List Turn
  pub turns : c.turns ≡ last ∷ earlier
  pub target : last.at.node ≡ Target t
  pub one : t ≤ scene.head.osts
