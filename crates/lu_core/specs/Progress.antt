-- How far the player has come with a scenario.
use Rattle.std.specs.Prelude.{◌≡◌, ◌≤◌, ℕ, suc, true, List, [], ◌∷◌, length, Some}
use Rattle.lu_base.specs.Faults.{Rose}
use Rattle.lu_base.specs.declared.ids.Node.TheVariants.{Target}
use Rattle.lu_net.specs.declared.links.Sent.{Sent as SentMessage}
use Rattle.lu_net.specs.Posts.{sent_at}
use Rattle.lu_scene.specs.declared.scene.Scene.{Scene}
use Rattle.lu_scene.specs.declared.scene.SceneLine.{SceneLine}
use Rattle.lu_scene.specs.declared.scene.SceneLine.TheVariants.{Run, RunSome}
use Rattle.lu_trace.specs.declared.traces.Step.{Step}
use Rattle.lu_spec_entries.specs.Given.{step_of}
use Rattle.lu_spec_target.specs.Disks.{row_start}
use Rattle.lu_spec_run.specs.Limits.{KeepsLimits}
use Rattle.lu_spec_run.specs.Scenarios.{Config, Stops, head_of, past_of, arrives}
use Rattle.lu_proof_run.specs.Steps.{LeadsTo, GoesOn, IsDue, BreaksAt, made, spent, none_failing}
use Rattle.lu_run_nodes.specs.Disks.{HaveDisks}
use Rattle.lu_run_nodes.specs.Shown.{ShowsNodes}
use Rattle.lu_run_nodes.specs.States.{disk_at, faults_of}
use Rattle.lu_run_nodes.specs.Turns.{turn_at}
use Rattle.lu_run_wire.specs.Wires.{ShowsWire}
use Rattle.lu_core.specs.Scenes.{AllForeseen}
use Rattle.lu_core.specs.declared.players.Progress.{Progress}
use Rattle.lu_core.specs.declared.players.Progress.TheVariants as progress
use Rattle.lu_core.specs.States.{PlayerState}

-- ---- where it is

-- it has performed a scenario up to this, and no disk has failed
pub record IsAt (scene : Scene) (p : PlayerState) (c : Config) : Type 0 where
  pub leads : LeadsTo scene c
  pub nodes : ShowsNodes (head_of scene.head) (length c.turns) (past_of c) p.nodes
  pub wire : ShowsWire p.wire c

abbrev pub IsPlaying : PlayerState → Type 0
IsPlaying p = (scene : Scene) × ((c : Config) × IsAt scene p c)

-- these lines are left
abbrev pub HasLeft : PlayerState → List SceneLine → Type 0
HasLeft p lines = (scene : Scene) × ((c : Config) × IsAt scene p c × (c.lines ≡ lines))

-- this line is the next
abbrev pub IsNext : PlayerState → SceneLine → Type 0
IsNext p line = (rest : List SceneLine) × HasLeft p (line ∷ rest)

-- the disk of a target failed in the last turn, and its count rose
pub record HasFailed (scene : Scene) (t : ℕ) (p : PlayerState) : Type 0 where
  pub config : Config
  pub breaks : BreaksAt scene t config
  pub wire : ShowsWire p.wire config
  pub rose : Rose 0 (faults_of (disk_at p.nodes t))
  pub kept : HaveDisks p.nodes
  pub count : length p.nodes.objects ≡ scene.head.osts

-- it failed, and its count rose, but no line of the turn tells of it
pub record HasBroken (scene : Scene) (t : ℕ) (p : PlayerState) : Type 0 where
  pub one : t ≤ scene.head.osts
  pub rose : Rose 0 (faults_of (disk_at p.nodes t))
  pub kept : HaveDisks p.nodes
  pub count : length p.nodes.objects ≡ scene.head.osts

-- The disk of a target failed at its start, before the first line, and its count rose; this step tells of it.
pub record HasFailedStart (scene : Scene) (t : ℕ) (step : Step) (p : PlayerState) : Type 0 where
  pub limits : KeepsLimits scene
  pub one : t ≤ scene.head.osts
  pub gives : step ≡ step_of (turn_at (record { 0 = 1 }) (Target t)) (row_start true)
  pub rose : Rose 0 (faults_of (disk_at p.nodes t))
  pub kept : HaveDisks p.nodes
  pub count : length p.nodes.objects ≡ scene.head.osts

-- ---- what performing a line comes to: the lines after it are left; a limit forbade a turn; or a disk failed

abbrev pub Comes : Scene → List SceneLine → PlayerState → Progress → Type 0
Comes scene rest p progress.Made = (c : Config) × IsAt scene p c × (c.lines ≡ rest)
Comes scene rest p progress.Full = (c : Config) × IsAt scene p c × GoesOn scene c Stops
Comes scene rest p (progress.Failed t) = HasFailed scene t.0 p
Comes scene rest p (progress.Broken t) = HasBroken scene t.0 p

abbrev pub Performs : PlayerState → SceneLine → PlayerState → Progress → Type 0
Performs p line q came = (scene : Scene) (c : Config) (rest : List SceneLine) → IsAt scene p c → c.lines ≡ line ∷ rest
    → Comes scene rest q came

-- of lines, the first to the last
abbrev pub PerformsAll : PlayerState → List SceneLine → PlayerState → Progress → Type 0
PerformsAll p lines q came = (scene : Scene) (c : Config) → IsAt scene p c → c.lines ≡ lines → Comes scene [] q came

-- no scenario that is foreseen leaves these lines
abbrev pub IsUnforeseen : PlayerState → List SceneLine → Type 0
IsUnforeseen p lines = (scene : Scene) (c : Config) → IsAt scene p c → c.lines ≡ lines → ¬ AllForeseen scene

-- none with such a first line
abbrev pub IsLineUnforeseen : PlayerState → SceneLine → Type 0
IsLineUnforeseen p line = (rest : List SceneLine) → IsUnforeseen p (line ∷ rest)

-- ---- messages

-- a line under which the least message comes that is neither taken nor lost
abbrev pub RunsOn : SceneLine → Type 0
RunsOn Run = Unit {0}
RunsOn (RunSome (suc k)) = Unit {0}
RunsOn _ = ⊥

-- messages were thrown away: the player is where it was, with the same turns and lines
abbrev pub Throws : PlayerState → PlayerState → Type 0
Throws p q = (scene : Scene) (c : Config) (line : SceneLine) (rest : List SceneLine) → RunsOn line → IsAt scene p c → c.lines ≡ line ∷ rest
    → (d : Config) × IsAt scene q d × (d.lines ≡ line ∷ rest)

-- the turn in which a message comes, whichever lines are left then
abbrev pub taken : Scene → Config → ℕ → SentMessage → List SceneLine → Config
taken scene c number m lines =
    made (head_of scene.head) (spent c number lines) m.to (arrives (head_of scene.head) none_failing number m.from m.message m.to)

abbrev pub TakesTo : Scene → Config → ℕ → SentMessage → List SceneLine → PlayerState → Progress → Type 0
TakesTo scene c number m lines q progress.Made = IsAt scene q (taken scene c number m lines)
TakesTo scene c number m lines q progress.Full = ⊥
TakesTo scene c number m lines q (progress.Failed t) = HasFailed scene t.0 q
TakesTo scene c number m lines q (progress.Broken t) = HasBroken scene t.0 q

-- a message comes that is due
abbrev pub Takes : PlayerState → ℕ → PlayerState → Progress → Type 0
Takes p number q came =
    (scene : Scene) (c : Config) (m : SentMessage) (lines : List SceneLine) → IsAt scene p c → sent_at c.posts number ≡ Some m
    → IsDue scene c (spent c number lines) m.to (arrives (head_of scene.head) none_failing number m.from m.message m.to)
    → TakesTo scene c number m lines q came

-- no scenario that is foreseen brings this message
abbrev pub IsTakeUnforeseen : PlayerState → Type 0
IsTakeUnforeseen p = (scene : Scene) (c : Config) → IsAt scene p c → ¬ AllForeseen scene
