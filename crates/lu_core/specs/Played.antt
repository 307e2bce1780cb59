-- What a run of a scenario leaves: its trace, how it ended, and its disks.
use Rattle.std.specs.Prelude.{◌≡◌, ◌≤◌, ◌<◌, ℕ, false, List, [], ◌∷◌, length, reverse, Option, Some, None, All, slice_get}
use Rattle.lu_base.specs.Faults.{Rose}
use Rattle.lu_base.specs.declared.ids.Node.TheVariants.{Target}
use Rattle.lu_base.specs.declared.ids.TargetId.{TargetId}
use Rattle.lu_scene.specs.declared.scene.Scene.{Scene}
use Rattle.lu_trace.specs.declared.traces.End.{End}
use Rattle.lu_trace.specs.declared.traces.End.TheVariants.{Done, Limit, Fault}
use Rattle.lu_spec_entries.specs.Printed.{printed}
use Rattle.lu_spec_run.specs.Runs.{Turn, IsRun, has_failed}
use Rattle.lu_spec_run.specs.Scenarios.{Config, Disks, Ends, Stops, Fails, head_of, past_of, next, Leads, start}
use Rattle.lu_spec_run.specs.Limits.{KeepsLimits}
use Rattle.lu_scene.specs.declared.scene.SceneLine.{SceneLine}
use Rattle.lu_run_nodes.specs.Disks.{HoldAll}
use Rattle.lu_run_nodes.specs.Shown.{AreUnstarted}
use Rattle.lu_run_wire.specs.Wires.{empty_wire}
use Rattle.lu_core.specs.States.{PlayerState}
use Rattle.lu_run_nodes.specs.States.{DiskState}
use Rattle.lu_core.specs.declared.players.Progress.{Progress}
use Rattle.lu_core.specs.declared.players.Progress.TheVariants as progress
use Rattle.lu_core.specs.declared.playing.Played.{Played}

-- ---- the end

-- no disk has failed, and the turns are a run
pub record IsWhole (scene : Scene) (c : Config) : Type 0 where
  pub unfailed : has_failed (past_of c) ≡ false
  pub run : IsRun (head_of scene.head) c.turns

-- nothing is left; one more turn was due that a limit forbids; or the disk of this target failed in the last turn
abbrev pub HasEnded : Scene → Disks → Config → End → Option TargetId → Type 0
HasEnded scene disks c Done None = (next (head_of scene.head) disks c ≡ Ends) × IsWhole scene c
HasEnded scene disks c Limit None = (next (head_of scene.head) disks c ≡ Stops) × IsWhole scene c
HasEnded scene disks c Fault (Some t) =
    (next (head_of scene.head) disks c ≡ Fails) × ((turn : Turn) × (earlier : List Turn) × (c.turns ≡ turn ∷ earlier)
    × (turn.at.node ≡ Target t.0))
HasEnded scene disks c _ _ = ⊥

-- how a run ends that came to this, and the target whose disk failed
abbrev pub EndsWith : Progress → End → Option TargetId → Type 0
EndsWith progress.Made ended failed = (ended ≡ Done) × (failed ≡ None)
EndsWith progress.Full ended failed = (ended ≡ Limit) × (failed ≡ None)
EndsWith (progress.Failed t) ended failed = (ended ≡ Fault) × (failed ≡ Some t)
EndsWith (progress.Broken t) ended failed = ⊥

-- ---- the disks

-- nine disks, empty, which haven't failed
pub record AreFresh (disks : List DiskState) : Type 0 where
  pub nine : length disks ≡ 9
  pub empty : All (λ d. d.batches ≡ []) disks
  pub calm : All (λ d. d.faults ≡ 0) disks

abbrev pub faults_at : List DiskState → ℕ → ℕ
faults_at disks t = elim (slice_get disks t) [ Some d ↦ d.faults | None ↦ 0 ]

-- Nine disks again: those of the run's targets, by their numbers, and the others as they were.
pub record AreBack (scene : Scene) (old new : List DiskState) : Type 0 where
  pub nine : length new ≡ 9
  pub others : (t : ℕ) → scene.head.osts < t → slice_get new t ≡ slice_get old t

-- ---- all of it: the run of the scenario over some disks, to its end; its trace; and what the disks hold then

pub record IsPlayed (scene : Scene) (played : Played) (held : List DiskState) : Type 0 where
  pub disks : Disks
  pub config : Config
  pub leads : Leads (head_of scene.head) disks (start (head_of scene.head) disks scene) config
  pub ended : HasEnded scene disks config played.end played.failed
  pub osts : played.trace.osts ≡ scene.head.osts
  pub entries : played.trace.entries ≡ reverse (printed (past_of config))
  -- where no disk has failed each holds what its target committed in the run; the count of one that failed rose
  pub holds : played.failed ≡ None → HoldAll (head_of scene.head) (past_of config) held
  pub rose : (t : TargetId) → played.failed ≡ Some t → (t.0 ≤ scene.head.osts) × Rose 0 (faults_at held t.0)

-- a disk of one of the run's targets failed
abbrev pub SomeRose : Scene → List DiskState → Type 0
SomeRose scene held = (t : ℕ) × (t ≤ scene.head.osts) × Rose 0 (faults_at held t)

-- ---- before the start: all targets are down, with their empty disks, and no line was written

pub record IsStarting (scene : Scene) (left : List SceneLine) (p : PlayerState) : Type 0 where
  pub limits : KeepsLimits scene
  pub lines : scene.lines ≡ left
  pub nodes : AreUnstarted (head_of scene.head) p.nodes
  pub wire : p.wire ≡ empty_wire
