-- Scenarios that change no bytes, and those in which no turn asks a disk. What every scenario comes to is lawful; of one that is
-- both more is known: no node refuses a turn.
use Rattle.std.specs.Prelude.{◌<◌, ◌+◌, ℕ, zero, List, [], ◌∷◌, All, ◌⊎◌}
use Rattle.lu_base.specs.declared.ids.Node.TheVariants.{Target}
use Rattle.lu_scene.specs.declared.scene.Scene.{Scene}
use Rattle.lu_scene.specs.declared.scene.SceneLine.{SceneLine}
use Rattle.lu_scene.specs.declared.scene.SceneLine.TheVariants.{Call, Run, RunSome, Deliver, Lose, Tick, Commit, CommitSome, Crash, Boot}
use Rattle.lu_scene.specs.declared.scene.SceneLine.TheVariants.{Close, Die}
use Rattle.lu_spec_run.specs.Limits.{KeepsLimits}
use Rattle.lu_proof_lawful.specs.Covered.Runs.{ChangesNoBytes}
use Rattle.lu_proof_lawful.specs.Covered.Makes.{Path, CallMakes, Misses}

-- ---- which paths are made

-- a line's call makes this path
abbrev pub Makes : SceneLine → Path → Type 0
Makes (Call client slot call) path = CallMakes call path
Makes _ path = ⊥

-- some line does
abbrev pub IsMade : List SceneLine → Path → Type 0
IsMade [] path = ⊥
IsMade (line ∷ lines) path = Makes line path ⊎ IsMade lines path

-- ---- scenarios that change no bytes

-- the line calls neither `write` nor `cut`
abbrev pub IsBareLine : SceneLine → Type 0
IsBareLine (Call client slot call) = ChangesNoBytes call
IsBareLine Run = Unit {0}
IsBareLine (RunSome turns) = Unit {0}
IsBareLine (Deliver number) = Unit {0}
IsBareLine (Lose number) = Unit {0}
IsBareLine (Tick node) = Unit {0}
IsBareLine (Commit target) = Unit {0}
IsBareLine (CommitSome target count) = Unit {0}
IsBareLine (Crash target) = Unit {0}
IsBareLine (Boot target) = Unit {0}
IsBareLine (Close target) = Unit {0}
IsBareLine (Die client) = Unit {0}

abbrev pub AreBareLines : List SceneLine → Type 0
AreBareLines lines = All IsBareLine lines

-- the scenario keeps the limits, and each of its lines is so
pub record IsBareScene (scene : Scene) : Type 0 where
  pub limits : KeepsLimits scene
  pub lines : AreBareLines scene.lines

-- ---- commands to targets

-- a line that gives none
abbrev pub IsNoCommand : SceneLine → Type 0
IsNoCommand (Commit target) = ⊥
IsNoCommand (CommitSome target count) = ⊥
IsNoCommand (Crash target) = ⊥
IsNoCommand (Boot target) = ⊥
IsNoCommand (Close target) = ⊥
IsNoCommand _ = Unit {0}

-- ---- locks that are called back

-- how often the metadata target's time goes on
abbrev pub ticks_of : List SceneLine → ℕ
ticks_of [] = 0
ticks_of (Tick (Target zero) ∷ lines) = ticks_of lines + 1
ticks_of (line ∷ lines) = ticks_of lines

-- a line's call asks for no path that is made, if it is a reading of names: then it is granted no lock on them. An `open` is none, nor is a
-- call
-- on a handle; the locks on objects that a `read` or a `stat` is granted are never called back, since nobody writes
abbrev pub LineMisses : (Path → Type 0) → SceneLine → Type 0
LineMisses Made (Call client slot call) = Misses Made call
LineMisses Made _ = Unit {0}

abbrev pub AllMiss : List SceneLine → Type 0
AllMiss lines = All (LineMisses (IsMade lines)) lines

-- no lock that is called back expires: the metadata target's time doesn't go on so often, or no lock on names is granted. So no client is
-- evicted
abbrev pub EvictsNone : Scene → Type 0
EvictsNone scene = (ticks_of scene.lines < scene.head.expire) ⊎ AllMiss scene.lines

-- ---- scenarios in which no turn asks a disk: a target does so for a command, but for a `crash`, and where it evicts a client. A `crash`
-- is a
-- command all the same, so in these scenarios each target stays up

pub record AsksNoDisk (scene : Scene) : Type 0 where
  pub commands : All IsNoCommand scene.lines
  pub evicts : EvictsNone scene
