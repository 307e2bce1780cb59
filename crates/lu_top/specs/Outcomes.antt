-- What the top call performs, and what it writes and answers.
use Rattle.std.specs.Prelude.{◌≡◌, ℕ, ◌≤◌, List, map, Option, Some, None, IfSome, ◌⊎◌}
use Rattle.std.specs.Io.KnownBytes.{Appends}
use Rattle.lu_base.specs.Faults.{Rose, WrotePrefix}
use Rattle.lu_base.specs.declared.ids.TargetId.{TargetId}
use Rattle.lu_msg.specs.declared.commits.Batch.{Batch}
use Rattle.lu_scene.specs.Grammar.{IsScene}
use Rattle.lu_scene.specs.Storms.{storm_of}
use Rattle.lu_scene.specs.declared.scene.Scene.{Scene}
use Rattle.lu_trace.specs.Traces.{trace_text}
use Rattle.lu_run_summary.specs.Summaries.{summary_text}
use Rattle.lu_core.specs.Lawful.{IsLawful}
use Rattle.lu_core.specs.Nodes.{DiskState}
use Rattle.lu_core.specs.declared.playing.Played.{Played}
use Rattle.lu_core.specs.Played.{IsPlayed, faults_at}
use Rattle.lu_top.specs.Refusals.{usage_text, read_fault_text, too_long_text, bad_text, bad_trace_text, unforeseen_text}
use Rattle.lu_top.specs.declared.forms.Performance.{Performance}
use Rattle.lu_top.specs.declared.forms.Performance.TheVariants.{Play, Storm}
use Rattle.lu_top.specs.declared.forms.Form.TheVariants.{Perform}
use Rattle.lu_top.specs.Forms.{Says}
use Rattle.lu_top.specs.Asked.{IsSceneBy}
use Rattle.lu_top.specs.declared.status.Status.{Status}
use Rattle.lu_top.specs.declared.status.Status.TheVariants as status

-- ---- the lines of the statuses

-- a text was written whole, or a prefix of it and the sink's count of faults rose
abbrev pub WasTold : Option (List ℕ) → Option (List ℕ) → ℕ → ℕ → List ℕ → Type 0
WasTold old new before now text = Appends old new text ⊎ (WrotePrefix old new text × Rose before now)

-- the line that a status tells, if it tells one
abbrev pub line_told : Status → Option (List ℕ)
line_told status.Usage = Some usage_text
line_told status.ReadFault = Some read_fault_text
line_told status.TooLong = Some too_long_text
line_told (status.Scene line fault) = Some (bad_text line fault)
line_told (status.Trace line) = Some (bad_trace_text line)
line_told status.Unforeseen = Some unforeseen_text
line_told _ = None

-- the line of a status was written whole, or a prefix of it and the sink's count of faults rose
abbrev pub Tells : Option (List ℕ) → Option (List ℕ) → ℕ → ℕ → Status → Type 0
Tells old new before now answer = IfSome (line_told answer) (λ line. WasTold old new before now line)

-- ---- a run

-- what disks hold and how often they failed
abbrev pub held_by : {D : Type 0} → (D → List Batch) → (D → ℕ) → List D → List DiskState
held_by batches faults disks = map (λ d. record { batches = batches d; faults = faults d }) disks

-- what is written of a run: its trace and how it ended, or the summary of the trace
abbrev pub text_by : Performance → Played → List ℕ
text_by Play played = trace_text played.trace played.end
text_by (Storm seed) played = summary_text seed played.trace.entries

-- A run of the scenario of a performance, with what the source had and has left, and with what the disks hold then. Its trace
-- is lawful, also where a disk failed.
pub record IsRunOf (performance : Performance) (left rest : Option (List ℕ)) (held : List DiskState) (played : Played) : Type 0 where
  pub scene : Scene
  pub is : IsSceneBy performance left rest scene
  pub run : IsPlayed scene played held
  pub lawful : IsLawful played.trace

-- some run of a performance, in which this disk failed or none, and this holds of what is written of it
abbrev pub WroteOf : Performance → Option (List ℕ) → Option (List ℕ) → List DiskState → Option TargetId → (List ℕ → Type 0) → Type 0
WroteOf performance left rest held failed P =
    (played : Played) × IsRunOf performance left rest held played × (played.failed ≡ failed) × P (text_by performance played)

-- the same of the performance that the words ask for
abbrev pub WroteBy : List (List ℕ) → Option (List ℕ) → Option (List ℕ) → List DiskState → Option TargetId → (List ℕ → Type 0) → Type 0
WroteBy words left rest held failed P =
    (performance : Performance) × Says words (Perform performance) × WroteOf performance left rest held failed P

-- this holds of the scenario of a performance
abbrev pub OfScene : Performance → Option (List ℕ) → Option (List ℕ) → (Scene → Type 0) → Type 0
OfScene performance left rest P = (scene : Scene) × IsSceneBy performance left rest scene × P scene

-- the same of the performance that the words ask for
abbrev pub OfAsked : List (List ℕ) → Option (List ℕ) → Option (List ℕ) → (Scene → Type 0) → Type 0
OfAsked words left rest P = (performance : Performance) × Says words (Perform performance) × OfScene performance left rest P

-- the disk of one of its targets failed
abbrev pub HasFailed : List DiskState → TargetId → Scene → Type 0
HasFailed held t scene = (t.0 ≤ scene.head.osts) × Rose 0 (faults_at held t.0)

-- ---- what is written where all went well

-- the trace of a run of the scenario that a text is was written whole, with how it ended; it is lawful
pub record WroteRun (old new : Option (List ℕ)) (held : List DiskState) (text : List ℕ) : Type 0 where
  pub scene : Scene
  pub is : IsScene text scene
  pub played : Played
  pub run : IsPlayed scene played held
  pub whole : played.failed ≡ None
  pub wrote : Appends old new (trace_text played.trace played.end)
  pub lawful : IsLawful played.trace

-- the summary of the trace of a run of the storm of a number was written whole; that trace is lawful
pub record WroteStorm (old new : Option (List ℕ)) (held : List DiskState) (seed : ℕ) : Type 0 where
  pub played : Played
  pub run : IsPlayed (storm_of seed) played held
  pub whole : played.failed ≡ None
  pub wrote : Appends old new (summary_text seed played.trace.entries)
  pub lawful : IsLawful played.trace

-- ---- what performing a scenario comes to

-- what writing of a run comes to
abbrev pub IsWritten : Performance → Played → Option (List ℕ) → Option (List ℕ) → ℕ → ℕ → Status → Type 0
IsWritten performance played old new before now status.Done = (played.failed ≡ None) × Appends old new (text_by performance played)
    × (now ≡ before)
IsWritten performance played old new before now status.WriteFault = (played.failed ≡ None)
    × WrotePrefix old new (text_by performance played) × Rose before now
IsWritten performance played old new before now (status.DiskFault t) = (played.failed ≡ Some t)
    × WasTold old new before now (text_by performance played)
IsWritten performance played old new before now status.Memory = Unit {0}
IsWritten performance played old new before now _ = ⊥

-- a run of the scenario was written; or a node met what no run is known to bring, or memory ran out
abbrev pub IsOutcome : Performance → Scene → List DiskState → Option (List ℕ) → Option (List ℕ) → ℕ → ℕ → Status → Type 0
IsOutcome performance scene held old new before now status.Unforeseen = WasTold old new before now unforeseen_text
IsOutcome performance scene held old new before now status.Memory = Unit {0}
IsOutcome performance scene held old new before now answer =
    (played : Played) × IsPlayed scene played held × IsLawful played.trace
    × IsWritten performance played old new before now answer

-- ---- answers

-- a scenario was performed to its end, to a limit or to the failure of a disk; or a trace was judged, and is lawful or the
-- verdict on it was cut off
abbrev pub HasRun : Status → Type 0
HasRun status.Done = Unit {0}
HasRun status.WriteFault = Unit {0}
HasRun (status.DiskFault t) = Unit {0}
HasRun _ = ⊥

-- no scenario was performed, and memory didn't run out
abbrev pub HasRefused : Status → Type 0
HasRefused (status.Unlawful law line) = Unit {0}
HasRefused status.Usage = Unit {0}
HasRefused (status.Scene line fault) = Unit {0}
HasRefused (status.Trace line) = Unit {0}
HasRefused status.TooLong = Unit {0}
HasRefused status.ReadFault = Unit {0}
HasRefused _ = ⊥

-- done, or memory ran out
abbrev pub IsDone : Status → Type 0
IsDone status.Done = Unit {0}
IsDone status.Memory = Unit {0}
IsDone _ = ⊥

-- refused as no scenario, or memory ran out
abbrev pub IsRefused : Status → Type 0
IsRefused (status.Scene line fault) = Unit {0}
IsRefused status.Memory = Unit {0}
IsRefused _ = ⊥

-- a scenario was performed; or a node met what no run is known to bring, or memory ran out
abbrev pub IsPerformedStatus : Status → Type 0
IsPerformedStatus status.Unforeseen = Unit {0}
IsPerformedStatus status.Memory = Unit {0}
IsPerformedStatus answer = HasRun answer

-- an answer that a performance comes to, whatever is read and written
abbrev pub IsOfPerformance : Status → Type 0
IsOfPerformance status.Usage = ⊥
IsOfPerformance (status.Unlawful law line) = ⊥
IsOfPerformance (status.Trace line) = ⊥
IsOfPerformance _ = Unit {0}
