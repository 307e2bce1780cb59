-- What a run is: turns, each a row over the turns before. Messages may be lost, and come late or again; targets commit,
-- crash, boot and close their windows at any time, and their disks may fail.
use Rattle.std.specs.Prelude.{◌≡◌, ◌≤◌, ◌<◌, ℕ, Bool, true, false, List, [], ◌∷◌, Option, ◌⊎◌}
use Rattle.lu_base.specs.declared.ids.At.{At}
use Rattle.lu_base.specs.declared.ids.Node.{Node}
use Rattle.lu_base.specs.declared.ids.Node.TheVariants.{Client, Target}
use Rattle.lu_msg.specs.Limits.{slot_count}
use Rattle.lu_trace.specs.WellFormed.{IsCall}
use Rattle.lu_spec_entries.specs.Words.{Entry, Fail, Line, with_turn, turn_before}
use Rattle.lu_spec_entries.specs.Sent.{Sent}
use Rattle.lu_spec_target.specs.States.{Setting, Target as TargetState, target_at}
use Rattle.lu_spec_target.specs.Rows as target
use Rattle.lu_spec_target.specs.Disks.{over_disk, row_start}
use Rattle.lu_spec_client.specs.Calls.{is_dead}
use Rattle.lu_spec_client.specs.States.{Limits, Client as ClientState, client_at}
use Rattle.lu_spec_client.specs.Rows as client
use Rattle.lu_spec_run.specs.Heads.{Head}

-- ---- nodes after a past

abbrev pub limits_of : Head → Limits
limits_of head = record { osts = head.osts; flight = head.flight; dirty = head.dirty; unused = head.unused }

abbrev pub setting_of : Head → ℕ → Setting
setting_of head t = record { id = t; osts = head.osts; expire = head.expire }

abbrev pub client_of : Head → ℕ → List Line → ClientState
client_of head c past = client_at (limits_of head) c past

abbrev pub target_of : Head → ℕ → List Line → TargetState
target_of head t past = target_at (setting_of head t) head.clients past

-- ---- the entries of a turn

-- what happens to a node
abbrev pub EventAt : Node → Type 0
EventAt (Client c) = client.Event
EventAt (Target t) = target.Event

abbrev pub row_at : Head → List Line → At → (node : Node) → EventAt node → List Entry
row_at head past at (Client c) event = client.row (limits_of head) at event (client_of head c past)
row_at head past at (Target t) event = target.row (target_of head t past) at event

-- fails: which of the turn's calls to the disk fails, if any; the turn ends there
abbrev pub row : Head → List Line → (at : At) → EventAt at.node → Option ℕ → List Entry
row head past at event fails = over_disk fails (row_at head past at at.node event)

-- ---- which events come

-- a disk has failed
abbrev pub has_failed : List Line → Bool
has_failed [] = false
has_failed (l ∷ past) = elim l.entry [ Fail ↦ true | _ ↦ has_failed past ]

-- a target's start has failed: its line is the first of all, and the run has no other
abbrev pub start_failed : List Line → Bool
start_failed [] = false
start_failed (l ∷ []) = elim l.entry [ Fail ↦ true | _ ↦ false ]
start_failed (l ∷ m ∷ past) = start_failed (m ∷ past)

pub record IsAlive (head : Head) (past : List Line) (c : ℕ) : Type 0 where
  pub one : c < head.clients
  pub alive : is_dead c past ≡ false

-- a living client's user begins a call on one of four slots, a message that was sent to it comes, again, late or never, time
-- goes on, it dies
abbrev pub MeetsClient : Head → List Line → ℕ → client.Event → Type 0
MeetsClient head past c (client.Begins slot call) = IsAlive head past c × (slot < slot_count) × IsCall call
MeetsClient head past c (client.Comes n from m) = IsAlive head past c × Sent past n from (Client c) m
MeetsClient head past c client.Ticks = IsAlive head past c
MeetsClient head past c client.Dies = IsAlive head past c

-- a message comes to a target that is up; time goes on, and commands are given, at any time. One whose disk has failed makes no
-- further turn
abbrev pub MeetsTarget : Head → List Line → ℕ → target.Event → Type 0
MeetsTarget head past t (target.Comes n from m) =
    (t ≤ head.osts) × ((target_of head t past).failed ≡ false) × ((target_of head t past).up ≡ true) × Sent past n from (Target t) m
MeetsTarget head past t event = (t ≤ head.osts) × ((target_of head t past).failed ≡ false)

abbrev pub Meets : Head → List Line → (node : Node) → EventAt node → Type 0
Meets head past (Client c) event = MeetsClient head past c event
Meets head past (Target t) event = MeetsTarget head past t event

-- a target has numbers left for what the turn makes
abbrev pub HasNumbers : Head → List Line → At → (node : Node) → EventAt node → Type 0
HasNumbers head past at (Client c) event = Unit {0}
HasNumbers head past at (Target t) event = target.overruns (target_of head t past) (row_at head past at (Target t) event) ≡ false

pub record IsRow (head : Head) (past : List Line) (at : At) (entries : List Entry) : Type 0 where
  pub event : EventAt at.node
  pub fails : Option ℕ
  pub goes_on : start_failed past ≡ false
  pub meets : Meets head past at.node event
  pub numbers : HasNumbers head past at at.node event
  pub is : entries ≡ row head past at event fails

-- ---- runs

pub record Turn : Type 0 where
  pub at : At
  pub entries : List Entry

abbrev pub lines_of : List Turn → List Line
lines_of [] = []
lines_of (turn ∷ turns) = with_turn turn.at turn.entries (lines_of turns)

-- a turn is later than the one before
abbrev pub Follows : List Turn → At → Type 0
Follows [] at = Unit {0}
Follows (turn ∷ turns) at = turn_before turn.at at ≡ true

-- a target whose start fails has one line, and the run has no other
pub record FailsAtStart (head : Head) (turns : List Turn) (turn : Turn) : Type 0 where
  pub first : turns ≡ []
  pub target : ℕ
  pub one : target ≤ head.osts
  pub node : turn.at.node ≡ Target target
  pub is : turn.entries ≡ row_start true

abbrev pub IsTurn : Head → List Turn → Turn → Type 0
IsTurn head turns turn = IsRow head (lines_of turns) turn.at turn.entries ⊎ FailsAtStart head turns turn

-- turns, the newest first
abbrev pub IsRun : Head → List Turn → Type 0
IsRun head [] = Unit {0}
IsRun head (turn ∷ turns) = Follows turns turn.at × IsTurn head turns turn × IsRun head turns
