-- A target's parts while it is up, and what its turns make of the state of the rows that they show.
use Rattle.std.specs.Prelude.{◌≡◌, ◌≢◌, ℕ, nat_lt, Bool, true, false, ⊤, List, [], ◌++◌, take, Option, Some, None}
use Rattle.lu_base.specs.Faults.{Rose}
use Rattle.lu_base.specs.declared.ids.Who.{Who}
use Rattle.lu_msg.specs.declared.commits.Batch.{Batch}
use Rattle.lu_msg.specs.declared.messages.Message.{Message}
use Rattle.lu_msg.specs.declared.messages.Message.TheVariants as message
use Rattle.lu_service.specs.declared.services.Kind.{Kind}
use Rattle.lu_service.specs.Contents.{Contents}
use Rattle.lu_trace.specs.Turns.{Making}
use Rattle.lu_spec_entries.specs.Words.{Entry}
use Rattle.lu_spec_target.specs.Disks.{failing, batches_of, row_start}
use Rattle.lu_spec_target.specs.Lives.{is_life}
use Rattle.lu_spec_target.specs.Recovery.{row_boot}
use Rattle.lu_spec_target.specs.Rows.{heeds, lock_again, overruns}
use Rattle.lu_spec_target.specs.States.{Target, turn}
use Rattle.lu_target_server.specs.Windows.{State}
use Rattle.lu_target_server.specs.LockServers.{most_ticks}
use Rattle.lu_target_server.specs.declared.booting.Place.{Place}
use Rattle.lu_spec_entries.specs.Given.{giving}
use Rattle.lu_target_server.specs.Servers.{ServerState, Shows, HasLife, MayTake}
use Rattle.lu_target_server.specs.Recovering.{Recovers, MayReplay, MayBring}
use Rattle.lu_target_server.specs.Passing.{StopsAt}
use Rattle.lu_target_server.specs.Booting.{StandsOn}

-- Its parts, and while it recovers what its window has.
pub record RunningState : Type 0 where
  pub server : ServerState
  pub window : Option State

-- ---- it shows that state of the rows' target

abbrev pub IsOf : ServerState → Option State → Target → Type 0
IsOf s None v = Shows s v
IsOf s (Some w) v = Recovers s w v

abbrev pub IsIn : RunningState → Target → Type 0
IsIn t v = IsOf t.server t.window v

-- it shows some state
abbrev pub IsUp : RunningState → Type 0
IsUp t = (v : Target) × IsIn t v

-- this life has a slot
abbrev pub HasSlot : Who → RunningState → Type 0
HasSlot who t = (v : Target) → IsIn t v → is_life who v.lives ≡ true

-- ---- what is asked of a message that comes: of a request that a target takes, and of a replay and a lock that it keeps while
-- it recovers

abbrev pub MayHeed : Message → RunningState → Type 0
MayHeed (message.Request r) t = t.window ≡ None → nat_lt r.boot t.server.boot ≡ false → HasLife r.who t.server → MayTake r t.server
MayHeed (message.Replay r) t = (w : State) → t.window ≡ Some w → r.boot ≡ t.server.boot → is_life r.who w.window.lives ≡ true
    → MayReplay r t.server w.window
MayHeed (message.Lock r) t = (w : State) → t.window ≡ Some w → r.boot ≡ t.server.boot → is_life r.who w.window.lives ≡ true
    → MayBring (lock_again r) t.server w.window
MayHeed _ t = ⊤

-- Whether a message of this life and boot is heeded: if so nothing was told, and else all of its row was.
pub record HasHeeded (heeded : Bool) (who : Who) (boot : ℕ) (t : RunningState) (before after : Making) : Type 0 where
  pub later : heeded ≡ true → nat_lt boot t.server.boot ≡ false
  pub slot : heeded ≡ true → HasSlot who t
  pub quiet : heeded ≡ true → after ≡ before
  pub goes : heeded ≡ true → (v : Target) (rest : List Entry) → IsIn t v → heeds v who boot rest ≡ rest
  pub told : heeded ≡ false → (v : Target) (rest : List Entry) → IsIn t v → after ≡ giving before (heeds v who boot rest)
  pub stays : heeded ≡ false → (v : Target) (rest : List Entry) → IsIn t v → turn v (heeds v who boot rest) ≡ v

-- ---- turns

-- Whatever state it showed, what was given in the turn is what was given before and then the row's entries, and it shows what
-- they make of that state.
pub record Turns (row : Target → List Entry) (old new : RunningState) (before after : Making) : Type 0 where
  pub gives : (v : Target) → IsIn old v → after ≡ giving before (row v)
  pub shows : (v : Target) → IsIn old v → IsIn new (turn v (row v))

-- The disk failed: its count rose, and the turn has the row's lines up to that of it.
pub record StopsIn (row : Target → List Entry) (old new : RunningState) (before after : Making) : Type 0 where
  pub rose : Rose old.server.store.faults new.server.store.faults
  pub gives : (v : Target) → IsIn old v → after ≡ giving before (failing (row v) 0)

-- The disk has what it had, and the first of the row's batches.
abbrev pub KeepsIn : (row : Target → List Entry) → (old new : RunningState) → Type 0
KeepsIn row old new = (v : Target) → IsIn old v → (n : ℕ) × (new.server.store.batches ≡ old.server.store.batches
    ++ take n (batches_of (row v)))

-- The row needs a transaction number or a cookie that the boot doesn't have, whatever state was shown.
abbrev pub OverrunsIn : (row : Target → List Entry) → RunningState → Type 0
OverrunsIn row t = (v : Target) → IsIn t v → overruns v (row v) ≡ true

-- the boot has no tick left
abbrev pub HasNoTickIn : RunningState → Type 0
HasNoTickIn t = (v : Target) → IsIn t v → v.ticks ≡ most_ticks

-- The disk failed while the target began over these batches.
pub record HasStopped (place : Place) (kind : Kind) (own : Contents) (batches : List Batch) (before after : Making) : Type 0 where
  pub start : batches ≡ [] → after ≡ giving before (row_start true)
  pub boot : batches ≢ [] → (n : ℕ) × StopsAt n (StandsOn place kind own batches) (λ v. row_boot v before.at) before after
