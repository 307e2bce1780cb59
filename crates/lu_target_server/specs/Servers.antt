-- A target's parts together, as its calls see them and as the rows read them.
use Rattle.std.specs.Prelude.{◌≡◌, ℕ, ◌<◌, true, false, List, ◌++◌, take, All}
use Rattle.lu_base.specs.Faults.{Rose}
use Rattle.lu_base.specs.declared.ids.Who.{Who}
use Rattle.lu_msg.specs.Limits.{tag_count}
use Rattle.lu_msg.specs.declared.messages.Request.{Request}
use Rattle.lu_service.specs.declared.services.Kind.{Kind}
use Rattle.lu_service.specs.Contents.{Contents}
use Rattle.lu_service.specs.Takes.{Takes}
use Rattle.lu_trace.specs.Turns.{Making}
use Rattle.lu_spec_entries.specs.Words.{Entry}
use Rattle.lu_spec_target.specs.Lives.{is_life}
use Rattle.lu_spec_target.specs.Locks.{same_request}
use Rattle.lu_spec_target.specs.States.{Target, turn}
use Rattle.lu_spec_target.specs.Disks.{failing, batches_of}
pub use Rattle.lu_target_invariant.specs.Sound.{IsKindOf, IsTaken, AreApart, IsAsked, AskApart, HasLocksOf, IsSound}
use Rattle.lu_target_store.specs.Stores.{StoreState, Serves, HasTaken}
use Rattle.lu_target_locks.specs.Servers as locking
use Rattle.lu_target_locks.specs.Servers.{ServerState as LockState}
use Rattle.lu_target_redo.specs.Shown as redo
use Rattle.lu_spec_entries.specs.Given.{giving}

-- A target's number, 0 for the metadata target, and its boot; the ticks after which the holder of a lock that was called back
-- loses its slot; the kind of its service and what that holds; store and locks; and the requests that wait.
pub record ServerState : Type 0 where
  pub id : ℕ
  pub boot : ℕ
  pub expire : ℕ
  pub kind : Kind
  pub contents : Contents
  pub store : StoreState
  pub locks : LockState
  pub requests : List Request

-- ---- it shows that state of the rows' target, while it serves

pub record Shows (s : ServerState) (v : Target) : Type 0 where
  pub id : v.setting.id ≡ s.id
  pub kind : IsKindOf s.id s.kind
  pub expire : v.setting.expire ≡ s.expire
  pub boot : v.boot ≡ s.boot
  pub store : Serves s.store v
  pub locks : locking.Shows s.locks v
  pub contents : redo.Shows s.kind v.setting.osts v.number s.contents v.contents
  pub requests : v.queue ≡ s.requests
  pub taken : All (λ r. HasTaken r.who r.tag s.store) s.requests
  pub sound : IsSound s.kind v

-- it shows some state
abbrev pub Stands : ServerState → Type 0
Stands s = (v : Target) × Shows s v

-- the life has a slot
abbrev pub HasLife : Who → ServerState → Type 0
HasLife who s = (v : Target) → Shows s v → is_life who v.lives ≡ true

-- no glimpse is for this request
abbrev pub IsUnasked : Request → ServerState → Type 0
IsUnasked r s = (v : Target) → Shows s v → All (λ g. same_request g.request r ≡ false) v.glimpses

-- A request that may be taken: its life has a slot, its tag is one that there is, its operation one of the service's, and a
-- request that waits of its life and number has its tag.
pub record MayTake (r : Request) (s : ServerState) : Type 0 where
  pub life : HasLife r.who s
  pub tag : r.tag < tag_count
  pub takes : Takes s.kind r.op
  pub tags : All (λ q. same_request q r ≡ true → q.tag ≡ r.tag) s.requests

-- ---- a call makes a row

-- Whatever state it showed, what was given in the turn is what was given before and then the row's entries, and it shows what
-- they make of that state.
pub record Makes (row : Target → List Entry) (old new : ServerState) (before after : Making) : Type 0 where
  pub gives : (v : Target) → Shows old v → after ≡ giving before (row v)
  pub shows : (v : Target) → Shows old v → Shows new (turn v (row v))

-- The disk has what it had, and the first of the row's batches.
abbrev pub KeepsBatches : (row : Target → List Entry) → (old new : ServerState) → Type 0
KeepsBatches row old new = (v : Target) → Shows old v → (n : ℕ) × (new.store.batches ≡ old.store.batches ++ take n (batches_of (row v)))

-- the disk's count rose
abbrev pub DiskFailed : (old new : ServerState) → Type 0
DiskFailed old new = Rose old.store.faults new.store.faults

-- The disk failed: what was given in the turn is what was given before and then the row's entries up to the line of that.
abbrev pub Fails : (row : Target → List Entry) → (old : ServerState) → (before after : Making) → Type 0
Fails row old before after = (v : Target) → Shows old v → after ≡ giving before (failing (row v) 0)
