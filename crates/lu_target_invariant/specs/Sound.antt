-- What the rows' target keeps while it serves.
use Rattle.std.specs.Prelude.{◌≡◌, ℕ, ◌≤◌, ◌<◌, ◌==◌, true, false, List, [], Some, All, AllPairs}
use Rattle.lu_base.specs.declared.ids.Who.{Who}
use Rattle.lu_base.specs.declared.locks.Lock.{Lock}
use Rattle.lu_msg.specs.Limits.{tag_count}
use Rattle.lu_msg.specs.declared.messages.Request.{Request}
use Rattle.lu_msg.specs.declared.operations.Op.TheVariants as op
use Rattle.lu_service.specs.declared.services.Kind.{Kind}
use Rattle.lu_service.specs.declared.services.Kind.TheVariants.{Mdt, Ost}
pub use Rattle.lu_service.specs.Serving.{IsForReading}
use Rattle.lu_service.specs.Takes.{Takes}
use Rattle.lu_spec_entries.specs.Carried.{Glimpse}
use Rattle.lu_spec_target.specs.Lives.{is_life, slot_in}
use Rattle.lu_spec_target.specs.Locks.{same_request}
use Rattle.lu_spec_target.specs.States.{Target}
use Rattle.lu_target_refines.specs.Lives.{InOrder, OfClients}
use Rattle.lu_target_invariant.specs.Requests.{request_of}

-- the service of target 0 is that of names
abbrev pub IsKindOf : ℕ → Kind → Type 0
IsKindOf id Mdt = id ≡ 0
IsKindOf id Ost = (id == 0) ≡ false

-- ---- the requests that wait

-- a request that waits: its life has a slot, its tag is one that there is, its operation one of the service's, and no older
-- request of its life and tag is the newest
pub record IsTaken (kind : Kind) (v : Target) (r : Request) : Type 0 where
  pub life : is_life r.who v.lives ≡ true
  pub tag : r.tag < tag_count
  pub takes : Takes kind r.op
  pub newest : r.xid.0 ≤ (slot_in v.slots r.who r.tag).taken

abbrev pub AreApart : Request → Request → Type 0
AreApart q r = same_request q r ≡ false

-- ---- the glimpses

-- a glimpse is for a request that waits, and asks for the size of that object
pub record IsAsked (queue : List Request) (g : Glimpse) : Type 0 where
  pub waits : request_of g.request.who g.request.xid queue ≡ Some g.request
  pub sizes : g.request.op ≡ op.Size g.resource

-- no request waits for two holders
abbrev pub AskApart : Glimpse → Glimpse → Type 0
AskApart g h = AreApart g.request h.request

-- ---- the locks

-- its life is one of these
abbrev pub IsOfLife : List Who → Lock → Type 0
IsOfLife lives l = is_life l.ask.who lives ≡ true

-- locks on names are all for reading, and none waits; on objects each glimpse is for a request that waits
abbrev pub HasLocksOf : Kind → Target → Type 0
HasLocksOf Mdt v = All IsForReading v.granted × (v.waiting ≡ []) × (v.glimpses ≡ [])
HasLocksOf Ost v = All (IsAsked v.queue) v.glimpses × AllPairs AskApart v.glimpses

-- ---- all together

pub record IsSound (kind : Kind) (v : Target) : Type 0 where
  pub up : v.up ≡ true
  pub serving : v.closed ≡ v.boot
  pub lives : InOrder v.lives
  pub clients : OfClients v.lives
  pub queue : All (IsTaken kind v) v.queue
  pub apart : AllPairs AreApart v.queue
  pub holders : All (IsOfLife v.lives) v.granted
  pub waiters : All (IsOfLife v.lives) v.waiting
  pub locks : HasLocksOf kind v
