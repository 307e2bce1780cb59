-- Requests at the metadata target go on: a pass over those that wait, up to the first that acts; what one of them may do; and
-- locks that are called back for it.
use Rattle.std.specs.Prelude.{◌≡◌, ℕ, ◌||◌, not, if◌then◌else◌, Bool, true, false, List, [], ◌∷◌, filter, Some, slice_get}
use Rattle.lu_base.specs.declared.ids.At.{At}
use Rattle.lu_base.specs.declared.ids.Cookie.{Cookie}
use Rattle.lu_base.specs.declared.locks.Lock.{Lock}
use Rattle.lu_msg.specs.declared.messages.Request.{Request}
use Rattle.lu_trace.specs.Turns.{Making}
use Rattle.lu_spec_entries.specs.Words.{Entry}
use Rattle.lu_spec_target.specs.Names.{is_read, in_way, written_by, is_ready, row_waits, row_pass}
use Rattle.lu_spec_target.specs.Replies.{blocks}
use Rattle.lu_spec_target.specs.States.{Target, turn}
use Rattle.lu_target_locks.specs.Asking.{cookies_of}
use Rattle.lu_spec_entries.specs.Given.{giving}
use Rattle.lu_target_server.specs.Servers.{ServerState, Shows, Makes}
use Rattle.lu_target_server.specs.declared.names.Way.{Way}
use Rattle.lu_target_server.specs.declared.names.Way.TheVariants as way

-- it is one of these requests
abbrev pub IsWaiting : Request → List Request → Type 0
IsWaiting r queue = (place : ℕ) × (slice_get queue place ≡ Some r)

-- ---- a pass

abbrev pub no_more : Target → List Entry
no_more v = []

-- over these requests; stood: what changes names stands before them
abbrev pub pass_over : At → Target → Bool → List Request → List Entry
pass_over at v stood queue = row_pass no_more v at stood queue

-- whether one of them acts
abbrev pub acts_in : Target → Bool → List Request → Bool
acts_in v stood [] = false
acts_in v stood (r ∷ queue) = if is_ready v stood r then true else acts_in (turn v (row_waits v r)) (stood || not (is_read r.op)) queue

abbrev pub names_pass : At → Target → List Entry
names_pass at v = pass_over at v false v.queue

abbrev pub one_acts : Target → Bool
one_acts v = acts_in v false v.queue

pub record IsPass (acted : Bool) (old new : ServerState) (before after : Making) : Type 0 where
  pub makes : Makes (names_pass before.at) old new before after
  pub one : (v : Target) → Shows old v → acted ≡ one_acts v

-- ---- what a request may do

abbrev pub IsWayOf : Target → (stood : Bool) → Request → Way → Type 0
IsWayOf v stood r (way.Free request) = (request ≡ r) × (is_ready v stood r ≡ true)
IsWayOf v stood r way.Behind = (is_read r.op ≡ true) × (is_ready v stood r ≡ false)
IsWayOf v stood r (way.Barred cookies) = (is_read r.op ≡ false) × (is_ready v stood r ≡ false)
    × (cookies ≡ cookies_of (in_way v.granted (written_by v r)))

-- that of the request at this place
abbrev pub IsWay : ServerState → (place : ℕ) → (stood : Bool) → Way → Type 0
IsWay s place stood found = (v : Target) (r : Request) → Shows s v → slice_get s.requests place ≡ Some r → IsWayOf v stood r found

-- ---- the granted locks of these cookies, which are those that pass a test, were called back

pub record AreCalled (cookies : List Cookie) (old new : ServerState) (before after : Making) : Type 0 where
  pub gives : (v : Target) (test : Lock → Bool) → Shows old v → cookies ≡ cookies_of (filter test v.granted) → after
      ≡ giving before (blocks v (filter test v.granted))
  pub shows : (v : Target) (test : Lock → Bool) → Shows old v → cookies ≡ cookies_of (filter test v.granted)
      → Shows new (turn v (blocks v (filter test v.granted)))
