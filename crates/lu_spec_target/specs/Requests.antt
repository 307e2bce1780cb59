-- Request numbers, cancels, and what became of a lock, while the target serves (Lustre Operations Manual, recovery: a
-- request that comes again is answered from the kept reply; Wang et al., Understanding Lustre Filesystem Internals, the lock
-- manager: cancels).
use Rattle.std.specs.Prelude.{Bool, true, false, nat_lt, ◌==◌, if◌then◌else◌, List, [], ◌∷◌, Option, Some, None}
use Rattle.lu_base.specs.declared.ids.At.{At}
use Rattle.lu_base.specs.declared.ids.Cookie.{Cookie}
use Rattle.lu_base.specs.declared.ids.Who.{Who}
use Rattle.lu_base.specs.declared.locks.Lock.{Lock}
use Rattle.lu_msg.specs.declared.messages.Reply.{Reply as ReplyTo}
use Rattle.lu_msg.specs.declared.messages.Request.{Request as RequestOf}
use Rattle.lu_spec_entries.specs.Carried.{Slot}
use Rattle.lu_spec_entries.specs.Words.{Entry, Release, Enters}
use Rattle.lu_spec_target.specs.Lives.{slot_in}
use Rattle.lu_spec_target.specs.States.{Target, is_names, follow}
use Rattle.lu_spec_target.specs.Replies.{row_kept}
use Rattle.lu_spec_target.specs.Names.{names_go}
use Rattle.lu_spec_target.specs.Queues.{grant_message, queue_goes}
use Rattle.lu_spec_target.specs.Glimpses.{glimpses_of, glimpses_end}
use Rattle.lu_spec_target.specs.Objects.{objects_go, lock_of}

-- ---- a request: its number against that of the newest one taken of its life and tag

abbrev pub goes : At → RequestOf → Target → List Entry
goes at r v = if is_names v then names_go at v else objects_go v at r r.op

abbrev pub row_enters : Target → At → RequestOf → List Entry
row_enters v at r = follow v (Enters r ∷ []) (goes at r)

-- a number above it is new; that one is answered again once it acted; one below does nothing
abbrev pub by_number : Target → At → RequestOf → Option ReplyTo → (above same : Bool) → List Entry
by_number v at r kept true same = row_enters v at r
by_number v at r kept false true = row_kept v kept
by_number v at r kept false false = []

abbrev pub by_slot : Target → At → RequestOf → Slot → List Entry
by_slot v at r slot = by_number v at r slot.reply (nat_lt slot.taken r.xid.0) (slot.taken == r.xid.0)

abbrev pub row_request : Target → At → RequestOf → List Entry
row_request v at r = by_slot v at r (slot_in v.slots r.who r.tag)

-- ---- a cancel of a lock that is granted to its sender: its release, the answers to those who asked its holder, and then
-- the lock's queue, or the list of requests

abbrev pub goes_on : Lock → At → Target → List Entry
goes_on l at v = if is_names v then names_go at v else queue_goes l.resource v

abbrev pub releases : At → Lock → Target → List Entry
releases at l v = Release l ∷ glimpses_end at (glimpses_of l v.glimpses) v

abbrev pub row_cancels : Target → At → Option Lock → List Entry
row_cancels v at None = []
row_cancels v at (Some l) = follow v (releases at l v) (goes_on l at)

abbrev pub row_cancel : Target → At → Who → Cookie → List Entry
row_cancel v at who cookie = row_cancels v at (lock_of who cookie v.granted)

-- ---- what became of a lock on an object: where it is granted to the sender, its grant once more

abbrev pub row_finds : Target → Option Lock → List Entry
row_finds v None = []
row_finds v (Some l) = if is_names v then [] else grant_message v l ∷ []

abbrev pub row_where : Target → Who → Cookie → List Entry
row_where v who cookie = row_finds v (lock_of who cookie v.granted)
