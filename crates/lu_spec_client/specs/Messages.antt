-- What a message of a target brings about. A message of another life, or a reply or grant of another boot than the known
-- one, is only taken; so is whatever isn't listed.
use Rattle.std.specs.Prelude.{ℕ, zero, suc, ◌+◌, ◌-◌, ◌*◌, min, max, nat_lt, ◌==◌, ◌&&◌, if◌then◌else◌, Bool, true, false, List, [], ◌∷◌}
use Rattle.std.specs.Prelude.{◌++◌, length, drop, Option, Some, None}
use Rattle.lu_base.specs.declared.ids.At.{At}
use Rattle.lu_base.specs.declared.ids.Cookie.{Cookie}
use Rattle.lu_base.specs.declared.ids.Node.{Node}
use Rattle.lu_base.specs.declared.ids.Node.TheVariants.{Client as FromClient, Target}
use Rattle.lu_base.specs.declared.ids.Who.{Who}
use Rattle.lu_base.specs.declared.ids.Xid.{Xid}
use Rattle.lu_base.specs.declared.locks.Extent.{Extent}
use Rattle.lu_base.specs.declared.locks.Lock.{Lock}
use Rattle.lu_base.specs.declared.locks.Mode.{Mode}
use Rattle.lu_base.specs.declared.locks.Mode.TheVariants.{PW}
use Rattle.lu_base.specs.declared.locks.Policy.{Policy}
use Rattle.lu_base.specs.declared.locks.Policy.TheVariants.{Range}
use Rattle.lu_base.specs.declared.locks.Resource.{Resource}
use Rattle.lu_msg.specs.declared.answers.Answer.{Answer}
use Rattle.lu_msg.specs.declared.answers.Answer.TheVariants as answer
use Rattle.lu_msg.specs.declared.messages.Message.{Message}
use Rattle.lu_msg.specs.declared.messages.Message.TheVariants as message
use Rattle.lu_msg.specs.declared.messages.Reply.{Reply as ReplyTo}
use Rattle.lu_msg.specs.declared.messages.GrantNotice.{GrantNotice}
use Rattle.lu_msg.specs.declared.operations.Op.{Op}
use Rattle.lu_msg.specs.declared.operations.Op.TheVariants as op
use Rattle.lu_held.specs.declared.locks.HeldLock.{HeldLock}
use Rattle.lu_held.specs.declared.locks.Use.{Use}
use Rattle.lu_held.specs.declared.names.LockName.{LockName}
use Rattle.lu_held.specs.Locks.{named, is_named, reaches_end}
use Rattle.lu_held.specs.Held.{is_held}
use Rattle.lu_spec_machine.specs.Fits.{answer_fits}
use Rattle.lu_spec_entries.specs.declared.changes.Flush.TheVariants.{Cut, Put}
use Rattle.lu_spec_entries.specs.Carried.{Flight, Work, Stage, Looks, Enqueued, Waits, Came, Gets, Running}
use Rattle.lu_spec_entries.specs.Words.{Entry, Send, Heard, Hold, Peek, Settles, Stands, Marks, Learns, Acks, Fills, Zeroes, Grown, Shows}
use Rattle.lu_spec_entries.specs.Words.{same_life}
use Rattle.lu_spec_client.specs.Bytes.{page_size}
use Rattle.lu_spec_client.specs.Imports.{import_of}
use Rattle.lu_spec_client.specs.Calls.{call_on}
use Rattle.lu_spec_client.specs.Caches.{brought}
use Rattle.lu_spec_client.specs.States.{Client, Store, follow}
use Rattle.lu_spec_client.specs.Looks.{size_under}
use Rattle.lu_spec_client.specs.Advances.{at_stage}
use Rattle.lu_spec_client.specs.Recovery.{up, ready, evicted}

-- ---- the call that a request serves

abbrev pub on_running : (ℕ → Running → Stage → List Entry) → ℕ → Option Running → List Entry
on_running stands slot None = []
on_running stands slot (Some r) = stands slot r r.stage

abbrev pub on_slot : (ℕ → Running → Stage → List Entry) → Option ℕ → Client → List Entry
on_slot stands None k = []
on_slot stands (Some slot) k = on_running stands slot (call_on slot k.calls)

-- ---- a reply's locks

-- the object's size comes with a granted lock
abbrev pub size_with : Answer → Option ℕ
size_with (answer.Granted cookie extent size) = Some size
size_with _ = None

abbrev pub holds : ℕ → Option ℕ → List ℕ → List Lock → List Entry
holds t size seen [] = []
holds t size seen (l ∷ locks) = Hold t l false size seen ∷ holds t size seen locks

-- what the answer told is known under the locks that came with it
abbrev pub learns : ℕ → Op → Answer → List Lock → List Entry
learns t o a [] = []
learns t o a (l ∷ locks) = Learns t o a (l ∷ locks) ∷ []

-- ---- the answer to an enqueue

abbrev pub waiting_lock : Who → Cookie → Use → Lock
waiting_lock who cookie wanted = record {
  cookie = cookie;
  resource = wanted.resource;
  ask =
      record { who = who; mode = wanted.mode; policy = wanted.policy };
}

-- the lock that a call asked for came with the reply, or waits
abbrev pub lock_heard : Who → ℕ → Running → Work → Answer → List Lock → List Use → List Entry
lock_heard who slot r w a (l ∷ locks) wants = Stands slot (at_stage r (Came w l)) ∷ []
lock_heard who slot r w (answer.Waiting cookie) [] (wanted ∷ left) =
    Stands slot (at_stage r (Waits w wanted.target (waiting_lock who cookie wanted) false)) ∷ []
lock_heard who slot r w a [] wants = []

abbrev pub enqueue_heard : Who → Answer → List Lock → ℕ → Running → Stage → List Entry
enqueue_heard who a locks slot r (Enqueued w) = lock_heard who slot r w a locks w.left
enqueue_heard who a locks slot r stage = []

-- ---- the answer to a get: the bytes of the page that lie under the lock, the absent ones 0; the last byte of the content
-- is shown

abbrev pub padded : List ℕ → ℕ → List ℕ
padded bs zero = []
padded [] (suc n) = 0 ∷ padded [] n
padded (b ∷ bs) (suc n) = b ∷ padded bs n

abbrev pub part_first : ℕ → Extent → ℕ
part_first page extent = max extent.first (page * page_size)

abbrev pub part_count : ℕ → Extent → ℕ
part_count page extent = min extent.last (page * page_size + (page_size - 1)) + 1 - part_first page extent

abbrev pub fills : Resource → ℕ → List ℕ → Extent → Entry
fills resource page bs extent = Fills resource (part_first page extent)
    (padded (drop (part_first page extent - page * page_size) bs) (part_count page extent))

abbrev pub shows : Resource → Cookie → ℕ → List ℕ → List Entry
shows resource cookie page [] = []
shows resource cookie page (b ∷ bs) = Shows resource cookie (page * page_size + length bs) ∷ []

abbrev pub held_as : LockName → List HeldLock → Option Lock
held_as name [] = None
held_as name (h ∷ held) = if is_named name h then Some h.lock else held_as name held

abbrev pub page_under : Resource → Cookie → ℕ → List ℕ → Policy → List Entry
page_under resource cookie page bs (Range extent) = shows resource cookie page bs ++ fills resource page bs extent ∷ []
page_under resource cookie page bs _ = []

abbrev pub page_heard : Resource → Cookie → ℕ → List ℕ → Option Lock → List Entry
page_heard resource cookie page bs None = []
page_heard resource cookie page bs (Some l) = page_under resource cookie page bs l.ask.policy

-- the call looks again, from the first stripe and page
abbrev pub looks_again : ℕ → Running → Stage → List Entry
looks_again slot r (Gets w) = Stands slot (at_stage r (Looks w)) ∷ []
looks_again slot r stage = []

-- ---- what a heard answer makes of the client, by the operation that it answers

abbrev pub heeds : ℕ → Flight → Op → ReplyTo → Answer → Client → List Entry
heeds t f (op.Enqueue resource mode extent) r a k = on_slot (enqueue_heard k.who a (brought f.op r)) f.slot k
heeds t f (op.Get resource cookie page) r (answer.Content bs) k =
    page_heard resource cookie page bs (held_as (named (record { 0 = t }) cookie) k.store.held) ++ on_slot looks_again f.slot k
heeds t f (op.Put resource cookie at bs) r answer.Done k = Acks resource ∷ Fills resource at bs ∷ Grown resource (Put at bs) ∷ []
heeds t f (op.Cut resource cookie n) r answer.Done k = Acks resource ∷ Zeroes resource n ∷ Grown resource (Cut n) ∷ []
heeds t f o r a k = []

abbrev pub hears_flight : ℕ → ReplyTo → Flight → Client → List Entry
hears_flight t r f k =
    follow (Heard t f r ∷ holds t (size_with r.answer) r.seen (brought f.op r) ++ learns t f.op r.answer r.locks)
    (heeds t f f.op r r.answer) k

-- a reply whose answer doesn't fit the operation is only taken
abbrev pub hears_fitting : ℕ → ReplyTo → Flight → Client → Bool → List Entry
hears_fitting t r f k true = hears_flight t r f k
hears_fitting t r f k false = []

abbrev pub find_flight : ℕ → List Flight → Option Flight
find_flight xid [] = None
find_flight xid (f ∷ flights) = if f.xid == xid then Some f else find_flight xid flights

-- the reply to a request in flight is heard
abbrev pub hears : ℕ → ReplyTo → Client → Option Flight → List Entry
hears t r k None = []
hears t r k (Some f) = hears_fitting t r f k (answer_fits f.op r.answer)

abbrev pub replied : ℕ → ReplyTo → Client → Bool → List Entry
replied t r k true = hears t r k (find_flight r.xid.0 (import_of t k.imports).flights)
replied t r k false = []

-- ---- a waiting lock

-- the slot whose call waits for this lock
abbrev pub waits_for : LockName → Stage → Bool
waits_for name (Waits w target l marked) = target.0 == name.target.0 && l.cookie.0 == name.cookie.0
waits_for name _ = false

abbrev pub is_waiter : LockName → Option Running → Bool
is_waiter name None = false
is_waiter name (Some r) = waits_for name r.stage

abbrev pub waiter : LockName → ℕ → List (Option Running) → Option ℕ
waiter name slot [] = None
waiter name slot (r ∷ calls) = if is_waiter name r then Some slot else waiter name (slot + 1) calls

abbrev pub granted_as : Lock → Extent → Lock
granted_as l extent = record {
  cookie = l.cookie;
  resource = l.resource;
  ask =
      record { who = l.ask.who; mode = l.ask.mode; policy = Range extent };
}

-- it comes, called back or not
abbrev pub lock_granted : ℕ → GrantNotice → ℕ → Running → Stage → List Entry
lock_granted t g slot r (Waits w target l marked) =
    Hold t (granted_as l g.extent) marked (Some g.size) g.seen ∷ Settles t g.committed.0
    ∷ Stands slot (at_stage r (Came w (granted_as l g.extent))) ∷ []
lock_granted t g slot r stage = []

abbrev pub granted : ℕ → GrantNotice → Client → Bool → List Entry
granted t g k true = on_slot (lock_granted t g) (waiter (named (record { 0 = t }) g.cookie) 0 k.calls) k
granted t g k false = []

-- ---- called back: a held or waiting lock is marked; one that isn't known is cancelled, but only while no request to that
-- target is in flight (its reply could bring the lock)

abbrev pub lock_blocked : ℕ → Running → Stage → List Entry
lock_blocked slot r (Waits w target l marked) = Stands slot (at_stage r (Waits w target l true)) ∷ []
lock_blocked slot r stage = []

abbrev pub cancels_unknown : Who → LockName → ℕ → List Flight → List Entry
cancels_unknown who name boot [] = Send (Target name.target.0) (message.Cancel who boot name.cookie) ∷ []
cancels_unknown who name boot (f ∷ flights) = []

abbrev pub blocked_waiting : LockName → Client → Option ℕ → List Entry
blocked_waiting name k (Some slot) = on_slot lock_blocked (Some slot) k
blocked_waiting name k None = cancels_unknown k.who name (import_of name.target.0 k.imports).boot
    (import_of name.target.0 k.imports).flights

abbrev pub blocked_held : LockName → Client → Bool → List Entry
blocked_held name k true = Marks name ∷ []
blocked_held name k false = blocked_waiting name k (waiter name 0 k.calls)

abbrev pub blocked : LockName → Client → Bool → List Entry
blocked name k true = blocked_held name k (is_held name k.store.held)
blocked name k false = []

-- ---- a glimpse of another client: how long the object is under a PW lock to the end, where that is above the lock's start

abbrev pub size_where : ℕ → ℕ → Bool → Option ℕ
size_where first size true = if nat_lt first size then Some size else None
size_where first size false = None

abbrev pub size_told : Lock → Store → Mode → Policy → Option ℕ
size_told l s PW (Range extent) = size_where extent.first (size_under l s) (reaches_end (Range extent))
size_told l s _ _ = None

abbrev pub size_held : Store → Option Lock → Option ℕ
size_held s None = None
size_held s (Some l) = size_told l s l.ask.mode l.ask.policy

-- A glimpse, as the target asks the holder of this lock.
pub record Question : Type 0 where
  pub cookie : Cookie
  pub for_who : Who
  pub xid : Xid

abbrev pub reports : At → ℕ → Question → Who → ℕ → Option ℕ → Entry
reports at t a who boot size =
    Send (Target t) (message.Size (record {
      who = who;
      boot = boot;
      cookie = a.cookie;
      for_who = a.for_who;
      xid = a.xid;
      size = size;
      stamp = at.stamp;
    }))

abbrev pub peeks : At → ℕ → Question → Who → ℕ → Option ℕ → List Entry
peeks at t a who boot None = reports at t a who boot None ∷ []
peeks at t a who boot (Some size) = Peek t a.cookie size ∷ reports at t a who boot (Some size) ∷ []

abbrev pub asked : At → ℕ → Question → Client → Bool → List Entry
asked at t a k true = peeks at t a k.who (import_of t k.imports).boot
    (size_held k.store (held_as (named (record { 0 = t }) a.cookie) k.store.held))
asked at t a k false = []

-- ---- recovery

abbrev pub up_heard : ℕ → ℕ → Client → Bool → List Entry
up_heard t boot k true = up t boot k
up_heard t boot k false = []

abbrev pub ready_heard : ℕ → ℕ → ℕ → Client → Bool → List Entry
ready_heard t boot committed k true = ready t boot committed k
ready_heard t boot committed k false = []

abbrev pub evicted_heard : At → Client → Bool → List Entry
evicted_heard at k true = evicted at k
evicted_heard at k false = []

-- ---- all of them

abbrev pub is_present : Who → ℕ → ℕ → Client → Bool
is_present who boot t k = same_life who k.who && boot == (import_of t k.imports).boot

abbrev pub comes_from : At → ℕ → Message → Client → List Entry
comes_from at t (message.Reply r) k = replied t r k (is_present r.who r.boot t k)
comes_from at t (message.Grant g) k = granted t g k (is_present g.who g.boot t k)
comes_from at t (message.Block who boot cookie) k = blocked (named (record { 0 = t }) cookie) k (same_life who k.who)
comes_from at t (message.Ask who boot cookie for_who xid) k = asked at t (record { cookie = cookie; for_who = for_who; xid = xid }) k
    (same_life who k.who)
comes_from at t (message.Up boot) k = up_heard t boot k (nat_lt (import_of t k.imports).boot boot)
comes_from at t (message.Ready who boot committed) k = ready_heard t boot committed.0 k (is_present who boot t k)
comes_from at t (message.Evicted who boot) k = evicted_heard at k (same_life who k.who)
comes_from at t _ k = []

abbrev pub comes_by : At → Node → Message → Client → List Entry
comes_by at (Target t) m k = comes_from at t m k
comes_by at (FromClient c) m k = []
