-- What a target has asked of the holders of its locks, as its callbacks keep it and as the rows read it.
use Rattle.std.specs.Prelude.{◌≡◌, ◌==◌, ◌&&◌, if◌then◌else◌, not, Bool, true, false, List, [], ◌∷◌, ◌++◌, map, filter, Option, Some, None}
use Rattle.std.specs.List.{list_any}
use Rattle.lu_base.specs.declared.ids.Cookie.{Cookie}
use Rattle.lu_base.specs.declared.ids.Who.{Who}
use Rattle.lu_base.specs.declared.ids.Xid.{Xid}
use Rattle.lu_base.specs.declared.locks.Lock.{Lock}
use Rattle.lu_callback.specs.declared.callbacks.Asked.{Asked}
use Rattle.lu_callback.specs.declared.callbacks.Kind.{Kind}
use Rattle.lu_callback.specs.declared.callbacks.Kind.TheVariants as kind
use Rattle.lu_callback.specs.Callbacks.{is_block, is_outstanding, IsSound}
use Rattle.lu_spec_machine.specs.Footprint.{Every}
use Rattle.lu_msg.specs.declared.messages.Message.TheVariants as message
use Rattle.lu_spec_entries.specs.Carried.{Called, Glimpse}
use Rattle.lu_spec_entries.specs.Words.{Entry, same_life}
use Rattle.lu_spec_target.specs.Lives.{is_life, with_life}
use Rattle.lu_spec_target.specs.Replies.{to_life}
use Rattle.lu_spec_target.specs.States.{Target}
use Rattle.lu_target_refines.specs.Cookies.{with_cookie}

-- ---- blocks

-- a lock that was called back, as its block is kept
abbrev pub block_of : Called → Asked
block_of c = record { cookie = c.cookie; kind = kind.Block; tick = c.since }

abbrev pub is_block_on : Cookie → Asked → Bool
is_block_on cookie a = a.cookie.0 == cookie.0 && is_block a.kind

abbrev pub is_call_of : Cookie → Called → Bool
is_call_of cookie c = c.cookie.0 == cookie.0

-- the blocks that are outstanding of a lock: one at most
abbrev pub blocked : Cookie → List Asked → List Asked
blocked cookie asked = filter (is_block_on cookie) asked

-- ---- glimpses

-- whom and which request a glimpse is for
abbrev pub glimpse_kind : Glimpse → Kind
glimpse_kind g = kind.Glimpse g.request.who g.request.xid

abbrev pub is_glimpse_on : Cookie → Asked → Bool
is_glimpse_on cookie a = a.cookie.0 == cookie.0 && not (is_block a.kind)

abbrev pub is_on : Cookie → Glimpse → Bool
is_on cookie g = g.cookie.0 == cookie.0

-- the kinds of what is outstanding of one lock, but for its block
abbrev pub glimpsed : Cookie → List Asked → List Kind
glimpsed cookie asked = map {A = Asked} {B = Kind} (λ a. a.kind) (filter (is_glimpse_on cookie) asked)

-- it is that of this lock for the request of this life and number
abbrev pub is_glimpse : Cookie → Who → Xid → Glimpse → Bool
is_glimpse cookie who xid g = g.cookie.0 == cookie.0 && (same_life g.request.who who && g.request.xid.0 == xid.0)

-- ---- holders

-- it is the lock that was called back, and the life that has it
abbrev pub holds : Called → Lock → Bool
holds c l = l.cookie.0 == c.cookie.0 && same_life l.ask.who c.who

abbrev pub is_of_lock : Cookie → Lock → Bool
is_of_lock cookie l = l.cookie.0 == cookie.0

-- ---- both together

pub record Shows (asked : List Asked) (cs : List Called) (gs : List Glimpse) (locks : List Lock) : Type 0 where
  pub sound : IsSound asked
  -- each lock that was called back has its block, as it was asked first, and no other has one
  pub blocks : (cookie : Cookie) → blocked cookie asked ≡ map {A = Called} {B = Asked} block_of (filter (is_call_of cookie) cs)
  -- the glimpses of one lock, in the order in which they were made
  pub glimpses : (cookie : Cookie) → glimpsed cookie asked ≡ map {A = Glimpse} {B = Kind} glimpse_kind (filter (is_on cookie) gs)
  -- the holder of a lock that was called back is its life
  pub holders : Every (λ c. list_any (holds c) locks ≡ true) cs
  pub granted : Every (λ g. list_any (is_of_lock g.cookie) locks ≡ true) gs

abbrev pub ShowsCalls : List Asked → Target → Type 0
ShowsCalls asked v = Shows asked v.called v.glimpses v.granted

-- ---- the lives of locks

abbrev pub has_life : Who → Option Lock → Bool
has_life who None = false
has_life who (Some l) = same_life who l.ask.who

abbrev pub with_holder : Option Lock → List Who → List Who
with_holder None lives = lives
with_holder (Some l) lives = with_life l.ask.who lives

-- those of these cookies, in order, each once
abbrev pub holders_of : List Lock → List Cookie → List Who
holders_of locks [] = []
holders_of locks (cookie ∷ cookies) = with_holder (with_cookie cookie locks) (holders_of locks cookies)

-- the locks of some lives
abbrev pub is_theirs : List Who → Lock → Bool
is_theirs gone l = is_life l.ask.who gone

abbrev pub cookies_of : List Who → List Lock → List Cookie
cookies_of gone locks = map {A = Lock} {B = Cookie} (λ l. l.cookie) (filter (is_theirs gone) locks)

-- ---- what is sent again

abbrev pub message_of : Target → Kind → Lock → Entry
message_of w kind.Block l = to_life l.ask.who (message.Block l.ask.who w.boot l.cookie)
message_of w (kind.Glimpse who xid) l = to_life l.ask.who (message.Ask l.ask.who w.boot l.cookie who xid)

abbrev pub sent_to : Target → Kind → Option Lock → List Entry
sent_to w k None = []
sent_to w k (Some l) = message_of w k l ∷ []

-- all of this that is outstanding still, in its order
abbrev pub sent_again : Target → (now : List Asked) → List Asked → List Entry
sent_again w now [] = []
sent_again w now (a ∷ before) =
    (if is_outstanding a.cookie a.kind now then sent_to w a.kind (with_cookie a.cookie w.granted) else []) ++ sent_again w now before
