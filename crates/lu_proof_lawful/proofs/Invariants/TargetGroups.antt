-- Groups of invariants: what was asked, done and heard, over any past, and what holds at one target.
use Rattle.std.proofs.Common.{◌≡◌, ℕ, ◌+◌, ◌<◌, ◌≤◌, Bool, true, false, List, [], ◌∷◌, Option, Some, None, ◌⊎◌}
use Rattle.std.specs.Prelude.{length, map, ◌==◌, ◌&&◌, ◌||◌, if◌then◌else◌}
use Rattle.lu_base.specs.declared.ids.Node.{Node}
use Rattle.lu_base.specs.declared.ids.Node.TheVariants.{Client, Target}
use Rattle.lu_base.specs.declared.ids.Txn.{Txn}
use Rattle.lu_base.specs.declared.ids.Who.{Who}
use Rattle.lu_base.specs.declared.ids.Cookie.{Cookie}
use Rattle.lu_base.specs.declared.locks.Lock.{Lock}
use Rattle.lu_base.specs.declared.locks.Extent.{Extent}
use Rattle.lu_base.specs.declared.locks.Mode.{Mode}
use Rattle.lu_base.specs.declared.locks.Mode.TheVariants.{PR, PW}
use Rattle.lu_base.specs.declared.locks.Policy.{Policy}
use Rattle.lu_base.specs.declared.locks.Policy.TheVariants.{Bits, Range}
use Rattle.lu_lock.specs.Conflict.{conflict}
use Rattle.lu_lock.specs.Growth.{the_end}
use Rattle.lu_msg.specs.declared.answers.Answer.{Answer}
use Rattle.lu_msg.specs.declared.answers.Answer.TheVariants as told
use Rattle.lu_msg.specs.declared.messages.GrantNotice.{GrantNotice}
use Rattle.lu_msg.specs.declared.messages.LockReplay.{LockReplay}
use Rattle.lu_msg.specs.declared.messages.Message.{Message}
use Rattle.lu_msg.specs.declared.messages.Message.TheVariants as message
use Rattle.lu_msg.specs.declared.messages.Reply.{Reply as ReplyTo}
use Rattle.lu_msg.specs.declared.messages.Request.{Request as RequestOf}
use Rattle.lu_msg.specs.declared.operations.Op.{Op}
use Rattle.lu_msg.specs.declared.operations.Op.TheVariants as op
use Rattle.lu_spec_machine.specs.Seen.{seen}
use Rattle.lu_spec_entries.specs.Carried.{Deed, Queued, Flight, Glimpse}
use Rattle.lu_spec_entries.specs.Words.{Flies, Heard, Hold, Drop, Knows, Act, Txn as Made, Grant, Wait, Answers, Close, Restore, Line}
use Rattle.lu_proof_lawful.specs.Covered.TargetStates.{server_of, slot_of, lives_of, evicted_of, shown_of, closed_of, up_of, brought_of}
use Rattle.lu_proof_lawful.specs.Covered.TargetCloses.{is_lost, closing_of}
use Rattle.lu_proof_lawful.specs.Covered.Calls.{first_life}
use Rattle.lu_proof_lawful.specs.Covered.Imports.{Joining, Serving}
use Rattle.lu_proof_lawful.specs.Covered.ClientStates.{flights_of, last_of, known_of, life_of, tag_of, standing_of, is_own, queue_of}
use Rattle.lu_proof_lawful.specs.Covered.ClientStates.{brings_cookie, awaits_of}
use Rattle.lu_proof_lawful.specs.Covered.Heads.{Head}
use Rattle.lu_held.specs.declared.locks.HeldLock.{HeldLock}
use Rattle.lu_spec_target.specs.Lives.{is_life}
use Rattle.lu_spec_target.specs.Phase.{first_of}
use Rattle.lu_spec_target.specs.Queues.{extent_of}
use Rattle.lu_spec_target.specs.Rows.{lock_again}
use Rattle.lu_spec_client.specs.Caches.{brought, held_at}
pub use Rattle.lu_proof_lawful.proofs.Preconditions.Lists.{turn}
pub use Rattle.lu_proof_lawful.proofs.Preconditions.Asks.{CallOf, Apart, Asks}
use Rattle.lu_proof_lawful.proofs.Preconditions.Guards.{In, Was, HasRange}
pub use Rattle.lu_proof_lawful.proofs.Preconditions.Heard.{HeardAs}
use Rattle.lu_proof_lawful.proofs.Preconditions.StoryGuards.{Newer, SaidBy, IsServing, IsRecovering}
use Rattle.lu_proof_lawful.proofs.Preconditions.ClientStoryGuards.{AsksInOrder}

-- ---- what was asked, done and heard, over any past

-- that request of the life became one in flight: reads Flies
abbrev pub Flew : List Line → Who → Flight → Type 0
Flew [] who f = ⊥
Flew (l ∷ past) who f = elim l.entry [ Flies t g ↦ ((is_own who past l.at.node ≡ true) × (g ≡ f)) ⊎ Flew past who f | _ ↦ Flew past who f ]

-- that was done: reads Act, Txn, Grant, Wait and Answers
abbrev pub Acted : List Line → Deed → Type 0
Acted [] d = ⊥
Acted (l ∷ past) d =
    elim l.entry [
      | Act e ↦ (e ≡ d) ⊎ Acted past d
      | Made e ↦ (e ≡ d) ⊎ Acted past d
      | Grant lock asked ↦ (asked ≡ Some d) ⊎ Acted past d
      | Wait lock e ↦ (e ≡ d) ⊎ Acted past d
      | Answers e ↦ (e ≡ d) ⊎ Acted past d
      | _ ↦ Acted past d
    ]

-- the life heard the reply to its request of that number: reads Heard
abbrev pub Hears : List Line → Who → ℕ → Type 0
Hears [] who x = ⊥
Hears (l ∷ past) who x = elim l.entry [
  | Heard t f r ↦ ((is_own who past l.at.node ≡ true) × (f.xid ≡ x)) ⊎ Hears past who x
  | _
      ↦ Hears past who x
]

-- the life saw that number, in a reply that it heard or with a lock that it held: reads Heard and Hold
abbrev pub SawIn : List Line → Who → ℕ → Type 0
SawIn [] who n = ⊥
SawIn (l ∷ past) who n =
    elim l.entry [
      | Heard t f r ↦ ((is_own who past l.at.node ≡ true) × In n r.seen) ⊎ SawIn past who n
      | Hold t lock marked size seen ↦ ((is_own who past l.at.node ≡ true) × In n seen) ⊎ SawIn past who n
      | _ ↦ SawIn past who n
    ]

-- the locks that the life held when its client was last told a boot in it, the life's last: reads Knows
abbrev pub told_of : Who → List Line → List Lock
told_of who [] = []
told_of who (l ∷ past) =
    elim l.entry [
      | Knows t boot ↦ if is_own who past l.at.node then map {A = HeldLock} {B = Lock} (λ h. h.lock) (held_at who.client past)
          else told_of who past
      | _ ↦ told_of who past
    ]

-- ---- at one target

-- the life has a slot
abbrev pub HasSlot : ℕ → List Line → Who → Type 0
HasSlot clients past who = is_life who (lives_of clients past) ≡ true

-- it is a transaction
abbrev pub IsMade : Deed → Type 0
IsMade d = 0 < d.reply.txn.0

-- no close so far lost its number
abbrev pub Stands : ℕ → List Line → Deed → Type 0
Stands osts past d = is_lost osts past d.reply.txn.0 ≡ false

-- the slots know of it: it was done in the boot that served last, or is a transaction that stands
abbrev pub Counts : ℕ → List Line → Deed → Type 0
Counts osts past d = (d.reply.boot ≡ closed_of past) ⊎ (IsMade d × Stands osts past d)

-- the boot that served last isn't above the present one, nor is that which a client knows that is served; no client knows a boot that isn't
-- there yet; a boot has numbers left; of each client a life of its own, above 0
abbrev pub Phase : ℕ → List Line → Type 0
Phase osts past =
    record {
      closed : 1 ≤ closed_of past;
      under : closed_of past ≤ (server_of osts past).boot;
      low : 1 ≤ (server_of osts past).boot;
      count : (server_of osts past).count ≤ 4294967295;
      least : (c : ℕ) → 1 ≤ known_of c past;
      known : (c : ℕ) → known_of c past ≤ (server_of osts past).boot;
      served : (c : ℕ) → standing_of c past ≡ Serving → known_of c past ≤ closed_of past;
      client : (c : ℕ) → (life_of c past).client ≡ c;
      positive : (c : ℕ) → 1 ≤ (life_of c past).life;
    }

-- a request number of a life that was given, and its tag
abbrev pub Tagged : List Line → Who → ℕ → ℕ → Type 0
Tagged past who x tag = record { low : x ≤ last_of who past; tag : tag_of who x past ≡ tag }

-- of each life, also of one that is over
abbrev pub Numbers : List Line → Type 0
Numbers past =
    record {
      positive : (who : Who) (f : Flight) → Flew past who f → 1 ≤ f.xid;
      tagged : (who : Who) (f : Flight) → Flew past who f → Tagged past who f.xid f.tag;
      one : (who : Who) (f g : Flight) → Flew past who f → Flew past who g → f.xid ≡ g.xid → f ≡ g;
      flying : (who : Who) (f : Flight) → In f (flights_of who past) → Flew past who f;
      tags : (who : Who) (f g : Flight) → In f (flights_of who past) → In g (flights_of who past) → f.tag ≡ g.tag → f.xid ≡ g.xid;
      over : (who : Who) (x : ℕ) → Hears past who x → (x ≤ last_of who past) × ((f : Flight) → In f (flights_of who past) → f.xid ≡ x → ⊥);
      stays : (who : Who) (f : Flight) → Flew past who f → In f (flights_of who past) ⊎ Hears past who f.xid;
      after : (who : Who) (f g : Flight) → Flew past who f → Flew past who g → f.tag ≡ g.tag → f.xid < g.xid → Hears past who f.xid;
      lived : (who : Who) (f : Flight) → Flew past who f → who.life ≤ (life_of who.client past).life;
    }

-- no more requests fly than may
abbrev pub Room : Head → List Line → Type 0
Room head past = (who : Who) → length (flights_of who past) ≤ head.flight

-- a life's request in flight as a message of that boot
abbrev pub life_request : Who → ℕ → Flight → RequestOf
life_request who boot f = record { who = who; boot = boot; xid = record { 0 = f.xid }; tag = f.tag; op = f.op }

-- what was done is of a request that flew
abbrev pub FlewFor : List Line → Deed → Type 0
FlewFor past d = (f : Flight) × Flew past d.reply.who f × (f.xid ≡ d.reply.xid.0) × (f.op ≡ d.op) × (f.tag ≡ d.tag)

-- what a life's request of that number asked for was done
abbrev pub DoneFor : List Line → Who → ℕ → Type 0
DoneFor past who x = (d : Deed) × Acted past d × (d.reply.who ≡ who) × (d.reply.xid.0 ≡ x)

-- a request that was sent: of one that flew, while a boot served that isn't below its own
abbrev pub IsAsking : List Line → RequestOf → Type 0
IsAsking past r = (f : Flight) × Flew past r.who f × (r ≡ life_request r.who r.boot f) × (r.boot ≤ closed_of past)

-- A reply that was sent is to what was done, with another boot and the number committed then; and to what counts, while no window closed
-- since. What makes no transaction is told in its own boot alone.
abbrev pub RepliesTo : (osts : ℕ) → List Line → ℕ → ReplyTo → Type 0
RepliesTo osts past c k =
    record {
      deed : Deed;
      acted : Acted past deed;
      is : k ≡ record deed.reply { boot = k.boot; committed = k.committed };
      to : c ≡ k.who.client;
      boot : k.boot ≤ closed_of past;
      committed : k.committed.0 ≤ (server_of osts past).committed.0;
      own : (k.boot ≡ deed.reply.boot) ⊎ IsMade deed;
      counts : closed_of past ≤ k.boot → Counts osts past deed;
    }

-- a request of that number of the life flew
abbrev pub FlewAs : List Line → Who → ℕ → Type 0
FlewAs past who x = (f : Flight) × Flew past who f × (f.xid ≡ x)

-- a number that was seen is committed, or that of a transaction that was done
abbrev pub IsSeen : (osts : ℕ) → List Line → ℕ → Type 0
IsSeen osts past n = (n ≤ (server_of osts past).committed.0) ⊎ ((e : Deed) × Acted past e × IsMade e × (e.reply.txn.0 ≡ n))

-- what is seen with a lock that had waited was done, and stands while no window closed since its grant was told
abbrev pub Notifies : (osts : ℕ) → List Line → ℕ → GrantNotice → Type 0
Notifies osts past c g =
    record {
      to : c ≡ g.who.client;
      boot : g.boot ≤ closed_of past;
      committed : g.committed.0 ≤ (server_of osts past).committed.0;
      saw : (n : ℕ) → In n g.seen → IsSeen osts past n;
      fresh : closed_of past ≤ g.boot → (n : ℕ) → In n g.seen → is_lost osts past n ≡ false;
    }

-- what was sent is of a request that flew, or of what was done; it is from the life's client, or to it
abbrev pub Meant : (osts : ℕ) → List Line → Node → Message → Type 0
Meant osts past (Target t) (message.Request r) = IsAsking past r
Meant osts past (Client c) (message.Reply k) = RepliesTo osts past c k
Meant osts past (Client c) (message.Block who boot cookie) = Unit {0}
Meant osts past (Target t) (message.Cancel who boot cookie) = Unit {0}
Meant osts past (Target t) (message.Join who boot) = who.life ≤ (life_of who.client past).life
Meant osts past (Target t) (message.Replay r) = Unit {0}
Meant osts past (Target t) (message.Lock r) = Unit {0}
Meant osts past (Target t) (message.Word who boot replays locks seen) = Unit {0}
Meant osts past (Client c) (message.Ready who boot committed) = (boot ≤ closed_of past) × (c ≡ who.client)
    × (committed.0 ≤ (server_of osts past).committed.0)
Meant osts past (Client c) (message.Evicted who boot) = c ≡ who.client
Meant osts past (Client c) (message.Up boot) = Unit {0}
Meant osts past (Client c) (message.Grant g) = Notifies osts past c g
Meant osts past (Target t) (message.Where who boot cookie) = Unit {0}
Meant osts past (Client c) (message.Ask who boot cookie for_who xid) = (c ≡ who.client) × ((f : Flight) × Flew past who f)
    × FlewAs past for_who xid.0
Meant osts past (Target t) (message.Size m) = FlewAs past m.for_who m.xid.0
Meant osts past _ _ = ⊥

-- a request that waits to act was sent, under the boot that served last or a later one, its life has a slot, and nothing that counts was
-- done for it
abbrev pub Waits : (osts clients : ℕ) → List Line → RequestOf → Type 0
Waits osts clients past r =
    record {
      was : (from : Node) × (t : ℕ) × Was past from (Target t) (message.Request r);
      asks : IsAsking past r;
      current : closed_of past ≤ r.boot;
      has : HasSlot clients past r.who;
      taken : r.xid.0 ≡ (slot_of r.who r.tag past).taken;
      new : (d : Deed) → Acted past d → Counts osts past d → d.reply.who ≡ r.who → d.reply.xid ≡ r.xid → ⊥;
    }

-- a reply that a close made anew is never asked for: the life heard one, and all its requests of that number are of earlier boots
abbrev pub Rebuilt : List Line → Who → ReplyTo → Type 0
Rebuilt past who k = Hears past who k.xid.0 × ((from : Node) (t : ℕ) (r : RequestOf) → Was past from (Target t) (message.Request r) → r.who
    ≡ who → r.xid ≡ k.xid → r.boot < closed_of past)

-- what a slot keeps is the reply to what counts, or one that a close made anew
abbrev pub KeptFor : ℕ → List Line → Who → ℕ → ReplyTo → Type 0
KeptFor osts past who tag k = ((d : Deed) × Acted past d × (d.reply ≡ k) × (d.tag ≡ tag) × Counts osts past d) ⊎ Rebuilt past who k

-- that was done last, since the last close: reads Act, Txn, Grant, Wait, Answers and Close
abbrev pub Newest : List Line → Deed → Type 0
Newest [] d = ⊥
Newest (l ∷ past) d =
    elim l.entry [
      | Act e ↦ e ≡ d
      | Made e ↦ e ≡ d
      | Grant lock asked ↦ asked ≡ Some d
      | Wait lock e ↦ e ≡ d
      | Answers e ↦ e ≡ d
      | Close o
          ↦ ⊥
      | _ ↦ Newest past d
    ]

-- what counts was done for that number of the life
abbrev pub CountsFor : (osts : ℕ) → List Line → Who → ℕ → Type 0
CountsFor osts past who x = (d : Deed) × Acted past d × Counts osts past d × (d.reply.who ≡ who) × (d.reply.xid.0 ≡ x)

-- A boot's numbers are its own. What counts is known to the slots of the lives that have one, so that each request does one thing at most
-- that counts;
-- and beside what a life heard of that wasn't evicted stands no other transaction for the same request.
abbrev pub Done : (osts clients : ℕ) → List Line → Type 0
Done osts clients past =
    record {
      flew : (d : Deed) → Acted past d → FlewFor past d;
      boots : (d : Deed) → Acted past d → (1 ≤ d.reply.boot) × (d.reply.boot ≤ closed_of past);
      numbers : (d : Deed) → Acted past d → IsMade d → (first_of d.reply.boot < d.reply.txn.0)
          × (d.reply.txn.0 ≤ first_of d.reply.boot + 4294967295);
      bare : (d : Deed) → Acted past d → IsMade d → brought d.op d.reply ≡ [];
      plain : (d : Deed) → Acted past d → IsMade d → (k : ℕ) → brings_cookie d.op d.reply.answer k ≡ false;
      high : (d : Deed) → Acted past d → HasSlot clients past d.reply.who → Counts osts past d
          → d.reply.xid.0 ≤ (slot_of d.reply.who d.tag past).taken;
      kept : (who : Who) (tag : ℕ) (k : ReplyTo) → (slot_of who tag past).reply ≡ Some k → KeptFor osts past who tag k;
      slots : (who : Who) (tag : ℕ) (k : ReplyTo) → (slot_of who tag past).reply ≡ Some k → (k.who ≡ who)
          × (k.xid.0 ≡ (slot_of who tag past).taken);
      heard : (who : Who) (x : ℕ) → Hears past who x → DoneFor past who x;
      newest : (d : Deed) → Newest past d → d.reply.boot ≡ closed_of past;
      known : (who : Who) (x : ℕ) → Hears past who x → HasSlot clients past who → (from : Node) (t : ℕ) (r : RequestOf)
          → Was past from (Target t) (message.Request r) → r.who ≡ who → r.xid.0 ≡ x → closed_of past ≤ r.boot → CountsFor osts past who x;
      answered : (who : Who) (f : Flight) (r : ReplyTo) → HeardAs past who f r → (d : Deed) × Acted past d
          × (r ≡ record d.reply { boot = r.boot; committed = r.committed }) × (r.who ≡ who) × (f.xid ≡ d.reply.xid.0) × (f.op ≡ d.op)
          × (f.tag ≡ d.tag);
      waits : (r : RequestOf) → In r (server_of osts past).waiting → Waits osts clients past r;
      glimpses : (g : Glimpse) → In g (server_of osts past).glimpses → IsAsking past g.request;
      sent : (from to : Node) (m : Message) → Was past from to m → Meant osts past to m;
      once : (d e : Deed) → Acted past d → Acted past e → Counts osts past d → Counts osts past e → d.reply.who ≡ e.reply.who → d.reply.xid
          ≡ e.reply.xid → d ≡ e;
      alone : (who : Who) (f : Flight) (r : ReplyTo) (d e : Deed) → HeardAs past who f r → HasSlot clients past who → Acted past d → r
          ≡ record d.reply { boot = r.boot; committed = r.committed } → Acted past e → IsMade e → Stands osts past e → e.reply.who ≡ who
          → e.reply.xid ≡ d.reply.xid → e ≡ d;
      rises : (d e : Deed) → Acted past d → Acted past e → IsMade d → IsMade e → Stands osts past d → Stands osts past e → d.reply.who
          ≡ e.reply.who → d.tag ≡ e.tag → d.reply.txn.0 < e.reply.txn.0 → d.reply.xid.0 < e.reply.xid.0;
      single : (d e : Deed) → Acted past d → Acted past e → IsMade d → IsMade e → d.reply.txn ≡ e.reply.txn → d ≡ e;
    }

-- a lock that had waited was granted: reads Grant
abbrev pub Promoted : List Line → Lock → Type 0
Promoted [] l = ⊥
Promoted (x ∷ past) l = elim x.entry [
  | Grant k asked ↦ (◌≡◌ {A = Option Deed} asked None × (k ≡ l)) ⊎ Promoted past l
  | _
      ↦ Promoted past l
]

-- who asked for a lock is told to wait for that of this cookie
abbrev pub tells_wait : Op → Answer → ℕ → Bool
tells_wait (op.Enqueue resource mode extent) (told.Waiting cookie) k = cookie.0 == k
tells_wait o a k = false

-- a lock that what was done brings: those on names, or that on an object which was asked for, at once or once it had waited
abbrev pub Gave : List Line → Deed → Lock → Type 0
Gave past d l = Acted past d × (In l (brought d.op d.reply) ⊎ (Promoted past l × (tells_wait d.op d.reply.answer l.cookie.0 ≡ true)))

-- it brings a lock of that cookie, or tells who asked to wait for that
abbrev pub Names : Deed → ℕ → Type 0
Names d k = ((l : Lock) × In l d.reply.locks × (l.cookie.0 ≡ k)) ⊎ (brings_cookie d.op d.reply.answer k ≡ true)

-- a lock is for reading, on bits, or for reading or writing, on a range whose ends are in order
abbrev pub IsKind : Mode → Policy → Type 0
IsKind mode (Bits bits) = mode ≡ PR
IsKind mode (Range extent) = (extent.first ≤ extent.last) × (extent.last ≤ the_end) × ((mode ≡ PR) ⊎ (mode ≡ PW))

-- what was done answers who asked for that lock, on an object
abbrev pub AskedFor : Deed → Lock → Type 0
AskedFor d l = (extent : Extent) × (d.op ≡ op.Enqueue l.resource l.ask.mode extent)

-- the life was told to wait for the lock of that cookie, and since then it neither held it nor heard of a new boot: reads Heard, Hold and
-- Knows
abbrev pub hopes_of : Who → ℕ → List Line → Bool
hopes_of who k [] = false
hopes_of who k (l ∷ past) =
    elim l.entry [
      | Heard t f r ↦ (is_own who past l.at.node && tells_wait f.op r.answer k) || hopes_of who k past
      | Hold t lock marked size seen ↦ if is_own who past l.at.node && lock.cookie.0 == k then false else hopes_of who k past
      | Knows t boot ↦ if is_own who past l.at.node then false else hopes_of who k past
      | _ ↦ hopes_of who k past
    ]

-- the target evicted that life
abbrev pub Evicted : List Line → Who → Type 0
Evicted past who = is_life who (evicted_of past) ≡ true

-- none of them has that cookie: in what concerns one target all are of that target
abbrev pub NoneOf : Cookie → List HeldLock → Type 0
NoneOf cookie hs = (h : HeldLock) → In h hs → h.lock.cookie.0 ≡ cookie.0 → ⊥

-- the reply that brings the lock, or tells to wait for it, was heard; the client doesn't hold it, and it isn't to come
abbrev pub Dead : List Line → Deed → Lock → Type 0
Dead past d l = Hears past d.reply.who d.reply.xid.0 × NoneOf l.cookie (held_at d.reply.who.client past)
    × (hopes_of d.reply.who l.cookie.0 past ≡ false)

-- a lock of a boot before that which the client of its life knows, which isn't held, and never will be: what brings one is heard in the
-- boot that is known alone
abbrev pub Lapsed : List Line → Deed → Lock → Type 0
Lapsed past d l = (d.reply.boot < known_of d.reply.who.client past) × NoneOf l.cookie (held_at d.reply.who.client past)

-- a lock that nobody holds, nor ever will
abbrev pub IsOver : List Line → Deed → Lock → Type 0
IsOver past d l = Dead past d l ⊎ Lapsed past d l

-- what a client holds comes of a reply that its life heard, isn't to come again, and is granted still, unless that life was evicted
abbrev pub Holding : ℕ → List Line → ℕ → HeldLock → Type 0
Holding osts past c h =
    record {
      deed : Deed;
      gave : Gave past deed h.lock;
      who : deed.reply.who ≡ life_of c past;
      heard : Hears past (life_of c past) deed.reply.xid.0;
      came : hopes_of (life_of c past) h.lock.cookie.0 past ≡ false;
      granted : In h.lock (server_of osts past).granted ⊎ Evicted past (life_of c past);
    }

-- a lock that waits was asked for in the boot that serves, by a life with a slot, that was told to wait for it; it wasn't granted
abbrev pub Queueing : (osts clients : ℕ) → List Line → Lock → Type 0
Queueing osts clients past l =
    record {
      deed : Deed;
      acted : Acted past deed;
      who : l.ask.who ≡ deed.reply.who;
      tells : tells_wait deed.op deed.reply.answer l.cookie.0 ≡ true;
      asked : AskedFor deed l;
      kind : IsKind l.ask.mode l.ask.policy;
      ranged : HasRange l.ask.policy;
      boot : deed.reply.boot ≡ closed_of past;
      has : HasSlot clients past l.ask.who;
      new : (d : Deed) (k : Lock) → Gave past d k → k.cookie.0 ≡ l.cookie.0 → ⊥;
    }

-- a lock that was called back was given to that life
abbrev pub Called : List Line → ℕ → Who → Cookie → Type 0
Called past c who cookie = record {
  deed : Deed;
  lock : Lock;
  gave : Gave past deed lock;
  is : lock.cookie ≡ cookie;
  of : deed.reply.who
      ≡ who;
  to : who.client ≡ c;
}

-- a lock that is given back was given to that life, and is dead
abbrev pub GivenBack : List Line → Who → Cookie → Type 0
GivenBack past who cookie =
    record {
      deed : Deed;
      lock : Lock;
      gave : Gave past deed lock;
      is : lock.cookie ≡ cookie;
      of : deed.reply.who ≡ who;
      dead : Dead past deed lock;
    }

-- the life gave up that lock once: reads Drop
abbrev pub Gone : List Line → Who → Cookie → Type 0
Gone [] who cookie = ⊥
Gone (l ∷ past) who cookie = elim l.entry [
  | Drop target lock ↦ ((is_own who past l.at.node ≡ true) × (lock.cookie ≡ cookie))
      ⊎ Gone past who cookie
  | _ ↦ Gone past who cookie
]

-- a lock whose grant is told was given to that life on that extent
abbrev pub Notified : List Line → GrantNotice → Type 0
Notified past g =
    record {
      deed : Deed;
      lock : Lock;
      gave : Gave past deed lock;
      is : lock.cookie ≡ g.cookie;
      of : deed.reply.who ≡ g.who;
      extent : extent_of lock ≡ g.extent;
    }

-- a lock that a life awaits is named by what was done for it, of which it heard, in the boot that it knows; where that told it to wait, it
-- waits still
abbrev pub AwaitedBy : List Line → Who → ℕ → Type 0
AwaitedBy past who k =
    record {
      deed : Deed;
      acted : Acted past deed;
      of : deed.reply.who ≡ who;
      brings : brings_cookie deed.op deed.reply.answer k ≡ true;
      heard : Hears past deed.reply.who deed.reply.xid.0;
      boot : life_of who.client past ≡ who → deed.reply.boot ≡ known_of who.client past;
      hopes : tells_wait deed.op deed.reply.answer k ≡ true → hopes_of who k past ≡ true;
    }

-- Each lock that was given is granted, or is dead, or its life was evicted, or it lapsed; so is what is held, and what isn't heard yet. A
-- boot's cookies are its own, each named once, and while the target serves none is above the greatest; while it is up too, what is granted
-- was
-- shown so, or a close shows it next. Granted locks never conflict; and of two locks of one life that do, one is over. What waits wasn't
-- granted. What
-- is brought in a recovery was granted until then.
abbrev pub Locks : (osts clients : ℕ) → List Line → Type 0
Locks osts clients past =
    record {
      whose : (d : Deed) (l : Lock) → Gave past d l → l.ask.who ≡ d.reply.who;
      kinds : (d : Deed) (l : Lock) → Gave past d l → IsKind l.ask.mode l.ask.policy;
      promoted : (l : Lock) → Promoted past l → (d : Deed) × Gave past d l × (tells_wait d.op d.reply.answer l.cookie.0 ≡ true)
          × AskedFor d l × HasRange l.ask.policy;
      bare : (d : Deed) (k : ℕ) → Acted past d → tells_wait d.op d.reply.answer k ≡ true → brought d.op d.reply ≡ [];
      cookies : (d : Deed) (k : ℕ) → Acted past d → Names d k → (first_of d.reply.boot < k) × (k ≤ first_of d.reply.boot + 4294967295);
      greatest : (first_of (server_of osts past).boot ≤ (server_of osts past).cookie)
          × ((server_of osts past).cookie ≤ first_of (server_of osts past).boot + 4294967295);
      low : IsServing osts past → (d : Deed) (k : ℕ) → Acted past d → Names d k → k ≤ (server_of osts past).cookie;
      named : (d e : Deed) (k : ℕ) → Acted past d → Acted past e → Names d k → Names e k → d ≡ e;
      once : (d e : Deed) (l k : Lock) → Gave past d l → Gave past e k → l.cookie ≡ k.cookie → (d ≡ e) × (l ≡ k);
      granted : (l : Lock) → In l (server_of osts past).granted → (d : Deed) × Gave past d l;
      apart : (k l : Lock) → In k (server_of osts past).granted → In l (server_of osts past).granted → k.resource ≡ l.resource
          → (k.cookie.0 ≡ l.cookie.0 → ⊥) → conflict k.ask l.ask ≡ false;
      waits : (l : Lock) → In l (server_of osts past).queued → Queueing osts clients past l;
      held : (c : ℕ) (h : HeldLock) → In h (held_at c past) → Holding osts past c h;
      alive : (d : Deed) (l : Lock) → Gave past d l → In l (server_of osts past).granted ⊎ Dead past d l ⊎ Evicted past d.reply.who
          ⊎ Lapsed past d l;
      kin : (d e : Deed) (l k : Lock) → Gave past d l → Gave past e k → d.reply.who ≡ e.reply.who → l.resource ≡ k.resource
          → conflict l.ask k.ask ≡ true → (l ≡ k) ⊎ IsOver past d l ⊎ IsOver past e k;
      shown : IsServing osts past → up_of past ≡ true → (l : Lock) → In l (server_of osts past).granted → In l (shown_of past)
          ⊎ In (Restore l) (closing_of clients past);
      single : (who : Who) (k : ℕ) → awaits_of who k past ≤ 1;
      awaits : (who : Who) (k : ℕ) → 0 < awaits_of who k past → AwaitedBy past who k;
      blocks : (from : Node) (c : ℕ) (who : Who) (boot : ℕ) (cookie : Cookie) → Was past from (Client c) (message.Block who boot cookie)
          → Called past c who cookie;
      cancels : (from to : Node) (who : Who) (boot : ℕ) (cookie : Cookie) → Was past from to (message.Cancel who boot cookie)
          → GivenBack past who cookie;
      gone : (who : Who) (cookie : Cookie) → Gone past who cookie → GivenBack past who cookie;
      notices : (from to : Node) (g : GrantNotice) → Was past from to (message.Grant g) → Notified past g;
      relocks : (from to : Node) (r : LockReplay) → Was past from to (message.Lock r) → IsRecovering osts past
          → (server_of osts past).boot ≤ r.boot → HasSlot clients past r.who → In (lock_again r) (server_of osts past).granted;
      brought : IsRecovering osts past → (l : Lock) → In l (brought_of past) → In l (server_of osts past).granted;
    }

-- what is asked for is a lock for reading or writing, on a range whose ends are in order
abbrev pub Ranges : List Line → Type 0
Ranges past =
    record {
      queues : (who : Who) (q : Queued) → In q (queue_of who past) → AsksInOrder q.op;
      flew : (who : Who) (f : Flight) → Flew past who f → AsksInOrder f.op;
    }

-- the life has a slot at the target, or was evicted there
abbrev pub Had : ℕ → List Line → Who → Type 0
Had clients past who = (is_life who (lives_of clients past) ≡ true) ⊎ Evicted past who

-- what a life tells of itself: the boot that it knows, and its name
abbrev pub boot_told : Message → ℕ
boot_told (message.Replay r) = r.boot
boot_told (message.Lock r) = r.boot
boot_told (message.Word who boot replays locks seen) = boot
boot_told (message.Join who boot) = boot
boot_told _ = 0

abbrev pub who_told : Message → Who
who_told (message.Replay r) = r.who
who_told (message.Lock r) = r.who
who_told (message.Word who boot replays locks seen) = who
who_told (message.Join who boot) = who
who_told _ = first_life 0

-- at the target each client has one life at most that has a slot, none is newer than the client's own, and none was evicted; who is served
-- there, and who spoke to it as one that is, has a slot or was evicted; who is told that its life is over was evicted or is an older life;
-- who
-- has a slot knows the boot that served last, or a later one; a boot that a life told is known to its client; and a life that joins has
-- asked nothing
abbrev pub Lives : ℕ → List Line → Type 0
Lives clients past =
    record {
      knows : (w : Who) → HasSlot clients past w → (w.client < clients) × (closed_of past ≤ known_of w.client past);
      low : (w : Who) → Had clients past w → w.life ≤ (life_of w.client past).life;
      one : (w x : Who) → is_life w (lives_of clients past) ≡ true → is_life x (lives_of clients past) ≡ true → w.client ≡ x.client → w ≡ x;
      apart : (w x : Who) → is_life w (lives_of clients past) ≡ true → Evicted past x → w.client ≡ x.client → x.life < w.life;
      first : (c : ℕ) → c < clients → Had clients past (first_life c);
      served : (c : ℕ) → c < clients → (standing_of c past ≡ Joining → ⊥) → Had clients past (life_of c past);
      flew : (who : Who) (f : Flight) → Flew past who f → Had clients past who;
      acted : (d : Deed) → Acted past d → Had clients past d.reply.who;
      spoke : (from to : Node) (who : Who) (m : Message) → Was past from to m → SaidBy who m → Had clients past who;
      ready : (from to : Node) (who : Who) (boot : ℕ) (committed : Txn) → Was past from to (message.Ready who boot committed)
          → Had clients past who;
      over : (from to : Node) (who : Who) (boot : ℕ) → Was past from to (message.Evicted who boot) → Evicted past who
          ⊎ Newer clients past who;
      knew : (from to : Node) (m : Message) → Was past from to m → boot_told m ≤ known_of (who_told m).client past;
      joins : (from to : Node) (who : Who) (boot : ℕ) → Was past from to (message.Join who boot) → who.client < clients;
      silent : (c : ℕ) → standing_of c past ≡ Joining → (f : Flight) → Flew past (life_of c past) f → ⊥;
    }

-- a message's boot is one that the target has had
abbrev pub BootIn : ℕ → Message → Type 0
BootIn most (message.Request r) = (1 ≤ r.boot) × (r.boot ≤ most)
BootIn most (message.Reply r) = (1 ≤ r.boot) × (r.boot ≤ most)
BootIn most (message.Block who boot cookie) = (1 ≤ boot) × (boot ≤ most)
BootIn most (message.Cancel who boot cookie) = (1 ≤ boot) × (boot ≤ most)
BootIn most (message.Join who boot) = (1 ≤ boot) × (boot ≤ most)
BootIn most (message.Up boot) = (1 ≤ boot) × (boot ≤ most)
BootIn most (message.Ready who boot committed) = (1 ≤ boot) × (boot ≤ most)
BootIn most (message.Evicted who boot) = (1 ≤ boot) × (boot ≤ most)
BootIn most (message.Replay r) = (1 ≤ r.boot) × (r.boot ≤ most)
BootIn most (message.Lock r) = (1 ≤ r.boot) × (r.boot ≤ most)
BootIn most (message.Word who boot replays locks seen) = (1 ≤ boot) × (boot ≤ most)
BootIn most (message.Where who boot cookie) = (1 ≤ boot) × (boot ≤ most)
BootIn most (message.Size s) = (1 ≤ s.boot) × (s.boot ≤ most)
BootIn most (message.Grant g) = (1 ≤ g.boot) × (g.boot ≤ most)
BootIn most (message.Ask who boot cookie for_who xid) = (1 ≤ boot) × (boot ≤ most)

abbrev pub Boots : ℕ → List Line → Type 0
Boots osts past = (from to : Node) (m : Message) → Was past from to m → BootIn (server_of osts past).boot m
