-- What an entry of a client's rows on bytes rests on, over its state just before it.
use Rattle.std.specs.Prelude.{◌≡◌, ◌⊎◌, ℕ, ◌+◌, ◌-◌, ◌*◌, ◌<◌, ◌≤◌, min, true, false, List, [], ◌∷◌, length, map, Option, Some}
use Rattle.lu_base.specs.declared.ids.At.{At}
use Rattle.lu_base.specs.declared.ids.Cookie.{Cookie}
use Rattle.lu_base.specs.declared.ids.Node.{Node}
use Rattle.lu_base.specs.declared.ids.Node.TheVariants.{Target}
use Rattle.lu_base.specs.declared.ids.Who.{Who}
use Rattle.lu_base.specs.declared.locks.Extent.{Extent}
use Rattle.lu_base.specs.declared.locks.Lock.{Lock}
use Rattle.lu_base.specs.declared.locks.Mode.TheVariants.{PW}
use Rattle.lu_base.specs.declared.locks.Policy.TheVariants.{Range}
use Rattle.lu_base.specs.declared.locks.Resource.{Resource}
use Rattle.lu_layout.specs.Raid0.{stripe_of, offset_of}
use Rattle.lu_layout.specs.Sound.{IsLayout}
use Rattle.lu_lock.specs.Overlap.{extents_meet}
use Rattle.lu_msg.specs.declared.answers.Answer.{Answer}
use Rattle.lu_msg.specs.declared.answers.Answer.TheVariants as answer
use Rattle.lu_msg.specs.declared.messages.Message.{Message}
use Rattle.lu_msg.specs.declared.messages.Message.TheVariants as message
use Rattle.lu_msg.specs.declared.operations.Op.{Op}
use Rattle.lu_msg.specs.declared.operations.Op.TheVariants as op
use Rattle.lu_held.specs.declared.locks.HeldLock.{HeldLock}
use Rattle.lu_held.specs.Locks.{reaches_end, holds_offset}
use Rattle.lu_spec_machine.specs.Places.{is_in}
use Rattle.lu_spec_entries.specs.declared.changes.Flush.{Flush}
use Rattle.lu_spec_entries.specs.declared.changes.Flush.TheVariants.{Cut, Put}
use Rattle.lu_spec_entries.specs.declared.uses.Using.{Using}
use Rattle.lu_spec_entries.specs.Carried.{Kind, Narrow, Wide, Work}
use Rattle.lu_spec_entries.specs.Words.{Entry, Send, Drop, Told, Queues, Stands, Changes, WritesBack, Shows}
use Rattle.lu_spec_client.specs.Bytes.{page_size}
use Rattle.lu_spec_client.specs.Stripes.{below_on, stripes}
use Rattle.lu_spec_client.specs.Looks.{size_under, is_there, end_under, content, file_size, shown_under}
use Rattle.lu_spec_client.specs.Wants.{wants_of}
use Rattle.lu_spec_client.specs.Patches.{Patch, Flying, CutFlies, BytesFly, next_flush, has_change, in_flight}
use Rattle.lu_spec_client.specs.Imports.{is_serving, import_of}
use Rattle.lu_spec_client.specs.Caches.{patch_at, bytes_at}
use Rattle.lu_spec_client.specs.States.{Client, after, turn}
use Rattle.lu_proof_bytes.specs.Object.Words.{changes, covers, within}
use Rattle.lu_proof_bytes.specs.Object.Folds.{cut_below, touched}
use Rattle.lu_proof_objects.specs.Points.{change_of, dirty_at, lock_at}
use Rattle.lu_proof_objects.specs.Alike.{Carries}
use Rattle.lu_proof_objects.specs.Sound.{In, Writer, Asked, names, writes_to, IsSoundAt, IsSound}
use Rattle.lu_proof_objects.specs.Uses.{IsUsed, IsStage}

-- ---- a lock is given up

-- nothing of the patch lies under the lock, nor right behind a byte under it
pub record IsClean (l : Lock) (extent : Extent) (patch : Patch) : Type 0 where
  pub changes : has_change extent patch ≡ false
  pub touched : (life p : ℕ) → covers (lock_at l.cookie.0 life l.ask.mode extent) p ≡ true → touched patch.pending (dirty_at patch p) p
      ≡ false

-- a held lock that is called back and not pinned, where its target serves; nothing that is asked of the target names it, and it is clean
pub record DropOk (k : Client) (t : ℕ) (l : Lock) : Type 0 where
  pub lock : HeldLock
  pub held : In lock k.store.held
  pub target : lock.target.0 ≡ t
  pub same : lock.lock ≡ l
  pub called : lock.marked ≡ true
  pub unpinned : lock.pins ≡ 0
  pub serves : is_serving (import_of t k.imports).standing ≡ true
  pub unused : (o : Op) → Asked k.imports t o → names o l.cookie ≡ false
  pub clean : (extent : Extent) → l.ask.policy ≡ Range extent → IsClean l extent (patch_at l.resource k.store.patches)

-- it is given back in the name of the life and the known boot, while no lock of that cookie is held and nothing names one
pub record CancelOk (k : Client) (t : ℕ) (w : Who) (b : ℕ) (c : Cookie) : Type 0 where
  pub who : w ≡ k.who
  pub boot : b ≡ (import_of t k.imports).boot
  pub gone : (h : HeldLock) → In h k.store.held → h.target.0 ≡ t → h.lock.cookie.0 ≡ c.0 → ⊥
  pub unused : (o : Op) → Asked k.imports t o → names o c ≡ false

-- ---- a change is written back

-- bytes of the patch, and no cut to their positions or a lower one is pending; or the pending cut
abbrev pub IsFlush : Patch → Flush → Type 0
IsFlush patch (Put at bytes) = ((p : ℕ) → within at bytes p ≡ true → cut_below patch.pending p ≡ false) × Carries patch (Put at bytes)
IsFlush patch (Cut size) = patch.pending ≡ Some size

-- the change goes under this held lock for writing, which covers all that it may change; and no other of its object is asked of a target
pub record IsBack (k : Client) (h : HeldLock) (extent : Extent) (change : Flush) : Type 0 where
  pub held : In h k.store.held
  pub mode : h.lock.ask.mode ≡ PW
  pub range : h.lock.ask.policy ≡ Range extent
  pub covered : (life p : ℕ) → changes (change_of change) p ≡ true → covers (lock_at h.lock.cookie.0 life h.lock.ask.mode extent) p ≡ true
  pub flush : IsFlush (patch_at h.lock.resource k.store.patches) change
  pub none : (t : ℕ) (o : Op) → Asked k.imports t o → writes_to h.lock.resource o ≡ false

-- it is taken from the patch: it is the next under the lock, and nothing is under way
pub record TakesOk (k : Client) (r : Resource) (change : Flush) : Type 0 where
  pub lock : HeldLock
  pub extent : Extent
  pub object : lock.lock.resource ≡ r
  pub back : IsBack k lock extent change
  pub next : next_flush extent (patch_at r k.store.patches) ≡ Some change
  pub alone : in_flight (patch_at r k.store.patches) ≡ false

abbrev pub flying_of : Flush → Flying
flying_of (Put at bytes) = BytesFly
flying_of (Cut size) = CutFlies size

-- it is queued to the lock's target, under the lock's cookie: it was taken, and is what is under way
pub record BackOk (k : Client) (t : ℕ) (c : Cookie) (r : Resource) (change : Flush) : Type 0 where
  pub lock : HeldLock
  pub extent : Extent
  pub target : lock.target.0 ≡ t
  pub cookie : lock.lock.cookie ≡ c
  pub object : lock.lock.resource ≡ r
  pub back : IsBack k lock extent change
  pub flies : (patch_at r k.store.patches).flight ≡ Some (flying_of change)

-- ---- a call on bytes

-- a change is made under a held lock for writing in use, which covers all that it may change
pub record ChangeOk (k : Client) (r : Resource) (change : Flush) : Type 0 where
  pub under : Writer k.store.held r (λ x. (life p : ℕ) → changes (change_of change) p ≡ true → covers (lock_at 0 life PW x) p ≡ true)
  pub pinned : 0 < under.lock.pins

-- the offset that is shown lies under the held lock of that cookie
pub record ShowOk (k : Client) (r : Resource) (c : Cookie) (last : ℕ) : Type 0 where
  pub under : Writer k.store.held r (λ x. is_in x last ≡ true)
  pub cookie : under.lock.lock.cookie ≡ c

-- a page is asked for under a held lock in use that meets it
abbrev pub page_extent : ℕ → Extent
page_extent page = record { first = page * page_size; last = page * page_size + (page_size - 1) }

pub record GetOk (k : Client) (t : ℕ) (r : Resource) (c : Cookie) (page : ℕ) : Type 0 where
  pub lock : HeldLock
  pub held : In lock k.store.held
  pub target : lock.target.0 ≡ t
  pub cookie : lock.lock.cookie ≡ c
  pub object : lock.lock.resource ≡ r
  pub pinned : 0 < lock.pins
  pub extent : Extent
  pub range : lock.lock.ask.policy ≡ Range extent
  pub meets : extents_meet extent (page_extent page) ≡ true

-- what a call is told under its locks: these are all that it wants, and each is in use
pub record IsTold (k : Client) (w : Work) : Type 0 where
  pub used : (u : Using) → In u w.used → IsUsed k.store.held u
  pub wants : map (λ (u : Using). u.want) w.used ≡ wants_of w.layout w.fid w.kind
  pub layout : IsLayout w.layout

-- each of its locks reaches the end
abbrev pub ReachEnds : Work → Type 0
ReachEnds w = (u : Using) → In u w.used → reaches_end u.lock.ask.policy ≡ true

-- the bytes of a read are those that the client takes the positions for: its own change over what is known. On each stripe each of its
-- offsets, up to the object's size where the lock reaches the end, is known or the client's own
pub record IsRead (k : Client) (w : Work) (p n count : ℕ) (bs : List ℕ) : Type 0 where
  pub told : IsTold k w
  pub bytes : bs ≡ content w.layout w.fid k.store p count
  pub there : (u : Using) (q : ℕ) → In u w.used → below_on w.layout u.want.resource.stripe p ≤ q
      → q < end_under u.lock (below_on w.layout u.want.resource.stripe (p + n)) k.store
      → is_there (bytes_at u.lock.resource k.store.bytes) (patch_at u.lock.resource k.store.patches).dirty q ≡ true

-- the object reaches past the offset: by the size under the lock in use, or a byte at or past it was shown under a held lock over it that
-- doesn't reach the end
abbrev pub Reaches : Client → Using → ℕ → Type 0
Reaches k u q =
    ((reaches_end u.lock.ask.policy ≡ true) × (q < size_under u.lock k.store))
    ⊎ ((h : HeldLock) × In h k.store.held × (h.lock.resource ≡ u.want.resource) × (holds_offset q h.lock.ask.policy ≡ true)
    × (reaches_end h.lock.ask.policy ≡ false) × (shown_under q k.store h.lock ≡ true))

abbrev pub HasReached : Client → Work → ℕ → Type 0
HasReached k w e = (u : Using) × In u w.used × (u.want.resource.stripe ≡ stripe_of w.layout e) × Reaches k u (offset_of w.layout e)

-- a read to the end is told the bytes up to the file's size; a narrow one all that it asked for, where the last of them was reached
abbrev pub ReadOk : Client → Kind → Work → List ℕ → Type 0
ReadOk k (Wide p n) w bytes = IsRead k w p n (min n (file_size w.layout (stripes w.layout) w.used k.store - p)) bytes × ReachEnds w
ReadOk k (Narrow p n) w bytes = IsRead k w p n n bytes × HasReached k w (p + n - 1)
ReadOk k _ w bytes = ⊥

abbrev pub SizeOk : Client → Work → ℕ → Type 0
SizeOk k w size = IsTold k w × ReachEnds w × (size ≡ file_size w.layout (stripes w.layout) w.used k.store)

abbrev pub TellOk : Client → Answer → Option Work → Type 0
TellOk k (answer.Content bytes) (Some w) = ReadOk k w.kind w bytes
TellOk k (answer.FileSize fid mode links size) (Some w) = SizeOk k w size
TellOk k a work = Unit {0}

-- ---- all

abbrev pub SendOk : Client → Node → Message → Type 0
SendOk k (Target t) (message.Cancel who boot cookie) = CancelOk k t who boot cookie
SendOk k to m = Unit {0}

abbrev pub QueueOk : Client → ℕ → Op → Type 0
QueueOk k t (op.Put r cookie at bytes) = BackOk k t cookie r (Put at bytes)
QueueOk k t (op.Cut r cookie size) = BackOk k t cookie r (Cut size)
QueueOk k t (op.Get r cookie page) = GetOk k t r cookie page
QueueOk k t _ = Unit {0}

abbrev pub ClientOk : Client → At → Entry → Type 0
ClientOk k at (Drop t l) = DropOk k t l
ClientOk k at (Send to m) = SendOk k to m
ClientOk k at (WritesBack r change) = TakesOk k r change
ClientOk k at (Queues t q) = QueueOk k t q.op
ClientOk k at (Changes r change) = ChangeOk k r change
ClientOk k at (Shows r cookie last) = ShowOk k r cookie last
ClientOk k at (Stands slot r) = IsStage k.store.held r.pins r.stage
ClientOk k at (Told slot acted a work) = TellOk k a work
ClientOk k at _ = Unit {0}

-- ---- what stands right before an entry

-- a write-back is queued right after it was taken, and a lock given back right after it was given up
abbrev pub QueuesAfter : Option Entry → Op → Type 0
QueuesAfter before (op.Put r cookie at bytes) = before ≡ Some (WritesBack r (Put at bytes))
QueuesAfter before (op.Cut r cookie size) = before ≡ Some (WritesBack r (Cut size))
QueuesAfter before _ = Unit {0}

abbrev pub SendsAfter : Option Entry → Node → Message → Type 0
SendsAfter before (Target t) (message.Cancel who boot cookie) = (l : Lock) × (before ≡ Some (Drop t l)) × (l.cookie ≡ cookie)
SendsAfter before to m = Unit {0}

abbrev pub Follows : Option Entry → Entry → Type 0
Follows before (Queues t q) = QueuesAfter before q.op
Follows before (Send to m) = SendsAfter before to m
Follows before (Shows r cookie last) = (first : ℕ) × (b : ℕ) × (bs : List ℕ) × (before ≡ Some (Changes r (Put first (b ∷ bs))))
    × (last ≡ first + length bs)
Follows before _ = Unit {0}

-- each entry, at the state that the entries before it have left
abbrev pub Each : At → Option Entry → Client → List Entry → Type 0
Each at before k [] = Unit {0}
Each at before k (e ∷ es) = ClientOk k at e × Follows before e × Each at (Some e) (after k e) es

-- these entries rest on what they have to, and leave a state of which the same holds
pub record Goes (at : At) (before : Option Entry) (k : Client) (es : List Entry) : Type 0 where
  pub each : Each at before k es
  pub sound : IsSound (turn k es)

-- the same of the rows of a call on bytes, but for what they say of gets: that each is asked under a pinned lock
pub record CallGoes (at : At) (before : Option Entry) (k : Client) (es : List Entry) : Type 0 where
  pub each : Each at before k es
  pub sound : IsSoundAt (turn k es)
