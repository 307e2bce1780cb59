-- What each entry rests on, over the story before it. In an allowed story (`AllAllowed`) nothing else ever happens; that something
-- happens, or an answer ever comes, no rule says. Evictions, commits and news of a boot may come at any time.
use Rattle.std.specs.Prelude.{◌≡◌, ◌⊎◌, ℕ, suc, ◌<◌, ◌≤◌, ◌+◌, ◌&&◌, ◌||◌, Bool, true, false, nat_eq, nat_lt, List, [], ◌∷◌, Option, Some}
use Rattle.std.specs.Prelude.{None, length, min, ◌-◌}
use Rattle.lu_proof_bytes.specs.Object.Words.{Lock, Change, Write, Cut, Op, Enqueue, Get, Flush, Size, Request, Answer, Granted, Content}
use Rattle.lu_proof_bytes.specs.Object.Words.{Done, Sized, Uncovered, Message, Ask, Reply, Give, Block, Cancel, Call, Did, Saw, Entry}
use Rattle.lu_proof_bytes.specs.Object.Words.{Takes, Flies, Heard, Hold, Drop, Forgets, Tells, Grant, Wait, Promote, Acts, Txn, Release}
use Rattle.lu_proof_bytes.specs.Object.Words.{Evict, Commit, Close, Send, covers, conflict, overlay, within, value, changes}
use Rattle.lu_proof_bytes.specs.Object.Folds.{Was, closed, evicted, committed, top, Answered, HeldBy, IsGranted, IsWaiting, object}
use Rattle.lu_proof_bytes.specs.Object.Folds.{nothing_lost, also, Changed, asked, flight, awaits, WasDropped, WriteBack, taken, pending}
use Rattle.lu_proof_bytes.specs.Object.Folds.{dirty, known, cut_below, touched, reads_at, is_some, ends, shown, base}

-- ---- locks

-- the lock covers all these positions
abbrev pub Covers : Lock → (ℕ → Bool) → Type 0
Covers l at = (p : ℕ) → at p ≡ true → covers l p ≡ true

-- the life holds a lock of that cookie over these positions; `write`: it must be a PW lock
pub record UnderNumber (h : List Entry) (c k : ℕ) (write : Bool) (at : ℕ → Bool) : Type 0 where
  pub lock : Lock
  pub held : HeldBy h lock
  pub life : lock.life ≡ c
  pub cookie : lock.cookie ≡ k
  pub mode : write ≡ true → lock.write ≡ true
  pub covered : Covers lock at

-- the target's side of the same: a lock of that life and cookie over these positions is granted
pub record GrantedNumber (h : List Entry) (c k : ℕ) (write : Bool) (at : ℕ → Bool) : Type 0 where
  pub lock : Lock
  pub granted : IsGranted h lock
  pub life : lock.life ≡ c
  pub cookie : lock.cookie ≡ k
  pub mode : write ≡ true → lock.write ≡ true
  pub covered : Covers lock at

-- ---- reads and changes that are told

-- the position is one of the `n` from `at` on
abbrev pub in_run : ℕ → ℕ → ℕ → Bool
in_run at n p = nat_lt at (suc p) && nat_lt p (at + n)

-- with what the life has changed, a file whose object ends at `e` ends at `z`: the greater of the end under its pending cut and one more
-- than its last dirty position
abbrev pub IsOver : List Entry → ℕ → ℕ → ℕ → Type 0
IsOver h c e z =
    (base (pending c h) e ≤ z)
    × ((p : ℕ) → z ≤ p → dirty c h p ≡ None)
    × ((z ≡ base (pending c h) e) ⊎ ((p : ℕ) × (suc p ≡ z) × (is_some (dirty c h p) ≡ true)))

-- the life holds a lock from this position, or an earlier one, to the end, and by the end that it knows under it, with its own changes,
-- the file ends at `z`
pub record EndAt (h : List Entry) (c at z : ℕ) : Type 0 where
  pub lock : Lock
  pub held : HeldBy h lock
  pub life : lock.life ≡ c
  pub last : lock.last ≡ None
  pub first : lock.first ≤ at
  pub end : ℕ
  pub known : ends lock.life lock.cookie h ≡ Some end
  pub over : IsOver h c end z

-- the life holds a lock that covers the position and has a last byte, and under which this position or a later one was shown
pub record ShownAt (h : List Entry) (c q : ℕ) : Type 0 where
  pub lock : Lock
  pub held : HeldBy h lock
  pub life : lock.life ≡ c
  pub covered : covers lock q ≡ true
  pub last : ℕ
  pub short : lock.last ≡ Some last
  pub most : ℕ
  pub shown : shown lock.life lock.cookie h ≡ Some most
  pub reached : q ≤ most

-- each byte that is told is the one that the life takes the position for
abbrev pub Reads : List Entry → ℕ → ℕ → List ℕ → Type 0
Reads h c at vs =
    (p v : ℕ) → overlay at vs p None ≡ Some v → reads_at (pending c h) (dirty c h p) (known c h p) p ≡ Some v

-- a read under a lock to the end: up to the end of the file, as the life knows it (POSIX.1, read; Wang et al., Understanding Lustre
-- Filesystem Internals, the lock manager: a lock comes with the object's size)
abbrev pub Wide : List Entry → ℕ → ℕ → ℕ → List ℕ → Type 0
Wide h c at n vs =
    (z : ℕ) × EndAt h c at z × (length vs ≡ min n (z - at)) × Reads h c at vs

-- a read under a lock over all that is asked, which may have a last byte: it gets all, where a position at or past the last of it was
-- shown, under any such lock (this project's profile)
pub record Narrow (h : List Entry) (c at n : ℕ) (vs : List ℕ) : Type 0 where
  pub lock : Lock
  pub held : HeldBy h lock
  pub life : lock.life ≡ c
  pub covered : Covers lock (in_run at n)
  pub count : length vs ≡ n
  pub reads : Reads h c at vs
  pub final : ℕ
  pub is_final : suc final ≡ at + n
  pub reached : ShownAt h c final

-- a change is told under a PW lock over all that it may change; a read in one of the two ways
abbrev pub ToldOk : List Entry → ℕ → Call → Type 0
ToldOk h c (Did k ch) = UnderNumber h c k true (changes ch)
ToldOk h c (Saw at n vs) = Wide h c at n vs ⊎ Narrow h c at n vs

-- ---- requests

-- what is taken to be written back: dirty bytes, and these only while no cut to their positions or a lower one is pending; or the pending
-- cut (this
-- project's profile)
abbrev pub FlushOk : List Entry → ℕ → Change → Type 0
FlushOk h c (Write at bs) =
    ((p : ℕ) → within at bs p ≡ true → cut_below (pending c h) p ≡ false)
    × ((p b : ℕ) → overlay at bs p None ≡ Some b → dirty c h p ≡ Some b)
FlushOk h c (Cut n) = pending c h ≡ Some n

-- a change is taken under a held PW lock over all that it may change, and while no other one is under way
pub record TakesOk (h : List Entry) (c k : ℕ) (ch : Change) : Type 0 where
  pub alone : taken c h ≡ None
  pub under : UnderNumber h c k true (changes ch)
  pub change : FlushOk h c ch

-- a get asks for bytes under a held lock, and a write-back sends what was taken
abbrev pub OpOk : List Entry → ℕ → Op → Type 0
OpOk h c (Enqueue w f t) = Unit {0}
OpOk h c Size = Unit {0}
OpOk h c (Get k at n) = UnderNumber h c k false (in_run at n)
OpOk h c (Flush k ch) = taken c h ≡ Some (record { lock = k; change = ch })

-- a life has one request in flight at a time, and its number is above the earlier ones
pub record New (h : List Entry) (r : Request) : Type 0 where
  pub idle : flight r.life h ≡ None
  pub next : asked r.life h < r.xid
  pub op : OpOk h r.life r.op

-- the target takes up a request that was sent with the present boot and has no answer yet
pub record Fresh (h : List Entry) (r : Request) : Type 0 where
  pub was : Was h (Ask (closed h) r)
  pub first : (a : Answer) → Answered h r.life r.xid a → ⊥

-- ---- answers

-- `seen` has all transactions that stand, aren't committed and may have changed one of these positions
abbrev pub Sees : List Entry → (ℕ → Bool) → (ℕ → Bool) → Type 0
Sees h seen at = (n p : ℕ) → at p ≡ true → Changed h n p → committed h < n → seen n ≡ true

-- the position that is told, if there is one, is in the run and has a byte
abbrev pub IsTop : List Entry → ℕ → ℕ → Option ℕ → Type 0
IsTop h at n None = Unit {0}
IsTop h at n (Some s) = (in_run at n s ≡ true) × (is_some (object nothing_lost h s) ≡ true)

-- what is answered without a transaction: content of a granted lock's bytes, as the target has them; a refusal or a size at any time.
-- What a size tells is no part of this (`object_theorems::glimpses` says where one is that of the history)
abbrev pub ActsOk : List Entry → Request → Answer → Type 0
ActsOk h r Uncovered = Unit {0}
ActsOk h r (Sized s) = Unit {0}
ActsOk h r (Content vs t sn) =
    (k at n : ℕ)
    × (r.op ≡ Get k at n)
    × (length vs ≡ n)
    × GrantedNumber h r.life k false (in_run at n)
    × Sees h sn (in_run at n)
    × ((p v : ℕ) → overlay at vs p None ≡ Some v → value (object nothing_lost h p) ≡ v)
    × IsTop h at n t
ActsOk h r _ = ⊥

-- the request in flight names the lock of this cookie
abbrev pub in_use : Option Request → ℕ → Bool
in_use None k = false
in_use (Some r) k = elim r.op [ Get j at n ↦ nat_eq j k | Flush j ch ↦ nat_eq j k | _ ↦ false ]

-- the write-back under way goes under the lock of this cookie
abbrev pub taken_under : Option WriteBack → ℕ → Bool
taken_under None k = false
taken_under (Some w) k = nat_eq w.lock k

-- the object ends at `s`: nothing stands at `s` or later, and a byte stands right before it, unless `s` is 0
abbrev pub IsEnd : List Entry → ℕ → Type 0
IsEnd h s = ((p : ℕ) → s ≤ p → object nothing_lost h p ≡ None) × ((p : ℕ) → suc p ≡ s → is_some (object nothing_lost h p) ≡ true)

-- ---- messages

-- some such lock has this life and cookie
abbrev pub Named : (Lock → Type 0) → ℕ → ℕ → Type 0
Named P c k = (l : Lock) × P l × (l.life ≡ c) × (l.cookie ≡ k)

-- when a message may be sent, and sent again. A request, while it is in flight, with the present boot; an answer that stands; a granted
-- lock, with the object's size then and what that saw. A lock is called back only while it is granted. It is given back after it was
-- dropped; or where it was called back, the life neither holds nor awaits it, and has nothing in flight
abbrev pub SendOk : List Entry → Message → Type 0
SendOk h (Ask b r) = (flight r.life h ≡ Some r) × (b ≡ closed h)
SendOk h (Reply b c x a) = Answered h c x a × (b ≡ closed h)
SendOk h (Give b l s sn) = IsGranted h l × IsEnd h s × Sees h sn (covers l) × (b ≡ closed h)
SendOk h (Block b c k) = Named (λ l. IsGranted h l) c k
SendOk h (Cancel b c k) =
    Named (λ l. WasDropped h l) c k
    ⊎ (((d : ℕ) × Was h (Block d c k))
    × (flight c h ≡ None)
    × (awaits c k h ≡ false)
    × ((l : Lock) → HeldBy h l → l.cookie ≡ k → ⊥))

-- ---- what the target does

-- the lock has the mode that was asked for, and covers at least what was
abbrev pub Asks : Op → Lock → Type 0
Asks (Enqueue w f t) l =
    (l.write ≡ w)
    × ((p : ℕ) → covers (record { cookie = l.cookie; life = l.life; write = w; first = f; last = t }) p ≡ true → covers l p ≡ true)
Asks op l = ⊥

-- the lock conflicts with no granted one
abbrev pub Free : List Entry → Lock → Type 0
Free h l = (m : Lock) → IsGranted h m → conflict l m ≡ false

-- a lock is granted: it has a new cookie and is what was asked for, or larger; it conflicts with no granted lock; and with it go the
-- object's size then and all uncommitted transactions on its bytes (Wang et al., Understanding Lustre Filesystem Internals, the lock
-- manager: extent locks)
pub record GrantOk (h : List Entry) (r : Request) (l : Lock) (s : ℕ) (sn : ℕ → Bool) : Type 0 where
  pub fresh : Fresh h r
  pub life : l.life ≡ r.life
  pub new : top h < l.cookie
  pub asks : Asks r.op l
  pub free : Free h l
  pub size : IsEnd h s
  pub sees : Sees h sn (covers l)

-- a lock waits: it has a new cookie and is what was asked for, or larger
pub record WaitOk (h : List Entry) (r : Request) (l : Lock) : Type 0 where
  pub fresh : Fresh h r
  pub life : l.life ≡ r.life
  pub new : top h < l.cookie
  pub asks : Asks r.op l

-- a lock that waits is granted: in its mode, as it waits or larger, and beside no granted lock that it conflicts with
pub record PromoteOk (h : List Entry) (l : Lock) : Type 0 where
  pub ahead : Lock
  pub waits : IsWaiting h ahead
  pub life : ahead.life ≡ l.life
  pub cookie : ahead.cookie ≡ l.cookie
  pub write : ahead.write ≡ l.write
  pub covered : (p : ℕ) → covers ahead p ≡ true → covers l p ≡ true
  pub free : Free h l

-- a write-back is executed, under a granted PW lock over all that it may change, with a number above 0. That two transactions have
-- different numbers isn't asked
pub record TxnOk (h : List Entry) (n : ℕ) (r : Request) (k : ℕ) (ch : Change) : Type 0 where
  pub number : 0 < n
  pub fresh : Fresh h r
  pub op : r.op ≡ Flush k ch
  pub under : GrantedNumber h r.life k true (changes ch)

-- a lock is dropped only once nothing of the life's patch lies under it, so what it wrote there was written back and that was heard; and
-- while no request in flight, and no write-back under way, names it (Wang et al., Understanding Lustre Filesystem Internals, the lock
-- manager: blocking callbacks)
pub record DropOk (h : List Entry) (l : Lock) : Type 0 where
  pub held : HeldBy h l
  pub clean : (p : ℕ) → covers l p ≡ true → touched (pending l.life h) (dirty l.life h p) p ≡ false
  pub free : in_use (flight l.life h) l.cookie ≡ false
  pub untaken : taken_under (taken l.life h) l.cookie ≡ false

-- ---- a close

-- an answer that was heard has nothing of a lost transaction: it is neither its answer nor does the content rest on it
abbrev pub HeardOf : (ℕ → Bool) → Answer → Type 0
HeardOf lost (Done n) = lost n ≡ false
HeardOf lost (Content vs t seen) = (n : ℕ) → seen n ≡ true → lost n ≡ false
HeardOf lost _ = Unit {0}

-- nothing of the lost transactions is known to lives that aren't in `out`: neither from an answer that they heard nor from the size that
-- they were told with a lock; and no committed one is lost. What is asked of the entries before a close is asked of its lost ones too
abbrev pub KeptFor : (ℕ → Bool) → (ℕ → Bool) → List Entry → Type 0
KeptFor out lost [] = Unit {0}
KeptFor out lost (Heard r a ∷ h) = (out r.life ≡ false → HeardOf lost a) × KeptFor out lost h
KeptFor out lost (Hold l s seen ∷ h) = (out l.life ≡ false → (n : ℕ) → seen n ≡ true → lost n ≡ false) × KeptFor out lost h
KeptFor out lost (Commit m ∷ h) = ((n : ℕ) → n ≤ m → lost n ≡ false) × KeptFor out lost h
KeptFor out lost (Close b l gone ∷ h) = KeptFor out (also lost l) h
KeptFor out lost (_ ∷ h) = KeptFor out lost h

-- a close has a new boot; it loses no transaction of which a life that stays has heard, and no committed one; and who stays awaits no
-- lock any more, since it knows of the new boot (Lustre Operations Manual, recovery: replay, eviction)
pub record CloseOk (h : List Entry) (b : ℕ) (lost gone : ℕ → Bool) : Type 0 where
  pub newer : closed h < b
  pub kept : KeptFor (λ c. gone c || evicted c h) lost h
  pub forgot : (c k : ℕ) → (gone c || evicted c h) ≡ false → awaits c k h ≡ false

-- ---- locks that come and go

-- a life comes to hold a lock that it awaits, which a reply of the present boot, or a `Give` of it, has brought
abbrev pub HoldOk : List Entry → Lock → ℕ → (ℕ → Bool) → Type 0
HoldOk h l s sn = (awaits l.life l.cookie h ≡ true) × (((x : ℕ) × Was h (Reply (closed h) l.life x (Granted l s sn)))
    ⊎ Was h (Give (closed h) l s sn))

-- a lock goes at the target where it was given back in a message of the present boot or a later one, or its life was evicted
abbrev pub ReleaseOk : List Entry → ℕ → Type 0
ReleaseOk h k =
    ((b : ℕ) × (c : ℕ) × Was h (Cancel b c k) × (closed h ≤ b))
    ⊎ ((l : Lock) → IsGranted h l → l.cookie ≡ k → evicted l.life h ≡ true)

-- ---- all

-- the entry is allowed after that story
abbrev pub Allowed : List Entry → Entry → Type 0
Allowed h (Takes c k ch) = TakesOk h c k ch
Allowed h (Flies r) = New h r
Allowed h (Heard r a) = (flight r.life h ≡ Some r) × Was h (Reply (closed h) r.life r.xid a)
Allowed h (Hold l s sn) = HoldOk h l s sn
Allowed h (Drop l) = DropOk h l
Allowed h (Forgets c) = Unit {0}
Allowed h (Tells c call) = ToldOk h c call
Allowed h (Grant r l s sn) = GrantOk h r l s sn
Allowed h (Wait r l) = WaitOk h r l
Allowed h (Promote l) = PromoteOk h l
Allowed h (Acts r a) = Fresh h r × ActsOk h r a
Allowed h (Txn n r) = (k : ℕ) × (ch : Change) × TxnOk h n r k ch
Allowed h (Release k) = ReleaseOk h k
Allowed h (Evict c) = Unit {0}
Allowed h (Commit n) = Unit {0}
Allowed h (Close b lost gone) = CloseOk h b lost gone
Allowed h (Send m) = SendOk h m

-- each entry of the story is allowed after what came before it
abbrev pub AllAllowed : List Entry → Type 0
AllAllowed [] = Unit {0}
AllAllowed (e ∷ h) = Allowed h e × AllAllowed h
