-- What always holds of a client's state on bytes: each change of its own lies under a held lock for writing, and so does what is under way
-- of a write-back; no two held locks conflict; and what is known of bytes, sizes and what was shown stands under held locks. It is said of
-- the state alone, without a past.
use Rattle.std.specs.Prelude.{◌≡◌, ◌⊎◌, ℕ, ◌+◌, ◌<◌, ◌≤◌, ◌==◌, ◌||◌, if◌then◌else◌, Bool, true, false, List, [], ◌∷◌, Some}
use Rattle.lu_base.specs.declared.ids.Cookie.{Cookie}
use Rattle.lu_base.specs.declared.locks.Extent.{Extent}
use Rattle.lu_base.specs.declared.locks.Lock.{Lock}
use Rattle.lu_base.specs.declared.locks.Mode.TheVariants.{PW}
use Rattle.lu_base.specs.declared.locks.Policy.TheVariants.{Range}
use Rattle.lu_base.specs.declared.locks.Resource.{Resource}
use Rattle.lu_lock.specs.Overlap.{extents_meet}
use Rattle.lu_msg.specs.declared.operations.Op.{Op}
use Rattle.lu_msg.specs.declared.operations.Op.TheVariants as op
use Rattle.lu_held.specs.declared.locks.HeldLock.{HeldLock}
use Rattle.lu_held.specs.Locks.{name_of, is_named, same_resource, reaches_end}
use Rattle.lu_spec_machine.specs.Places.{RisingFrom, is_in, found_at}
use Rattle.lu_spec_entries.specs.Carried.{Queued, Flight}
use Rattle.lu_spec_client.specs.Patches.{Patch, cut_extent, holds_extent, has_change, in_flight}
use Rattle.lu_spec_client.specs.Imports.{Import, import_of}
use Rattle.lu_spec_client.specs.Bytes.{Bytes}
use Rattle.lu_spec_client.specs.Caches.{Note, patch_at, bytes_at}
use Rattle.lu_spec_client.specs.States.{Client}
use Rattle.lu_proof_bytes.specs.Object.Folds.{is_some}
use Rattle.lu_proof_objects.specs.Points.{dirty_at, is_write}
use Rattle.lu_proof_objects.specs.Alike.{IsRange}

-- it stands in the list
abbrev pub In : {A : Type 0} → A → List A → Type 0
In x [] = ⊥
In x (y ∷ ys) = (y ≡ x) ⊎ In x ys

-- ---- held locks

-- no two are of one target and cookie
abbrev pub IsOnce : List HeldLock → Type 0
IsOnce [] = Unit {0}
IsOnce (h ∷ held) = ((g : HeldLock) → In g held → is_named (name_of h) g ≡ false) × IsOnce held

-- a held lock of an object for writing, whose range is such
pub record Writer (locks : List HeldLock) (r : Resource) (P : Extent → Type 0) : Type 0 where
  pub lock : HeldLock
  pub held : In lock locks
  pub object : lock.lock.resource ≡ r
  pub mode : lock.lock.ask.mode ≡ PW
  pub extent : Extent
  pub range : lock.lock.ask.policy ≡ Range extent
  pub over : P extent

-- of two locks on one object that meet, at most one is for writing, unless they are one lock
abbrev pub AreApart : List HeldLock → Type 0
AreApart held =
    (h g : HeldLock) (x y : Extent) → In h held → In g held → h.lock.resource ≡ g.lock.resource → h.lock.ask.policy ≡ Range x
    → g.lock.ask.policy ≡ Range y
    → (is_write h.lock.ask.mode || is_write g.lock.ask.mode) ≡ true → extents_meet x y ≡ true → h ≡ g

-- ---- what is asked of targets

-- the operation waits to be sent to a target, or is in flight there
abbrev pub Asked : List Import → ℕ → Op → Type 0
Asked imports t o =
    ((q : Queued) × In q (import_of t imports).queue × (q.op ≡ o)) ⊎ ((f : Flight) × In f (import_of t imports).flights × (f.op ≡ o))

-- the operation names the lock of this cookie
abbrev pub names : Op → Cookie → Bool
names (op.Get r cookie page) c = cookie.0 == c.0
names (op.Put r cookie at bytes) c = cookie.0 == c.0
names (op.Cut r cookie size) c = cookie.0 == c.0
names _ c = false

-- it writes a change of this object back
abbrev pub writes_to : Resource → Op → Bool
writes_to r (op.Put s cookie at bytes) = same_resource s r
writes_to r (op.Cut s cookie size) = same_resource s r
writes_to r _ = false

-- how many write-backs of an object wait or are in flight, at all targets
abbrev pub one_if : Bool → ℕ
one_if v = if v then 1 else 0

abbrev pub queued_to : Resource → List Queued → ℕ
queued_to r [] = 0
queued_to r (q ∷ queue) = one_if (writes_to r q.op) + queued_to r queue

abbrev pub flying_to : Resource → List Flight → ℕ
flying_to r [] = 0
flying_to r (f ∷ flights) = one_if (writes_to r f.op) + flying_to r flights

abbrev pub backs_to : Resource → List Import → ℕ
backs_to r [] = 0
backs_to r (i ∷ imports) = queued_to r i.queue + flying_to r i.flights + backs_to r imports

-- ---- an object

-- its dirty bytes stand in rising order, each under a lock for writing, and so does the pending cut, as a whole under one lock
pub record IsUnder (locks : List HeldLock) (r : Resource) (patch : Patch) : Type 0 where
  pub rises : RisingFrom 0 patch.dirty
  pub dirty : (p : ℕ) → is_some (dirty_at patch p) ≡ true → Writer locks r (λ x. is_in x p ≡ true)
  pub cut : (size : ℕ) → patch.pending ≡ Some size → Writer locks r (λ x. holds_extent x (cut_extent size) ≡ true)

-- a write-back that is asked of a target goes under a held lock for writing, and while it is asked that lock has a change
pub record IsBacked (locks : List HeldLock) (patch : Patch) (t : ℕ) (c : Cookie) (r : Resource) : Type 0 where
  pub under : Writer locks r (λ x. has_change x patch ≡ true)
  pub target : under.lock.target.0 ≡ t
  pub cookie : under.lock.lock.cookie ≡ c

-- a get is asked under a held lock that is pinned
pub record IsPinned (locks : List HeldLock) (t : ℕ) (c : Cookie) : Type 0 where
  pub lock : HeldLock
  pub held : In lock locks
  pub target : lock.target.0 ≡ t
  pub cookie : lock.lock.cookie ≡ c
  pub pinned : 0 < lock.pins

-- so each write-back
abbrev pub IsAsked : List HeldLock → List (Resource × Patch) → ℕ → Op → Type 0
IsAsked locks patches t (op.Put r cookie at bytes) = IsBacked locks (patch_at r patches) t cookie r
IsAsked locks patches t (op.Cut r cookie size) = IsBacked locks (patch_at r patches) t cookie r
IsAsked locks patches t _ = Unit {0}

-- ---- what is known

-- a held lock of an object in any mode, called back or not, with such a range
pub record Holder (locks : List HeldLock) (r : Resource) (P : Lock → Extent → Type 0) : Type 0 where
  pub lock : HeldLock
  pub held : In lock locks
  pub object : lock.lock.resource ≡ r
  pub extent : Extent
  pub range : lock.lock.ask.policy ≡ Range extent
  pub such : P lock.lock extent

-- each byte that is known of an object lies under a held lock of that object, which covers its offset
abbrev pub AreBytesHeld : List HeldLock → List (Resource × Bytes) → Type 0
AreBytesHeld locks bytes = (r : Resource) (p b : ℕ) → found_at (bytes_at r bytes) p ≡ Some b → Holder locks r (λ l x. is_in x p ≡ true)

-- each size that is known of an object stands under a held lock of that object, which has its cookie and reaches the end
abbrev pub AreSizesHeld : List HeldLock → List Note → Type 0
AreSizesHeld locks sizes = (n : Note) → In n sizes → Holder locks n.resource
    (λ l x. (l.cookie ≡ n.cookie) × (reaches_end l.ask.policy ≡ true))

-- the greatest offset shown under a lock lies under a held lock of that object, which has its cookie and covers it
abbrev pub AreShownHeld : List HeldLock → List Note → Type 0
AreShownHeld locks shown = (n : Note) → In n shown → Holder locks n.resource (λ l x. (l.cookie ≡ n.cookie) × (is_in x n.number ≡ true))

-- so nothing that is known outlives its lock
pub record IsKnownOf (locks : List HeldLock) (known : List (Resource × Bytes)) (ends offsets : List Note) : Type 0 where
  pub bytes : AreBytesHeld locks known
  pub sizes : AreSizesHeld locks ends
  pub shown : AreShownHeld locks offsets

-- ---- all of it

-- `single`: of an object at most one write-back is asked, and none while nothing is under way
pub record IsSoundOf (locks : List HeldLock) (patches : List (Resource × Patch)) (imports : List Import) : Type 0 where
  pub once : IsOnce locks
  pub ranges : (h : HeldLock) (x : Extent) → In h locks → h.lock.ask.policy ≡ Range x → IsRange x
  pub apart : AreApart locks
  pub objects : (r : Resource) → IsUnder locks r (patch_at r patches)
  pub asked : (t : ℕ) (o : Op) → Asked imports t o → IsAsked locks patches t o
  pub single : (r : Resource) → backs_to r imports ≤ one_if (in_flight (patch_at r patches))

-- each get that is asked
abbrev pub AreGetsPinned : List HeldLock → List Import → Type 0
AreGetsPinned locks imports = (t : ℕ) (r : Resource) (cookie : Cookie) (page : ℕ) → Asked imports t (op.Get r cookie page)
    → IsPinned locks t cookie

-- changes and locks, and what is known
pub record IsSoundAt (k : Client) : Type 0 where
  pub bytes : IsSoundOf k.store.held k.store.patches k.imports
  pub known : IsKnownOf k.store.held k.store.bytes k.store.sizes k.store.shown

-- and gets
pub record IsSound (k : Client) : Type 0 where
  pub bytes : IsSoundOf k.store.held k.store.patches k.imports
  pub known : IsKnownOf k.store.held k.store.bytes k.store.sizes k.store.shown
  pub gets : AreGetsPinned k.store.held k.imports
