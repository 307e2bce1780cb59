-- What is known goes with its lock: as a lock is given up what was known under it is forgotten. And each other entry keeps what is known
-- under
-- held locks, where what it brings lies under such.
use Rattle.std.specs.Prelude.{◌≡◌, ℕ, Bool, true, List, Option, Some}
use Rattle.lu_base.specs.declared.ids.Cookie.{Cookie}
use Rattle.lu_base.specs.declared.ids.Who.{Who}
use Rattle.lu_base.specs.declared.locks.Extent.{Extent}
use Rattle.lu_base.specs.declared.locks.Lock.{Lock}
use Rattle.lu_base.specs.declared.locks.Policy.TheVariants.{Range}
use Rattle.lu_base.specs.declared.locks.Resource.{Resource}
use Rattle.lu_msg.specs.declared.messages.Reply.{Reply as ReplyTo}
use Rattle.lu_held.specs.declared.locks.HeldLock.{HeldLock}
use Rattle.lu_held.specs.Locks.{named, is_named}
use Rattle.lu_spec_machine.specs.Places.{found_at, is_in}
use Rattle.lu_spec_entries.specs.declared.changes.Flush.{Flush}
use Rattle.lu_spec_entries.specs.Carried.{Flight}
use Rattle.lu_spec_entries.specs.Words.{Entry, Heard, Hold, Drop, Life, Unmarks, Fills, Zeroes, Grown, Shows}
use Rattle.lu_spec_client.specs.Caches.{bytes_at, brought, held_after, bytes_after, sizes_after, shown_after}
use Rattle.lu_spec_client.specs.States.{Client}
use Rattle.lu_proof_bytes.specs.Object.Words.{within}
use Rattle.lu_proof_objects.specs.Sound.{In, Holder, AreBytesHeld, AreSizesHeld, IsKnownOf, IsSoundAt}

-- the entry by which a held lock goes
abbrev pub gone : HeldLock → Entry
gone h = Drop h.target.0 h.lock

-- a lock goes: what is still known stands under the locks that are still held
abbrev pub DropForgets : Type 0
DropForgets =
    (k : Client) (h : HeldLock)
    → IsSoundAt k → In h k.store.held
    → IsKnownOf (held_after k.store.held (gone h)) (bytes_after k.store.bytes (gone h)) (sizes_after k.store.sizes (gone h))
    (shown_after k.store.shown (gone h))

-- an offset under a held lock is shown: it stands under the lock of that cookie
abbrev pub ShowStands : Type 0
ShowStands =
    (k : Client) (r : Resource) (c : Cookie) (last : ℕ)
    → IsSoundAt k → Holder k.store.held r (λ l x. (l.cookie ≡ c) × (is_in x last ≡ true))
    → IsKnownOf k.store.held k.store.bytes k.store.sizes (shown_after k.store.shown (Shows r c last))

-- only this lock covers the offset of the object
abbrev pub IsOnlyOver : Client → HeldLock → Resource → ℕ → Type 0
IsOnlyOver k h r p =
    (g : HeldLock) (x : Extent) → In g k.store.held → g.lock.resource ≡ r → g.lock.ask.policy ≡ Range x → is_in x p ≡ true → g ≡ h

-- a byte that is known under one lock alone can't stay known as that lock goes
abbrev pub BytesMustGo : Type 0
BytesMustGo =
    (k : Client) (h : HeldLock) (r : Resource) (p b : ℕ)
    → found_at (bytes_at r k.store.bytes) p ≡ Some b → IsOnlyOver k h r p → AreBytesHeld (held_after k.store.held (gone h)) k.store.bytes
    → ⊥

-- ---- what a message brings

-- each offset of these bytes lies under a held lock of the object
abbrev pub AreOver : List HeldLock → Resource → ℕ → List ℕ → Type 0
AreOver locks r first bs = (p : ℕ) → within first bs p ≡ true → Holder locks r (λ l x. is_in x p ≡ true)

-- no other lock is held in the name of this one
abbrev pub IsNew : List HeldLock → ℕ → Lock → Type 0
IsNew locks t l = (g : HeldLock) → In g locks → is_named (named (record { 0 = t }) l.cookie) g ≡ true → g.lock ≡ l

-- so it is of each of these, and no two of them have one cookie
pub record AreNew (locks : List HeldLock) (t : ℕ) (brought : List Lock) : Type 0 where
  pub new : (l : Lock) → In l brought → IsNew locks t l
  pub once : (l m : Lock) → In l brought → In m brought → l.cookie ≡ m.cookie → l ≡ m

-- the other entries that change what is known or which locks are held: bytes come under held locks, bytes become 0, sizes grow, new locks
-- are
-- held, the locks of a target lose their marks, and a new life knows nothing
pub record OthersKeep : Type 0 where
  pub fills : (k : Client) (r : Resource) (first : ℕ) (bs : List ℕ)
      → IsSoundAt k → AreOver k.store.held r first bs → AreBytesHeld k.store.held (bytes_after k.store.bytes (Fills r first bs))
  pub zeroes : (k : Client) (r : Resource) (n : ℕ) → IsSoundAt k → AreBytesHeld k.store.held (bytes_after k.store.bytes (Zeroes r n))
  pub grown : (k : Client) (r : Resource) (change : Flush) → IsSoundAt k
      → AreSizesHeld k.store.held (sizes_after k.store.sizes (Grown r change))
  pub holds : (k : Client) (t : ℕ) (l : Lock) (marked : Bool) (size : Option ℕ) (seen : List ℕ)
      → IsSoundAt k → IsNew k.store.held t l
      → IsKnownOf (held_after k.store.held (Hold t l marked size seen)) k.store.bytes
      (sizes_after k.store.sizes (Hold t l marked size seen)) k.store.shown
  pub unmarks : (k : Client) (t : ℕ) → IsSoundAt k → IsKnownOf (held_after k.store.held (Unmarks t)) k.store.bytes k.store.sizes
      k.store.shown
  pub heard : (k : Client) (t : ℕ) (f : Flight) (r : ReplyTo)
      → IsSoundAt k → AreNew k.store.held t (brought f.op r) → IsKnownOf (held_after k.store.held (Heard t f r)) k.store.bytes k.store.sizes
      k.store.shown
  pub life : (k : Client) (who : Who)
      → IsKnownOf (held_after k.store.held (Life who)) (bytes_after k.store.bytes (Life who)) (sizes_after k.store.sizes (Life who))
      (shown_after k.store.shown (Life who))
