-- What a live client has asked of a target for one object, what it holds and awaits there and what it writes back, is what the story says.
use Rattle.std.proofs.Common.{◌≡◌, ℕ, ◌≤◌, ◌<◌, true, false, List, [], ◌∷◌, ◌++◌, Option, Some, None, ◌⊎◌}
use Rattle.std.specs.Prelude.{Bool, length, map, filter}
use Rattle.std.specs.Option.{unwrap_or}
use Rattle.lu_base.specs.declared.ids.Cookie.{Cookie}
use Rattle.lu_base.specs.declared.ids.Node.TheVariants.{Client}
use Rattle.lu_base.specs.declared.ids.Who.{Who}
use Rattle.lu_base.specs.declared.locks.Lock.{Lock as TableLock}
use Rattle.lu_base.specs.declared.locks.Resource.{Resource}
use Rattle.lu_held.specs.declared.locks.HeldLock.{HeldLock}
use Rattle.lu_held.specs.Locks.{same_resource}
use Rattle.lu_msg.specs.declared.operations.Op.{Op}
use Rattle.lu_msg.specs.declared.operations.Op.TheVariants as op
use Rattle.lu_spec_entries.specs.declared.changes.Flush.{Flush}
use Rattle.lu_spec_entries.specs.declared.changes.Flush.TheVariants as flush
use Rattle.lu_spec_entries.specs.Carried.{Deed, Queued, Flight}
use Rattle.lu_spec_entries.specs.Words as word
use Rattle.lu_spec_entries.specs.Words.{Line}
use Rattle.lu_spec_entries.specs.Concerns.{only}
use Rattle.lu_spec_client.specs.Caches.{held_at, patch_at}
use Rattle.lu_spec_client.specs.Calls.{life_at}
use Rattle.lu_spec_client.specs.Patches.{Flying, CutFlies, BytesFly}
use Rattle.lu_spec_client.specs.Sending.{object_of}
use Rattle.lu_spec_client.specs.WriteBack.{operation}
use Rattle.lu_proof_lawful.specs.Covered.ClientStates.{queue_of, flights_of, last_of, brings_cookie, awaits_of}
use Rattle.lu_proof_lawful.specs.Covered.Heads.{Head}
use Rattle.lu_proof_lawful.proofs.Preconditions.Heard.{In}
use Rattle.lu_proof_lawful.proofs.Preconditions.HeedMarks.{owed_of}
use Rattle.lu_proof_lawful.proofs.Invariants.TargetGroups.{Acted, Gave, Gone}
use Rattle.lu_proof_bytes.specs.Object.Words as words
use Rattle.lu_proof_bytes.specs.Object.Words.{Lock, Write, Cut, Entry}
use Rattle.lu_proof_bytes.specs.Object.Folds.{HeldBy, WasDropped, WriteBack}
use Rattle.lu_proof_bytes.specs.Object.Folds as says
use Rattle.lu_proof_bytes.specs.Object.Guards.{HoldOk}
use Rattle.lu_proof_objects.specs.Points.{change_of}
use Rattle.lu_proof_lawful.specs.Projection.Lives.{number_of, is_live}
use Rattle.lu_proof_lawful.specs.Projection.Locks.{lock_of, given, held, lock_over}
use Rattle.lu_proof_lawful.specs.Projection.Requests.{op_of, among}
use Rattle.lu_proof_lawful.specs.Projection.Messages.{request_as}
use Rattle.lu_proof_lawful.specs.Projection.Stories.{story}
use Rattle.lu_proof_lawful.proofs.Refinement.TiedStore.{store_owed}

-- ---- requests in flight

-- the operation is on that object
abbrev pub IsOn : Resource → Op → Type 0
IsOn r o = object_of o ≡ Some r

-- the lock under which a page is fetched was granted on the object
abbrev pub HasLock : List Entry → Op → Type 0
HasLock h (op.Get q cookie page) = (l : Lock) × (given cookie.0 h ≡ Some l)
HasLock h _ = Unit {0}

-- a life's request in flight is the one that the story says
pub record FlownAs (r : Resource) (h : List Entry) (w : ℕ) (f : Flight) : Type 0 where
  pub op : words.Op
  pub is : op_of r h f.op ≡ Some op
  pub lock : HasLock h f.op
  pub flies : says.flight w h ≡ Some (request_as w f.xid op)

-- ---- locks

-- it came with the reply that was heard last, and is shown next
abbrev pub IsOwed : ℕ → TableLock → List word.Entry → Type 0
IsOwed t lock owed = (size : Option ℕ) × (seen : List ℕ) × (more : List word.Entry) × (owed ≡ word.Hold t lock false size seen ∷ more)

-- a client holds this lock, on that object
abbrev pub HoldsAs : Resource → List Line → ℕ → Lock → Type 0
HoldsAs r past c m = (k : HeldLock) × In k (held_at c past) × (k.lock.resource ≡ r) × (lock_of k.lock ≡ m)

-- what was done on the object brings the lock of that cookie, or tells who asked to wait for it
abbrev pub BroughtOn : Resource → List Line → ℕ → Type 0
BroughtOn r past k = (d : Deed) × Acted past d × (brings_cookie d.op d.reply.answer k ≡ true) × IsOn r d.op

-- ---- changes that are written back

-- what is under way by the patch is what was taken, of bytes one at least
abbrev pub TakenAs : Option WriteBack → Option Flying → Type 0
TakenAs None None = Unit {0}
TakenAs (Some b) (Some BytesFly) = (at : ℕ) × (bytes : List ℕ) × (b.change ≡ Write at bytes) × (0 < length bytes)
TakenAs (Some b) (Some (CutFlies n)) = b.change ≡ Cut n
TakenAs _ _ = ⊥

abbrev pub is_back : Resource → Op → Bool
is_back r (op.Put q cookie at bytes) = same_resource q r
is_back r (op.Cut q cookie n) = same_resource q r
is_back r _ = false

-- the write-backs to the object among what a life has queued and in flight
abbrev pub queued_backs : Resource → List Queued → List Op
queued_backs r queue = filter (is_back r) (map {A = Queued} {B = Op} (λ q. q.op) queue)

abbrev pub flying_backs : Resource → List Flight → List Op
flying_backs r flights = filter (is_back r) (map {A = Flight} {B = Op} (λ f. f.op) flights)

abbrev pub backs_of : Resource → Who → List Line → List Op
backs_of r who past = queued_backs r (queue_of who past) ++ flying_backs r (flights_of who past)

-- a put has a byte at least
abbrev pub HasBytes : Flush → Type 0
HasBytes (flush.Put at bytes) = 0 < length bytes
HasBytes (flush.Cut size) = Unit {0}

-- that operation writes back what was taken, under its cookie
pub record BacksTaken (r : Resource) (h : List Entry) (w : ℕ) (o : Op) : Type 0 where
  pub cookie : Cookie
  pub change : Flush
  pub is : o ≡ operation r cookie change
  pub taken : says.taken w h ≡ Some (record { lock = cookie.0; change = change_of change })
  pub bytes : HasBytes change

-- in the newest line the client took that change of the object
abbrev pub JustTaken : List Line → ℕ → Resource → Flush → Type 0
JustTaken [] c r change = ⊥
JustTaken (l ∷ past) c r change = (l.at.node ≡ Client c) × (l.entry ≡ word.WritesBack r change)

-- it was taken under the lock that is looked up
pub record TookUnder (h : List Entry) (w : ℕ) (change : Flush) : Type 0 where
  pub cookie : ℕ
  pub over : lock_over w (change_of change) (held h) ≡ Some cookie
  pub taken : says.taken w h ≡ Some (record { lock = cookie; change = change_of change })
  pub bytes : HasBytes change

-- ---- all of it

-- of these requests in flight those on the object: one at most, which is the one of the story
pub record FlightsAs (r : Resource) (h : List Entry) (w : ℕ) (flights : List Flight) : Type 0 where
  pub flies : (f : Flight) → In f flights → IsOn r f.op → FlownAs r h w f
  pub idle : ((f : Flight) → In f flights → IsOn r f.op → ⊥) → says.flight w h ≡ None
  pub single : (f g : Flight) → In f flights → In g flights → IsOn r f.op → IsOn r g.op → f ≡ g

-- what is held on the object is held in the story, but for what is shown next; a lock that was given up was dropped there
pub record LocksAs (t : ℕ) (r : Resource) (h : List Entry) (c : ℕ) (who : Who) (past : List Line) (owing : List word.Entry) : Type 0 where
  pub held : (m : Lock) → HeldBy h m → m.life ≡ number_of who → HoldsAs r past c m
  pub holds : (k : HeldLock) → In k (held_at c past) → k.lock.resource ≡ r → HeldBy h (lock_of k.lock) ⊎ IsOwed t k.lock owing
  pub owed : (lock : TableLock) (marked : Bool) (size : Option ℕ) (seen : List ℕ) (more : List word.Entry) → owing
      ≡ word.Hold t lock marked size seen ∷ more → lock.resource ≡ r
      → HoldOk h (lock_of lock) (unwrap_or size 0) (among seen)
  pub dropped : (d : Deed) (l : TableLock) → Gave past d l → l.resource ≡ r → Gone past who l.cookie → WasDropped h (lock_of l)

-- it awaits just the locks that its requests on the object are to bring
pub record AwaitsAs (r : Resource) (h : List Entry) (who : Who) (past : List Line) : Type 0 where
  pub awaits : (k : ℕ) → says.awaits (number_of who) k h ≡ true → (0 < awaits_of who k past) × BroughtOn r past k
  pub awaited : (k : ℕ) → 0 < awaits_of who k past → BroughtOn r past k → says.awaits (number_of who) k h ≡ true

-- of what is queued and in flight one operation at most writes back a change of the object: that which was taken; and none is right after
-- one is taken
pub record BacksAs (r : Resource) (h : List Entry) (w : ℕ) (ops : List Op) (just : Flush → Type 0) : Type 0 where
  pub backs : (ops ≡ []) ⊎ ((o : Op) × (ops ≡ o ∷ []) × BacksTaken r h w o × ((change : Flush) → just change → ⊥))
  pub took : (change : Flush) → just change → TookUnder h w change

-- of a client whose life that is
pub record AskedOf (t : ℕ) (r : Resource) (past : List Line) (c : ℕ) (who : Who) : Type 0 where
  pub flights : FlightsAs r (story t r past) (number_of who) (flights_of who (only t past))
  pub locks : LocksAs t r (story t r past) c who (only t past) (owed_of c past)
  pub awaits : AwaitsAs r (story t r past) who (only t past)
  pub taken : TakenAs (says.taken (number_of who) (story t r past)) (patch_at r (store_owed c past).patches).flight
  pub backs : BacksAs r (story t r past) (number_of who) (backs_of r who (only t past)) (JustTaken past c r)

abbrev pub AskedBy : (t : ℕ) → Resource → List Line → ℕ → Type 0
AskedBy t r past c = AskedOf t r past c (life_at c past)

-- a life that hasn't begun has asked nothing and holds nothing
pub record NotBegun (w : ℕ) (h : List Entry) : Type 0 where
  pub asked : says.asked w h ≡ 0
  pub flight : says.flight w h ≡ None
  pub holds : (l : Lock) → HeldBy h l → l.life ≡ w → ⊥
  pub awaits : (k : ℕ) → says.awaits w k h ≡ false
  pub taken : says.taken w h ≡ None

pub record AskedTied (head : Head) (t : ℕ) (r : Resource) (past : List Line) : Type 0 where
  pub asked : (who : Who) → says.asked (number_of who) (story t r past) ≤ last_of who (only t past)
  pub later : (who : Who) → (life_at who.client past).life < who.life → NotBegun (number_of who) (story t r past)
  pub of : (c : ℕ) → is_live c past (story t r past) ≡ true → AskedBy t r past c
