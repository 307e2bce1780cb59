-- What a live client keeps of one object is what the story says, once it has marked all that the answer it heard last brings: its changes,
-- position by position, the bytes that it knows, and under each held lock the object's end and what was shown.
use Rattle.std.proofs.Common.{◌≡◌, ℕ, ◌≤◌, ◌<◌, true, false, List, [], ◌∷◌, Option, Some, None}
use Rattle.std.specs.Prelude.{Bool, ◌&&◌, if◌then◌else◌}
use Rattle.std.specs.Option.{unwrap_or}
use Rattle.lu_base.specs.declared.ids.Who.{Who}
use Rattle.lu_base.specs.declared.locks.Lock.{Lock as TableLock}
use Rattle.lu_base.specs.declared.locks.Resource.{Resource}
use Rattle.lu_lock.specs.Growth.{the_end}
use Rattle.lu_held.specs.Locks.{same_resource}
use Rattle.lu_spec_machine.specs.Places.{found_at}
use Rattle.lu_spec_entries.specs.declared.changes.Flush.{Flush}
use Rattle.lu_spec_entries.specs.declared.changes.Flush.TheVariants as flush
use Rattle.lu_spec_entries.specs.Words.{Entry as WordEntry, Line, Changes, Hold, is_client}
use Rattle.lu_spec_client.specs.Bytes.{Bytes}
use Rattle.lu_spec_client.specs.Caches.{patch_at, bytes_at, Note, noted}
use Rattle.lu_spec_client.specs.Calls.{life_at}
use Rattle.lu_spec_client.specs.Patches.{Patch}
use Rattle.lu_spec_client.specs.States.{Store, store_at, store_turn}
use Rattle.lu_proof_lawful.specs.Covered.Heads.{Head}
use Rattle.lu_proof_lawful.proofs.Preconditions.Heard.{In}
use Rattle.lu_proof_lawful.proofs.Preconditions.HeedMarks.{owed_of}
use Rattle.lu_proof_bytes.specs.Object.Words.{Lock, Entry, Tells, Did}
use Rattle.lu_proof_bytes.specs.Object.Folds.{HeldBy, pending, dirty, flying, known, ends, shown}
use Rattle.lu_proof_objects.specs.Points.{change_of, dirty_at, flying_at}
use Rattle.lu_proof_lawful.specs.Projection.Lives.{number_of, is_live}
use Rattle.lu_proof_lawful.specs.Projection.Locks.{lock_of, held, lock_over}
use Rattle.lu_proof_lawful.specs.Projection.Stories.{story}

-- what a client keeps of objects once all that it owes to the answer it heard last is marked
abbrev pub store_owed : ℕ → List Line → Store
store_owed c past = store_turn (store_at c past) (owed_of c past)

-- the number of its life
abbrev pub life_number : ℕ → List Line → ℕ
life_number c past = number_of (life_at c past)

-- ---- its changes

pub record PatchTied (patch : Patch) (w : ℕ) (h : List Entry) : Type 0 where
  pub pending : patch.pending ≡ pending w h
  pub dirty : (p : ℕ) → dirty_at patch p ≡ dirty w h p
  pub flying : (p : ℕ) → flying_at patch p ≡ flying w h p

-- ---- what was shown

-- the last of the bytes that were just written is shown in the next line only
abbrev pub unless_put : Flush → List Entry → List Entry
unless_put (flush.Put at bytes) (e ∷ h) = h
unless_put change h = h

-- the story but for bytes of the object that the client wrote in the newest line
abbrev pub shown_story : ℕ → Resource → List Line → List Entry → List Entry
shown_story c r [] h = h
shown_story c r (l ∷ past) h = elim l.entry [
  | Changes q change ↦ if is_client c l.at.node && same_resource q r then unless_put change h
      else h
  | _ ↦ h
]

-- the life holds no lock of that cookie
abbrev pub HoldsNone : List Entry → (w k : ℕ) → Type 0
HoldsNone h w k = (l : Lock) → HeldBy h l → l.life ≡ w → l.cookie ≡ k → ⊥

-- a change that was just made was told, under the lock that is held over it
pub record WroteTold (w : ℕ) (change : Flush) (h : List Entry) : Type 0 where
  pub lock : ℕ
  pub before : List Entry
  pub over : lock_over w (change_of change) (held before) ≡ Some lock
  pub told : h ≡ Tells w (Did lock (change_of change)) ∷ before

-- so the client's change of the object, if it made one in the newest line
abbrev pub JustWrote : ℕ → Resource → List Line → ℕ → List Entry → Type 0
JustWrote c r [] w h = Unit {0}
JustWrote c r (l ∷ past) w h = elim l.entry [
  | Changes q change ↦ (is_client c l.at.node && same_resource q r) ≡ true → WroteTold w change h
  | _ ↦ Unit {0}
]

-- ---- a life that hasn't begun has nothing

pub record Unborn (w : ℕ) (h : List Entry) : Type 0 where
  pub pending : pending w h ≡ None
  pub dirty : (p : ℕ) → dirty w h p ≡ None
  pub flying : (p : ℕ) → flying w h p ≡ false
  pub known : (p : ℕ) → known w h p ≡ None
  pub holds : (l : Lock) → HeldBy h l → l.life ≡ w → ⊥

-- ---- all of it

-- this much of a client's store, of a life and what that owes, is what the story says; `before` is the story but for bytes that are still
-- to be shown
pub record StoreFits (t : ℕ) (r : Resource) (own : Patch) (bytes : Bytes) (sizes notes : List Note) (w : ℕ) (owed : List WordEntry)
    (h before : List Entry) : Type 0 where
  pub patch : PatchTied own w h
  pub known : (p : ℕ) → p ≤ the_end → found_at bytes p ≡ known w h p
  pub ends : (l : Lock) → HeldBy h l → l.life ≡ w → l.last ≡ None → noted r (record { 0 = l.cookie }) sizes ≡ ends w l.cookie h
  pub shown : (l : Lock) → HeldBy h l → l.life ≡ w → noted r (record { 0 = l.cookie }) notes ≡ shown w l.cookie before
  pub unshown : (k : ℕ) → HoldsNone h w k → noted r (record { 0 = k }) notes ≡ None
  pub coming : (lock : TableLock) (marked : Bool) (size : Option ℕ) (seen : List ℕ) → In (Hold t lock marked size seen) owed → lock.resource
      ≡ r → (lock_of lock).last ≡ None
      → noted r lock.cookie sizes ≡ Some (unwrap_or size 0)

-- of a live client
abbrev pub StoreBy : ℕ → Resource → List Line → List Entry → ℕ → Type 0
StoreBy t r past h c =
    StoreFits t r (patch_at r (store_owed c past).patches) (bytes_at r (store_owed c past).bytes) (store_owed c past).sizes
    (store_owed c past).shown
    (life_number c past) (owed_of c past) h (shown_story c r past h)

pub record StoreTied (head : Head) (t : ℕ) (r : Resource) (past : List Line) : Type 0 where
  pub of : (c : ℕ) → is_live c past (story t r past) ≡ true → StoreBy t r past (story t r past) c
  pub told : (c : ℕ) → is_live c past (story t r past) ≡ true → JustWrote c r past (life_number c past) (story t r past)
  pub unborn : (who : Who) → (life_at who.client past).life < who.life → Unborn (number_of who) (story t r past)
